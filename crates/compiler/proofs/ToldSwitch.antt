-- What is told of the tree of the rows that are not struck, where it is a Switch: its cases and its default are told, and their layouts make up its own.
use mathlib.Core.Path.{◌≡◌, sym, ap, ◌∙◌}
use mathlib.Core.Bool.{true}
use mathlib.Core.List.{List, [], ◌∷◌, ◌++◌}
use mathlib.Core.Logic.{◌⊎◌, inl, inr}
use Prim.Native.Nat.{ℕ, suc, ◌+◌, ◌*◌, ◌≤◌, ◌<◌}
use native.Mathlib.Omega.{arith}
use lib.ListN.{get_or, set}
use lib.Seq.{sets}
use Rattle.std.specs.Prelude.{Some, None}
use Rattle.tree.specs.Tree.{Tree, Switch}
use Rattle.tree.specs.Path.{OnPath, place_numbered}
use Rattle.tree.specs.Compile.{heads, default_rows, compile}
use Rattle.tree.specs.Layout.{case_count, long, long_cases, case_heads, layout, layout_cases}
use Rattle.compiler.specs.Told.Tables.{Changed, first_row, is_free, struck_rows, lowest_from, has_other, count_heads}
use Rattle.compiler.specs.Told.Stands.{rows_left, Stands, TreeTold}
use Rattle.compiler.specs.Told.NodeTold.{switch_cases, AllTold, CasesTold}
use Rattle.tree.proofs.Laws.{length_heads, count_cases_of, compile_switch, switch_long, switch_laid, length_cases}
use Rattle.compiler.proofs.RowsLeft.{row_of_rule}
use Rattle.compiler.proofs.Lowests.{Candidate, range}
use Rattle.compiler.proofs.Strikes.{default_left}
use Rattle.compiler.proofs.StruckRows.{struck_stands}
use Rattle.compiler.proofs.NodeWords.{switch_words}
use Rattle.compiler.proofs.ToldNodes.{first_row_lem, lowest_open_lem}
use Rattle.compiler.proofs.ToldCases.{switch_many}

-- the lowest open place has a number, and is not entered
pub lowest_known : (fixed nums marks : List ℕ) (count : ℕ) → ((k : ℕ) → get_or nums k 0 ≤ count) → (from n : ℕ) → suc n ≡ lowest_from fixed nums marks from 64 0 → (n < count) × (is_free marks (64 + n) ≡ true)
lowest_known fixed nums marks count most from n e = go (lowest_from fixed nums marks from 64 0) e (range fixed nums marks 64 from 0).from
  where
    go : (y : ℕ) → suc n ≡ y → (y ≡ 0) ⊎ ((j : ℕ) × (v : ℕ) × (from ≤ j) × (j < from + 64) × Candidate fixed nums marks j v × (y ≡ suc v)) → (n < count) × (is_free marks (64 + n) ≡ true)
    go y e (inl q) = absurd (omega (arith, e, q))
    go y e (inr q) =
        let z : q.1 ≡ n = omega (arith, e, q.5) in
        (omega (arith, z, q.4.number, most q.0), rw z at q.4.free)

module _ (book fixed nums marks : List ℕ) (limit count at : ℕ) (out : List ℕ) (n : ℕ) (few : first_row marks < 64) (lowest : suc n ≡ lowest_from fixed nums marks (first_row marks * 64) 64 0) where
  abbrev default_tree : OnPath → Tree
  default_tree path = compile path (default_rows (place_numbered n path.uncovered) (rows_left book marks 0 64))

  -- the Switch, seen from a path
  record SwitchIs (path : OnPath) : Type 0 where
    known : n < count
    whole : compile path (rows_left book marks 0 64) ≡ Switch n (switch_cases book marks n path) (default_tree path)
    many : case_count (switch_cases book marks n path) ≡ count_heads fixed nums marks n

  switch_is : (path : OnPath) → Stands book fixed nums marks count path → SwitchIs path
  switch_is path s =
      let f = first_row_lem book fixed nums marks count path s few in
      let k = (lowest_known fixed nums marks count s.most (first_row marks * 64) n lowest).0 in
      record {
        known = k;
        whole = compile_switch path (rows_left book marks 0 64) (row_of_rule marks (first_row marks) f.rule) f.rest n f.rows (lowest_open_lem book fixed nums marks count path s few n lowest);
        many = count_cases_of path (rows_left book marks 0 64) n (heads (place_numbered n path.uncovered) (rows_left book marks 0 64)) ∙ switch_many book fixed nums marks count path s n k;
      }

  long_is : (path : OnPath) → SwitchIs path → long (compile path (rows_left book marks 0 64)) ≡ 4 + 2 * count_heads fixed nums marks n + long_cases (switch_cases book marks n path) + long (default_tree path)
  long_is path i = ap long i.whole ∙ switch_long n (switch_cases book marks n path) (default_tree path) ∙ rw i.many

  module _ (first : ℕ) (from : first ≡ at + 4 + 2 * count_heads fixed nums marks n) where
    pub cases_over : (three four done : List ℕ) → CasesTold book fixed nums marks limit count (at + 3) first n three four None → TreeTold book fixed nums marks limit count at out done None
    unfolding TreeTold AllTold
    cases_over three four done told path s = omega (arith, from, long_is path (switch_is path s), told path s)

    module _ (b : ℕ) (one two three four : List ℕ) (p : one ≡ set out at 2) (q : two ≡ set one (at + 1) n) (r : three ≡ set two (at + 2) (count_heads fixed nums marks n))
        (cases : CasesTold book fixed nums marks limit count (at + 3) first n three four (Some b))
        (m : ℕ) (real : m ≡ 0 → ⊥) (dropped : List ℕ) (drops : Changed (struck_rows (has_other fixed nums n 33554432) m) marks dropped) where
      stands : (path : OnPath) → Stands book fixed nums marks count path → Stands book fixed nums dropped count path
      stands path s = struck_stands book fixed nums marks count path s (has_other fixed nums n 33554432) m dropped real drops

      default_is : (path : OnPath) → Stands book fixed nums marks count path → compile path (rows_left book dropped 0 64) ≡ default_tree path
      default_is path s = ap (compile path) (default_left book fixed nums marks count path s n (switch_is path s).known m dropped real drops)

      pub default_over : (five done : List ℕ) → TreeTold book fixed nums dropped limit count b four five None → TreeTold book fixed nums marks limit count at out done None
      unfolding TreeTold AllTold
      default_over five done told path s =
          let d : limit < b + long (default_tree path) = rw (default_is path s) at (told path (stands path s)) in
          omega (arith, from, long_is path (switch_is path s), (cases path s).0, d)

      pub switch_told : (end : ℕ) (five : List ℕ) → TreeTold book fixed nums dropped limit count b four five (Some end) → TreeTold book fixed nums marks limit count at out five (Some end)
      unfolding TreeTold AllTold
      switch_told end five told path s = whole path (switch_is path s) (cases path s) (rw (default_is path s) at (told path (stands path s)))
        where
          whole : (path : OnPath) → SwitchIs path
              → (b ≡ first + long_cases (switch_cases book marks n path)) × (four ≡ sets (sets three (at + 3) (case_heads first (switch_cases book marks n path) ++ (b ∷ []))) first (layout_cases first (switch_cases book marks n path)))
              → (end ≡ b + long (default_tree path)) × (five ≡ sets four b (layout b (default_tree path)))
              → (end ≡ at + long (compile path (rows_left book marks 0 64))) × (five ≡ sets out at (layout at (compile path (rows_left book marks 0 64))))
          whole path i c d =
              let cs = switch_cases book marks n path in (
                omega (arith, from, long_is path i, c.0, d.0),
                switch_words out (case_heads first cs) (layout_cases first cs) (layout b (default_tree path)) at n (count_heads fixed nums marks n) first b (omega (arith, from, length_heads first cs, i.many)) (c.0 ∙ ap (first +◌) (sym (length_cases first cs)))
                    one two three four five p q r c.1 d.1
                    ∙ ap (sets out at) (sym (laid path i c.0)),
              )
            where
              laid : (path : OnPath) → SwitchIs path → b ≡ first + long_cases (switch_cases book marks n path) → layout at (compile path (rows_left book marks 0 64))
                  ≡ 2 ∷ n ∷ count_heads fixed nums marks n ∷ (case_heads first (switch_cases book marks n path) ++ (b ∷ (layout_cases first (switch_cases book marks n path) ++ layout b (default_tree path))))
              laid path i e = ap (layout at) i.whole ∙ switch_laid at n (switch_cases book marks n path) (default_tree path) ∙ rw (i.many, e, from)
