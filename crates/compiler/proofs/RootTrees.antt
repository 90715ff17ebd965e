-- The ways through the tree of a book: no row is left, or it is the root Switch, whose cases are told and whose default is Fail.
use mathlib.Core.Path.{◌≡◌, sym, ap, ◌∙◌}
use mathlib.Core.List.{List, [], ◌∷◌, ◌++◌}
use Prim.Native.Nat.{ℕ, ◌+◌, ◌*◌, ◌≤◌, ◌<◌}
use native.Mathlib.Omega.{arith}
use lib.ListN.{set}
use lib.Seq.{sets}
use Rattle.std.specs.Prelude.{Option, Some, None}
use Rattle.tree.specs.Tree.{Fail, Switch, Cases}
use Rattle.tree.specs.Path.{start}
use Rattle.tree.specs.Root.{root_heads, root_cases, root_tree}
use Rattle.tree.specs.Layout.{case_count, long, long_cases, case_heads, layout, layout_cases}
use Rattle.compiler.specs.Told.Tables.{first_row, root_word, count_roots}
use Rattle.compiler.specs.Told.Stands.{rows_left, Stands}
use Rattle.compiler.specs.Told.NodeTold.{AllTold}
use Rattle.compiler.specs.Told.RootTold.{RootReady, RootCasesReady, RootCasesTold, RootTold}
use Rattle.tree.proofs.Laws.{length_heads, length_cases, count_root_cases, root_tree_none, root_tree_some, fail_long, fail_layout, switch_long, switch_laid}
use Rattle.compiler.proofs.RowsLeft.{row_of_rule, no_rows, first_row_is}
use Rattle.compiler.proofs.CasesLaid.{heads_few, many_heads}
use Rattle.compiler.proofs.NodeWords.{switch_words}
use Rattle.compiler.proofs.TreeRuns.{row_few}
use Rattle.compiler.proofs.RootWords.{root_many}
use Rattle.compiler.proofs.RootLoops.{AllRoots}

pub roots_most : (fixed marks : List ℕ) → count_roots fixed marks ≤ 1024
unfolding count_roots
roots_most fixed marks = omega (arith, many_heads (root_word fixed marks) 1024 0, heads_few (root_word fixed marks) 0 1024)

module _ (fixed nums marks : List ℕ) (limit : ℕ) (t : RootReady fixed nums marks limit) (out : List ℕ) (r : ℕ) (first : r ≡ first_row marks) where
  pub root_fails : r ≡ 64 → (done : List ℕ) → done ≡ set out 0 0 → (book : List ℕ) → RootTold book fixed nums marks limit out done (Some 1)
  unfolding RootTold
  root_fails e done p book s =
      let c = root_tree_none (rows_left book marks 0 64) (no_rows book marks s.absent (omega (arith, e, first))) in
      (rw (c, fail_long), rw (c, fail_layout 0) p)

  module _ (some_row : r ≡ 64 → ⊥) (many : ℕ) (many_is : many ≡ count_roots fixed marks) where
    few : first_row marks < 64
    few = omega (arith, first, row_few marks r some_row first)

    pub cases_needs : RootCasesReady fixed nums marks limit (4 + 2 * many) × (3 + 1 + 2 * count_roots fixed marks ≡ 4 + 2 * many)
    cases_needs = (record { ready = t; begun = omega arith; room = omega (arith, many_is, roots_most fixed marks) }, omega (arith, many_is))

    abbrev cases_of : List ℕ → Cases
    cases_of book = root_cases (rows_left book marks 0 64) (root_heads (rows_left book marks 0 64))

    whole : (book : List ℕ) → Stands book fixed nums marks 1 start → root_tree (rows_left book marks 0 64) ≡ Switch 0 (cases_of book) Fail
    whole book s = let f = first_row_is book marks s.absent few in root_tree_some (rows_left book marks 0 64) (row_of_rule marks (first_row marks) f.rule) f.rest f.rows

    counted : (book : List ℕ) → Stands book fixed nums marks 1 start → case_count (cases_of book) ≡ many
    counted book s = count_root_cases (rows_left book marks 0 64) (root_heads (rows_left book marks 0 64)) ∙ root_many book fixed nums marks 1 start s ∙ sym many_is

    long_is : (book : List ℕ) → Stands book fixed nums marks 1 start → long (root_tree (rows_left book marks 0 64)) ≡ 4 + 2 * many + long_cases (cases_of book) + 1
    long_is book s = ap long (whole book s) ∙ switch_long 0 (cases_of book) Fail ∙ rw (counted book s, fail_long)

    laid : (book : List ℕ) → Stands book fixed nums marks 1 start → (b : ℕ) → b ≡ 4 + 2 * many + long_cases (cases_of book) → layout 0 (root_tree (rows_left book marks 0 64))
        ≡ 2 ∷ 0 ∷ many ∷ (case_heads (4 + 2 * many) (cases_of book) ++ (b ∷ (layout_cases (4 + 2 * many) (cases_of book) ++ (0 ∷ []))))
    laid book s b e = ap (layout 0) (whole book s) ∙ switch_laid 0 0 (cases_of book) Fail ∙ rw (counted book s, ← e, fail_layout b)

    module _ (one two three four nums₂ marks₂ : List ℕ) (p : one ≡ set out 0 2) (q : two ≡ set one 1 0) (v : three ≡ set two 2 many) (x : Option ℕ)
        (cases : AllRoots fixed nums marks limit 3 (4 + 2 * many) three four nums₂ marks₂ x) where
      over : (book : List ℕ) → RootCasesTold book fixed nums marks limit 3 (4 + 2 * many) three four None → RootTold book fixed nums marks limit out four None
      unfolding AllTold RootTold
      over book told s = omega (arith, long_is book s, told start s)

      pub root_cases_over : x ≡ None → (book : List ℕ) → RootTold book fixed nums marks limit out four None
      root_cases_over e book = over book (rw e at (cases.0 book))

      module _ (next : ℕ) (is_done : x ≡ Some next) where
        kept : (nums₂ ≡ nums) × (marks₂ ≡ marks) × (4 + 2 * many ≤ next) × (next ≤ limit + 5000)
        kept = rw is_done at cases.1

        pub next_most : next ≤ 21384
        next_most = omega (arith, kept.3, t.most)

        module _ (five : List ℕ) (end : ℕ) (u : five ≡ set four next 0) (y : end ≡ next + 1) where
          finished : (book : List ℕ) → RootCasesTold book fixed nums marks limit 3 (4 + 2 * many) three four (Some next) → RootTold book fixed nums marks limit out five (Some end)
          unfolding AllTold RootTold
          finished book told s =
              let c = told start s in
              let cs = cases_of book in (
                omega (arith, long_is book s, c.0, y),
                switch_words out (case_heads (4 + 2 * many) cs) (layout_cases (4 + 2 * many) cs) (0 ∷ []) 0 0 many (4 + 2 * many) next (omega (arith, length_heads (4 + 2 * many) cs, counted book s))
                    (c.0 ∙ ap (4 + 2 * many +◌) (sym (length_cases (4 + 2 * many) cs))) one two three four five p q v c.1 u
                    ∙ ap (sets out 0) (sym (laid book s next c.0)),
              )

          pub root_done : (book : List ℕ) → RootTold book fixed nums marks limit out five (Some end)
          root_done book = finished book (rw is_done at (cases.0 book))
