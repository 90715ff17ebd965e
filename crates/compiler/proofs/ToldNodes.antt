-- What is told of the tree of the rows that are not struck, where it is Fail, a Leaf or a test: the tables say which node it is, and its subtrees are told.
use mathlib.Core.Path.{◌≡◌, refl, sym, ap, ◌∙◌}
use mathlib.Core.List.{List, ◌∷◌, ◌++◌}
use mathlib.Core.Option.{Option, none, some}
use Prim.Native.Nat.{ℕ, suc, ◌+◌, ◌*◌, ◌≤◌, ◌<◌}
use native.Mathlib.Omega.{arith}
use lib.ListN.{length, set}
use lib.Seq.{sets}
use Rattle.std.specs.Prelude.{Some, None}
use Rattle.fit.specs.Constraint.{Constraint}
use Rattle.fit.specs.Match.{left_in}
use Rattle.tree.specs.Path.{OnPath}
use Rattle.tree.specs.Rows.{RuleRow, lowest_open}
use Rattle.tree.specs.Compile.{holding, rows_without, test_of, compile}
use Rattle.tree.specs.Layout.{long, layout}
use Rattle.compiler.specs.Told.Tables.{Changed, first_row, struck_rows, lowest_from, first_constraint, struck_same, row_has, front_words, leaf_words}
use Rattle.compiler.specs.Told.Stands.{rows_left, Stands, TreeTold}
use Rattle.tree.proofs.Laws.{length_layout, long_some, compile_none, compile_leaf, compile_test, test_front, test_laid, fail_long, fail_layout}
use Rattle.compiler.proofs.RowsLeft.{row_of_rule, FirstRow, no_rows, first_row_is}
use Rattle.compiler.proofs.Lowests.{low_or}
use Rattle.compiler.proofs.LowestRow.{lowest_row}
use Rattle.compiler.proofs.StruckRows.{struck_stands}
use Rattle.compiler.proofs.NodeWords.{test_words}
use Rattle.compiler.proofs.LeafWords.{leaf_is}
use Rattle.compiler.proofs.FirstConstraints.{none_left}
use Rattle.compiler.proofs.FirstLeft.{FirstLeft, first_left}

-- ---- the node of a list of rows
-- ---- layouts
-- ---- which node the tables ask for
low_none : (fixed nums marks : List ℕ) (o : Option ℕ) → low_or fixed nums marks o ≡ 0 → o ≡ none
low_none fixed nums marks none e = refl
low_none fixed nums marks (some n) e = absurd (omega (arith, e))

low_some : (fixed nums marks : List ℕ) (n : ℕ) (o : Option ℕ) → suc n ≡ low_or fixed nums marks o → o ≡ some n
low_some fixed nums marks n none e = absurd (omega (arith, e))
low_some fixed nums marks n (some m) e = ap some (omega (arith, e))

module _ (book fixed nums marks : List ℕ) (count : ℕ) (path : OnPath) (s : Stands book fixed nums marks count path) (few : first_row marks < 64) where
  pub first_row_lem : FirstRow book marks (first_row marks) 0 64
  first_row_lem = first_row_is book marks s.absent few

  pub none_open : lowest_from fixed nums marks (first_row marks * 64) 64 0 ≡ 0 → lowest_open (left_in first_row_lem.rule) path.uncovered ≡ none
  none_open e =
      low_none fixed nums marks (lowest_open (left_in first_row_lem.rule) path.uncovered)
      (sym (lowest_row book fixed nums marks count path s (first_row marks) first_row_lem.rule few first_row_lem.free first_row_lem.is) ∙ e)

  pub lowest_open_lem : (n : ℕ) → suc n ≡ lowest_from fixed nums marks (first_row marks * 64) 64 0 → lowest_open (left_in first_row_lem.rule) path.uncovered ≡ some n
  lowest_open_lem n e =
      low_some fixed nums marks n (lowest_open (left_in first_row_lem.rule) path.uncovered)
      (e ∙ lowest_row book fixed nums marks count path s (first_row marks) first_row_lem.rule few first_row_lem.free first_row_lem.is)

  -- the first constraint of the first row
  pub first_test : lowest_from fixed nums marks (first_row marks * 64) 64 0 ≡ 0 → (first_constraint fixed marks (first_row marks) ≡ 0 → ⊥)
      → FirstLeft book fixed nums marks count path (first_row marks) first_row_lem.rule
  first_test e q = first_left book fixed nums marks count path s (first_row marks) first_row_lem.rule few first_row_lem.free first_row_lem.is (none_open e) q

-- ---- THE LAWS: one for each node
module _ (book fixed nums marks : List ℕ) (limit count at : ℕ) (out : List ℕ) where
  pub full_told : (done : List ℕ) → limit ≤ at → TreeTold book fixed nums marks limit count at out done None
  unfolding TreeTold
  full_told done h path s = omega (arith, h, long_some (compile path (rows_left book marks 0 64)))

  pub fail_told : 64 ≤ first_row marks → (done : List ℕ) (a : ℕ) → done ≡ set out at 0 → a ≡ at + 1 → TreeTold book fixed nums marks limit count at out done (Some a)
  unfolding TreeTold
  fail_told h done a e z path s =
      let c = compile_none path (rows_left book marks 0 64) (no_rows book marks s.absent h) in
      (rw (c, fail_long) z, rw (c, fail_layout at) e)

  pub leaf_told : first_row marks < 64 → lowest_from fixed nums marks (first_row marks * 64) 64 0 ≡ 0 → first_constraint fixed marks (first_row marks) ≡ 0 → (done : List ℕ) (a : ℕ)
      → done ≡ sets out at (leaf_words fixed nums marks (first_row marks)) → a ≡ at + length (leaf_words fixed nums marks (first_row marks)) → TreeTold book fixed nums marks limit count at out done (Some a)
  unfolding TreeTold
  leaf_told h l q done a e z path s =
      let f = first_row_lem book fixed nums marks count path s h in
      let o = none_open book fixed nums marks count path s h l in
      let c = compile_leaf path (rows_left book marks 0 64) (row_of_rule marks (first_row marks) f.rule) f.rest f.rows o (none_left book fixed nums marks count path s (first_row marks) f.rule h f.free f.is q) in
      let w : leaf_words fixed nums marks (first_row marks) ≡ layout at (compile path (rows_left book marks 0 64)) = leaf_is book fixed nums marks count path s (first_row marks) f.rule h f.free f.is o at ∙ ap (layout at) (sym c) in
      (z ∙ ap (at +◌) (ap length w ∙ length_layout at (compile path (rows_left book marks 0 64))), e ∙ ap (sets out at) w)

  module _ (few : first_row marks < 64) (lowest : lowest_from fixed nums marks (first_row marks * 64) 64 0 ≡ 0) (id : ℕ) (is : id ≡ first_constraint fixed marks (first_row marks)) (some_left : id ≡ 0 → ⊥)
      (m : ℕ) (real : m ≡ 0 → ⊥) (struck : List ℕ) (strikes : Changed (struck_same fixed nums marks id m) marks struck) where
    abbrev slot : ℕ
    slot = at + length (front_words fixed nums id)

    -- the test, seen from a path
    record Tested (path : OnPath) : Type 0 where
      c : Constraint
      front : front_words fixed nums id ≡ test_front c path.uncovered
      whole : compile path (rows_left book marks 0 64) ≡ test_of c path.uncovered (compile (holding c path) (rows_left book struck 0 64)) (compile path (rows_without c path (rows_left book marks 0 64)))
      yes_stands : Stands book fixed nums struck count (holding c path)
      no_rows_are : (dropped : List ℕ) → Changed (struck_rows (row_has fixed nums marks id) m) marks dropped → rows_left book dropped 0 64 ≡ rows_without c path (rows_left book marks 0 64)
      no_stands : (dropped : List ℕ) → Changed (struck_rows (row_has fixed nums marks id) m) marks dropped → Stands book fixed nums dropped count path

    tested : (path : OnPath) → Stands book fixed nums marks count path → Tested path
    tested path s =
        let f = first_row_lem book fixed nums marks count path s few in
        let l = first_test book fixed nums marks count path s few lowest (λ e. some_left (is ∙ e)) in
        let ch : Changed (struck_same fixed nums marks (first_constraint fixed marks (first_row marks)) m) marks struck = rw is at strikes in
        record {
          c = l.c;
          front = ap (front_words fixed nums) is ∙ l.front;
          whole =
              compile_test path (rows_left book marks 0 64) (row_of_rule marks (first_row marks) f.rule) f.rest l.c l.rest f.rows (none_open book fixed nums marks count path s few lowest) l.left
              ∙ ap (λ (rows : List RuleRow). test_of l.c path.uncovered (compile (holding l.c path) rows) (compile path (rows_without l.c path (rows_left book marks 0 64)))) (sym (l.yes_rows m struck real ch));
          yes_stands = l.yes_stands m struck real ch;
          no_rows_are = λ dropped d. l.no_rows m dropped real (rw is at d);
          no_stands = λ dropped d. struck_stands book fixed nums marks count path s (row_has fixed nums marks id) m dropped real d;
        }

    test_long : (path : OnPath) (t : Tested path)
        → long (compile path (rows_left book marks 0 64)) ≡ length (front_words fixed nums id) + 2 + long (compile (holding t.c path) (rows_left book struck 0 64)) + long (compile path (rows_without t.c path (rows_left book marks 0 64)))
    test_long path t =
        ap long t.whole
        ∙ (test_laid t.c path.uncovered (compile (holding t.c path) (rows_left book struck 0 64)) (compile path (rows_without t.c path (rows_left book marks 0 64))) at).1
        ∙ rw t.front

    pub yes_stuck : (two three done : List ℕ) → TreeTold book fixed nums struck limit count (slot + 2) two three None → TreeTold book fixed nums marks limit count at out done None
    unfolding TreeTold
    yes_stuck two three done told path s =
        let t = tested path s in
        omega (arith, test_long path t, told (holding t.c path) t.yes_stands)

    module _ (next : ℕ) (two three four : List ℕ) (second : two ≡ set (sets out at (front_words fixed nums id)) slot (slot + 2)) (yes : TreeTold book fixed nums struck limit count (slot + 2) two three (Some next))
        (fourth : four ≡ set three (slot + 1) next) (dropped : List ℕ) (drops : Changed (struck_rows (row_has fixed nums marks id) m) marks dropped) where
      pub no_stuck : (five done : List ℕ) → TreeTold book fixed nums dropped limit count next four five None → TreeTold book fixed nums marks limit count at out done None
      unfolding TreeTold
      no_stuck five done told path s =
          let t = tested path s in
          let n : limit < next + long (compile path (rows_without t.c path (rows_left book marks 0 64))) = rw (t.no_rows_are dropped drops) at (told path (t.no_stands dropped drops)) in
          omega (arith, test_long path t, (yes (holding t.c path) t.yes_stands).0, n)

      pub test_told : (end : ℕ) (five : List ℕ) → TreeTold book fixed nums dropped limit count next four five (Some end) → TreeTold book fixed nums marks limit count at out five (Some end)
      unfolding TreeTold
      test_told end five told path s =
          let t = tested path s in
          let y = yes (holding t.c path) t.yes_stands in
          let n = no_told path t (told path (t.no_stands dropped drops)) in
          (omega (arith, test_long path t, y.0, n.0), written path t y.0 y.1 n.1)
        where
          no_told : (path : OnPath) (t : Tested path) → (end ≡ next + long (compile path (rows_left book dropped 0 64))) × (five ≡ sets four next (layout next (compile path (rows_left book dropped 0 64))))
              → (end ≡ next + long (compile path (rows_without t.c path (rows_left book marks 0 64)))) × (five ≡ sets four next (layout next (compile path (rows_without t.c path (rows_left book marks 0 64)))))
          no_told path t p = rw (t.no_rows_are dropped drops) at p

          written : (path : OnPath) (t : Tested path) → next ≡ slot + 2 + long (compile (holding t.c path) (rows_left book struck 0 64))
              → three ≡ sets two (slot + 2) (layout (slot + 2) (compile (holding t.c path) (rows_left book struck 0 64)))
              → five ≡ sets four next (layout next (compile path (rows_without t.c path (rows_left book marks 0 64)))) → five ≡ sets out at (layout at (compile path (rows_left book marks 0 64)))
          written path t e p q =
              let ifYes = compile (holding t.c path) (rows_left book struck 0 64) in
              let ifNo = compile path (rows_without t.c path (rows_left book marks 0 64)) in
              test_words out (front_words fixed nums id) (layout (slot + 2) ifYes) (layout next ifNo) at slot next refl (e ∙ ap (slot + 2 +◌) (sym (length_layout (slot + 2) ifYes))) (sets out at (front_words fixed nums id)) two three four five refl second p fourth q
              ∙ ap (sets out at) (sym (laid path t e))
            where
              laid : (path : OnPath) (t : Tested path) → next ≡ slot + 2 + long (compile (holding t.c path) (rows_left book struck 0 64)) → layout at (compile path (rows_left book marks 0 64))
                  ≡ front_words fixed nums id ++ ((slot + 2) ∷ next ∷ (layout (slot + 2) (compile (holding t.c path) (rows_left book struck 0 64)) ++ layout next (compile path (rows_without t.c path (rows_left book marks 0 64)))))
              laid path t e =
                  ap (layout at) t.whole
                  ∙ (test_laid t.c path.uncovered (compile (holding t.c path) (rows_left book struck 0 64)) (compile path (rows_without t.c path (rows_left book marks 0 64))) at).0
                  ∙ rw (e, t.front)
