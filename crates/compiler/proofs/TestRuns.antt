-- A run through a test: each state of the tables and of the output is the one before it, changed, and where it ends the tables are as at entry.
use mathlib.Core.Path.{◌≡◌, ap, ◌∙◌}
use mathlib.Core.List.{List}
use Prim.Native.Nat.{ℕ, ◌+◌, ◌≤◌, ◌<◌}
use native.Mathlib.Omega.{arith}
use lib.ListN.{length, set}
use lib.Seq.{sets}
use Rattle.std.specs.Prelude.{Option, Some, None}
use Rattle.compiler.specs.Told.Tables.{Changed, only_at, unmarked, is_row, of_free_row, kind_from, struck_rows, struck_same, row_has, front_words}
use Rattle.compiler.specs.Told.Stands.{TreeReady, TreeKept, TreeTold}
use Rattle.compiler.specs.Told.NodeTold.{left_in_rows, TestReady}
use Rattle.compiler.proofs.ToldNodes.{yes_stuck, no_stuck, test_told}
use Rattle.compiler.proofs.Readies.{front_long, yes_ready, yes_less, yes_restored, no_ready, no_less, no_restored}

-- what a subtree tells and keeps, its answer being known
abbrev pub Subtree : List ℕ → List ℕ → List ℕ → ℕ → ℕ → ℕ → List ℕ → List ℕ → List ℕ → List ℕ → Option ℕ → Type 0
Subtree fixed nums marks limit count at out done nums-after marks-after x =
    ((book : List ℕ) → TreeTold book fixed nums marks limit count at out done x) × TreeKept nums marks limit at nums-after marks-after x

module _ (fixed nums marks : List ℕ) (limit count at id : ℕ) (t : TestReady fixed nums marks limit count at id) (m : ℕ) (own : m ≡ at + 17) (out : List ℕ) (slot : ℕ)
    (slot_is : slot ≡ at + length (front_words fixed nums id)) where
  pub slot_most : slot ≤ limit + 514
  slot_most = omega (arith, slot_is, front_long fixed nums id, t.room)

  module _ (one two struck : List ℕ) (first : one ≡ sets out at (front_words fixed nums id)) (second : two ≡ set one slot (slot + 2)) (size : length struck ≡ length marks)
      (strikes : Changed (struck_same fixed nums marks id m) marks struck) where
    pub yes_needs : (left_in_rows fixed nums struck < left_in_rows fixed nums marks) × TreeReady fixed nums struck limit count (slot + 2)
    yes_needs = (yes_less fixed nums marks limit count at id t m own struck size strikes, yes_ready fixed nums marks limit count at id t m own struck size strikes (slot + 2) (omega (arith, slot_is)) (omega (arith, slot_most)))

    real : m ≡ 0 → ⊥
    real e = omega (arith, e, own)

    module _ (three nums₂ marks₂ : List ℕ) (x : Option ℕ) (yes : Subtree fixed nums struck limit count (slot + 2) two three nums₂ marks₂ x) where
      at_front : (book : List ℕ) → TreeTold book fixed nums struck limit count (at + length (front_words fixed nums id) + 2) two three x
      at_front book = rw slot_is at (yes.0 book)

      pub yes_over : x ≡ None → (book : List ℕ) → TreeTold book fixed nums marks limit count at out three None
      yes_over e book = yes_stuck book fixed nums marks limit count at out t.first t.none_open id t.is t.some_left m real struck strikes two three three (rw e at (at_front book))

      module _ (next : ℕ) (is_done : x ≡ Some next) (marks₃ : List ℕ) (size₃ : length marks₃ ≡ length marks₂) (unmarks : Changed (only_at (of_free_row marks₂ (kind_from id)) (unmarked m)) marks₂ marks₃) where
        kept : (nums₂ ≡ nums) × (marks₂ ≡ struck) × (slot + 2 ≤ next) × (next ≤ limit + 5000)
        kept = rw is_done at yes.1

        pub next_most : next ≤ limit + 5000
        next_most = kept.3

        pub marks_back : marks₃ ≡ marks
        marks_back = yes_restored fixed nums marks limit count at id t m own struck size strikes marks₂ marks₃ kept.1 size₃ unmarks

        pub nums_back : nums₂ ≡ nums
        nums_back = kept.0

        module _ (four dropped : List ℕ) (fourth : four ≡ set three (slot + 1) next) (size₄ : length dropped ≡ length marks₃) (drops : Changed (struck_rows (row_has fixed nums₂ marks₃ id) m) marks₃ dropped) where
          drops_entry : Changed (struck_rows (row_has fixed nums marks id) m) marks dropped
          drops_entry = rw (nums_back, marks_back) at drops

          size_entry : length dropped ≡ length marks
          size_entry = size₄ ∙ ap length marks_back

          pub no_needs : (left_in_rows fixed nums₂ dropped < left_in_rows fixed nums marks) × TreeReady fixed nums₂ dropped limit count next
          no_needs =
              rw nums_back
              (no_less fixed nums marks limit count at id t m own dropped size_entry drops_entry, no_ready fixed nums marks limit count at id t m own dropped size_entry drops_entry next (omega (arith, kept.2, slot_is)) kept.3)

          second_is : two ≡ set (sets out at (front_words fixed nums id)) (at + length (front_words fixed nums id)) (at + length (front_words fixed nums id) + 2)
          second_is = second ∙ rw (first, slot_is)

          fourth_is : four ≡ set three (at + length (front_words fixed nums id) + 1) next
          fourth_is = fourth ∙ rw slot_is

          module _ (five nums₄ marks₄ : List ℕ) (y : Option ℕ) (no : Subtree fixed nums₂ dropped limit count next four five nums₄ marks₄ y) where
            pub no_over : y ≡ None → (book : List ℕ) → TreeTold book fixed nums marks limit count at out five None
            no_over e book =
                no_stuck book fixed nums marks limit count at out t.first t.none_open id t.is t.some_left m real struck strikes next two three four second_is (rw is_done at (at_front book)) fourth_is dropped drops_entry five five
                (rw (nums_back, e) at (no.0 book))

            pub test_done : (end : ℕ) → y ≡ Some end → (marks₅ : List ℕ) → length marks₅ ≡ length marks₄ → Changed (only_at is_row (unmarked m)) marks₄ marks₅ → Subtree fixed nums marks limit count at out five nums₄ marks₅ (Some end)
            test_done end e marks₅ size₅ unmarks₅ =
                let k : (nums₄ ≡ nums₂) × (marks₄ ≡ dropped) × (next ≤ end) × (end ≤ limit + 5000) = rw e at no.1 in (
                  λ book. test_told book fixed nums marks limit count at out t.first t.none_open id t.is t.some_left m real struck strikes next two three four second_is (rw is_done at (at_front book)) fourth_is dropped drops_entry end five
                      (rw (nums_back, e) at (no.0 book)),
                  (k.0 ∙ nums_back, no_restored fixed nums marks limit count at id t m own dropped size_entry drops_entry marks₄ marks₅ k.1 size₅ unmarks₅, omega (arith, k.2, kept.2, slot_is), k.3),
                )
