-- A run through a Switch, and through one of its cases: each state of the tables and of the output is the one before it, changed, and where it ends the tables
-- are as at entry.
use mathlib.Core.Path.{◌≡◌, ap, ◌∙◌}
use mathlib.Core.List.{List}
use Prim.Native.Nat.{ℕ, ◌+◌, ◌*◌, ◌≤◌, ◌<◌}
use native.Mathlib.Omega.{arith}
use lib.ListN.{length, set}
use Rattle.std.specs.Prelude.{Option, Some, None}
use Rattle.term.specs.Word.{count_of}
use Rattle.compiler.specs.Told.Tables.{Changed, only_at, unmarked, forgotten, is_row, of_free_row, struck_rows, has_other, count_heads, rows_numbered}
use Rattle.compiler.specs.Told.Stands.{TreeReady, TreeKept, TreeTold}
use Rattle.compiler.specs.Told.NodeTold.{left_in_rows, SwitchReady, CasesReady, HeadOfCase, CaseTold, CasesTold}
use Rattle.compiler.proofs.ToldCases.{case_told, case_stuck}
use Rattle.compiler.proofs.ToldSwitch.{cases_over, default_over, switch_told}
use Rattle.compiler.proofs.Readies.{heads_most, cases_ready, default_ready, default_less, default_restored, case_ready, case_less, case_marks_restored, case_nums_restored}
use Rattle.compiler.proofs.TestRuns.{Subtree}

-- what the cases tell and keep, their answer being known
abbrev pub AllCases : List ℕ → List ℕ → List ℕ → ℕ → ℕ → ℕ → ℕ → ℕ → List ℕ → List ℕ → List ℕ → List ℕ → Option ℕ → Type 0
AllCases fixed nums marks limit count slot at n out done nums-after marks-after x =
    ((book : List ℕ) → CasesTold book fixed nums marks limit count slot at n out done x) × TreeKept nums marks limit at nums-after marks-after x

abbrev pub OneCase : List ℕ → List ℕ → List ℕ → ℕ → ℕ → ℕ → ℕ → ℕ → List ℕ → List ℕ → List ℕ → List ℕ → Option ℕ → Type 0
OneCase fixed nums marks limit count at n w out done nums-after marks-after x =
    ((book : List ℕ) → CaseTold book fixed nums marks limit count at n w out done x) × TreeKept nums marks limit at nums-after marks-after x

-- ---- a Switch
module _ (fixed nums marks : List ℕ) (limit count at n : ℕ) (t : SwitchReady fixed nums marks limit count at n) (m : ℕ) (own : m ≡ at + 17) (out : List ℕ) (many : ℕ)
    (many_is : many ≡ count_heads fixed nums marks n) where
  pub cases_needs : CasesReady fixed nums marks limit count (at + 4 + 2 * many) m n × (at + 3 + 1 + 2 * count_heads fixed nums marks n ≡ at + 4 + 2 * many)
  cases_needs =
      (cases_ready fixed nums marks limit count at n t m own (at + 4 + 2 * many) (omega arith) (omega (arith, many_is, heads_most fixed nums marks n, t.room)), omega (arith, many_is))

  real : m ≡ 0 → ⊥
  real e = omega (arith, e, own)

  from : at + 4 + 2 * many ≡ at + 4 + 2 * count_heads fixed nums marks n
  from = omega (arith, many_is)

  module _ (one two three four nums₂ marks₂ : List ℕ) (p : one ≡ set out at 2) (q : two ≡ set one (at + 1) n) (r : three ≡ set two (at + 2) many)
      (x : Option ℕ) (cases : AllCases fixed nums marks limit count (at + 3) (at + 4 + 2 * many) n three four nums₂ marks₂ x) where
    pub switch_cases_over : x ≡ None → (book : List ℕ) → TreeTold book fixed nums marks limit count at out four None
    switch_cases_over e book = cases_over book fixed nums marks limit count at out n t.first t.lowest (at + 4 + 2 * many) from three four four (rw e at (cases.0 book))

    module _ (next : ℕ) (is_done : x ≡ Some next) where
      kept : (nums₂ ≡ nums) × (marks₂ ≡ marks) × (at + 4 + 2 * many ≤ next) × (next ≤ limit + 5000)
      kept = rw is_done at cases.1

      cases_size : length marks₂ ≡ length marks
      cases_size = ap length kept.1

      module _ (dropped : List ℕ) (size : length dropped ≡ length marks₂) (drops : Changed (struck_rows (has_other fixed nums₂ n 33554432) m) marks₂ dropped) where
        drops_entry : Changed (struck_rows (has_other fixed nums n 33554432) m) marks dropped
        drops_entry = rw (kept.0, kept.1) at drops

        size_entry : length dropped ≡ length marks
        size_entry = size ∙ cases_size

        pub default_needs : (left_in_rows fixed nums₂ dropped < left_in_rows fixed nums marks) × TreeReady fixed nums₂ dropped limit count next
        default_needs =
            rw kept.0
            (default_less fixed nums marks limit count at n t m own dropped size_entry drops_entry, default_ready fixed nums marks limit count at n t m own dropped size_entry drops_entry next (omega (arith, kept.2)) kept.3)

        third : three ≡ set two (at + 2) (count_heads fixed nums marks n)
        third = r ∙ rw many_is

        module _ (five nums₄ marks₄ : List ℕ) (y : Option ℕ) (other : Subtree fixed nums₂ dropped limit count next four five nums₄ marks₄ y) where
          pub switch_default_over : y ≡ None → (book : List ℕ) → TreeTold book fixed nums marks limit count at out five None
          switch_default_over e book =
              default_over book fixed nums marks limit count at out n t.first t.lowest (at + 4 + 2 * many) from next one two three four p q third (rw is_done at (cases.0 book)) m real dropped drops_entry five five
              (rw (kept.0, e) at (other.0 book))

          pub switch_done : (end : ℕ) → y ≡ Some end → (marks₅ : List ℕ) → length marks₅ ≡ length marks₄ → Changed (only_at is_row (unmarked m)) marks₄ marks₅ → Subtree fixed nums marks limit count at out five nums₄ marks₅ (Some end)
          switch_done end e marks₅ size₅ unmarks₅ =
              let k : (nums₄ ≡ nums₂) × (marks₄ ≡ dropped) × (next ≤ end) × (end ≤ limit + 5000) = rw e at other.1 in (
                λ book. switch_told book fixed nums marks limit count at out n t.first t.lowest (at + 4 + 2 * many) from next one two three four p q third (rw is_done at (cases.0 book)) m real dropped drops_entry end five
                    (rw (kept.0, e) at (other.0 book)),
                (k.0 ∙ kept.0, default_restored fixed nums marks limit count at n t m own dropped size_entry drops_entry marks₄ marks₅ k.1 size₅ unmarks₅, omega (arith, k.2, kept.2), k.3),
              )

-- ---- one case
module _ (fixed nums marks : List ℕ) (limit count at m n w : ℕ) (t : CasesReady fixed nums marks limit count at m n) (of_row : HeadOfCase fixed nums marks n w) (out : List ℕ)
    (struck : List ℕ) (size : length struck ≡ length marks) (changed : Changed (struck_rows (has_other fixed nums n w) m) marks struck)
    (nums₂ : List ℕ) (numbers : nums₂ ≡ rows_numbered fixed struck n count 0 64 nums) where
  pub case_needs : (left_in_rows fixed nums₂ (set struck (64 + n) m) < left_in_rows fixed nums marks) × TreeReady fixed nums₂ (set struck (64 + n) m) limit (count + count_of w) at
  case_needs = rw numbers (case_less fixed nums marks limit count at m n w t of_row struck size changed, case_ready fixed nums marks limit count at m n w t of_row struck size changed)

  case_real : m ≡ 0 → ⊥
  case_real e = omega (arith, e, t.older 0)

  module _ (done nums₃ marks₃ : List ℕ) (x : Option ℕ) (sub : Subtree fixed nums₂ (set struck (64 + n) m) limit (count + count_of w) at out done nums₃ marks₃ x) where
    pub case_over : x ≡ None → (book : List ℕ) → CaseTold book fixed nums marks limit count at n w out done None
    case_over e book =
        case_stuck book fixed nums marks count n w m case_real t.known t.inner t.unmarked_place of_row struck changed (size ∙ t.sizes.2, t.sizes.1, t.sizes.0) limit at out done (rw (numbers, e) at (sub.0 book))

    pub case_done : (next : ℕ) → x ≡ Some next → (nums₄ marks₄ : List ℕ) → length nums₄ ≡ length nums₃ → Changed (only_at (of_free_row marks₃ 0) (forgotten count)) nums₃ nums₄
        → length marks₄ ≡ length (set marks₃ (64 + n) 0) → Changed (only_at is_row (unmarked m)) (set marks₃ (64 + n) 0) marks₄
        → OneCase fixed nums marks limit count at n w out done nums₄ marks₄ (Some next)
    case_done next e nums₄ marks₄ nums_size forgets marks-size unmarks =
        let k : (nums₃ ≡ nums₂) × (marks₃ ≡ set struck (64 + n) m) × (at ≤ next) × (next ≤ limit + 5000) = rw e at sub.1 in (
          λ book. case_told book fixed nums marks count n w m case_real t.known t.inner t.unmarked_place of_row struck changed (size ∙ t.sizes.2, t.sizes.1, t.sizes.0) limit at out done next (rw (numbers, e) at (sub.0 book)),
          (case_nums_restored fixed nums marks limit count at m n w t of_row struck size changed nums₃ marks₃ nums₄ (k.0 ∙ numbers) k.1 nums_size forgets, case_marks_restored fixed nums marks limit count at m n w t of_row struck size changed marks₃ marks₄ k.1 marks-size unmarks, k.2, k.3),
        )
