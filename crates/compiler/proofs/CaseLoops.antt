-- The loop over the rows of a Switch: what is told of the heads from the row on tells of all the cases, and the tables are as at entry between two cases.
use mathlib.Core.Path.{◌≡◌, refl, sym, ap, ◌∙◌}
use mathlib.Core.Bool.{true}
use mathlib.Core.List.{List}
use Prim.Native.Nat.{ℕ, ◌+◌, ◌*◌, ◌≤◌, ◌<◌}
use native.Mathlib.Omega.{arith}
use lib.ListN.{length, set}
use borrow.Author.Tests.{ne_eqb}
use Rattle.std.specs.Prelude.{Option, Some, None}
use Rattle.compiler.specs.Told.Tables.{new_head, is_head_word, count_heads}
use Rattle.compiler.specs.Told.Stands.{Stands}
use Rattle.compiler.specs.Told.NodeTold.{left_in_rows, CasesReady, case_tree, CaseTold, CasesTold}
use Rattle.compiler.proofs.CasesLaid.{cases_end, cases_skip, cases_stuck, cases_next}
use Rattle.compiler.proofs.ToldCases.{cases_for, SwitchLeft, none_case, one_more_lem, cases_told}
use Rattle.compiler.proofs.Entered.{count_most}
use Rattle.compiler.proofs.SwitchRuns.{AllCases, OneCase}

pub record CasesSoFar (fixed nums marks : List ℕ) (limit count slot at n : ℕ) (out nums₂ marks₂ now-out : List ℕ) (to a r : ℕ) : Type 0 where
  pub nums_same : nums₂ ≡ nums
  pub marks_same : marks₂ ≡ marks
  pub size : length now-out ≡ length out
  pub low : at ≤ a
  pub high : a ≤ limit + 5000
  pub within : r ≤ 64
  pub heads_end : to ≤ slot + 2 * r
  pub tells : (book last : List ℕ) (x : Option ℕ) → SwitchLeft book fixed nums marks limit count n r to a now-out last x → SwitchLeft book fixed nums marks limit count n 0 slot at out last x

module _ (fixed nums marks : List ℕ) (limit count slot at m n : ℕ) (out : List ℕ) (t : CasesReady fixed nums marks limit count at m n × (slot + 1 + 2 * count_heads fixed nums marks n ≡ at)) where
  pub place_low : n < 4096
  place_low = omega (arith, t.0.known, count_most t.0.book fixed nums marks count t.0.path t.0.stands t.0.sizes.1)

  pub so_far_start : CasesSoFar fixed nums marks limit count slot at n out nums marks out slot at 0
  so_far_start =
      record { nums_same = refl; marks_same = refl; size = refl; low = omega arith; high = t.0.within.1; within = omega arith; heads_end = omega arith; tells = λ book last x told. told }

  module _ (nums₂ marks₂ now-out : List ℕ) (to a r : ℕ) (f : CasesSoFar fixed nums marks limit count slot at n out nums₂ marks₂ now-out to a r) where
    pub to_small : to + 2 ≤ 25000
    to_small = omega (arith, f.heads_end, f.within, t.1, t.0.within.0, t.0.within.1)

    ready_here : CasesReady fixed nums₂ marks₂ limit count a m n
    ready_here = rw (f.nums_same, f.marks_same) (moved t.0)
      where
        moved : CasesReady fixed nums marks limit count at m n → CasesReady fixed nums marks limit count a m n
        moved c =
            record {
              sizes = c.sizes;
              within = (c.within.0, f.high);
              older = c.older;
              newer = omega (arith, c.newer, f.low);
              inner = c.inner;
              known = c.known;
              unmarked_place = c.unmarked_place;
              book = c.book;
              path = c.path;
              stands = c.stands;
            }

    pub left_same_lem : left_in_rows fixed nums₂ marks₂ ≡ left_in_rows fixed nums marks
    left_same_lem = rw (f.nums_same, f.marks_same)

    module _ (few : r < 64) (w : ℕ) (is : w ≡ new_head fixed nums₂ marks₂ n r) where
      is_entry : w ≡ new_head fixed nums marks n r
      is_entry = is ∙ rw (f.nums_same, f.marks_same)

      -- a row without a new head
      pub so_far_skip : w ≡ 33554432 → CasesSoFar fixed nums marks limit count slot at n out nums₂ marks₂ now-out to a (r + 1)
      so_far_skip e =
          record {
            nums_same = f.nums_same;
            marks_same = f.marks_same;
            size = f.size;
            low = f.low;
            high = f.high;
            within = omega arith;
            heads_end = omega (arith, f.heads_end);
            tells = λ book last x told. f.tells book last x (cases_skip (Stands book fixed nums marks count) (case_tree book marks n) (cases_for book marks n) (none_case book marks n) (one_more_lem book marks n) (new_head fixed nums marks n) 64 limit r to a now-out few (ap is_head_word (sym is_entry ∙ e)) last x told);
          }

      module _ (new : w ≡ 33554432 → ⊥) where
        head : is_head_word w ≡ true
        head = rw (ne_eqb w 33554432 new)

        module _ (two three nums₃ marks₃ : List ℕ) (x : Option ℕ) (told : OneCase fixed nums₂ marks₂ limit count a n w two three nums₃ marks₃ x) where
          told_entry : (book : List ℕ) → CaseTold book fixed nums marks limit count a n w two three x
          told_entry book = rw (f.nums_same, f.marks_same) at (told.0 book)

          pub so_far_over : x ≡ None → (book : List ℕ) → CasesTold book fixed nums marks limit count slot at n out three None
          so_far_over e book =
              cases_told book fixed nums marks limit count slot at n out three None t.0.known t.1
              (f.tells book three None (cases_stuck (Stands book fixed nums marks count) (case_tree book marks n) (cases_for book marks n) (none_case book marks n) (one_more_lem book marks n) (new_head fixed nums marks n) 64 limit r to a now-out few w is_entry head two three three (rw e at (told_entry book))))

          pub so_far_next : (next : ℕ) → x ≡ Some next → (one : List ℕ) → one ≡ set now-out to w → two ≡ set one (to + 1) a → length three ≡ length now-out
              → CasesSoFar fixed nums marks limit count slot at n out nums₃ marks₃ three (to + 2) next (r + 1)
          so_far_next next e one p q l =
              let k : (nums₃ ≡ nums₂) × (marks₃ ≡ marks₂) × (a ≤ next) × (next ≤ limit + 5000) = rw e at told.1 in
              record {
                nums_same = k.0 ∙ f.nums_same;
                marks_same = k.1 ∙ f.marks_same;
                size = l ∙ f.size;
                low = omega (arith, f.low, k.2);
                high = k.3;
                within = omega arith;
                heads_end = omega (arith, f.heads_end);
                tells = λ book last y after. f.tells book last y (cases_next (Stands book fixed nums marks count) (case_tree book marks n) (cases_for book marks n) (none_case book marks n) (one_more_lem book marks n) (new_head fixed nums marks n) 64 limit r to a now-out few w is_entry head next one two three p q (rw e at (told_entry book)) last y after);
              }

    -- no rows are left
    pub so_far_end : 64 ≤ r → (done : List ℕ) → done ≡ set now-out to a → AllCases fixed nums marks limit count slot at n out done nums₂ marks₂ (Some a)
    so_far_end h done e = (
      λ book. cases_told book fixed nums marks limit count slot at n out done (Some a) t.0.known t.1 (f.tells book done (Some a) (cases_end (Stands book fixed nums marks count) (case_tree book marks n) (cases_for book marks n) (none_case book marks n) (one_more_lem book marks n) (new_head fixed nums marks n) 64 limit r to a now-out h done e)),
      (f.nums_same, f.marks_same, f.low, f.high),
    )
