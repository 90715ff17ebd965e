-- The loop over the cases of the root: what is told of the heads from a number on tells of all the cases, and the tables are as at entry between two cases.
use mathlib.Core.Path.{◌≡◌, refl, sym, ap, ◌∙◌}
use mathlib.Core.Bool.{true}
use mathlib.Core.List.{List, [], ◌∷◌}
use Prim.Native.Nat.{ℕ, ◌+◌, ◌*◌, ◌≤◌, ◌<◌}
use native.Mathlib.Omega.{arith}
use lib.ListN.{length, set}
use borrow.Author.Tests.{ne_eqb}
use Rattle.std.specs.Prelude.{Option, Some, None}
use Rattle.term.specs.Word.{Head}
use Rattle.tree.specs.Tree.{NoCase, Case}
use Rattle.tree.specs.Path.{OnPath, start}
use Rattle.tree.specs.Root.{root_heads}
use Rattle.compiler.specs.Told.Tables.{is_head_word, root_word, count_roots}
use Rattle.compiler.specs.Told.Stands.{rows_left, TreeKept}
use Rattle.compiler.specs.Told.RootTold.{RootCasesReady, RootHead, AtStart, root_case_tree, root_cases_for, RootCaseTold, RootCasesTold}
use Rattle.tree.proofs.Laws.{root_cases_none, root_cases_more}
use Rattle.compiler.proofs.CasesLaid.{CasesLeft, cases_end, cases_skip, cases_stuck, cases_next, all_told}
use Rattle.compiler.proofs.RootWords.{root_words_lem, root_tables, root_many, root_head_lem}
use Rattle.compiler.proofs.RootRuns.{OneRoot}

-- what the cases tell and keep, their answer being known
abbrev pub AllRoots : List ℕ → List ℕ → List ℕ → ℕ → ℕ → ℕ → List ℕ → List ℕ → List ℕ → List ℕ → Option ℕ → Type 0
AllRoots fixed nums marks limit slot at out done nums-after marks-after x =
    ((book : List ℕ) → RootCasesTold book fixed nums marks limit slot at out done x) × TreeKept nums marks limit at nums-after marks-after x

-- the cases from number k on
abbrev RootLeft : List ℕ → List ℕ → List ℕ → List ℕ → ℕ → ℕ → ℕ → ℕ → List ℕ → List ℕ → Option ℕ → Type 0
RootLeft book fixed nums marks limit k to a out done x = CasesLeft (AtStart book fixed nums marks) (root_cases_for book marks) (root_word fixed marks) 1024 limit k to a out done x

none_case : (book marks : List ℕ) (path : OnPath) → root_cases_for book marks path [] ≡ NoCase
none_case book marks path = root_cases_none (rows_left book marks 0 64)

one_more_lem : (book marks : List ℕ) (path : OnPath) (h : Head) (hs : List Head) → root_cases_for book marks path (h ∷ hs) ≡ Case h (root_case_tree book marks path h) (root_cases_for book marks path hs)
one_more_lem book marks path h hs = root_cases_more (rows_left book marks 0 64) h hs

cases_told : (book fixed nums marks : List ℕ) (limit slot at : ℕ) (out done : List ℕ) (v : Option ℕ) → slot + 1 + 2 * count_roots fixed marks ≡ at
    → RootLeft book fixed nums marks limit 0 slot at out done v → RootCasesTold book fixed nums marks limit slot at out done v
cases_told book fixed nums marks limit slot at out done v room told =
    all_told (AtStart book fixed nums marks) (root_cases_for book marks) (root_word fixed marks) 1024 limit slot at out done v (λ path. root_heads (rows_left book marks 0 64))
    (λ path s. (root_words_lem book fixed nums marks 1 start s, root_tables book fixed nums marks 1 start s, omega (arith, room, root_many book fixed nums marks 1 start s)))
    told

pub record RootSoFar (fixed nums marks : List ℕ) (limit slot at : ℕ) (out nums₂ marks₂ now-out : List ℕ) (to a k : ℕ) : Type 0 where
  pub nums_same : nums₂ ≡ nums
  pub marks_same : marks₂ ≡ marks
  pub size : length now-out ≡ length out
  pub low : at ≤ a
  pub high : a ≤ limit + 5000
  pub within : k ≤ 1024
  pub heads_end : to ≤ slot + 2 * k
  pub tells : (book last : List ℕ) (x : Option ℕ) → RootLeft book fixed nums marks limit k to a now-out last x → RootLeft book fixed nums marks limit 0 slot at out last x

module _ (fixed nums marks : List ℕ) (limit slot at : ℕ) (out : List ℕ) (t : RootCasesReady fixed nums marks limit at × (slot + 1 + 2 * count_roots fixed marks ≡ at)) where
  pub so_far_start : RootSoFar fixed nums marks limit slot at out nums marks out slot at 0
  so_far_start =
      record { nums_same = refl; marks_same = refl; size = refl; low = omega arith; high = t.0.room; within = omega arith; heads_end = omega arith; tells = λ book last x told. told }

  module _ (nums₂ marks₂ now-out : List ℕ) (to a k : ℕ) (f : RootSoFar fixed nums marks limit slot at out nums₂ marks₂ now-out to a k) where
    pub to_small : to + 2 ≤ 25000
    to_small = omega (arith, f.heads_end, f.within, t.1, t.0.ready.most, t.0.room)

    ready_here : RootCasesReady fixed nums₂ marks₂ limit a
    ready_here = rw (f.nums_same, f.marks_same) (record { ready = t.0.ready; begun = omega (arith, t.0.begun, f.low); room = f.high })

    module _ (few : k < 1024) (w : ℕ) (is : w ≡ root_word fixed marks₂ k) where
      is_entry : w ≡ root_word fixed marks k
      is_entry = is ∙ rw f.marks_same

      -- a number without a case
      pub so_far_skip : w ≡ 33554432 → RootSoFar fixed nums marks limit slot at out nums₂ marks₂ now-out to a (k + 1)
      so_far_skip e =
          record {
            nums_same = f.nums_same;
            marks_same = f.marks_same;
            size = f.size;
            low = f.low;
            high = f.high;
            within = omega arith;
            heads_end = omega (arith, f.heads_end);
            tells = λ book last x told. f.tells book last x
                (cases_skip (AtStart book fixed nums marks) (root_case_tree book marks) (root_cases_for book marks) (none_case book marks) (one_more_lem book marks) (root_word fixed marks) 1024 limit k to a now-out few
                (ap is_head_word (sym is_entry ∙ e)) last x told);
          }

      module _ (new : w ≡ 33554432 → ⊥) where
        head : is_head_word w ≡ true
        head = rw (ne_eqb w 33554432 new)

        pub root_case_needs : RootCasesReady fixed nums₂ marks₂ limit a × RootHead w
        root_case_needs = (ready_here, root_head_lem t.0.ready.book fixed nums marks 1 start t.0.ready.stands k w few is_entry head)

        module _ (two three nums₃ marks₃ : List ℕ) (x : Option ℕ) (told : OneRoot fixed nums₂ marks₂ limit a w two three nums₃ marks₃ x) where
          told_entry : (book : List ℕ) → RootCaseTold book fixed nums marks limit a w two three x
          told_entry book = rw (f.nums_same, f.marks_same) at (told.0 book)

          pub so_far_over : x ≡ None → (book : List ℕ) → RootCasesTold book fixed nums marks limit slot at out three None
          so_far_over e book =
              cases_told book fixed nums marks limit slot at out three None t.1
              (f.tells book three None
              (cases_stuck (AtStart book fixed nums marks) (root_case_tree book marks) (root_cases_for book marks) (none_case book marks) (one_more_lem book marks) (root_word fixed marks) 1024 limit k to a now-out few w is_entry head
              two three three (rw e at (told_entry book))))

          pub so_far_next : (next : ℕ) → x ≡ Some next → (one : List ℕ) → one ≡ set now-out to w → two ≡ set one (to + 1) a → length three ≡ length now-out
              → RootSoFar fixed nums marks limit slot at out nums₃ marks₃ three (to + 2) next (k + 1)
          so_far_next next e one p q l =
              let y : (nums₃ ≡ nums₂) × (marks₃ ≡ marks₂) × (a ≤ next) × (next ≤ limit + 5000) = rw e at told.1 in
              record {
                nums_same = y.0 ∙ f.nums_same;
                marks_same = y.1 ∙ f.marks_same;
                size = l ∙ f.size;
                low = omega (arith, f.low, y.2);
                high = y.3;
                within = omega arith;
                heads_end = omega (arith, f.heads_end);
                tells = λ book last v after. f.tells book last v
                    (cases_next (AtStart book fixed nums marks) (root_case_tree book marks) (root_cases_for book marks) (none_case book marks) (one_more_lem book marks) (root_word fixed marks) 1024 limit k to a now-out few w is_entry head
                    next one two three p q (rw e at (told_entry book)) last v after);
              }

    -- no numbers are left
    pub so_far_end : 1024 ≤ k → (done : List ℕ) → done ≡ set now-out to a → AllRoots fixed nums marks limit slot at out done nums₂ marks₂ (Some a)
    so_far_end h done e = (
      λ book. cases_told book fixed nums marks limit slot at out done (Some a) t.1
          (f.tells book done (Some a)
          (cases_end (AtStart book fixed nums marks) (root_case_tree book marks) (root_cases_for book marks) (none_case book marks) (one_more_lem book marks) (root_word fixed marks) 1024 limit k to a now-out h done e)),
      (f.nums_same, f.marks_same, f.low, f.high),
    )
