-- Writing the lines after a book: the old numbers of the rules that stay say the same as the rules do, and what was written and what is left are the lines.
use mathlib.Core.Path.{◌≡◌, refl, sym, ◌∙◌}
use mathlib.Core.Bool.{Bool, true, false}
use mathlib.Core.List.{List, [], ◌∷◌, ◌++◌, append_assoc, append-nil}
use Prim.Native.Nat.{ℕ, suc, ◌+◌, ◌-◌, ◌≤◌, ◌<◌}
use native.Mathlib.Omega.{arith}
use lib.ListN.{length, drop, set, length-append}
use lib.Seq.{drop-drop}
use borrow.Author.Tests.{eq-eqb, ne_eqb}
use Rattle.term.specs.Word.{pick}
use Rattle.text.specs.Number.{decimal}
use Rattle.text.specs.BookText.{number_text}
use Rattle.text.proofs.Laws.{Wrote, wrote_then, wrote_byte, decimal_short, number_text_short}
use Rattle.mend.specs.Repair.{stays, kept_key, dropped_key, was_key, dropped, kept, notes_from, note_text, notes_text, was_text}
use Rattle.mend.specs.Told.Told.{olds_from, first_is, others, notes_by}

-- ---- the old numbers say the lines
-- the first old number is not below the one that is due
late : (old before : ℕ) (rules : List (List ℕ)) (d : ℕ) → d < old → first_is d (olds_from old before rules) ≡ false
unfolding olds_from
late old before [] d h = refl
late old before (rule ∷ rules) d h = go (stays before rule) (late (suc old) before rules d (omega arith))
  where
    go : (b : Bool) → first_is d (olds_from (suc old) before rules) ≡ false → first_is d (pick b (old ∷ olds_from (suc old) (suc before) rules) (olds_from (suc old) before rules)) ≡ false
    go true again = ne_eqb old d (λ e. omega (arith, e))
    go false again = again

pub notes_same : (old new : ℕ) (rules : List (List ℕ)) → notes_by old new (length rules) (olds_from old new rules) ≡ notes_from old new rules
unfolding olds_from notes_by notes_from
notes_same old new [] = refl
notes_same old new (rule ∷ rules) =
    go (stays new rule) (late (suc old) new rules old (omega arith)) (notes_same (suc old) (suc new) rules) (notes_same (suc old) new rules)
  where
    go : (b : Bool) → first_is old (olds_from (suc old) new rules) ≡ false → notes_by (suc old) (suc new) (length rules) (olds_from (suc old) (suc new) rules) ≡ notes_from (suc old) (suc new) rules
        → notes_by (suc old) new (length rules) (olds_from (suc old) new rules) ≡ notes_from (suc old) new rules
        → notes_by old new (suc (length rules)) (pick b (old ∷ olds_from (suc old) (suc new) rules) (olds_from (suc old) new rules))
        ≡ pick b (kept old new ∷ notes_from (suc old) (suc new) rules) (dropped old ∷ notes_from (suc old) new rules)
    go true l p q = rw (eq-eqb old old refl, p)
    go false l p q = rw (l, q)

-- ---- one line
kept_parts : (old new : ℕ) → note_text (kept old new) ≡ ((((kept_key ++ decimal old) ++ (32 ∷ [])) ++ decimal new) ++ (10 ∷ []))
unfolding note_text
kept_parts old new = simp append_assoc

pub kept_wrote : (out m1 m2 m3 m4 done : List ℕ) (at a b c old new : ℕ) → Wrote out at a m1 kept_key → Wrote m1 a b m2 (decimal old) → m3 ≡ set m2 b 32 → Wrote m3 (b + 1) c m4 (decimal new)
    → done ≡ set m4 c 10 → Wrote out at (c + 1) done (note_text (kept old new))
kept_wrote out m1 m2 m3 m4 done at a b c old new p q r s t =
    rw (kept_parts old new)
    (wrote_then out at c (c + 1) m4 done (((kept_key ++ decimal old) ++ (32 ∷ [])) ++ decimal new) (10 ∷ [])
    (wrote_then out at (b + 1) c m3 m4 ((kept_key ++ decimal old) ++ (32 ∷ [])) (decimal new)
    (wrote_then out at b (b + 1) m2 m3 (kept_key ++ decimal old) (32 ∷ []) (wrote_then out at a b m1 m2 kept_key (decimal old) p q) (wrote_byte m2 b 32 m3 r)) s)
    (wrote_byte m4 c 10 done t))

pub dropped_is : (old : ℕ) → number_text dropped_key old [] ≡ note_text (dropped old)
unfolding note_text
dropped_is old = refl

pub kept_short : (old new : ℕ) → old ≤ 65536 → new ≤ 65536 → length (note_text (kept old new)) ≤ 17
kept_short old new h k =
    rw (kept_parts old new)
    (simp length-append (omega (arith, decimal_short old (omega arith), decimal_short new (omega arith))))

pub dropped_short : (old : ℕ) → old ≤ 65536 → length (note_text (dropped old)) ≤ 14
unfolding note_text
dropped_short old h = number_text_short dropped_key old (omega arith)

-- ---- lines one after the other
module _ (present : ℕ) (olds : List ℕ) (text : List ℕ) where
  -- the lines written and those left
  abbrev pub Lines : List ℕ → ℕ → ℕ → Type 0
  Lines bs old new = text ≡ bs ++ notes_text (notes_by old new (present - old) (drop new olds))

  module _ (bs : List ℕ) (old new : ℕ) (l : Lines bs old new) where
    pub lines_end : present ≤ old → text ≡ bs
    unfolding notes_by notes_text
    lines_end h = let z : present - old ≡ 0 = omega arith in l ∙ rw z (append-nil bs)

    module _ (h : old < present) where
      rest_drop : drop (new + 1) olds ≡ others (drop new olds)
      rest_drop = go (drop new olds) refl
        where
          go : (o : List ℕ) → drop new olds ≡ o → drop (new + 1) olds ≡ others o
          go o e = rw (← drop-drop 1 new olds, e) (first o)
            where
              first : (o : List ℕ) → drop 1 o ≡ others o
              first [] = refl
              first (x ∷ xs) = refl

      pub line_kept : first_is old (drop new olds) ≡ true → Lines (bs ++ note_text (kept old new)) (old + 1) (new + 1)
      unfolding notes_by notes_text
      line_kept e =
          let z : present - old ≡ suc (present - (old + 1)) = omega arith in
          let y : suc old ≡ old + 1 = omega arith in
          let x : suc new ≡ new + 1 = omega arith in
          l ∙ rw (z, e, y, x, rest_drop) (sym (append_assoc bs (note_text (kept old new)) (notes_text (notes_by (old + 1) (new + 1) (present - (old + 1)) (others (drop new olds))))))

      pub line_dropped : first_is old (drop new olds) ≡ false → Lines (bs ++ note_text (dropped old)) (old + 1) new
      unfolding notes_by notes_text
      line_dropped e =
          let z : present - old ≡ suc (present - (old + 1)) = omega arith in
          let y : suc old ≡ old + 1 = omega arith in
          l ∙ rw (z, e, y) (sym (append_assoc bs (note_text (dropped old)) (notes_text (notes_by (old + 1) new (present - (old + 1)) (drop new olds)))))

pub lines_begun : (present : ℕ) (olds : List ℕ) → Lines present olds (notes_text (notes_by 0 0 present olds)) [] 0 0
lines_begun present olds = let z : present - 0 ≡ present = omega arith in rw z

-- ---- the number that was stated
pub was_none : (stated present : ℕ) → stated ≡ present → was_text stated present ≡ []
unfolding was_text
was_none stated present e = rw (eq-eqb stated present e)

pub was_there : (stated present : ℕ) → (stated ≡ present → ⊥) → was_text stated present ≡ number_text was_key stated []
unfolding was_text
was_there stated present e = rw (ne_eqb stated present e)
