-- A variable's first occurrence: what the table says of a variable that was met lies inside the words.
use mathlib.Core.Path.{◌≡◌, refl, sym, ap, ap₂, ◌∙◌}
use mathlib.Core.Bool.{Bool, true, false}
use mathlib.Core.List.{List, ◌++◌}
use mathlib.Core.Option.{some}
use Prim.Native.Nat.{ℕ, zero, suc, ◌+◌, ◌-◌, ◌≤◌, ◌<◌}
use native.Mathlib.Omega.{arith}
use lib.Dec.{ltb}
use borrow.Author.Tests.{ltb-true, ltb-false}
use lib.ListN.{length, length-append, length-drop, take, drop, get_or, replicate}
use Rattle.term.specs.Word.{count_of}
use Rattle.term.specs.Row.{Row, words}
use Rattle.std.specs.Prelude.{Result, Ok, Err, Some, None}
use Rattle.std.specs.Result.{result_ok}
use Rattle.term.specs.declared.part.Unwritten.{Unwritten}
use Rattle.term.specs.Part.{body_of, same_body, written, body_answer, body_words}
use Rattle.term.proofs.Laws.{never, same_by_words, body_of_lem, body_keeps, body_answer_lem, body_words_lem, answer_fits, written_fits, padded_fits}
use Rattle.book.specs.Told.Ids.{list_in, four_of}
use Rattle.book.proofs.Laws.{told_list, told_none}
use Rattle.fit.specs.declared.fitting.First.{First}
use Rattle.fit.specs.Fit.{Found, body_in}
use Rattle.fit.specs.Told.Told.{slot, present, Seen, Knows, FirstIs, FirstTold, FirstSame, FirstWritten}

-- what a variable that was met has
met_seen : (left term table : List ℕ) (x : ℕ) → x < 16 → (l : Found) → Knows left term table l → (slot table x 0 ≡ 0 → ⊥) → Seen left term table l x (slot table x 0 - 1)
met_seen left term table x low l k n = go (slot table x 0) refl
  where
    go : (s : ℕ) → slot table x 0 ≡ s → Seen left term table l x (slot table x 0 - 1)
    go zero e = absurd (n e)
    go (suc a) e = let z : slot table x 0 - 1 ≡ a = omega arith in rw z (k.seen x a low e)

module _ (left term table : List ℕ) (x : ℕ) (low : x < 16) where
  pub first_new : slot table x 0 ≡ 0 → FirstTold left term table x None
  unfolding FirstTold
  first_new z l k = k.new x low z

  module _ (met : slot table x 0 ≡ 0 → ⊥) where
    pub first_past_term : length term < slot table x 0 - 1 → FirstTold left term table x None
    unfolding FirstTold
    first_past_term z l k = absurd (omega (arith, z, (met_seen left term table x low l k met).inside))

    pub first_past_left : length left ≤ slot table x 1 → FirstTold left term table x None
    unfolding FirstTold
    first_past_left z l k = absurd (omega (arith, z, (met_seen left term table x low l k met).within))

    -- the list is read where the word lies
    pub first_unlisted : None ≡ four_of (list_in (count_of (get_or left (slot table x 1) 0)) (drop (slot table x 1 + 1) left)) → FirstTold left term table x None
    unfolding FirstTold
    first_unlisted told l kn =
        let n = told_none (count_of (get_or left (slot table x 1) 0)) (drop (slot table x 1 + 1) left) told in
        let s = met_seen left term table x low l kn met in
        let z : list_in (count_of (get_or left (slot table x 1) 0)) (drop (slot table x 1 + 1) left) ≡ some s.list = s.listed in
        never (cc)

    pub first_read : (first : First) → slot table x 0 - 1 ≤ length term → first.k ≡ count_of (get_or left (slot table x 1) 0)
        → Some first.ids ≡ four_of (list_in first.k (drop (slot table x 1 + 1) left)) → first.at ≡ slot table x 0 - 1 → first.depth ≡ slot table x 2 → FirstTold left term table x (Some first)
    unfolding FirstTold
    first_read first inside k told at depth =
        let l = told_list first.k (drop (slot table x 1 + 1) left) first.ids told in
        record {
          met = omega (arith, at, met);
          inside = rw at inside;
          passed = depth;
          listed = rw (← k) l.0;
          four = l.1;
          few = l.2;
        }

body_long : (d : ℕ) (ys term : List ℕ) (at : ℕ) (b : Row) → body_of d ys (drop at term) ≡ some b → length (words b) ≤ length term
body_long d ys term at b e =
    let i = body_of_lem d ys (drop at term) b e in
    omega (arith, (body_keeps d ys i.tree b i.body).long, ap length i.stands.same, length-append (words i.tree) i.after, length-drop at term)

short_written : (room : ℕ) (ws : List ℕ) (r : Result ℕ Unwritten) → r ≡ written room ws → ((n : ℕ) → r ≡ Ok n → ⊥) → room < length ws
short_written room ws r e n = go (ltb room (length ws)) refl
  where
    go : (b : Bool) → ltb room (length ws) ≡ b → room < length ws
    go true z = ltb-true room (length ws) z
    go false z = absurd (n (length ws) (e ∙ written_fits room ws (ltb-false room (length ws) z)))

-- ---- what was told, for a caller
pub first_is_lem : (left term table : List ℕ) (x : ℕ) (first : First) → FirstTold left term table x (Some first) → FirstIs left term table x first
unfolding FirstTold
first_is_lem left term table x first told = told

module _ (left term table : List ℕ) (x : ℕ) where
  pub first_absent : FirstTold left term table x None → (d : ℕ) (ys : List ℕ) (to : ℕ) → FirstSame left term table x d ys to false
  unfolding FirstTold FirstSame
  first_absent told d ys to l b k h q = let n = told l k in never (cc)

  pub first_unwritten : FirstTold left term table x None → (out done : List ℕ) → FirstWritten left term table x out done None
  unfolding FirstTold FirstWritten
  first_unwritten told out done l k h = let n = told l k in never (cc)

module _ (left term table : List ℕ) (x : ℕ) (low : x < 16) (first : First) (f : FirstIs left term table x first) where
  -- its part has the body that was found
  pub first_body_lem : (l : Found) → Knows left term table l → body_of first.depth (take first.k first.ids) (drop first.at term) ≡ some (body_in l x)
  first_body_lem l k =
      let s = k.seen x first.at low f.met in
      let q : s.list ≡ take first.k first.ids = let y = s.listed in let z = f.listed in cc in
      rw (f.passed, ← q) s.body

  pub first_compared : (d : ℕ) (ys : List ℕ) (to : ℕ)
      → FirstSame left term table x d ys to (same_body first.depth (take first.k first.ids) (drop first.at term) d ys (drop to term))
  unfolding FirstSame
  first_compared d ys to l b k h e =
      same_by_words first.depth (take first.k first.ids) (drop first.at term) d ys (drop to term) (body_in l x) b (first_body_lem l k) e

  -- what is said to be written is the body
  first_written : (out done : List ℕ) (n : ℕ)
      → Ok n ≡ body_answer (length out) (body_of first.depth (take first.k first.ids) (drop first.at term))
      → done ≡ body_words (length out) (body_of first.depth (take first.k first.ids) (drop first.at term))
      → FirstWritten left term table x out done (Some n)
  unfolding FirstWritten
  first_written out done n e w = shown (answer_fits (length out) _ n (sym e))
    where
      shown : (b : Row) × (body_of first.depth (take first.k first.ids) (drop first.at term) ≡ some b) × (n ≡ length (words b)) × (length (words b) ≤ length out)
          → (n ≤ length out) × (n ≤ length term)
          × ((l : Found) → Knows left term table l → present x l ≡ true → (n ≡ length (words (body_in l x))) × (done ≡ words (body_in l x) ++ replicate (length out - n) 0))
      shown a = (
        omega (arith, a.2, a.3),
        omega (arith, a.2, body_long first.depth (take first.k first.ids) term first.at a.0 a.1),
        λ l k h.
            let q : some (body_in l x) ≡ some a.0 = sym (first_body_lem l k) ∙ a.1 in
            let s : a.0 ≡ body_in l x = cc in (
              a.2 ∙ ap (λ (r : Row). length (words r)) s,
              w ∙ ap (body_words (length out)) a.1 ∙ body_words_lem (length out) a.0 ∙ padded_fits (length out) (words a.0) a.3
                  ∙ ap₂ (λ (r : Row) (m : ℕ). words r ++ replicate (length out - m) 0) s (sym a.2),
            ),
      )

  -- where nothing is written there is no room for the body
  first_short : (out done : List ℕ) (r : Result ℕ Unwritten)
      → r ≡ body_answer (length out) (body_of first.depth (take first.k first.ids) (drop first.at term)) → ((n : ℕ) → r ≡ Ok n → ⊥)
      → FirstWritten left term table x out done None
  unfolding FirstWritten
  first_short out done r e n l k h =
      short_written (length out) (words (body_in l x)) r (e ∙ ap (body_answer (length out)) (first_body_lem l k) ∙ body_answer_lem (length out) (body_in l x)) n

  -- the same of all that may be answered
  pub first_said : (out done : List ℕ) (r : Result ℕ Unwritten)
      → r ≡ body_answer (length out) (body_of first.depth (take first.k first.ids) (drop first.at term))
      → done ≡ body_words (length out) (body_of first.depth (take first.k first.ids) (drop first.at term))
      → FirstWritten left term table x out done (result_ok r)
  first_said out done (Ok n) e w = first_written out done n e w
  first_said out done (Err u) e w = first_short out done (Err u) e (λ n q. never (cc))
