-- Copies and splices in words: what was copied so far stands there, and behind the new part stands what stood behind the old one.
use mathlib.Core.Path.{◌≡◌, sym, ap, ◌∙◌}
use mathlib.Core.List.{List, ◌++◌}
use Prim.Native.Nat.{ℕ, zero, suc, ◌+◌, ◌-◌, ◌≤◌, ◌<◌}
use native.Mathlib.Omega.{arith}
use lib.ListN.{length, get_or, take, drop, set, replicate, length-append, length-drop}
use lib.Seq.{length-take-le, take-length, take-add, take-take, drop_at, paste, paste-suc, take-paste}
use borrow.Author.Tests.{le-leb, lt-leb}
use Rattle.term.specs.declared.answer.Answer.{Answer}
use Rattle.term.specs.declared.answer.Answer.TheVariants as answer
use Rattle.std.specs.Prelude.{Some, None}
use Rattle.term.specs.Part.{padded, part_end}
use Rattle.term.proofs.Laws.{padded_fits, padded_short, part_short}
use Rattle.steps.specs.Told.Area.{spliced_words, SpliceTold}
use Rattle.steps.specs.Told.Operations.{given_answer}

-- ---- a copy
pub copied_more : (d : List ℕ) (at : ℕ) (s : List ℕ) (j : ℕ) (to : List ℕ) → at + length s ≤ length d → j < length s → to ≡ paste d at s j → set to (at + j) (get_or s j 0) ≡ paste d at s (j + 1)
copied_more d at s j to room l e =
    let y : suc j ≡ j + 1 = omega arith in
    ap (λ (l : List ℕ). set l (at + j) (get_or s j 0)) e ∙ paste-suc d at s j 0 (omega arith) l ∙ ap (paste d at s) y

pub copied_all : (d : List ℕ) (at : ℕ) (s : List ℕ) (j : ℕ) (to : List ℕ) → j ≤ length s → length s ≤ j → to ≡ paste d at s j → to ≡ paste d at s (length s)
copied_all d at s j to l m e = let y : j ≡ length s = omega arith in e ∙ ap (paste d at s) y

-- ---- words given into a cleared slice
zeros_behind : (room n : ℕ) → drop {A = ℕ} n (replicate room 0) ≡ replicate (room - n) 0
zeros_behind room zero = let z : room - 0 ≡ room = omega arith in rw z
zeros_behind zero (suc n) = let z : 0 - suc n ≡ 0 = omega arith in rw z
zeros_behind (suc room) (suc n) = let z : suc room - suc n ≡ room - n = omega arith in rw z (zeros_behind room n)

module _ (room : ℕ) (ws out : List ℕ) (a : Answer) where
  pub given_short : out ≡ replicate room 0 → room < length ws → (answer.Short ≡ given_answer room ws a) × (out ≡ padded room ws)
  given_short c l = (rw (lt-leb (length ws) room l), c ∙ sym (padded_short room ws l))

  pub given_all : (before : List ℕ) → before ≡ replicate room 0 → length ws ≤ room → out ≡ paste before 0 ws (length ws) → (a ≡ given_answer room ws a) × (out ≡ padded room ws)
  given_all before c l e =
      let z : 0 + length ws ≡ length ws = omega arith in (
        rw (le-leb (length ws) room l),
        e ∙ ap (λ (d : List ℕ). paste d 0 ws (length ws)) c ∙ rw (take-length ws, z, zeros_behind room (length ws)) (sym (padded_fits room ws l)),
      )

-- ---- a part of the area's term, as it is lent
pub lent_part : (l : List ℕ) (from to : ℕ) → from ≤ to → to ≤ length l → take (to - from) (drop from l) ≡ drop from (take to l)
lent_part l from to a b =
    let z : from + (to - from) ≡ to = omega arith in
    let e : take to l ≡ take from l ++ take (to - from) (drop from l) = rw z at (take-add from (to - from) l) in
    sym (ap (drop from) e ∙ drop_at (take from l) (take (to - from) (drop from l)) from (length-take-le from l (omega arith)))

-- ---- a splice: the part ends e words behind its offset
module _ (area : List ℕ) (size at : ℕ) (new : List ℕ) (n : ℕ) (long : length area ≡ 4096) (room : length new ≡ 4096) (few : size ≤ 4096) (here : at < size) (short : n ≤ 4096)
    (e : ℕ) (q : e ≡ part_end (take (size - at) (drop at area))) where
  abbrev ws : List ℕ
  ws = take size area

  abbrev behind : List ℕ
  behind = drop (at + e) ws

  ws_long : length ws ≡ size
  ws_long = length-take-le size area (omega arith)

  end_is : part_end (drop at ws) ≡ e
  end_is = sym (q ∙ ap part_end (lent_part area at size (omega arith) (omega arith)))

  pub end_low : at + e ≤ size
  end_low =
      let d : length (drop at ws) ≡ size - at = length-drop at ws ∙ ap (λ (k : ℕ). k - at) ws_long in
      omega (arith, part_short (drop at ws), d, end_is)

  behind_long : length behind ≡ size - (at + e)
  behind_long = length-drop (at + e) ws ∙ ap (λ (k : ℕ). k - (at + e)) ws_long

  new_long : length (take n new) ≡ n
  new_long = length-take-le n new (omega arith)

  both_long : length (take n new ++ behind) ≡ n + (size - (at + e))
  both_long = length-append (take n new) behind ∙ omega (arith, new_long, behind_long)

  spliced_is : spliced_words ws at (take n new) ≡ take at ws ++ (take n new ++ behind)
  unfolding spliced_words
  spliced_is = rw end_is

  spliced_long : length (spliced_words ws at (take n new)) ≡ at + (n + (size - (at + e)))
  spliced_long =
      let a : length (take at ws) ≡ at = length-take-le at ws (omega (arith, ws_long)) in
      ap length spliced_is ∙ length-append (take at ws) (take n new ++ behind) ∙ omega (arith, a, both_long)

  pub splice_over : 4096 - at < n + (size - (at + e)) → (done : List ℕ) → SpliceTold (take size area) at (take n new) done None
  unfolding SpliceTold
  splice_over l done = rw spliced_long (omega arith)

  module _ (fits : n + (size - (at + e)) ≤ 4096 - at) where
    module _ (next done : List ℕ)
        (moved : next ≡ paste new n (take (size - (at + e)) (drop (at + e) area)) (length (take (size - (at + e)) (drop (at + e) area))))
        (put : done ≡ paste area at (take (n + (size - (at + e))) next) (length (take (n + (size - (at + e))) next))) where
      both_are : take (n + (size - (at + e))) next ≡ take n new ++ behind
      both_are =
          let m : next ≡ paste new n behind (length behind) = rw (lent_part area (at + e) size end_low (omega arith)) at moved in
          let k : n + length behind ≡ n + (size - (at + e)) = ap (λ (k : ℕ). n + k) behind_long in
          ap (take (n + (size - (at + e)))) m ∙ ap (λ (j : ℕ). take j (paste new n behind (length behind))) (sym k)
          ∙ take-paste new n behind (length behind) (omega arith) (omega arith) ∙ ap (λ (l : List ℕ). take n new ++ l) (take-length behind)

      pub splice_done : SpliceTold (take size area) at (take n new) done (Some (at + (n + (size - (at + e)))))
      unfolding SpliceTold
      splice_done =
          let both = take n new ++ behind in
          let m : done ≡ paste area at both (length both) = rw both_are at put in
          let k : at + length both ≡ at + (n + (size - (at + e))) = ap (λ (k : ℕ). at + k) both_long in
          let b : take at area ≡ take at ws = sym (take-take at size area (omega arith)) in (
            sym spliced_long,
            omega arith,
            ap (take (at + (n + (size - (at + e))))) m ∙ ap (λ (j : ℕ). take j (paste area at both (length both))) (sym k)
                ∙ take-paste area at both (length both) (omega arith) (omega arith)
                ∙ ap (λ (l : List ℕ). take at area ++ l) (take-length both) ∙ ap (λ (l : List ℕ). l ++ both) b ∙ sym spliced_is,
          )
