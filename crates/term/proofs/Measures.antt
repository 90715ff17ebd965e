-- The loops over a table: a part's length is its word and the lengths of its children, one after the other, and entries are written from the last on.
use mathlib.Core.Path.{◌≡◌, refl, ◌∙◌}
use mathlib.Core.List.{List, [], ◌∷◌, ◌++◌}
use Prim.Native.Nat.{ℕ, zero, suc, ◌+◌, ◌-◌, ◌≤◌, ◌<◌}
use native.Mathlib.Omega.{arith}
use native.Mathlib.Nat.{suc-add, zero-add, add-zero, add_assoc}
use native.Mathlib.Numerals.{add-one}
use lib.ListN.{length, take, drop, get_or, set, length-append, length-drop, drop_of_length-le, get_or-append}
use lib.Seq.{sets, sets-eq, set_comm, drop-cons, drop-drop, drop-length, length-take-le, get_or-append-add}
use Rattle.term.specs.Word.{count_of}
use Rattle.term.specs.Part.{past, part_end}
use Rattle.term.specs.Lengths.{part_lengths}
use Rattle.term.specs.Told.Measure.{Measured}
use Rattle.term.proofs.Parts.{past_none}
use Rattle.term.proofs.Tables.{part_lengths_many, part_length_at}

-- ---- passing some trees, and then more
past_more : (a b : ℕ) (ws : List ℕ) → past (a + b) ws ≡ past a ws + past b (drop (past a ws) ws)
unfolding past
past_more a b [] = omega arith
past_more zero b (w ∷ ws) = rw (zero-add b) (omega arith)
past_more (suc a) b (w ∷ ws) =
    rw (suc-add a b, ← add_assoc (count_of w) a b, past_more (count_of w + a) b ws) (omega arith)

pub past_within : (n : ℕ) (ws : List ℕ) → past n ws ≤ length ws
unfolding past
past_within n [] = omega arith
past_within zero (w ∷ ws) = omega arith
past_within (suc n) (w ∷ ws) = omega (arith, past_within (count_of w + n) ws)

-- ---- the loop of length_at: `end` and what is left to pass behind it give where the part ends
module _ (ws : List ℕ) (at : ℕ) where
  abbrev pub Ends : ℕ → ℕ → Type 0
  Ends end left = at + part_end (drop at ws) ≡ end + past left (drop end ws)

  pub ends_first : at < length ws → Ends (at + 1) (count_of (get_or ws at 0))
  unfolding part_end past
  ends_first h = rw (drop-cons ws at 0 h, add-one at, add-zero (count_of (get_or ws at 0))) (omega arith)

  module _ (end left : ℕ) (rest : Ends end left) where
    pub ends_none : left ≡ 0 → end - at ≡ part_end (drop at ws)
    ends_none z = omega (arith, (rw z at rest), past_none (drop end ws))

    pub ends_out : length ws ≤ end → end - at ≡ part_end (drop at ws)
    unfolding past
    ends_out h = let e : at + part_end (drop at ws) ≡ end + 0 = rw (drop_of_length-le ws h) at rest in omega arith

    pub ends_within : end ≤ length ws → end + part_end (drop end ws) ≤ length ws
    unfolding part_end
    ends_within h = omega (arith, past_within 1 (drop end ws), length-drop end ws, h)

    pub ends_next : (left ≡ 0 → ⊥) → (v : ℕ) → v ≡ part_end (drop end ws) → Ends (end + v) (left - 1)
    unfolding part_end
    ends_next z v e =
        let l : 1 + (left - 1) ≡ left = omega arith in
        let q : past left (drop end ws) ≡ v + past (left - 1) (drop v (drop end ws)) = rw (l, ← e) at (past_more 1 (left - 1) (drop end ws)) in
        rest ∙ rw (q, drop-drop v end ws) (omega arith)

-- ---- the loop of measure: the entries from an offset on are written
set_sets : (vs l : List ℕ) (i j v : ℕ) → i < j → set (sets l j vs) i v ≡ sets (set l i v) j vs
set_sets [] l i j v h = refl
set_sets (a ∷ vs) l i j v h = set_sets vs (set l j a) i (suc j) v (omega arith) ∙ rw (set_comm l j i a v (λ e. omega arith))

sets_at : (l vs : List ℕ) (i k : ℕ) → i + length vs ≤ length l → k < length vs → get_or (sets l i vs) (i + k) 0 ≡ get_or vs k 0
sets_at l vs i k h s =
    rw (sets-eq vs l i h) (go (length-take-le i l (omega arith)))
  where
    go : length (take i l) ≡ i → get_or (take i l ++ vs ++ drop (i + length vs) l) (i + k) 0 ≡ get_or vs k 0
    go n =
        get_or-append (take i l ++ vs) (drop (i + length vs) l) 0 (i + k) (omega (arith, length-append (take i l) vs, n, s))
        ∙ rw n at (get_or-append-add (take i l) vs k 0)

module _ (ws out : List ℕ) where
  abbrev pub Written : ℕ → List ℕ → Type 0
  Written at now = now ≡ sets out at (part_lengths (drop at ws))

  pub written_first : Written (length ws) out
  unfolding part_lengths
  written_first = rw (drop-length ws)

  pub written_measured : length ws ≤ length out → (at : ℕ) (now : List ℕ) → at ≤ length ws → Written at now → Measured ws now at
  written_measured few at now h w i l s =
      let k : at + (i - at) ≡ i = omega arith in
      let m : length (part_lengths (drop at ws)) ≡ length ws - at = part_lengths_many (drop at ws) ∙ length-drop at ws in
      rw w (rw (drop-drop (i - at) at ws, k) at (sets_at out (part_lengths (drop at ws)) at (i - at) (omega arith) (omega arith) ∙ part_length_at (drop at ws) (i - at) (rw (length-drop at ws) (omega arith))))

  pub written_next : (at v : ℕ) (now : List ℕ) → (at ≡ 0 → ⊥) → at ≤ length ws → Written at now → v ≡ part_end (drop (at - 1) ws) → Written (at - 1) (set now (at - 1) v)
  unfolding part_lengths
  written_next zero v now z h w e = absurd (z refl)
  written_next (suc i) v now z h w e =
      let p : suc i - 1 ≡ i = omega arith in
      rw (p, w) (set_sets (part_lengths (drop (suc i) ws)) out i (suc i) v (omega arith) ∙ last (rw p at e) (drop-cons ws i 0 (omega arith)))
    where
      last : v ≡ part_end (drop i ws) → drop i ws ≡ get_or ws i 0 ∷ drop (suc i) ws
          → sets (set out i v) (suc i) (part_lengths (drop (suc i) ws)) ≡ sets out i (part_lengths (drop i ws))
      last e d = rw (e, d)
