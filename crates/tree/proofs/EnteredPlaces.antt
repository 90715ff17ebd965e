-- What is asked of the places of a path is kept where an open place is entered: its children had no numbers, and nothing below them has.
use mathlib.Core.Path.{◌≡◌, refl, sym, ap, ◌∙◌}
use mathlib.Core.Bool.{true, false}
use mathlib.Core.List.{List, ◌∷◌}
use Prim.Native.Nat.{ℕ, zero, suc, ◌+◌, ◌-◌, ◌≤◌, ◌<◌}
use native.Mathlib.Omega.{arith}
use native.Mathlib.Decide.{dec_le}
use lib.ListN.{length}
use Rattle.term.proofs.Laws.{never}
use Rattle.fit.specs.Constraint.{Place}
use Rattle.tree.specs.Told.Covered.{numbered_as, is_open}
use Rattle.tree.specs.Path.{Uncovered, place_numbered, enter}
use Rattle.tree.proofs.EnteredPath.{child_number, open_within, length_enter, enter_old, enter_other, enter_place, enter_new, enter_keeps, enter_shuts}

module _ (us : List Uncovered) (n c : ℕ) (opened : is_open n us ≡ true) (own : (m : ℕ) → m < length us → numbered_as (place_numbered m us) us ≡ suc m)
    (new : (m i : ℕ) → is_open m us ≡ true → numbered_as (i ∷ place_numbered m us) us ≡ 0)
    (above : (i j : ℕ) (p : Place) → numbered_as (j ∷ p) us ≡ 0 → numbered_as (i ∷ j ∷ p) us ≡ 0) where
  -- a number of the new path is an old one or a child's
  abbrev Sorted : (ℕ → Type 0) → ℕ → Type 0
  Sorted Q m = (m < length us → Q m) → ((j : ℕ) → j < c → m ≡ length us + j → Q m) → Q m

  sorted : (Q : ℕ → Type 0) (m : ℕ) → m < length us + c → Sorted Q m
  sorted Q m h old fresh = go (dec_le (suc m) (length us))
    where
      go : Dec (suc m ≤ length us) → Q m
      go (yes q) = old q
      go (no q) = fresh (m - length us) (omega arith) (omega arith)

  -- an old place is no child of the place
  not_child : (m j : ℕ) → m < length us → place_numbered m us ≡ j ∷ place_numbered n us → ⊥
  not_child m j h e =
      let a = own m h in
      let b : numbered_as (place_numbered m us) us ≡ 0 = ap (λ (p : Place). numbered_as p us) e ∙ new n j opened in
      omega (arith, a, b)

  place_old : (m : ℕ) → m < length us → place_numbered m (enter n c us) ≡ place_numbered m us
  place_old m h = enter_place us n c m h

  place_new : (m j : ℕ) → j < c → m ≡ length us + j → place_numbered m (enter n c us) ≡ j ∷ place_numbered n us
  place_new m j h e = ap (λ (k : ℕ). place_numbered k (enter n c us)) e ∙ enter_new us n c j h

  pub entered_once : (a b : ℕ) → a < length us + c → b < length us + c → place_numbered a (enter n c us) ≡ place_numbered b (enter n c us) → a ≡ b
  entered_once a b ha hb =
      sorted (λ m. place_numbered m (enter n c us) ≡ place_numbered b (enter n c us) → m ≡ b) a ha
      (λ h. sorted (λ m. place_numbered a (enter n c us) ≡ place_numbered m (enter n c us) → a ≡ m) b hb (λ g e. both_old h g (sym (place_old a h) ∙ e ∙ place_old b g))
      (λ j g z e. absurd (not_child a j h (sym (place_old a h) ∙ e ∙ place_new b j g z))))
      (λ i h y. sorted (λ m. place_numbered a (enter n c us) ≡ place_numbered m (enter n c us) → a ≡ m) b hb
      (λ g e. absurd (not_child b i g (sym (place_old b g) ∙ sym e ∙ place_new a i h y)))
      (λ j g z e. omega (arith, y, z, (child_number i j (place_numbered n us) (place_numbered n us) (sym (place_new a i h y) ∙ e ∙ place_new b j g z)).0)))
    where
      both_old : a < length us → b < length us → place_numbered a us ≡ place_numbered b us → a ≡ b
      both_old h g e = omega (arith, own a h, own b g, ap (λ (p : Place). numbered_as p us) e)

  -- the place itself is no child of its own
  not_own : (j : ℕ) → place_numbered n us ≡ j ∷ place_numbered n us → ⊥
  not_own j e = not_child n j (open_within us n opened) e

  pub entered_new : (m i : ℕ) → is_open m (enter n c us) ≡ true → numbered_as (i ∷ place_numbered m (enter n c us)) (enter n c us) ≡ 0
  entered_new m i o = sorted (λ m. is_open m (enter n c us) ≡ true → numbered_as (i ∷ place_numbered m (enter n c us)) (enter n c us) ≡ 0) m (omega (arith, open_within (enter n c us) m o, length_enter us n c)) old fresh o
    where
      differs : is_open m (enter n c us) ≡ true → m ≡ n → ⊥
      differs o e =
          let z : is_open m (enter n c us) ≡ false = ap (λ (k : ℕ). is_open k (enter n c us)) e ∙ enter_shuts us n c (open_within us n opened) in
          never (cc)

      old : m < length us → is_open m (enter n c us) ≡ true → numbered_as (i ∷ place_numbered m (enter n c us)) (enter n c us) ≡ 0
      old h o =
          let d = differs o in
          let f : is_open m us ≡ true = sym (enter_keeps us n c m h d) ∙ o in
          rw (place_old m h)
          (enter_other us n c (i ∷ place_numbered m us)
          (λ j e. d (omega (arith, own m h, own n (open_within us n opened), ap (λ (p : Place). numbered_as p us) (child_number i j (place_numbered m us) (place_numbered n us) e).1)))
          ∙ new m i f)

      fresh : (j : ℕ) → j < c → m ≡ length us + j → is_open m (enter n c us) ≡ true → numbered_as (i ∷ place_numbered m (enter n c us)) (enter n c us) ≡ 0
      fresh j h e o =
          rw (place_new m j h e)
          (enter_other us n c (i ∷ j ∷ place_numbered n us) (λ k z. not_own j (sym (child_number i k (j ∷ place_numbered n us) (place_numbered n us) z).1)) ∙ above i j (place_numbered n us) (new n j opened))

  pub entered_above : (i j : ℕ) (p : Place) → numbered_as (j ∷ p) (enter n c us) ≡ 0 → numbered_as (i ∷ j ∷ p) (enter n c us) ≡ 0
  entered_above i j p e = go (numbered_as (j ∷ p) us) refl
    where
      go : (x : ℕ) → numbered_as (j ∷ p) us ≡ x → numbered_as (i ∷ j ∷ p) (enter n c us) ≡ 0
      go (suc x) z = absurd (omega (arith, e, enter_old us n c (j ∷ p) x z))
      go zero z =
          enter_other us n c (i ∷ j ∷ p)
          (λ k y. omega (arith, z, own n (open_within us n opened), ap (λ (q : Place). numbered_as q us) (child_number i k (j ∷ p) (place_numbered n us) y).1)) ∙ above i j p z
