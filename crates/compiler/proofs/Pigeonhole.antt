-- So many different numbers in a table need so many spots: the last spot's number is given to the last of the others, and both are one less. The numbers up
-- to 15 need none, since the roots of sixteen rows share one number.
use mathlib.Core.Path.{◌≡◌, refl, ap, ◌∙◌}
use mathlib.Core.Bool.{Bool, true, false}
use mathlib.Core.List.{List}
use Prim.Native.Nat.{ℕ, zero, suc, ◌*◌, ◌/◌, ◌%◌, ◌≤◌, ◌<◌}
use native.Mathlib.Omega.{arith}
use native.Mathlib.Decide.{dec_le}
use lib.Dec.{eqb}
use lib.ListN.{get_or}
use borrow.Author.Tests.{eqb-true, eqb-false, eq-eqb, ne_eqb}
use Rattle.term.specs.Word.{pick}

-- each of the numbers 1, 2, .. up to this one is that of a spot
abbrev Taken : (ℕ → ℕ) → ℕ → ℕ → Type 0
Taken f spots count = (n : ℕ) → n < count → (k : ℕ) × (k < spots) × (f k ≡ suc n)

-- the number `last` is read as `given`
abbrev swapped : (ℕ → ℕ) → ℕ → ℕ → ℕ → ℕ
swapped f last given k = pick (eqb (f k) last) given (f k)

-- a spot whose number is another than the last spot's is an earlier one
earlier : (f : ℕ → ℕ) (spots k n : ℕ) → k < suc spots → f k ≡ suc n → (f spots ≡ suc n → ⊥) → k < spots
earlier f spots k n h e d = go (dec_le (suc k) spots)
  where
    go : Dec (suc k ≤ spots) → k < spots
    go (yes q) = q
    go (no q) = let z : k ≡ spots = omega arith in absurd (d (rw z at e))

pub pigeonhole : (spots count : ℕ) (f : ℕ → ℕ) → Taken f spots count → count ≤ spots
pigeonhole zero zero f t = omega arith
pigeonhole zero (suc count) f t = let x = t 0 (omega arith) in absurd (omega (arith, x.1))
pigeonhole (suc spots) zero f t = omega arith
pigeonhole (suc spots) (suc count) f t = let r = pigeonhole spots count (swapped f (suc count) (f spots)) there in omega arith
  where
    there : Taken (swapped f (suc count) (f spots)) spots count
    there n h = go (eqb (f spots) (suc n)) refl (t n (omega arith)) (t count (omega arith))
      where
        go : (b : Bool) → eqb (f spots) (suc n) ≡ b → (k : ℕ) × (k < suc spots) × (f k ≡ suc n) → (k : ℕ) × (k < suc spots) × (f k ≡ suc count)
            → (k : ℕ) × (k < spots) × (swapped f (suc count) (f spots) k ≡ suc n)
        go false e x y =
            (x.0, earlier f spots x.0 n x.1 x.2 (eqb-false (f spots) (suc n) e), rw (x.2, ne_eqb (suc n) (suc count) (λ z. omega (arith, z))))
        go true e x y =
            let w = eqb-true (f spots) (suc n) e in
            (y.0, earlier f spots y.0 count y.1 y.2 (λ z. omega (arith, z, w)), rw (y.2, eq-eqb (suc count) (suc count) refl) w)

-- ---- the table with the numbers from 1 to 16 at the roots of the first rows
abbrev roots_shared : List ℕ → ℕ → ℕ
roots_shared nums k = pick (eqb (k % 64) 0) (suc (k / 64)) (get_or nums k 0)

pub few_numbers : (nums : List ℕ) (count : ℕ) → ((r : ℕ) → r < 64 → get_or nums (r * 64) 0 ≡ 1) → ((n : ℕ) → 15 < n → n < count → (k : ℕ) × (k < 4096) × (get_or nums k 0 ≡ suc n)) → count ≤ 4096
few_numbers nums count roots used = pigeonhole 4096 count (roots_shared nums) there
  where
    there : Taken (roots_shared nums) 4096 count
    there n h = go (dec_le 16 n)
      where
        later : (k : ℕ) → k < 4096 → get_or nums k 0 ≡ suc n → 15 < n → (b : Bool) → eqb (k % 64) 0 ≡ b → pick b (suc (k / 64)) (get_or nums k 0) ≡ suc n
        later k l e m true q =
            let z : k ≡ k / 64 * 64 = omega (arith, eqb-true (k % 64) 0 q) in
            absurd (omega (arith, e, m, ap (λ (o : ℕ). get_or nums o 0) z ∙ roots (k / 64) (omega arith)))
        later k l e m false q = e

        go : Dec (16 ≤ n) → (k : ℕ) × (k < 4096) × (roots_shared nums k ≡ suc n)
        go (yes q) = let x = used n q h in (x.0, x.1, later x.0 x.1 x.2 q (eqb (x.0 % 64) 0) refl)
        go (no q) =
            let z : n * 64 % 64 ≡ 0 = omega arith in
            let y : n * 64 / 64 ≡ n = omega arith in
            (n * 64, omega arith, rw (z, y))
