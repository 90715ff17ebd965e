-- The bodies of the variables, as the table knows them: whatever was found, what was written are its bodies so far, one after the other.
use mathlib.Core.Path.{◌≡◌, ap}
use mathlib.Core.Bool.{true, false}
use mathlib.Core.List.{List, [], ◌++◌}
use Prim.Native.Nat.{ℕ, ◌+◌, ◌-◌, ◌≤◌, ◌<◌}
use native.Mathlib.Omega.{arith}
use lib.ListN.{length, length-set, take, set, replicate}
use Rattle.std.specs.Prelude.{Some, None}
use Rattle.fit.specs.Fit.{Found, body_in}
use Rattle.fit.specs.Told.Told.{present, Knows, FirstWritten, BodiesTold}
use Rattle.fit.proofs.InOrder.{SoMany, joined_long, many_start, many_short, many_done, many_more}

-- what is written of a body is no more than the slice or the term has
pub written_within : (left term table : List ℕ) (x : ℕ) (out done : List ℕ) (n : ℕ) → FirstWritten left term table x out done (Some n) → (n ≤ length out) × (n ≤ length term)
unfolding FirstWritten
written_within left term table x out done n w = (w.0, w.1)

pub record SoFar (vars : ℕ) (left term table : List ℕ) (room : ℕ) (bodies lengths : List ℕ) (at x : ℕ) : Type 0 where
  pub long : length bodies ≡ room
  pub sixteen : length lengths ≡ 16
  pub within : at ≤ room
  pub below : x ≤ vars
  pub told : (l : Found) → Knows left term table l → ((y : ℕ) → y < vars → present y l ≡ true) → SoMany vars (body_in l) room bodies lengths at x

module _ (vars : ℕ) (left term table : List ℕ) (room : ℕ) (few : vars ≤ 16) where
  pub bodies_start : (bodies lengths : List ℕ) → length bodies ≡ room → bodies ≡ replicate room 0 → lengths ≡ replicate 16 0 → SoFar vars left term table room bodies lengths 0 0
  bodies_start bodies lengths n b e =
      record {
        long = n;
        sixteen = ap length e;
        within = omega arith;
        below = omega arith;
        told = λ l k p. many_start vars (body_in l) room few bodies lengths n b e;
      }

  module _ (bodies lengths : List ℕ) (at x : ℕ) (s : SoFar vars left term table room bodies lengths at x) where
    -- where the body of the next variable finds no room, all bodies find none
    pub bodies_short : x < vars → (out part : List ℕ) → length out ≡ room - at → FirstWritten left term table x out part None
        → (cleared zeros : List ℕ) → cleared ≡ replicate room 0 → zeros ≡ replicate 16 0 → BodiesTold vars left term table room cleared zeros false
    unfolding BodiesTold FirstWritten
    bodies_short h out part o w cleared zeros c z l k p n =
        let q = many_short vars (body_in l) room few bodies lengths at x (s.told l k p) h (omega (arith, w l k (p x h), o)) cleared zeros c z n in (q.0, q.1.1, q.1.2)

    -- all bodies are written
    pub bodies_done : vars ≤ x → BodiesTold vars left term table room bodies lengths true
    unfolding BodiesTold
    bodies_done h l k p n = let q = many_done vars (body_in l) room few bodies lengths at x (s.told l k p) h n in (q.0, q.1.1, q.1.2)

    -- the body of the next variable behind the others
    pub bodies_more : x < vars → (out part post : List ℕ) (n : ℕ) → length out ≡ room - at → length part ≡ length out → post ≡ []
        → FirstWritten left term table x out part (Some n) → SoFar vars left term table room (take at bodies ++ (part ++ post)) (set lengths x n) (at + n) (x + 1)
    unfolding FirstWritten
    bodies_more h out part post n o long nothing-after w =
        record {
          long = joined_long room at bodies out part post s.long s.within o long nothing-after;
          sixteen = simp length-set s.sixteen;
          within = omega (arith, w.0, o, s.within);
          below = omega (arith, h);
          told = λ l k p. (
              let q = w.2 l k (p x h) in
              many_more vars (body_in l) room few bodies lengths at x (s.told l k p) h out part post n o long nothing-after q.0 w.0 q.1
              );
        }
