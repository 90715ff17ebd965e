-- A whole right side is one tree under no abstraction. What is written of it is a term but for its limits, so it is within them just where it was written to the end.
use mathlib.Core.Path.{◌≡◌, refl, sym, ap, ◌∙◌}
use mathlib.Core.Bool.{Bool, true, false}
use mathlib.Core.List.{List, [], append-nil}
use Prim.Native.Nat.{ℕ}
use native.Mathlib.Omega.{arith}
use lib.ListN.{length}
use Rattle.std.specs.Prelude.{Option, Some, None}
use Rattle.term.specs.Row.{Row, words}
use Rattle.fit.specs.Build.{within_limits}
use Rattle.fit.specs.Told.BuildWalk.{RowBuilt}
use Rattle.fit.proofs.Laws.{within_limits_lem}
use Rattle.steps.specs.Right.{write}
use Rattle.steps.specs.Told.Told.{written_in}
use Rattle.steps.specs.Told.Under.{at_root, ids_from, ids_in}
use Rattle.steps.specs.Told.RightWalk.{WrittenWithin, RightWritten, RightStands, RightTold}
use Rattle.steps.proofs.Shaped.{Shaped, shaped_written, limits_within}
use Rattle.steps.proofs.OnePass.{written_root}

within_told : (out done : List ℕ) (t : Row) → Shaped t → (r : Option ℕ) → RowBuilt 64 out 0 done t r → WrittenWithin out done t r
within_told out done t f (Some n) r =
    let e : n ≡ length (words t) = omega (arith, r.2) in
    (within_limits_lem t r.0 r.1 (omega (arith, e, r.3)), e, r.4)
within_told out done t f None r = go (within_limits t) refl
  where
    go : (b : Bool) → within_limits t ≡ b → within_limits t ≡ false
    go true q = let l = limits_within t f q in absurd (r l.0 l.1 (omega (arith, l.2)))
    go false q = q

root_ids : ids_in (at_root 64) ≡ []
unfolding ids_from
root_ids = refl

pub right_written : (right bodies lengths out done : List ℕ) (r : Option ℕ) → RightTold (at_root 64) 64 1 right 0 bodies lengths out 0 done r → RightWritten right bodies lengths out done r
unfolding RightWritten RightTold
right_written right bodies lengths out done r told vars k b p good one low same g =
    let s : RightStands vars k 0 1 right 0 p [] = record { good = good; low = omega (arith, low); wide = one; same = sym same ∙ sym (append-nil (words p)) } in
    let e : written_in b 0 (ids_in (at_root 64)) p ≡ write b 0 p = ap (λ (ids : List ℕ). written_in b 0 ids p) root_ids ∙ written_root b p in
    within_told out done (write b 0 p) (shaped_written vars b (λ x h. (g.body x h).one) k (λ x h. (g.body x h).within.formed) 0 p good) r
    (rw e at (told vars k b p [] s g (omega arith)))
