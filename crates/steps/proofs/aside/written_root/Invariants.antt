-- What is told of the tree reached tells of the whole right side, and each tree reached is further on.
use Rattle.std.proofs.Common.{ℕ, ◌-◌, length}
use Rattle.std.specs.Prelude.{Option}
use Rattle.steps.specs.Told.Aside.{RootTold}
use Rattle.steps.proofs.aside.written_root.Given as goal

abbrev pub invariant-loop-w : goal.invariant-loop-w
invariant-loop-w l = (r : Option ℕ) → RootTold l.right l.at l.bodies l.lengths r → RootTold l.right 0 l.bodies l.lengths r

abbrev pub decreases-loop-w : goal.decreases-loop-w
decreases-loop-w l = length l.right - l.at
