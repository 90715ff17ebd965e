-- What is left of the trees to pass leads to the child.
use Rattle.std.proofs.Common.{◌≡◌, ◌-◌, ◌≤◌, length}
use Rattle.steps.specs.Told.RightWalk.{child_at}
use Rattle.steps.proofs.right.child_at.Given as goal

abbrev pub invariant-loop : goal.invariant-loop
invariant-loop l = record { within : l.child ≤ length l.right; leads : child_at l.right l.at l.j ≡ child_at l.right l.child (l.j - l.counter) }
