-- The bodies of the variables so far stand one behind the other, and zeros after them.
use Rattle.std.proofs.Common.{length}
use Rattle.walk.proofs.Leaves.{Writing}
use Rattle.walk.proofs.leaf.write_leaf.Given as goal

abbrev pub invariant-loop-x : goal.invariant-loop-x
invariant-loop-x l = Writing l.tree l.term l.walk (length l.fn.bodies) l.bodies l.lengths l.at l.to l.x
