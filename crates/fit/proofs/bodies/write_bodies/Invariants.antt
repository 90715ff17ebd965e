-- The bodies of the variables so far stand one behind the other, and zeros after them.
use Rattle.std.proofs.Common.{length}
use Rattle.fit.proofs.BodyLoop.{SoFar}
use Rattle.fit.proofs.bodies.write_bodies.Given as goal

abbrev pub invariant-loop-x : goal.invariant-loop-x
invariant-loop-x l = SoFar l.pair.vars l.pair.left.now l.pair.term.now l.table (length l.fn.bodies) l.bodies l.lengths l.at l.x
