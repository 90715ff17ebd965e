-- What is left of the bodies gives the answer.
use Rattle.std.proofs.Common.{◌≡◌, ◌-◌}
use Rattle.fit.specs.Build.{check_bodies}
use Rattle.fit.proofs.build.Bodies.check_bodies.Given as goal

abbrev pub invariant-loop-x : goal.invariant-loop-x
invariant-loop-x l = check_bodies l.self.words.now l.self.lengths.now 0 l.vars ≡ check_bodies l.self.words.now l.self.lengths.now l.x (l.vars - l.x)
