-- The words of the variables passed are written.
use Rattle.std.proofs.Common.{◌+◌, get_or}
use Rattle.compiler.proofs.WordLaws.{Leafing}
use Rattle.compiler.proofs.words.put_variables.Given as goal

abbrev pub invariant-loop-x : goal.invariant-loop-x
invariant-loop-x l = Leafing l.fixed l.nums l.initial.out l.at l.r (get_or l.fixed (8192 + l.r) 0) l.out l.a l.x
