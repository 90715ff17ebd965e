-- The lowest so far and the spots left give the answer.
use Rattle.std.proofs.Common.{◌≡◌, ◌+◌, ◌*◌, ◌-◌}
use Rattle.compiler.specs.Told.Tables.{lowest_from}
use Rattle.compiler.proofs.heads.lowest_open.Given as goal

abbrev pub invariant-loop-o : goal.invariant-loop-o
invariant-loop-o l = lowest_from l.fixed l.nums l.marks (l.r * 64) 64 0 ≡ lowest_from l.fixed l.nums l.marks (l.r * 64 + l.o) (64 - l.o) l.best
