-- `area::copy`: the words copied so far stand there, and the rest is as it came.
use Rattle.std.proofs.Common.{◌≡◌}
use lib.Seq.{paste}
use Rattle.steps.proofs.area.copy.Given as goal

abbrev pub invariant-loop-j : goal.invariant-loop-j
invariant-loop-j l = l.to ≡ paste l.initial.to l.at l.from l.j
