-- The least count of the rows passed and of those left is that of all.
use Rattle.std.proofs.Common.{◌≡◌, ◌-◌, ◌≤◌, true}
use Rattle.compiler.specs.Told.Tables.{lesser_of, smallest_from}
use Rattle.compiler.proofs.root.smallest_count.Given as goal

abbrev pub invariant-loop-r : goal.invariant-loop-r
invariant-loop-r l = (l.best ≤ 16) × (lesser_of true l.best (smallest_from l.fixed l.marks l.i l.r (64 - l.r)) ≡ smallest_from l.fixed l.marks l.i 0 64)
