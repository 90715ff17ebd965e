-- The rows passed are struck where they have another head, and the other marks are as they came.
use Rattle.compiler.specs.Told.Tables.{has_other, head_or, struck_rows}
use Rattle.compiler.proofs.Sweeps.{Sweeping}
use Rattle.compiler.proofs.heads.drop_others.Given as goal

abbrev pub invariant-loop-r : goal.invariant-loop-r
invariant-loop-r l = Sweeping (struck_rows (has_other l.fixed l.nums l.n (head_or l.w)) l.mark) l.initial.marks l.marks l.r
