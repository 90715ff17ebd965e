-- The rows passed are changed, and the constraints are as they came.
use Rattle.compiler.specs.Told.Tables.{mark_at, row_has, struck_rows}
use Rattle.compiler.proofs.Sweeps.{Sweeping}
use Rattle.compiler.proofs.constraints.drop_having.Given as goal

abbrev pub invariant-loop-r : goal.invariant-loop-r
invariant-loop-r l = Sweeping (struck_rows (row_has l.fixed l.nums l.fn.marks (mark_at l.own)) l.mark) l.fn.marks l.marks l.r
