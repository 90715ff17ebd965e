-- The rows passed are changed, and what is after them is as it came.
use Rattle.compiler.specs.Told.Tables.{leaves_out, struck_rows}
use Rattle.compiler.proofs.Sweeps.{Sweeping}
use Rattle.compiler.proofs.root.drop_uncovered.Given as goal

abbrev pub invariant-loop-r : goal.invariant-loop-r
invariant-loop-r l = Sweeping (struck_rows (leaves_out l.fixed l.w) 17) l.fn.marks l.marks l.r
