-- The words passed stand at their spots with the abstractions passed there, and the other rows are as they came.
use Rattle.compiler.proofs.LoadLaws.{RowSoFar}
use Rattle.compiler.proofs.load.load_row.Given as goal

abbrev pub invariant-loop-o : goal.invariant-loop-o
invariant-loop-o l = RowSoFar l.left l.r l.fn.fixed l.fixed l.o
