-- The words of the row that are passed are changed, and the others are as they came.
use Rattle.compiler.specs.Told.Tables.{only_at, of_row, forgotten}
use Rattle.compiler.proofs.Sweeps.{Sweeping}
use Rattle.compiler.proofs.table.forget_row.Given as goal

abbrev pub invariant-loop-k : goal.invariant-loop-k
invariant-loop-k l = Sweeping (only_at (of_row l.r) (forgotten l.count)) l.initial.nums l.nums l.k
