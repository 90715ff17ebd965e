-- The rows passed have lost the mark, and the other marks are as they came.
use Rattle.compiler.specs.Told.Tables.{only_at, is_row, unmarked}
use Rattle.compiler.proofs.Sweeps.{Sweeping}
use Rattle.compiler.proofs.table.unmark.Given as goal

abbrev pub invariant-loop-row : goal.invariant-loop-row
invariant-loop-row l = Sweeping (only_at is_row (unmarked l.mark)) l.initial.rows l.rows l.row-index
