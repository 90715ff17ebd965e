-- The rows passed are changed where they are not struck, and the other words are as they came.
use Rattle.std.proofs.Common.{◌*◌}
use Rattle.compiler.specs.Told.Tables.{only_at, of_free_row, forgotten}
use Rattle.compiler.proofs.Sweeps.{Sweeping}
use Rattle.compiler.proofs.table.forget.Given as goal

abbrev pub invariant-loop-r : goal.invariant-loop-r
invariant-loop-r l = Sweeping (only_at (of_free_row l.marks 0) (forgotten l.count)) l.initial.nums l.nums (l.r * 64)
