-- The constraints passed are changed where their row is not struck, and the rows are as they came.
use Rattle.std.proofs.Common.{◌≡◌, ◌+◌, ◌*◌, get_or}
use Rattle.compiler.specs.Told.Tables.{only_at, of_free_row, unmarked, marks_of}
use Rattle.compiler.proofs.Sweeps.{Sweeping}
use Rattle.compiler.proofs.constraints.unstrike.Given as goal

abbrev pub invariant-loop-r : goal.invariant-loop-r
invariant-loop-r l = Sweeping (only_at (of_free_row l.fn.marks (marks_of l.fn.kind)) (unmarked l.mark)) l.fn.marks l.marks (marks_of l.fn.kind + l.r * 64)

abbrev pub invariant-loop-k : goal.invariant-loop-k
invariant-loop-k l = Sweeping (only_at (of_free_row l.fn.marks (marks_of l.fn.kind)) (unmarked l.mark)) l.fn.marks l.marks (marks_of l.fn.kind + l.k) × (get_or l.fn.marks l.r 0 ≡ 0)
