-- The constraints passed are changed where their row is not struck, and the rows are as they came.
use Rattle.std.proofs.Common.{◌≡◌, ◌+◌, ◌*◌, get_or}
use Rattle.compiler.specs.Told.Tables.{mark_at, kind_from, struck_same}
use Rattle.compiler.proofs.Sweeps.{Sweeping}
use Rattle.compiler.proofs.constraints.strike.Given as goal

abbrev pub invariant-loop-r : goal.invariant-loop-r
invariant-loop-r l = Sweeping (struck_same l.fixed l.nums l.fn.marks (mark_at l.own) l.mark) l.fn.marks l.marks (kind_from (mark_at l.own) + l.r * 64)

abbrev pub invariant-loop-k : goal.invariant-loop-k
invariant-loop-k l = Sweeping (struck_same l.fixed l.nums l.fn.marks (mark_at l.own) l.mark) l.fn.marks l.marks (kind_from (mark_at l.own) + l.k) × (get_or l.fn.marks l.r 0 ≡ 0)
