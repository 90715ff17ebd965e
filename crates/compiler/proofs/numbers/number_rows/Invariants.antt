-- Numbering the rows left gives the answer.
use Rattle.std.proofs.Common.{◌≡◌, ◌-◌}
use Rattle.compiler.specs.Told.Tables.{rows_numbered}
use Rattle.compiler.proofs.numbers.number_rows.Given as goal

abbrev pub invariant-loop-r : goal.invariant-loop-r
invariant-loop-r l = rows_numbered l.fixed l.marks l.n l.first 0 64 l.initial.nums ≡ rows_numbered l.fixed l.marks l.n l.first l.r (64 - l.r) l.nums
