-- Numbering the rows left gives the answer.
use Rattle.std.proofs.Common.{arith}
use Rattle.compiler.proofs.NumberLaws.{rows_next, rows_end}
use Rattle.compiler.proofs.numbers.number_rows.Goals as goal

pub loop-r-preserved : goal.loop-r-preserved
loop-r-preserved c = let q = c.loop-r in rows_next c.args.fixed.now c.args.marks.now c.args.n c.args.first q.r q.nums _ _ (omega arith) q.invariant c.number_row.ensures

pub returns : goal.returns
returns c = rows_end _ _ _ _ _ _ _ _ c.loop-r.invariant (omega arith)
