-- The rows passed are changed, and the constraints are as they came.
use Rattle.std.proofs.Common.{◌∙◌, arith}
use Rattle.compiler.specs.Told.Tables.{mark_at, row_has, struck_rows}
use Rattle.compiler.proofs.Sweeps.{sweep_set, sweep_here, sweep_end}
use Rattle.compiler.proofs.TableLaws.{past_rows, having_same}
use Rattle.compiler.proofs.constraints.drop_having.Goals as goal

pub loop-r-preserved : goal.loop-r-preserved
loop-r-preserved c =
    let q = c.loop-r in let s = c.args in
    let f = struck_rows (row_has s.fixed.now s.nums.now s.marks.now (mark_at s.own)) s.mark in
    sweep_set f s.marks.now q.marks q.r _ q.invariant (omega (arith, q.invariant.long))
    (c.having_mark.ensures ∙ having_same s.fixed.now s.nums.now s.marks.now q.marks (mark_at s.own) s.mark q.r _ _ (λ k h. sweep_here f s.marks.now q.marks q.r q.invariant k (omega arith)) (sweep_here f s.marks.now q.marks q.r q.invariant q.r (omega arith)))

pub returns : goal.returns
returns c =
    let q = c.loop-r in let s = c.args in
    sweep_end (struck_rows (row_has s.fixed.now s.nums.now s.marks.now (mark_at s.own)) s.mark) s.marks.now q.marks q.r q.invariant (λ k h. past_rows (row_has s.fixed.now s.nums.now s.marks.now (mark_at s.own)) s.mark k _ (omega arith))
