-- The rows passed have lost the mark, and what is after the rows is as it came.
use Rattle.std.proofs.Common.{get_or, length-take-le, ◌∙◌, arith}
use Rattle.compiler.specs.Told.Tables.{unmarked, only_at, is_row}
use Rattle.compiler.proofs.Sweeps.{sweep_start, sweep_next, part_changed}
use Rattle.compiler.proofs.TableLaws.{row_only, past_only}
use Rattle.compiler.proofs.table.unmark.Goals as goal

pub loop-row-init : goal.loop-row-init
loop-row-init c = sweep_start _ _ 0 (λ k h. absurd (omega arith))

pub loop-row-preserved : goal.loop-row-preserved
loop-row-preserved c =
    let q = c.loop-row in
    sweep_next q.invariant (omega (arith, c.loop-row-test.true, q.invariant.long)) (c.without_mark.ensures ∙ row_only (unmarked c.args.mark) q.row-index (get_or q.rows q.row-index 0) (omega (arith, c.loop-row-test.true, length-take-le 64 c.args.marks.now (omega arith))))

pub returns : goal.returns
returns c =
    part_changed (only_at is_row (unmarked c.args.mark)) c.args.marks.now c.loop-row.rows 64 c.loop-row.row-index (omega (arith, c.told-marks)) c.loop-row.invariant
    (omega (arith, c.loop-row-test.false, c.told-marks, length-take-le 64 c.args.marks.now (omega (arith, c.told-marks)))) (λ k h. past_only (unmarked c.args.mark) k (get_or c.args.marks.now k 0) h)
