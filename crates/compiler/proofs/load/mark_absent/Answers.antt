-- The rows passed are marked, and what is after the rows is as it came.
use Rattle.std.proofs.Common.{get_or, length-take-le, ◌∙◌, arith}
use Rattle.compiler.specs.Told.Loaded.{absent_marked}
use Rattle.compiler.proofs.Sweeps.{sweep_start, sweep_next, part_changed}
use Rattle.compiler.proofs.LoadLaws.{in_absent, past_absent}
use Rattle.compiler.proofs.load.mark_absent.Goals as goal

pub loop-r-init : goal.loop-r-init
loop-r-init c = sweep_start _ _ 0 (λ k h. absurd (omega arith))

pub loop-r-preserved : goal.loop-r-preserved
loop-r-preserved c =
    let q = c.loop-r in
    sweep_next q.invariant (omega (arith, c.loop-r-test.true, q.invariant.long)) (c.row_mark.ensures ∙ in_absent c.args.book.now q.r (get_or q.rows q.r 0) (omega (arith, c.loop-r-test.true, length-take-le 64 c.args.marks.now (omega arith))))

pub returns : goal.returns
returns c =
    part_changed (absent_marked c.args.book.now) c.args.marks.now c.loop-r.rows 64 c.loop-r.r (omega (arith, c.told-marks)) c.loop-r.invariant
    (omega (arith, c.loop-r-test.false, c.told-marks, length-take-le 64 c.args.marks.now (omega (arith, c.told-marks)))) (λ k h. past_absent c.args.book.now k _ h)
