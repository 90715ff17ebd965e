-- The rows passed are changed where they are not struck, and what is after the rows is as it came.
use Rattle.std.proofs.Common.{◌*◌, ◌<◌, arith}
use Rattle.compiler.specs.Told.Tables.{forgotten}
use Rattle.compiler.proofs.table.forget.Goals.{then-marks-r-eq-FREE, else-marks-r-eq-FREE}
use Rattle.compiler.proofs.Sweeps.{sweep_start, sweep_end}
use Rattle.compiler.proofs.TableLaws.{after_rows, free_row, struck_row}
use Rattle.compiler.proofs.table.forget.Goals as goal

pub loop-r-init : goal.loop-r-init
loop-r-init c = sweep_start _ c.args.nums.now (0 * 64) (λ k h. absurd (omega arith))

pub loop-r-preserved : goal.loop-r-preserved
loop-r-preserved c =
    let q = c.loop-r in
    let few : q.r < 64 = omega arith in
    elim c.if-marks-r-eq-FREE.branch [
      | then-marks-r-eq-FREE w ↦ rw w.nums-is (free_row c.args.marks.now (forgotten c.args.count) c.args.nums.now q.nums _ q.r few q.invariant w.if-marks-r-eq-FREE.true (omega arith) w.forget_row.ensures)
      | else-marks-r-eq-FREE w ↦ rw w.nums-is (struck_row c.args.marks.now (forgotten c.args.count) c.args.nums.now q.nums q.r few q.invariant w.if-marks-r-eq-FREE.false)
    ]

pub returns : goal.returns
returns c = sweep_end _ c.args.nums.now c.loop-r.nums _ c.loop-r.invariant (λ k h. after_rows c.args.marks.now 0 (forgotten c.args.count) k _ (omega arith))
