-- A row that is struck is passed over; in another each constraint passed is changed.
use Rattle.std.proofs.Common.{◌≡◌, sym, ◌+◌, ◌*◌, ◌/◌, arith}
use Rattle.compiler.specs.Told.Tables.{mark_at, kind_from, struck_same}
use Rattle.compiler.proofs.Sweeps.{sweep_end}
use Rattle.compiler.proofs.TableLaws.{after_kind, struck_step, struck_skip}
use Rattle.compiler.proofs.KindLaws.{kind_is, marks_within}
use Rattle.compiler.proofs.constraints.strike.Goals as goal

pub loop-r-preserved-then-marks-r-ne-FREE : goal.loop-r-preserved-then-marks-r-ne-FREE
loop-r-preserved-then-marks-r-ne-FREE c =
    let q = c.loop-r in let s = c.args in
    let y : q.r * 64 / 64 ≡ q.r = omega arith in
    struck_skip s.fixed.now s.nums.now s.marks.now q.marks (mark_at s.own) s.mark (q.r * 64) (omega arith) q.invariant (λ e. c.if-marks-r-ne-FREE.true (rw y at e)) _ (omega arith)

pub loop-k-preserved : goal.loop-k-preserved
loop-k-preserved c =
    let q = c.loop-k in let s = c.args in
    let e = kind_is s.own.kind s.own.spot s.own.within in
    rw c.marks-from.ensures (
      struck_step s.fixed.now s.nums.now s.marks.now q.marks (mark_at s.own) s.mark q.k _ (sym e) (omega arith) q.invariant.0 (omega (arith, q.invariant.0.long, e, (marks_within s.own.kind).1)) _ c.strike_mark.ensures,
      q.invariant.1,
    )

pub loop-r-preserved : goal.loop-r-preserved
loop-r-preserved c =
    let z : c.loop-k.k ≡ (c.loop-r.r + 1) * 64 = omega arith in
    rw (← z) c.loop-k.invariant.0

pub returns : goal.returns
returns c =
    let q = c.loop-r in let s = c.args in
    sweep_end (struck_same s.fixed.now s.nums.now s.marks.now (mark_at s.own) s.mark) s.marks.now q.marks (kind_from (mark_at s.own) + q.r * 64) q.invariant
    (λ k h. after_kind s.fixed.now s.nums.now s.marks.now (mark_at s.own) s.mark k _ (omega (arith, h, c.loop-r-test.false)))
