-- In a row that is not struck each constraint passed is changed.
use Rattle.std.proofs.Common.{◌≡◌, ◌+◌, ◌*◌, ◌/◌, ap, get_or, arith}
use Rattle.compiler.specs.Told.Tables.{marks_of, unmarked, only_at, of_free_row}
use Rattle.compiler.proofs.Sweeps.{sweep_end}
use Rattle.compiler.proofs.TableLaws.{after_rows, free_step}
use Rattle.compiler.proofs.KindLaws.{marks_within}
use Rattle.compiler.proofs.constraints.unstrike.Goals as goal

pub loop-k-preserved : goal.loop-k-preserved
loop-k-preserved c =
    let q = c.loop-k in let s = c.args in
    let y : c.loop-r.r ≡ q.k / 64 = omega arith in (
      free_step s.marks.now (marks_of s.kind) (unmarked s.mark) s.marks.now q.marks q.k (omega arith) q.invariant.0 (rw y at q.invariant.1) _
          (ap (λ y. y + q.k) c.marks-from.ensures) (omega (arith, q.invariant.0.long, c.marks-from.ensures, (marks_within s.kind).1)) _ c.without_mark.ensures,
      q.invariant.1,
    )

pub loop-r-preserved : goal.loop-r-preserved
loop-r-preserved c =
    let z : c.loop-k.k ≡ (c.loop-r.r + 1) * 64 = omega arith in
    rw (← z) c.loop-k.invariant.0

pub returns : goal.returns
returns c =
    let q = c.loop-r in let s = c.args in
    sweep_end (only_at (of_free_row s.marks.now (marks_of s.kind)) (unmarked s.mark)) s.marks.now q.marks (marks_of s.kind + q.r * 64) q.invariant
    (λ k h. after_rows s.marks.now (marks_of s.kind) (unmarked s.mark) k (get_or s.marks.now k 0) (omega (arith, h, c.loop-r-test.false)))
