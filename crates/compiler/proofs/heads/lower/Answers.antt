-- Its tests are the definition's.
use Rattle.std.proofs.Common.{inl, inr}
use Rattle.compiler.proofs.heads.lower.Goals.{then-n-eq0-via-then-n-eq0, then-n-eq0-via-else-n-eq0+then-marks-n-ne-FREE}
use Rattle.compiler.proofs.TableLaws.{lower_zero, lower_entered, lower_first, lower_best, lower_new}
use Rattle.compiler.proofs.heads.lower.Goals as goal

pub returns-then-n-eq0 : goal.returns-then-n-eq0
returns-then-n-eq0 c =
    let a = c.args in
    elim c.then-n-eq0.branch [
      | then-n-eq0-via-then-n-eq0 w ↦ lower_zero a.marks.now a.n a.best w.if-n-eq0.true
      | then-n-eq0-via-else-n-eq0+then-marks-n-ne-FREE w ↦ lower_entered a.marks.now a.n a.best w.if-n-eq0.false w.if-marks-n-ne-FREE.true
    ]

pub returns-then-n-best : goal.returns-then-n-best
returns-then-n-best c =
    let a = c.args in
    elim c.if-n-best.either [
      | inl e ↦ lower_first a.marks.now a.n a.best c.if-n-eq0.false c.if-marks-n-ne-FREE.false e
      | inr e ↦ lower_new a.marks.now a.n a.best c.if-n-eq0.false c.if-marks-n-ne-FREE.false e.0 e.1
    ]

pub returns-else-n-best : goal.returns-else-n-best
returns-else-n-best c = let a = c.args in lower_best a.marks.now a.n a.best c.if-n-eq0.false c.if-marks-n-ne-FREE.false c.if-n-best.false.0 c.if-n-best.false.1
