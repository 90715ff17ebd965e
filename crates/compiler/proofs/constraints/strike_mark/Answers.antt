-- Its test is the definition's, where the row is not struck.
use Rattle.std.proofs.Common.{◌+◌, ◌/◌, arith}
use Rattle.compiler.specs.Told.Tables.{marks_of, mark_at}
use Rattle.compiler.proofs.TableLaws.{same_struck, same_kept}
use Rattle.compiler.proofs.KindLaws.{kind_is, row_spot}
use Rattle.compiler.proofs.constraints.strike_mark.Goals as goal

pub returns-then-left_same : goal.returns-then-left_same
returns-then-left_same c =
    let p = c.requires in let s = c.args in
    let e = kind_is s.own.kind s.own.spot s.own.within in
    same_struck s.fixed.now s.nums.now s.marks.now (mark_at s.own) s.mark (s.k / 64) (marks_of s.own.kind + s.k) _ (omega (arith, e)) (omega (arith, e, p.0)) (rw e (row_spot (marks_of s.own.kind) s.k)) p.1 c.left_same.ensures c.if-left_same.true

pub returns-else-left_same : goal.returns-else-left_same
returns-else-left_same c =
    let p = c.requires in let s = c.args in
    let e = kind_is s.own.kind s.own.spot s.own.within in
    rw c.marks.ensures
    (same_kept s.fixed.now s.nums.now s.marks.now (mark_at s.own) s.mark (s.k / 64) (marks_of s.own.kind + s.k) _ (omega (arith, e)) (omega (arith, e, p.0)) (rw e (row_spot (marks_of s.own.kind) s.k)) p.1 c.left_same.ensures c.if-left_same.false)
