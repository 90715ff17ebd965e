-- `fitting::fit_variable` meets its contract: one law for each way.
use Rattle.std.proofs.Common.{◌+◌, false, true, length-drop, sym, arith}
use Rattle.std.proofs.Math.Seq.{length-take-le}
use Rattle.term.proofs.Laws.{suffix}
use Rattle.book.proofs.Laws.{told_list, told_none}
use Rattle.fit.proofs.Hole.{hole_unlisted, hole_beyond, shares_told}
use Rattle.fit.proofs.fitting.Pair.fit_variable.Goals as goal

pub returns-in_err-ids : goal.returns-in_err-ids
returns-in_err-ids c levels =
    let s = c.args in let p = c.requires in
    rw c.from_residual.ensures
    (hole_unlisted s.self.now.vars s.d levels s.self.now.left.now s.at s.self.now.term.now s.to s.table.now p.0 p.1 s.self.now.term_short p.2 _
    (rw (suffix (s.at + 1) s.self.now.left.now, c.count_of-k.ensures) at (told_none _ _ (rw c.in_err-ids.was at c.ids_of.ensures))))

pub returns-then-self-x : goal.returns-then-self-x
returns-then-self-x c levels =
    let s = c.args in let p = c.requires in
    hole_beyond s.self.now.vars s.d levels s.self.now.left.now s.at s.self.now.term.now s.to s.table.now p.0 p.1 s.self.now.term_short p.2 _ (omega arith)

pub slice_bounds-ids-end : goal.slice_bounds-ids-end
slice_bounds-ids-end c = let f = told_list _ _ _ (rw c.in_ok-ids.was at c.ids_of.ensures) in omega (arith, f.1, f.2)

pub slice_bounds-shares_body-end : goal.slice_bounds-shares_body-end
slice_bounds-shares_body-end c = let f = told_list _ _ _ (rw c.in_ok-ids.was at c.ids_of.ensures) in sym (length-take-le _ _ (omega (arith, f.1, f.2)))

pub returns-then-not-shares_body : goal.returns-then-not-shares_body
returns-then-not-shares_body c =
    let s = c.args in
    let f = told_list _ _ _ (rw c.in_ok-ids.was at c.ids_of.ensures) in
    shares_told _ _ _ _ _ _ _ _ _ c.shares_body.ensures false c.if-not-shares_body.true s.self.now.vars s.self.now.few _ c.count_of-k.ensures (rw (suffix (s.at + 1) s.self.now.left.now) at f.0)

pub overflow_add-result-2 : goal.overflow_add-result-2
overflow_add-result-2 c =
    let s = c.args in
    omega (arith, rw (suffix s.to s.self.now.term.now) at c.part_end.ensures, c.shares_body.ensures.inside c.if-not-shares_body.false, length-drop s.to s.self.now.term.now)

pub returns : goal.returns
returns c =
    let s = c.args in
    let f = told_list _ _ _ (rw c.in_ok-ids.was at c.ids_of.ensures) in
    let told = shares_told _ _ _ _ _ _ _ _ _ c.shares_body.ensures true c.if-not-shares_body.false s.self.now.vars s.self.now.few _ c.count_of-k.ensures (rw (suffix (s.at + 1) s.self.now.left.now) at f.0) in
    λ levels. rw (c.count_of-k.ensures, c.part_end.ensures, suffix s.to s.self.now.term.now) (told levels)
