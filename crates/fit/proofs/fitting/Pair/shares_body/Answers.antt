-- `fitting::shares_body` meets its contract: one law for each way.
use Rattle.std.proofs.Common.{drop, sym, ◌∙◌}
use Rattle.term.proofs.Laws.{suffix, some_is, none_is}
use Rattle.fit.proofs.Hole.{shares_open, shares_new, shares_compared}
use Rattle.fit.proofs.fitting.Pair.shares_body.Goals as goal

pub returns-then-not-is_closed : goal.returns-then-not-is_closed
returns-then-not-is_closed c =
    let s = c.args in let p = c.requires in
    shares_open s.d s.self.now.left.now s.at s.self.now.term.now s.to s.list.now s.table.now p.0 p.1 s.self.now.term_short p.2 _
    (rw (suffix s.to s.self.now.term.now) at (none_is _ _ _ (sym c.is_closed.ensures ∙ c.if-not-is_closed.true)))

pub returns-then-table-x-eq-NOT_MET : goal.returns-then-table-x-eq-NOT_MET
returns-then-table-x-eq-NOT_MET c =
    let s = c.args in let p = c.requires in
    let b = some_is s.d s.list.now (drop s.to s.self.now.term.now) (rw (suffix s.to s.self.now.term.now) at (sym c.is_closed.ensures ∙ c.if-not-is_closed.false)) in
    rw c.record_first.ensures
    (shares_new s.d s.self.now.left.now s.at s.self.now.term.now s.to s.list.now s.table.now p.0 p.1 s.self.now.term_short p.2 s.x p.3 b.0 b.1 c.if-table-x-eq-NOT_MET.true)

pub returns : goal.returns
returns c =
    let s = c.args in let p = c.requires in
    let b = some_is s.d s.list.now (drop s.to s.self.now.term.now) (rw (suffix s.to s.self.now.term.now) at (sym c.is_closed.ensures ∙ c.if-not-is_closed.false)) in
    shares_compared s.d s.self.now.left.now s.at s.self.now.term.now s.to s.list.now s.table.now p.0 p.1 s.self.now.term_short p.2 s.x p.3 b.0 b.1 c.if-table-x-eq-NOT_MET.false _ c.same_as_first.ensures
