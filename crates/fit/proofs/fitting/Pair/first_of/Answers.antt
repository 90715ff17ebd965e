-- `fitting::first_of` meets its contract: one law for each way.
use Rattle.std.proofs.Common.{◌+◌, ◌*◌, get_or, refl}
use Rattle.term.proofs.Laws.{suffix}
use Rattle.fit.proofs.First.{first_new, first_past_term, first_past_left, first_unlisted, first_read}
use Rattle.fit.proofs.fitting.Pair.first_of.Goals as goal

pub returns-then-table-own-eq-NOT_MET : goal.returns-then-table-own-eq-NOT_MET
returns-then-table-own-eq-NOT_MET c = let s = c.args in first_new s.self.now.left.now s.self.now.term.now s.table.now s.x c.requires c.if-table-own-eq-NOT_MET.true

pub returns-then-self-at : goal.returns-then-self-at
returns-then-self-at c = let s = c.args in first_past_term s.self.now.left.now s.self.now.term.now s.table.now s.x c.requires c.if-table-own-eq-NOT_MET.false c.if-self-at.true

pub returns-then-self-word : goal.returns-then-self-word
returns-then-self-word c = let s = c.args in first_past_left s.self.now.left.now s.self.now.term.now s.table.now s.x c.requires c.if-table-own-eq-NOT_MET.false c.if-self-word.true

pub returns-in_err-ids : goal.returns-in_err-ids
returns-in_err-ids c =
    let s = c.args in
    rw c.from_residual.ensures
    (first_unlisted s.self.now.left.now s.self.now.term.now s.table.now s.x c.requires c.if-table-own-eq-NOT_MET.false
    (rw (suffix (get_or s.table.now (3 * s.x + 1) 0 + 1) s.self.now.left.now, c.in_err-ids.was, c.count_of-k.ensures) at c.ids_of.ensures))

pub returns : goal.returns
returns c =
    let s = c.args in
    first_read s.self.now.left.now s.self.now.term.now s.table.now s.x c.requires c.if-table-own-eq-NOT_MET.false _ c.if-self-at.false c.count_of-k.ensures
    (rw (suffix (get_or s.table.now (3 * s.x + 1) 0 + 1) s.self.now.left.now, c.in_ok-ids.was) at c.ids_of.ensures) refl refl
