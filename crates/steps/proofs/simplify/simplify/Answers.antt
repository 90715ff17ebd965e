-- The book, the term, and then the run, whose words are given where they have room.
use Rattle.std.proofs.Common.{refl, sym, ◌∙◌, length}
use Rattle.fit.specs.Match.{tree_of}
use Rattle.steps.specs.Simplify.{simplify_by}
use Rattle.steps.proofs.Asked.{good_book, is_term}
use Rattle.steps.proofs.Runs.{run_given, simplify_refused, simplify_run}
use Rattle.steps.proofs.Came.{simplify_came_lem}
use Rattle.steps.proofs.simplify.simplify.Goals as goal

pub returns-in-Err : goal.returns-in-Err
returns-in-Err c =
    let s = c.args in
    let room = length s.out.now in
    simplify_came_lem s.book.now s.tree.now s.term.now s.budget room _ _ (simplify_refused room s.book.now s.tree.now s.term.now s.budget _ _ _ (sym c.ask.ensures ∙ c.in-Err.is) refl refl refl c.clear.ensures)

pub run-ran-requires : goal.run-ran-requires
run-ran-requires c =
    let s = c.args in
    let e = sym c.ask.ensures ∙ c.in_default.is in
    (good_book s.book.now s.term.now e, is_term s.book.now s.term.now e, (refl, refl))

pub returns : goal.returns
returns c =
    let s = c.args in
    let room = length s.out.now in
    simplify_came_lem s.book.now s.tree.now s.term.now s.budget room _ _
    (simplify_run room s.book.now s.tree.now s.term.now s.budget _ _ (sym c.ask.ensures ∙ c.in_default.is)
    (run_given room (simplify_by s.book.now s.tree.now s.budget (tree_of s.term.now)) _ _ c.run-ran.ensures _ _ (rw c.clear.auto.out at c.give.ensures) refl refl))
