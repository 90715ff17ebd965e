-- What the last search found and visited is told of the run.
use Rattle.std.proofs.Common.{arith}
use Rattle.steps.proofs.Runs.{look_told, look_few}
use Rattle.steps.proofs.simplify.last_look.Goals as goal

pub overflow_add-visits : goal.overflow_add-visits
overflow_add-visits c =
    let s = c.args in
    let few = look_few s.book.now s.tree.now s.term.now c.requires.1 _ c.seek-sought.ensures.2 in
    omega (arith, c.requires.2, c.ranges.steps)

pub returns : goal.returns
returns c =
    let s = c.args in
    look_told s.book.now s.tree.now s.term.now c.requires.1 s.steps s.visits _ _ c.seek-sought.ensures.0 _ c.seek-sought.ensures.2 _ c.used.ensures
