-- The walk tells whether the body exists, and how many words it has.
use Rattle.std.proofs.Common.{◌≡◌, true, arith}
use Rattle.term.specs.Renumber.{good_list}
use Rattle.term.specs.Told.Walk.{image}
use Rattle.term.proofs.Lists.{good_true}
use Rattle.term.proofs.Answers.{no_list, told_closed, told_none, is_none}
use Rattle.term.proofs.part.is_closed.Goals as goal

pub returns-then-not-good_list : goal.returns-then-not-good_list
returns-then-not-good_list c = is_none _ _ _ (no_list _ _ _ (cc))

pub renumber_row-requires : goal.renumber_row-requires
renumber_row-requires c = ((good_true c.args.d c.args.list.now (cc)).few, omega arith)

pub returns-in-Some : goal.returns-in-Some
unfolding image
returns-in-Some c =
    let s = c.args in
    let g : good_list s.d s.list.now ≡ true = cc in
    told_closed s.d s.list.now s.words.now g _ _ _ (rw c.in-Some.is at c.renumber_row.ensures)

pub returns-in-None : goal.returns-in-None
unfolding image
returns-in-None c =
    let s = c.args in
    let g : good_list s.d s.list.now ≡ true = cc in
    is_none _ _ _ (told_none s.d s.list.now s.words.now g _ _ (rw c.in-None.is at c.renumber_row.ensures))
