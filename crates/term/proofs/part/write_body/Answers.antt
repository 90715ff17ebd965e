-- The walk over a cleared slice tells what the body is, and how many words it has.
use Rattle.std.proofs.Common.{◌≡◌, true, length, arith}
use Rattle.term.specs.Renumber.{good_list}
use Rattle.term.specs.Told.Walk.{image}
use Rattle.term.proofs.Lists.{good_true}
use Rattle.term.proofs.Answers.{no_list, told_none, told_long, body_wrote, body_short, body_none, cleared}
use Rattle.term.proofs.part.write_body.Goals as goal

pub returns-then-not-good_list : goal.returns-then-not-good_list
returns-then-not-good_list c = body_none _ _ _ _ _ c.clear.ensures (no_list _ _ _ (cc))

pub renumber_row-requires : goal.renumber_row-requires
renumber_row-requires c = ((good_true c.args.d c.args.list.now (cc)).few, omega arith)

pub returns-in_default : goal.returns-in_default
unfolding image
returns-in_default c =
    let s = c.args in
    let g : good_list s.d s.list.now ≡ true = cc in
    body_none s.d s.list.now s.words.now (length s.out.now) _ (cleared _ _ _ (omega arith) c.clear-in_default.ensures)
    (told_none s.d s.list.now s.words.now g _ _ (rw c.in_default.is at c.renumber_row.ensures))

pub returns-then-n-gt-MOST_WORDS : goal.returns-then-n-gt-MOST_WORDS
unfolding image
returns-then-n-gt-MOST_WORDS c =
    let s = c.args in
    let g : good_list s.d s.list.now ≡ true = cc in
    body_none s.d s.list.now s.words.now (length s.out.now) _ (cleared _ _ _ (omega arith) c.clear-then-n-gt-MOST_WORDS.ensures)
    (told_long s.d s.list.now s.words.now g _ _ _ (rw c.in-Some.is at c.renumber_row.ensures) c.if-n-gt-MOST_WORDS.true)

pub returns-then-out-n : goal.returns-then-out-n
unfolding image
returns-then-out-n c =
    let s = c.args in
    let g : good_list s.d s.list.now ≡ true = cc in
    body_short s.d s.list.now s.words.now (length s.out.now) g _ _ _ c.clear.ensures
    (rw c.in-Some.is at c.renumber_row.ensures) c.if-n-gt-MOST_WORDS.false (omega arith) _
    (cleared _ _ _ (omega arith) c.clear-then-out-n.ensures)

pub returns : goal.returns
unfolding image
returns c =
    let s = c.args in
    let g : good_list s.d s.list.now ≡ true = cc in
    body_wrote s.d s.list.now s.words.now (length s.out.now) g _ _ _ c.clear.ensures
    (rw c.in-Some.is at c.renumber_row.ensures) c.if-n-gt-MOST_WORDS.false (omega arith)
