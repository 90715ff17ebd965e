-- `notes::write_was` meets its contract: nothing is written where both numbers are one, and else the line.
use Rattle.text.proofs.Laws.{wrote_nothing}
use Rattle.mend.proofs.Noting.{was_none, was_there}
use Rattle.mend.proofs.notes.write_was.Goals as goal

pub returns-then-stated-present : goal.returns-then-stated-present
returns-then-stated-present c = rw (was_none c.args.stated c.args.present c.if-stated-present.true) (wrote_nothing c.args.out.now c.args.at)

pub returns : goal.returns
returns c = rw (was_there c.args.stated c.args.present c.if-stated-present.false) c.write_number_line.ensures
