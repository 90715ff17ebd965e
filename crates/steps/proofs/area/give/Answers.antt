-- The words have room or not.
use Rattle.std.proofs.Common.{length}
use Rattle.steps.proofs.Copies.{given_short, given_all}
use Rattle.steps.proofs.area.give.Goals as goal

pub returns-then-out-words : goal.returns-then-out-words
returns-then-out-words c = let s = c.args in given_short (length s.out.now) s.words.now _ s.answer c.requires c.if-out-words.true

pub returns : goal.returns
returns c = let s = c.args in given_all (length s.out.now) s.words.now _ s.answer s.out.now c.requires c.if-out-words.false c.copy.ensures
