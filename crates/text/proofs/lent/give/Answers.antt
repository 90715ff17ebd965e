-- `lent::give` meets its contract: words that were accepted are put into the cleared slice where there is room.
use lib.ListN.{length}
use Rattle.text.proofs.Givens.{given_short, given_done}
use Rattle.text.proofs.lent.give.Goals as goal

pub returns-then-out-words : goal.returns-then-out-words
returns-then-out-words c =
    let s = c.args in given_short (length s.out.now) s.words.now _ _ c.in_default.is c.if-out-words.true c.requires

pub returns : goal.returns
returns c =
    let s = c.args in given_done (length s.out.now) s.words.now _ _ _ c.in_default.is c.if-out-words.false c.requires c.put_all.ensures
