-- The words have one at an offset below their length.
use Rattle.compiler.proofs.LoadLaws.{word_in, word_past}
use Rattle.compiler.proofs.load.word_or.Goals as goal

pub returns-then-o-left : goal.returns-then-o-left
returns-then-o-left c = word_in c.args.left.now c.args.o c.if-o-left.true

pub returns-else-o-left : goal.returns-else-o-left
returns-else-o-left c = word_past c.args.left.now c.args.o c.if-o-left.false
