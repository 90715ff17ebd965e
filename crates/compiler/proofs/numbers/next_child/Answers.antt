-- The next tree begins after the words of this one, or past the left side.
use Rattle.compiler.proofs.NumberLaws.{next_over, next_in}
use Rattle.compiler.proofs.numbers.next_child.Goals as goal

pub returns-then-to-child : goal.returns-then-to-child
returns-then-to-child c = next_over c.args.fixed.now c.args.child c.args.to _ c.part_end-words.ensures c.if-to-child.true

pub returns-else-to-child : goal.returns-else-to-child
returns-else-to-child c = next_in c.args.fixed.now c.args.child c.args.to _ c.part_end-words.ensures c.if-to-child.false
