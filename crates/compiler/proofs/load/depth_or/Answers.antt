-- The words have one at an offset below their length.
use Rattle.compiler.proofs.LoadLaws.{depth_in, depth_past}
use Rattle.compiler.proofs.load.depth_or.Goals as goal

pub returns-then-o-left : goal.returns-then-o-left
returns-then-o-left c = depth_in c.args.left.now c.args.o _ c.if-o-left.true c.depth_of.ensures

pub returns-else-o-left : goal.returns-else-o-left
returns-else-o-left c = depth_past c.args.left.now c.args.o c.if-o-left.false
