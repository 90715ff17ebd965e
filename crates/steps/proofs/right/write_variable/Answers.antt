-- A variable that is within the limits passes each test, and one that passes them is one word more.
use Rattle.std.proofs.Common.{arith}
use Rattle.steps.proofs.Singles.{single_needs, single_wrote}
use Rattle.steps.proofs.right.write_variable.Goals as goal

pub returns-then-levels-eq0 : goal.returns-then-levels-eq0
returns-then-levels-eq0 c = λ f n l. let needs = single_needs c.args.i c.args.levels c.args.out.now c.args.to f n l in omega (arith, c.then-levels-eq0.either)

pub returns : goal.returns
returns c = let s = c.args in single_wrote s.i s.levels s.out.now s.to (omega arith) (omega arith) (omega arith) (omega arith) _ c.put.ensures
