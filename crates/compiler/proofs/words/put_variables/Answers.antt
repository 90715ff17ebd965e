-- The words of the variables passed are written, and those of the next one follow them.
use Rattle.compiler.proofs.WordLaws.{leaf_next, leaf_end}
use Rattle.compiler.proofs.words.put_variables.Goals as goal

pub loop-x-preserved : goal.loop-x-preserved
loop-x-preserved c = let q = c.loop-x in leaf_next c.args.fixed.now c.args.nums.now c.args.out.now c.args.at c.args.r _ q.out q.a q.x q.invariant c.loop-x-test.true _ c.variable_spot-k.ensures _ _ c.put_occurrence-a.ensures.0 c.put_occurrence-a.ensures.1

pub returns : goal.returns
returns c = let q = c.loop-x in leaf_end c.args.fixed.now c.args.nums.now c.args.out.now c.args.at c.args.r _ q.out q.a q.x q.invariant c.loop-x-test.false
