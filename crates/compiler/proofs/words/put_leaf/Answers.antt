-- The words are set one after the other, and the variables' follow them.
use Rattle.compiler.proofs.WordLaws.{leaf_put}
use Rattle.compiler.proofs.words.put_leaf.Goals as goal

pub returns : goal.returns
returns c =
    leaf_put c.args.fixed.now c.args.nums.now c.args.marks.now c.args.out.now c.args.at c.args.r _ _ _ _ _ _ _ c.aside_of.ensures c.put.ensures c.put-2.ensures c.put-3.ensures c.put-4.ensures
    c.put_variables.ensures.0 c.put_variables.ensures.1
