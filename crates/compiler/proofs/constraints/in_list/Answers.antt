-- The search goes over the words of the list.
use Rattle.std.proofs.Common.{◌∙◌, arith}
use Rattle.compiler.proofs.Searches.{in_list_is}
use Rattle.compiler.proofs.constraints.in_list.Goals as goal

pub returns : goal.returns
returns c = c.contains.ensures.value ∙ rw c.list_at.ensures (in_list_is c.args.fixed.now c.args.w c.args.k (omega arith))
