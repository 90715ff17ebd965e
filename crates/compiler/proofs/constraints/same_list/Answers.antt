-- Lists of words are the same where they are of one length and no word differs.
use Rattle.std.proofs.Common.{◌∙◌, arith}
use Rattle.compiler.proofs.Searches.{same_list_is}
use Rattle.compiler.proofs.constraints.same_list.Goals as goal

pub returns : goal.returns
returns c = c.eq.ensures ∙ rw (c.list_at.ensures, c.list_at-2.ensures) (same_list_is c.args.fixed.now c.args.a c.args.b (omega arith) (omega arith))
