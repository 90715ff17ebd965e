-- The abstraction that many back is the one with that mark.
use Rattle.std.proofs.Common.{rules}
use Rattle.steps.proofs.Depths.{around, own_id_is}
use Rattle.steps.proofs.under.Under.own_id.Goals as goal

pub returns : goal.returns
returns c = own_id_is _ (around c.args.self (search rules)) c.args.i
