-- The address leads on, or the node is damaged.
use Rattle.walk.proofs.Tells.{go_told}
use Rattle.walk.proofs.decide.go_on.Goals as goal

pub returns : goal.returns
returns c = λ term w e. rw (c.then_some.ensures) (go_told c.args.tree.now term w c.args.to _ (rw e c.leads_on.ensures))
