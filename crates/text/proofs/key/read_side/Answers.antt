-- `key::read_side` meets its contract: the key stands there and then the line of tokens, or one does not.
use Rattle.text.proofs.KeySteps.{no_side, side_there}
use Rattle.text.proofs.key.read_side.Goals as goal

pub returns-in_err-a : goal.returns-in_err-a
returns-in_err-a c = rw c.from_residual.ensures (no_side c.args.key.now c.args.text.now c.args.at c.args.to c.args.out.now c.args.out.now c.in_err-a.ensures)

pub returns : goal.returns
returns c = side_there c.args.key.now c.args.text.now c.args.at c.args.to c.args.out.now _ c.in_ok-a.a _ c.in_ok-a.ensures c.read_line.ensures
