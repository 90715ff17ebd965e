-- `token::read_variable` meets its contract: a variable's id is a number from 1 on.
use Rattle.std.proofs.Common.{arith}
use Rattle.text.proofs.Letters.{variable_there}
use Rattle.text.proofs.token.read_variable.Goals as goal

pub returns : goal.returns
returns c = variable_there _ _ c.in_ok-i.i c.in_ok-i.next c.in_ok-i.ensures (omega arith)
