-- `input::read_term_line` meets its contract: the key stands there and then the line of tokens, or one does not.
use Rattle.simplify.proofs.Lines.{no_key, line_there}
use Rattle.simplify.proofs.input.read_term_line.Goals as goal

pub returns-in_err-tokens : goal.returns-in_err-tokens
returns-in_err-tokens c = rw c.from_residual.ensures (no_key c.args.text.now c.args.at c.in_err-tokens.ensures)

pub returns : goal.returns
returns c = line_there c.args.text.now c.args.at c.in_ok-tokens.tokens c.args.words.now _ _ c.requires c.in_ok-tokens.ensures c.read_line.ensures
