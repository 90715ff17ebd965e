-- `token::read_token` meets its contract: the letter tells the row of the table.
use Rattle.std.proofs.Common.{arith, ◌∙◌}
use Rattle.text.proofs.Letters.{no_letter, symbol_there, abstraction_there, letter_v, pattern_there, other_letter}
use Rattle.text.proofs.Calls.{byte_there, byte_past}
use Rattle.text.proofs.token.read_token.Goals as goal

pub returns-in_err-get : goal.returns-in_err-get
returns-in_err-get c = rw c.from_residual.ensures (no_letter c.args.text.now c.args.at (byte_past _ _ c.in_err-get.ensures.lookup.0))

pub returns-in-115 : goal.returns-in-115
returns-in-115 c =
    let g = byte_there c.args.text.now c.args.at c.in_ok-get.field-0.now c.in_ok-get.ensures.lookup.0 c.in_ok-get.ensures.lookup.1 in
    symbol_there c.args.text.now c.args.at g.0 (g.1 ∙ c.in-115.is) _ c.read_dotted.ensures

pub returns-in-108 : goal.returns-in-108
returns-in-108 c =
    let g = byte_there c.args.text.now c.args.at c.in_ok-get.field-0.now c.in_ok-get.ensures.lookup.0 c.in_ok-get.ensures.lookup.1 in
    abstraction_there c.args.text.now c.args.at g.0 (λ e. omega (arith, e, g.1)) (g.1 ∙ c.in-108.is)

pub returns-in-118 : goal.returns-in-118
returns-in-118 c =
    let g = byte_there c.args.text.now c.args.at c.in_ok-get.field-0.now c.in_ok-get.ensures.lookup.0 c.in_ok-get.ensures.lookup.1 in
    letter_v c.args.text.now c.args.at g.0 (λ e. omega (arith, e, g.1)) (λ e. omega (arith, e, g.1)) (g.1 ∙ c.in-118.is) _ c.read_variable.ensures

pub returns-in-109 : goal.returns-in-109
returns-in-109 c =
    let g = byte_there c.args.text.now c.args.at c.in_ok-get.field-0.now c.in_ok-get.ensures.lookup.0 c.in_ok-get.ensures.lookup.1 in
    pattern_there c.args.text.now c.args.at g.0 (λ e. omega (arith, e, g.1)) (λ e. omega (arith, e, g.1)) (λ e. omega (arith, e, g.1)) (g.1 ∙ c.in-109.is) _ c.read_dotted-in-109.ensures

pub returns-in_default : goal.returns-in_default
returns-in_default c =
    let g = byte_there c.args.text.now c.args.at c.in_ok-get.field-0.now c.in_ok-get.ensures.lookup.0 c.in_ok-get.ensures.lookup.1 in
    other_letter c.args.text.now c.args.at g.0 (λ e. omega (arith, e, g.1)) (λ e. omega (arith, e, g.1)) (λ e. omega (arith, e, g.1)) (λ e. omega (arith, e, g.1))
