-- `number::read_number` meets its contract: the tests that led to a return tell how the number begins.
use Rattle.std.proofs.Common.{arith, ◌∙◌}
use Rattle.text.proofs.Digits.{digit_told, nothing_there, no_digit, zero_there, number_told}
use Rattle.text.proofs.Calls.{byte_there, byte_past}
use Rattle.text.proofs.number.read_number.Goals as goal

pub returns-in_err-b : goal.returns-in_err-b
returns-in_err-b c = rw c.from_residual.ensures (nothing_there c.args.most c.args.text.now c.args.at (byte_past _ _ c.in_err-b.ensures.lookup.0))

pub returns-then-not-is_ascii_digit : goal.returns-then-not-is_ascii_digit
returns-then-not-is_ascii_digit c =
    let g = byte_there c.args.text.now c.args.at c.in_ok-b.field-0.now c.in_ok-b.ensures.lookup.0 c.in_ok-b.ensures.lookup.1 in
    no_digit c.args.most c.args.text.now c.args.at g.0 (rw g.1 (digit_told _ _ _ c.is_ascii_digit.ensures.value c.if-not-is_ascii_digit.true))

pub returns-then-b-eq-ZERO : goal.returns-then-b-eq-ZERO
returns-then-b-eq-ZERO c =
    let g = byte_there c.args.text.now c.args.at c.in_ok-b.field-0.now c.in_ok-b.ensures.lookup.0 c.in_ok-b.ensures.lookup.1 in
    (zero_there c.args.most c.args.text.now c.args.at g.0 (rw g.1 (digit_told _ _ _ c.is_ascii_digit.ensures.value c.if-not-is_ascii_digit.false)) (g.1 ∙ c.if-b-eq-ZERO.true), omega arith, omega arith, omega (arith, g.0))

pub returns : goal.returns
returns c =
    let g = byte_there c.args.text.now c.args.at c.in_ok-b.field-0.now c.in_ok-b.ensures.lookup.0 c.in_ok-b.ensures.lookup.1 in
    number_told c.args.most c.args.text.now c.args.at g.0 _ (rw g.1 (digit_told _ _ _ c.is_ascii_digit.ensures.value c.if-not-is_ascii_digit.false)) (rw g.1 c.if-b-eq-ZERO.false) c.read_digits.ensures
