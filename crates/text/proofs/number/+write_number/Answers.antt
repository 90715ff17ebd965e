-- `number::write_number` meets its contract: the digits of a tenth, then the last digit.
use Rattle.std.proofs.Common.{◌/◌, arith}
use Rattle.text.proofs.Numbers.{decimal_few}
use Rattle.text.proofs.Wrote.{one_digit, more_digits}
use Rattle.text.proofs.number.+write_number.Goals as goal

pub returns-then-n-lt-BASE : goal.returns-then-n-lt-BASE
returns-then-n-lt-BASE t c = one_digit c.args.out.now c.args.at c.args.n _ c.if-n-lt-BASE.true c.put.ensures

pub overflow_add-result-2 : goal.overflow_add-result-2
overflow_add-result-2 t c = omega (arith, c.write_number-last.ensures.0, decimal_few (c.args.n / 10), c.requires)

pub returns : goal.returns
returns t c = more_digits c.args.out.now c.args.at _ c.args.n _ _ c.if-n-lt-BASE.false c.write_number-last.ensures c.put-2.ensures
