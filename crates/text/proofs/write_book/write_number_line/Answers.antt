-- `write_book::write_number_line` meets its contract: the key, the number and the end of the line are written one after the other.
use Rattle.std.proofs.Common.{arith}
use Rattle.text.proofs.Numbers.{decimal_few}
use Rattle.text.proofs.BookWrites.{number_line_wrote}
use Rattle.text.proofs.write_book.write_number_line.Goals as goal

pub overflow_add-result : goal.overflow_add-result
overflow_add-result c = omega (arith, c.write_number-end.ensures.0, c.put_key-to.ensures.0, decimal_few c.args.n, c.requires)

pub returns : goal.returns
returns c =
    number_line_wrote c.args.out.now c.put_key-to.new.out c.write_number-end.new.out _ c.args.key.now c.args.at _ _ c.args.n c.put_key-to.ensures c.write_number-end.ensures c.put.ensures
