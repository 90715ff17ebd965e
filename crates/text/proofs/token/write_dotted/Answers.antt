-- `token::write_dotted` meets its contract: the id, the dot and the count are written one after the other.
use Rattle.std.proofs.Common.{arith}
use Rattle.term.specs.Word.{count_of, ident_of}
use Rattle.text.specs.Number.{decimal}
use Rattle.text.specs.Token.{dotted}
use Rattle.text.proofs.Numbers.{decimal_few}
use Rattle.text.proofs.Wrote.{wrote_then, wrote_first}
use Rattle.text.proofs.token.write_dotted.Goals as goal

pub overflow_add-dot : goal.overflow_add-dot
overflow_add-dot c = omega (arith, c.write_number-dot.ensures.0, decimal_few c.id_of.result, c.id_of.ensures, c.requires)

pub write_number-requires : goal.write_number-requires
write_number-requires c = omega (arith, c.write_number-dot.ensures.0, decimal_few c.id_of.result, c.id_of.ensures, c.requires)

pub returns : goal.returns
unfolding dotted
returns c =
    wrote_then c.args.out.now c.args.at _ _ c.write_number-dot.new.out _ (decimal (ident_of c.args.w)) _ (rw c.id_of.ensures at c.write_number-dot.ensures)
    (wrote_first c.write_number-dot.new.out _ 46 _ c.put.new.out _ (decimal (count_of c.args.w)) c.put.ensures (rw c.count_of.ensures at c.write_number.ensures))
