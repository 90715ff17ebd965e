-- `notes::write_kept` meets its contract: the key, both numbers and what parts and ends them are written one after the other.
use Rattle.std.proofs.Common.{arith}
use Rattle.text.proofs.Laws.{decimal_short}
use Rattle.mend.proofs.Noting.{kept_wrote}
use Rattle.mend.proofs.notes.write_kept.Goals as goal

pub overflow_add-blank_at : goal.overflow_add-blank_at
overflow_add-blank_at c = omega (arith, c.requires, c.put_key-old_at.ensures.0, c.write_number-blank_at.ensures.0, decimal_short c.args.old (omega (arith, c.requires)))

pub write_number-end-requires : goal.write_number-end-requires
write_number-end-requires c = omega (arith, c.requires, c.put_key-old_at.ensures.0, c.write_number-blank_at.ensures.0, decimal_short c.args.old (omega (arith, c.requires)))

pub overflow_add-result : goal.overflow_add-result
overflow_add-result c =
    omega (arith, c.requires, c.put_key-old_at.ensures.0, c.write_number-blank_at.ensures.0, c.write_number-end.ensures.0, decimal_short c.args.old (omega (arith, c.requires)), decimal_short c.args.new (omega (arith, c.requires)))

pub returns : goal.returns
returns c =
    kept_wrote c.args.out.now c.put_key-old_at.new.out c.write_number-blank_at.new.out c.put.new.out c.write_number-end.new.out _ c.args.at _ _ _ c.args.old c.args.new
    c.put_key-old_at.ensures c.write_number-blank_at.ensures c.put.ensures c.write_number-end.ensures c.put-2.ensures
