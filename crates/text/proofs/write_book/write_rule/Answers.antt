-- `write_book::write_rule` meets its contract: its four lines are written one after the other.
use Rattle.std.proofs.Common.{arith}
use Rattle.text.specs.BookText.{rule_key, vars_key, left_key}
use Rattle.text.proofs.BookWrites.{number_line_short, side_short, rule_wrote}
use Rattle.text.proofs.write_book.write_rule.Goals as goal

pub write_number_line-left_at-requires : goal.write_number_line-left_at-requires
write_number_line-left_at-requires c =
    (omega (arith, c.write_number_line-vars_at.ensures.0, number_line_short rule_key c.args.number (omega (arith, c.requires)), c.requires), omega arith, omega (arith, c.requires))

pub write_side-right_at-requires : goal.write_side-right_at-requires
write_side-right_at-requires c =
    let r = number_line_short rule_key c.args.number (omega (arith, c.requires)) in
    let v = number_line_short vars_key c.args.vars (omega (arith, c.requires)) in
    (omega (arith, c.write_number_line-left_at.ensures.0, c.write_number_line-vars_at.ensures.0, r, v, c.requires), omega arith, c.requires.3)

pub write_side-requires : goal.write_side-requires
write_side-requires c =
    let r = number_line_short rule_key c.args.number (omega (arith, c.requires)) in
    let v = number_line_short vars_key c.args.vars (omega (arith, c.requires)) in
    (omega (arith, c.write_side-right_at.ensures.0, c.write_number_line-left_at.ensures.0, c.write_number_line-vars_at.ensures.0, r, v, side_short left_key c.args.left.now c.requires.3, c.requires), omega arith, c.requires.4)

pub returns : goal.returns
returns c =
    rule_wrote c.args.out.now c.write_number_line-vars_at.new.out c.write_number_line-left_at.new.out c.write_side-right_at.new.out _ c.args.at _ _ _ _ c.args.number
    (record { vars = c.args.vars; left = c.args.left.now; right = c.args.right.now }) c.write_number_line-vars_at.ensures c.write_number_line-left_at.ensures c.write_side-right_at.ensures c.write_side.ensures
