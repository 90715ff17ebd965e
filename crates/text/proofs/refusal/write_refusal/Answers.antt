-- `refusal::write_refusal` meets its contract: its two lines are written one after the other.
use Rattle.std.proofs.Common.{arith, rules}
use Rattle.text.specs.Refusal.{answer_key}
use Rattle.text.proofs.Above.{number_text_short}
use Rattle.text.proofs.Refusals.{number_small, refusal_wrote}
use Rattle.text.proofs.refusal.write_refusal.Goals as goal

pub write_number_line-requires : goal.write_number_line-requires
write_number_line-requires c =
    let m = number_small c.args.answer in
    (omega (arith, c.write_number_line-at.ensures.0, number_text_short answer_key c.number.result (omega (arith, c.number.ensures, m))), search rules, omega (arith, c.place.ensures, c.requires))

pub returns : goal.returns
returns c =
    refusal_wrote c.args.answer c.args.out.now c.write_number_line-at.new.out _ c.write_number_line-at.result _ c.requires (rw c.number.ensures at c.write_number_line-at.ensures) (rw c.place.ensures at c.write_number_line.ensures)
