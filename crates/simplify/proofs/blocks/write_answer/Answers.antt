-- `blocks::write_answer` meets its contract: its lines are written one after the other.
use borrow.Author.Rules.{rules}
use native.Mathlib.Omega.{arith}
use Rattle.text.specs.Refusal.{answer_key}
use Rattle.text.proofs.Laws.{number_text_short, number_small}
use Rattle.simplify.specs.File.{term_key}
use Rattle.simplify.specs.Printed.{steps_key}
use Rattle.simplify.proofs.BlockTexts.{answer_wrote}
use Rattle.simplify.proofs.blocks.write_answer.Goals as goal

pub write_number_line-steps_at-requires : goal.write_number_line-steps_at-requires
write_number_line-steps_at-requires c =
    let s = c.args in
    let l = number_text_short term_key s.term (omega (arith, c.requires)) in
    (omega (arith, c.write_number_line-answer_at.ensures.0, l), search rules, omega (arith, c.number.ensures, number_small s.answer))

pub write_number_line-result_at-requires : goal.write_number_line-result_at-requires
write_number_line-result_at-requires c =
    let s = c.args in
    let n = c.number.ensures in
    let m = number_small s.answer in
    let l = number_text_short term_key s.term (omega (arith, c.requires)) in
    let k = number_text_short answer_key c.number.result (omega (arith, n, m)) in
    (omega (arith, c.write_number_line-answer_at.ensures.0, c.write_number_line-steps_at.ensures.0, l, k), search rules, omega (arith, c.requires))

pub put_key-requires : goal.put_key-requires
put_key-requires c =
    let s = c.args in
    let n = c.number.ensures in
    let m = number_small s.answer in
    let l = number_text_short term_key s.term (omega (arith, c.requires)) in
    let k = number_text_short answer_key c.number.result (omega (arith, n, m)) in
    let j = number_text_short steps_key s.steps (omega (arith, c.requires)) in
    (omega (arith, c.write_number_line-answer_at.ensures.0, c.write_number_line-steps_at.ensures.0, c.write_number_line-result_at.ensures.0, l, k, j), search rules)

pub returns : goal.returns
returns c =
    let s = c.args in
    answer_wrote s.term s.answer s.steps s.out.now c.write_number_line-answer_at.new.out c.write_number_line-steps_at.new.out c.write_number_line-result_at.new.out _ c.write_number_line-answer_at.result c.write_number_line-steps_at.result c.write_number_line-result_at.result _ c.requires.0 c.requires.1 c.write_number_line-answer_at.ensures (rw c.number.ensures at c.write_number_line-steps_at.ensures) c.write_number_line-result_at.ensures c.put_key.ensures
