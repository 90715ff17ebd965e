-- `build::build_given` meets its contract: each way out is the answer that the definition gives, over a cleared slice.
use Rattle.std.proofs.Common.{length, sym, ◌∙◌, arith}
use Rattle.term.proofs.Laws.{cleared}
use Rattle.fit.proofs.BuildAnswers.{rule_lengths, rule_body, rule_over, rule_wrote, rule_short}
use Rattle.fit.proofs.build.build_given.Goals as goal

pub returns-then-not-good_lengths : goal.returns-then-not-good_lengths
returns-then-not-good_lengths c =
    let s = c.args in
    rule_lengths s.vars s.left.now s.bodies.now.words.now s.bodies.now.lengths.now (length s.out.now) (sym c.good_lengths.ensures ∙ c.if-not-good_lengths.true) _ c.clear.ensures

pub returns-in-Err : goal.returns-in-Err
returns-in-Err c =
    let s = c.args in
    rule_body s.vars s.left.now s.bodies.now.words.now s.bodies.now.lengths.now (length s.out.now) (sym c.good_lengths.ensures ∙ c.if-not-good_lengths.false) c.in-Err.x
    (rw c.in-Err.is at c.check_bodies.ensures) _ c.clear.ensures

pub returns-in_default-build_row : goal.returns-in_default-build_row
returns-in_default-build_row c =
    let s = c.args in
    rule_over s.vars s.left.now s.bodies.now.words.now s.bodies.now.lengths.now (length s.out.now) (sym c.good_lengths.ensures ∙ c.if-not-good_lengths.false)
    (rw c.in_default.is at c.check_bodies.ensures) _ _ c.in_default-build_row.ensures _
    (cleared _ _ _ (c.build_row.auto.out ∙ c.clear.auto.out) c.clear-in_default-build_row.ensures)

pub returns-then-out-n : goal.returns-then-out-n
returns-then-out-n c =
    let s = c.args in
    rule_short s.vars s.left.now s.bodies.now.words.now s.bodies.now.lengths.now (length s.out.now) (sym c.good_lengths.ensures ∙ c.if-not-good_lengths.false)
    (rw c.in_default.is at c.check_bodies.ensures) _ _ _ _ c.in-Some.ensures (omega (arith, c.build_row.auto.out ∙ c.clear.auto.out)) _
    (cleared _ _ _ (c.build_row.auto.out ∙ c.clear.auto.out) c.clear-then-out-n.ensures)

pub returns : goal.returns
returns c =
    let s = c.args in
    rule_wrote s.vars s.left.now s.bodies.now.words.now s.bodies.now.lengths.now (length s.out.now) (sym c.good_lengths.ensures ∙ c.if-not-good_lengths.false)
    (rw c.in_default.is at c.check_bodies.ensures) _ _ _ _ c.in-Some.ensures c.clear.ensures (omega (arith, c.build_row.auto.out ∙ c.clear.auto.out))
