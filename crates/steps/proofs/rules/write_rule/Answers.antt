-- Where the rule is there, its sides lie within the book, and its right side is written with the arguments that it sets aside.
use Rattle.std.proofs.Common.{arith, sym, ◌∙◌}
use Rattle.steps.proofs.Refusals.{refused_as}
use Rattle.steps.proofs.Rewrites.{rule_absent, right_lies, left_lies, rule_written}
use Rattle.steps.proofs.rules.write_rule.Goals as goal

pub returns-in_err-sides : goal.returns-in_err-sides
returns-in_err-sides c =
    let s = c.args in
    rw (refused_as _ _ _ c.from_residual.result c.in_err-sides.ensures.value c.from_residual.ensures.1)
    (rule_absent s.book.now c.requires.0 s.number s.part.now s.bodies.now s.lengths.now _ (sym c.find_rule.ensures ∙ c.in_err-sides.ensures.ok_part) _)

pub offset_bounds-book-sides : goal.offset_bounds-book-sides
offset_bounds-book-sides c =
    let s = c.args in
    let lies = left_lies s.book.now c.requires.0 s.number s.part.now s.bodies.now s.lengths.now s.out.now _ (sym c.find_rule.ensures ∙ c.in_ok-sides.ensures.ok_part) in
    omega arith

pub bounds-book-sides : goal.bounds-book-sides
bounds-book-sides c = let s = c.args in left_lies s.book.now c.requires.0 s.number s.part.now s.bodies.now s.lengths.now s.out.now _ (sym c.find_rule.ensures ∙ c.in_ok-sides.ensures.ok_part)

pub offset_bounds-book-sides-2 : goal.offset_bounds-book-sides-2
offset_bounds-book-sides-2 c =
    let s = c.args in
    let lies = right_lies s.book.now c.requires.0 s.number s.part.now s.bodies.now s.lengths.now s.out.now _ (sym c.find_rule.ensures ∙ c.in_ok-sides.ensures.ok_part) in
    omega arith

pub slice_bounds-right-count : goal.slice_bounds-right-count
slice_bounds-right-count c = let s = c.args in (right_lies s.book.now c.requires.0 s.number s.part.now s.bodies.now s.lengths.now s.out.now _ (sym c.find_rule.ensures ∙ c.in_ok-sides.ensures.ok_part)).0

pub slice_bounds-right-start : goal.slice_bounds-right-start
slice_bounds-right-start c = let s = c.args in (right_lies s.book.now c.requires.0 s.number s.part.now s.bodies.now s.lengths.now s.out.now _ (sym c.find_rule.ensures ∙ c.in_ok-sides.ensures.ok_part)).0

pub slice_bounds-right-end : goal.slice_bounds-right-end
slice_bounds-right-end c = let s = c.args in (right_lies s.book.now c.requires.0 s.number s.part.now s.bodies.now s.lengths.now s.out.now _ (sym c.find_rule.ensures ∙ c.in_ok-sides.ensures.ok_part)).1

pub returns : goal.returns
returns c =
    let s = c.args in
    rule_written s.book.now c.requires.0 s.number s.part.now s.bodies.now s.lengths.now _ _ (sym c.find_rule.ensures ∙ c.in_ok-sides.ensures.ok_part) _ c.count_of-b.ensures _ c.write_front.ensures
