-- The splice has room or not, and the whole is checked.
use Rattle.std.proofs.Common.{rules, arith, sym, ◌∙◌, ap, take}
use Rattle.std.proofs.lemmas.List.{length-take-le}
use Rattle.std.specs.Result.{is_err}
use Rattle.term.specs.declared.answer.Answer.TheVariants as answer
use Rattle.steps.proofs.Refusals.{refused_as, mapped_as, kept_as}
use Rattle.steps.proofs.Moves.{replace_long, replace_few, replace_bad, replace_good}
use Rattle.steps.proofs.simplify.replace.Goals as goal

pub returns-in_err-whole : goal.returns-in_err-whole
returns-in_err-whole c =
    let s = c.args in
    rw (refused_as _ _ _ c.from_residual.result c.in_err-whole.ensures.value c.from_residual.ensures.1)
    (replace_long (take s.size s.area.now) s.at (take s.n s.new.now) _ (rw c.in_err-whole.ensures.ok_part at c.splice.ensures))

pub slice_bounds-check_term-end : goal.slice_bounds-check_term-end
slice_bounds-check_term-end c =
    let s = c.args in
    let few = replace_few (take s.size s.area.now) s.at (take s.n s.new.now) c.splice.new.area _ (rw c.in_ok-whole.ensures.ok_part at c.splice.ensures) in
    sym (length-take-le _ _ (omega (arith, c.splice.array_long)))

pub shared_ref_as_front-check_term : goal.shared_ref_as_front-check_term
shared_ref_as_front-check_term c = let s = c.args in replace_few (take s.size s.area.now) s.at (take s.n s.new.now) c.splice.new.area _ (rw c.in_ok-whole.ensures.ok_part at c.splice.ensures)

pub returns-in_err-map_err : goal.returns-in_err-map_err
returns-in_err-map_err c =
    let s = c.args in
    let bad = mapped_as c.check_term.result c.map_err.result answer.Over _ _ (search rules) c.in_err-map_err.was c.from_residual-in_err-map_err.ensures.1 in
    rw bad.1 (replace_bad (take s.size s.area.now) s.at (take s.n s.new.now) _ _ (rw c.in_ok-whole.ensures.ok_part at c.splice.ensures) (ap is_err (sym c.check_term.ensures) ∙ bad.0))

pub returns : goal.returns
returns c =
    let s = c.args in
    replace_good (take s.size s.area.now) s.at (take s.n s.new.now) _ _ (rw c.in_ok-whole.ensures.ok_part at c.splice.ensures) (ap is_err (sym c.check_term.ensures) ∙ kept_as c.check_term.result c.map_err.result answer.Over _ (search rules) c.in_ok-map_err.was)
