-- `build::build_left` meets its contract: the book, then the rule, and then what its left side builds.
use Rattle.std.proofs.Common.{length, sym, ◌∙◌, arith}
use Rattle.book.proofs.Laws.{sides_rule, sides_none}
use Rattle.fit.proofs.BuildAnswers.{bad_book, no_rule, few_vars, of_rule}
use Rattle.fit.proofs.build.build_left.Goals as goal

pub returns-in-Err : goal.returns-in-Err
returns-in-Err c =
    let s = c.args in
    bad_book s.book.now s.number s.bodies.now s.lengths.now (length s.out.now) _ c.clear.ensures _ (sym c.accept_book.ensures ∙ c.in-Err.is)

pub returns-in_default-find_rule : goal.returns-in_default-find_rule
returns-in_default-find_rule c =
    let s = c.args in
    no_rule s.book.now s.number s.bodies.now s.lengths.now (length s.out.now) _ c.clear-in_default-find_rule.ensures (sym c.accept_book.ensures ∙ c.in_default.is)
    (sides_none s.book.now s.number (sym c.find_rule.ensures ∙ c.in_default-find_rule.is))

pub left-requires : goal.left-requires
left-requires c =
    let r = sides_rule c.args.book.now c.args.number c.in-Some.sides (sym c.find_rule.ensures ∙ c.in-Some.is) in
    (r.2.left_first, omega (arith, r.2.right_next, r.2.within))

pub build_given-requires : goal.build_given-requires
build_given-requires c =
    let s = c.args in
    few_vars s.book.now s.number (sym c.accept_book.ensures ∙ c.in_default.is) c.in-Some.sides (sym c.find_rule.ensures ∙ c.in-Some.is)

pub returns : goal.returns
returns c =
    let s = c.args in
    of_rule s.book.now s.number (sym c.accept_book.ensures ∙ c.in_default.is) c.in-Some.sides (sym c.find_rule.ensures ∙ c.in-Some.is)
    s.bodies.now s.lengths.now (length s.out.now) _ _ (rw c.left.ensures at c.build_given.ensures)
