-- `rules::match_rule` meets its contract: one law for each way.
use Rattle.std.proofs.Common.{ℕ, length, replicate, sym, ap, ◌∙◌, rules}
use Rattle.fit.proofs.Matched.{match_bad_book, match_no_rule, match_bad_term, match_fits, sides_few, sides_lie, left_begins, left_short, term_begins, term_short}
use Rattle.fit.proofs.rules.match_rule.Goals as goal

pub returns-in-Err : goal.returns-in-Err
returns-in-Err c =
    let s = c.args in
    match_bad_book s.book.now s.number s.term.now (length s.bodies.now) _ _ c.clear.ensures (search rules) _ (sym c.accept_book.ensures ∙ c.in-Err.is) _ c.refuse.ensures

pub returns-in_default-find_rule : goal.returns-in_default-find_rule
returns-in_default-find_rule c =
    let s = c.args in
    match_no_rule s.book.now s.number s.term.now (length s.bodies.now) _ _ c.clear.ensures (search rules) (sym c.accept_book.ensures ∙ c.in_default.is)
    (sym c.find_rule.ensures ∙ c.in_default-find_rule.is) _ c.refuse-in_default-find_rule.ensures

pub returns-in-Err-check_term : goal.returns-in-Err-check_term
returns-in-Err-check_term c =
    let s = c.args in
    match_bad_term s.book.now s.number s.term.now (length s.bodies.now) _ _ c.clear.ensures (search rules) (sym c.accept_book.ensures ∙ c.in_default.is)
    _ (sym c.find_rule.ensures ∙ c.in-Some.is) _ (sym c.check_term.ensures ∙ c.in-Err-check_term.is) _ c.refuse-in-Err-check_term.ensures

pub left-requires : goal.left-requires
left-requires c = let s = c.args in sides_lie s.book.now s.number s.term.now 0 (sym c.accept_book.ensures ∙ c.in_default.is) _ (sym c.find_rule.ensures ∙ c.in-Some.is)

pub invariant_of-pair : goal.invariant_of-pair
invariant_of-pair c =
    let s = c.args in
    let a = sym c.accept_book.ensures ∙ c.in_default.is in
    let f = sym c.find_rule.ensures ∙ c.in-Some.is in
    let t = sym c.check_term.ensures ∙ c.in_default-check_term.is in
    record {
      few = sides_few s.book.now s.number s.term.now 0 a _ f;
      left_begins = rw c.left.ensures (left_begins s.book.now s.number s.term.now 0 a _ f);
      left_short = rw c.left.ensures (left_short s.book.now s.number s.term.now 0 a _ f);
      term_begins = term_begins s.book.now s.number s.term.now 0 a _ f t;
      term_short = term_short s.book.now s.number s.term.now 0 a _ f t;
    }

pub fit_rule-requires : goal.fit_rule-requires
fit_rule-requires c = (c.clear.ensures ∙ ap (λ (n : ℕ). replicate n 0) (sym c.clear.auto.out), search rules)

pub returns : goal.returns
returns c =
    let s = c.args in
    match_fits s.book.now s.number s.term.now (length s.bodies.now) (sym c.accept_book.ensures ∙ c.in_default.is) _ (sym c.find_rule.ensures ∙ c.in-Some.is)
    (sym c.check_term.ensures ∙ c.in_default-check_term.is) _ _ _ (rw (c.clear.auto.out, c.left.ensures) at c.fit_rule.ensures)
