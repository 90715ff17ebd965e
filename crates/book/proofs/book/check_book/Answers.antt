-- `book::check_book` meets its contract: what is left to judge gives the answer, at every turn.
use Rattle.std.proofs.Common.{◌≡◌, get_or, sym, ◌∙◌, arith, rules}
use Rattle.book.proofs.Places.{rule_placed, book_empty, book_many, book_start, book_no_rule, book_bad_rule, book_next, book_left_over, book_good}
use Rattle.book.proofs.book.check_book.Goals as goal

pub returns-then-is_empty : goal.returns-then-is_empty
returns-then-is_empty c = book_empty _ (search rules)

pub returns-then-rules-gt-MOST_RULES_LONG : goal.returns-then-rules-gt-MOST_RULES_LONG
returns-then-rules-gt-MOST_RULES_LONG c = book_many _ (search rules) c.if-rules-gt-MOST_RULES_LONG.true

pub loop-number-init : goal.loop-number-init
loop-number-init c = book_start _ (search rules) c.if-rules-gt-MOST_RULES_LONG.false

pub returns-in_default : goal.returns-in_default
returns-in_default c =
    let q = c.loop-number in
    book_no_rule c.args.words.now _ q.at q.number q.invariant c.loop-number-test.true (sym c.in_default.is ∙ c.sides_from.ensures)

pub left-requires : goal.left-requires
left-requires c =
    let p = rule_placed c.args.words.now c.loop-number.at c.in-Some.sides (sym c.in-Some.is ∙ c.sides_from.ensures) in
    (p.left_first, omega (arith, p.right_next, p.within))

pub right-requires : goal.right-requires
right-requires c =
    let p = rule_placed c.args.words.now c.loop-number.at c.in-Some.sides (sym c.in-Some.is ∙ c.sides_from.ensures) in
    (p.right_next, p.within)

pub returns-then-not-good_rule : goal.returns-then-not-good_rule
returns-then-not-good_rule c =
    let q = c.loop-number in
    book_bad_rule c.args.words.now _ q.at q.number q.invariant c.loop-number-test.true c.in-Some.sides
    (rule_placed c.args.words.now q.at c.in-Some.sides (sym c.in-Some.is ∙ c.sides_from.ensures)) (sym (rw (c.left.ensures, c.right.ensures) at c.good_rule.ensures) ∙ c.if-not-good_rule.true)

pub loop-number-preserved : goal.loop-number-preserved
loop-number-preserved c =
    let q = c.loop-number in
    book_next c.args.words.now (get_or c.args.words.now 0 0) q.at q.number q.invariant c.loop-number-test.true c.in-Some.sides
    (rule_placed c.args.words.now q.at c.in-Some.sides (sym c.in-Some.is ∙ c.sides_from.ensures)) (sym (rw (c.left.ensures, c.right.ensures) at c.good_rule.ensures) ∙ c.if-not-good_rule.false)

pub returns-then-at-words : goal.returns-then-at-words
returns-then-at-words c =
    let q = c.loop-number in
    let e : q.number ≡ get_or c.args.words.now 0 0 = omega arith in
    rw (← e) (book_left_over c.args.words.now _ q.at q.number q.invariant c.loop-number-test.false c.if-at-words.true)

pub returns : goal.returns
returns c = let q = c.loop-number in book_good c.args.words.now _ q.at q.number q.invariant c.loop-number-test.false c.if-at-words.false
