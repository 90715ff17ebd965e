-- What is left to seek gives the answer: at the start, after each rule and where there is no rule to pass.
use Rattle.std.proofs.Common.{◌≡◌, ◌+◌, ◌-◌, sym, ◌∙◌, arith, rules}
use Rattle.book.proofs.Places.{rule_placed, find_empty, find_beyond, find_start, find_none, find_next, find_done}
use Rattle.book.proofs.book.find_rule.Goals as goal
use Rattle.book.proofs.book.find_rule.Goals.{then-is_empty-via-then-is_empty, then-is_empty-via-else-is_empty+then-words-number}

pub returns-then-is_empty : goal.returns-then-is_empty
returns-then-is_empty c =
    elim c.then-is_empty.branch [
      | then-is_empty-via-then-is_empty w ↦ find_empty _ _ (search rules)
      | then-is_empty-via-else-is_empty+then-words-number w ↦ find_beyond _ _ (search rules) w.if-words-number.true
    ]

pub loop-init : goal.loop-init
loop-init c =
    let all : c.args.number - 0 ≡ c.args.number = omega arith in
    rw all (find_start _ _ (search rules) c.if-words-number.false)

pub returns-in_err-at : goal.returns-in_err-at
returns-in_err-at c =
    let q = c.loop in
    c.from_residual.ensures ∙ find_none c.args.words.now c.args.number q.at _ q.invariant (sym c.in_err-at.was ∙ c.sides_from.ensures)

pub loop-preserved : goal.loop-preserved
loop-preserved c =
    let q = c.loop in
    let fewer : c.args.number - (q.counter + 1) ≡ c.args.number - q.counter - 1 = omega arith in
    rw fewer (find_next c.args.words.now c.args.number q.at _ (omega (arith, c.loop-test.true)) q.invariant c.in_ok-at.field-0
    (rule_placed c.args.words.now q.at c.in_ok-at.field-0 (sym c.in_ok-at.was ∙ c.sides_from.ensures)))

pub returns : goal.returns
returns c =
    let q = c.loop in
    find_done c.args.words.now c.args.number q.at _ (omega (arith, c.loop-test.false)) q.invariant _ c.sides_from-2.ensures
