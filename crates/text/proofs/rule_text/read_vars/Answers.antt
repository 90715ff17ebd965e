-- `rule_text::read_vars` meets its contract: each line tells what is left to read.
use Rattle.std.proofs.lemmas.Result.{err_from_is_err_and}
use Rattle.text.proofs.Calls.{some_asked, none_asked}
use Rattle.text.proofs.RuleSteps.{no_rule, other_rule, rule_left}
use Rattle.text.proofs.rule_text.read_vars.Goals as goal

pub returns-in_err-k : goal.returns-in_err-k
returns-in_err-k c =
    let p = err_from_is_err_and c.from_residual.result c.from_residual.ensures.1 in
    let n = none_asked _ _ _ c.in_err-k.ensures.value in
    rw (p.1, p.2, n.1) (no_rule c.args.number c.args.text.now c.args.at (rw n.0 at c.read_number_line.ensures))

pub returns-then-k-number : goal.returns-then-k-number
returns-then-k-number c = other_rule c.args.number c.args.text.now c.args.at _ _ (rw (some_asked _ _ _ c.in_ok-k.ensures.value) at c.read_number_line.ensures) c.if-k-number.true

pub returns : goal.returns
returns c =
    rule_left c.args.number c.args.text.now c.args.at _ c.in_ok-k.vars_at (rw (some_asked _ _ _ c.in_ok-k.ensures.value) at c.read_number_line.ensures) c.if-k-number.false _ c.read_vars_line.ensures
