-- `mail::read_any_vars` meets its contract: each line tells what is left to read, and the number that the rule states is passed over.
use Rattle.std.proofs.lemmas.Result.{err_from_is_err_and}
use Rattle.text.proofs.Calls.{some_asked, none_asked}
use Rattle.text.proofs.RuleSteps.{any_no_rule, any_left}
use Rattle.text.proofs.mail.read_any_vars.Goals as goal

pub returns-in_err-vars_at : goal.returns-in_err-vars_at
returns-in_err-vars_at c =
    let p = err_from_is_err_and c.from_residual.result c.from_residual.ensures.1 in
    let n = none_asked _ _ _ c.in_err-vars_at.ensures.value in
    rw (p.1, p.2, n.1) (any_no_rule c.args.position c.args.text.now c.args.at (rw n.0 at c.read_number_line.ensures))

pub returns : goal.returns
returns c =
    any_left c.args.position c.args.text.now c.args.at _ c.in_ok-vars_at.vars_at (rw (some_asked _ _ _ c.in_ok-vars_at.ensures.value) at c.read_number_line.ensures) _ c.read_vars_line.ensures
