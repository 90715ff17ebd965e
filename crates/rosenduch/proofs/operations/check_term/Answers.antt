-- `operations::check_term` meets its contract: the words are one term or have a first bad place, and the answer says which.
use mathlib.Core.Path.{sym, ap, ◌∙◌}
use Rattle.std.specs.Prelude.{Result, ℕ}
use Rattle.term.specs.Answer.{answered}
use Rattle.term.specs.Checked.{checked_term}
use Rattle.term.proofs.Laws.{check_term_is}
use Rattle.rosenduch.proofs.operations.check_term.Goals as goal

pub returns-in-Ok : goal.returns-in-Ok
returns-in-Ok c = ap (λ (k : Result (Unit {0}) ℕ). answered (checked_term k)) (sym c.in-Ok.is ∙ c.check_term.ensures) ∙ sym (check_term_is _)

pub returns-in-Err : goal.returns-in-Err
returns-in-Err c = ap (λ (k : Result (Unit {0}) ℕ). answered (checked_term k)) (sym c.in-Err.is ∙ c.check_term.ensures) ∙ sym (check_term_is _)
