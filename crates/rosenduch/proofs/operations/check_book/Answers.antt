-- `operations::check_book` meets its contract: the book is accepted or refused by an answer, and that is what is answered.
use mathlib.Core.Path.{sym, ap, ◌∙◌}
use Rattle.term.specs.Answer.{answered}
use Rattle.std.specs.Prelude.{Result}
use Rattle.term.specs.declared.answer.Answer.{Answer}
use Rattle.book.specs.Accept.{accept_answer}
use Rattle.book.proofs.Laws.{check_book_is}
use Rattle.rosenduch.proofs.operations.check_book.Goals as goal

pub returns-in-Ok : goal.returns-in-Ok
returns-in-Ok c = ap (λ (a : Result (Unit {0}) Answer). answered (accept_answer a)) (sym c.in-Ok.is ∙ c.accept_book.ensures) ∙ sym (check_book_is _)

pub returns-in-Err : goal.returns-in-Err
returns-in-Err c = ap (λ (a : Result (Unit {0}) Answer). answered (accept_answer a)) (sym c.in-Err.is ∙ c.accept_book.ensures) ∙ sym (check_book_is _)
