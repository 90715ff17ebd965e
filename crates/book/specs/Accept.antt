-- Whether a book is accepted, or the answer that refuses it: document 01's number 12, "at = first bad rule".
use Rattle.std.specs.Prelude.{ℕ, List, Result, Ok, Err}
use Rattle.term.specs.declared.answer.Answer.{Answer}
use Rattle.term.specs.declared.answer.Answer.TheVariants.{Done, BadBook}
use Rattle.term.specs.Answer.{Answered, answered}
use Rattle.book.specs.Book.{check_book}

abbrev pub judged : Result (Unit {0}) ℕ → Result (Unit {0}) Answer
judged (Ok _) = Ok tt
judged (Err at) = Err (BadBook at)

unfoldable pub accept : List ℕ → Result (Unit {0}) Answer
accept book = judged (check_book book)

-- what checking a book answers: 0, or what refuses it
abbrev pub accept_answer : Result (Unit {0}) Answer → Answer
accept_answer (Ok _) = Done
accept_answer (Err a) = a

-- all that comes back
unfoldable pub check_book_gives : (book : List ℕ) → Answered
check_book_gives book = answered (accept_answer (accept book))
