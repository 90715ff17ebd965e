-- `book::check_book` meets its contract: what is left to judge gives the answer, at every turn.
use Rattle.std.proofs.Common.{◌≡◌, ◌-◌, drop}
use Rattle.book.specs.Book.{judge, check_book}
use Rattle.book.proofs.book.check_book.Given as goal

abbrev pub invariant-loop-number : goal.invariant-loop-number
invariant-loop-number l = check_book l.words ≡ judge l.number (l.rules - l.number) (drop l.at l.words)
