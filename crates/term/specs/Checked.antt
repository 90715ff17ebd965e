-- What checking a term answers: document 01's numbers 0 and 11, "bad term: at = bad place".
use Rattle.std.specs.Prelude.{ℕ, List, Result, Ok, Err}
use Rattle.term.specs.declared.answer.Answer.{Answer}
use Rattle.term.specs.declared.answer.Answer.TheVariants.{Done, BadTerm}
use Rattle.term.specs.Answer.{Answered, answered}
use Rattle.term.specs.Check.{check, term_limits}

abbrev pub checked_term : Result (Unit {0}) ℕ → Answer
checked_term (Ok _) = Done
checked_term (Err at) = BadTerm at

-- all that comes back
unfoldable pub check_term_gives : (words : List ℕ) → Answered
check_term_gives words = answered (checked_term (check term_limits words))
