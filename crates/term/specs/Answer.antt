-- Document 01, "Numbers it answers with": the number and the place of each answer. Document 02 adds 18, "result can't take the arguments (if any), at = their number", and 19, "table and term disagree, at = first wrong, missing or surplus offset".
use Rattle.std.specs.Prelude.{ℕ}
use Rattle.term.specs.declared.answer.Answer.{Answer}
use Rattle.term.specs.declared.answer.Answer.TheVariants.{Done, NoFit, BudgetUsed, BadText, BadTerm, BadBook, Short, Damaged, Over, NoRule, CannotTake, Disagree}

abbrev pub number_of : Answer → ℕ
number_of Done = 0
number_of NoFit = 1
number_of BudgetUsed = 2
number_of (BadText at) = 10
number_of (BadTerm at) = 11
number_of (BadBook at) = 12
number_of Short = 13
number_of (Damaged at) = 14
number_of Over = 15
number_of (NoRule at) = 16
number_of (CannotTake at) = 18
number_of (Disagree at) = 19

abbrev pub place_of : Answer → ℕ
place_of Done = 0
place_of NoFit = 0
place_of BudgetUsed = 0
place_of (BadText at) = at
place_of (BadTerm at) = at
place_of (BadBook at) = at
place_of Short = 0
place_of (Damaged at) = at
place_of Over = 0
place_of (NoRule at) = at
place_of (CannotTake at) = at
place_of (Disagree at) = at

-- what an answer says: document 01's number, and the place beside it
pub record Answered : Type 0 where
  pub number : ℕ
  pub place : ℕ

abbrev pub saying : (number place : ℕ) → Answered
saying number place = record { number = number; place = place }

abbrev pub answered : Answer → Answered
answered a = saying (number_of a) (place_of a)
