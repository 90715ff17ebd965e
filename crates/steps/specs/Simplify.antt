-- What simplifying answers and leaves: document 01's and 02's numbers 12, 11, 14, 18, 15, 13, an earlier step's before a later one's; 0 where no rule fits anywhere, 2 where the budget is used and a rule still fits.
use Rattle.std.specs.Prelude.{ℕ, zero, suc, ◌+◌, List, [], ◌∷◌, leb, length, replicate, Result, Ok, Err}
use Rattle.term.specs.declared.answer.Answer.{Answer}
use Rattle.term.specs.declared.answer.Answer.TheVariants.{Done, BudgetUsed, BadTerm, Short, Damaged}
use Rattle.term.specs.Answer.{Answered, answered}
use Rattle.term.specs.Word.{pick}
use Rattle.term.specs.Row.{Row, words}
use Rattle.term.specs.Check.{check, term_limits}
use Rattle.term.specs.Part.{padded}
use Rattle.book.specs.Accept.{accept}
use Rattle.fit.specs.Match.{tree_of}
use Rattle.steps.specs.Step.{Sought, Nowhere, FoundAt, Broken, lowest_offset, search_visits, Stepped, Rests, Becomes, Refused, step}

-- what the search of a step found: the number of its rule, and the nodes that it visited
pub record Search : Type 0 where
  pub rule : ℕ
  pub visits : ℕ

abbrev pub found : (rule visits : ℕ) → Search
found rule visits = record { rule = rule; visits = visits }

-- how simplifying ends, after the searches of its steps and with the visits of the last search, which made no step: refused, or with an answer and
-- the term so far
pub data Run : Type 0 where
  Stopped : List Search → ℕ → Answer → Run
  Ended : List Search → ℕ → Answer → Row → Run

-- one step more before it
abbrev pub one_more : Search → Run → Run
one_more s (Stopped trace last a) = Stopped (s ∷ trace) last a
one_more s (Ended trace last a t) = Ended (s ∷ trace) last a t

-- the budget is used: a rule still fits, or none
abbrev pub budget_used : Row → ℕ → Sought → Run
budget_used t visits Nowhere = Ended [] visits Done t
budget_used t visits (FoundAt at f) = Ended [] visits BudgetUsed t
budget_used t visits (Broken address) = Stopped [] visits (Damaged address)

abbrev pub after_step : (Row → Run) → Row → ℕ → Stepped → Run
after_step more t visits Rests = Ended [] visits Done t
after_step more t visits (Becomes rule u) = one_more (found rule visits) (more u)
after_step more t visits (Refused a) = Stopped [] visits a

-- "Simplifying repeats steps until no offset has one or the budget is used"
unfoldable pub simplify_by : List ℕ → List ℕ → ℕ → Row → Run
simplify_by book table zero t = budget_used t (search_visits book table t) (lowest_offset book table t)
simplify_by book table (suc budget) t = after_step (simplify_by book table budget) t (search_visits book table t) (step book table t)

-- ---- what is asked, in order: the book, the term, the steps, the room
abbrev pub run_with_term : List ℕ → List ℕ → ℕ → List ℕ → Result (Unit {0}) ℕ → Run
run_with_term book table budget ws (Ok _) = simplify_by book table budget (tree_of ws)
run_with_term book table budget ws (Err at) = Stopped [] 0 (BadTerm at)

abbrev pub run_with_book : List ℕ → List ℕ → ℕ → List ℕ → Result (Unit {0}) Answer → Run
run_with_book book table budget ws (Ok _) = run_with_term book table budget ws (check term_limits ws)
run_with_book book table budget ws (Err a) = Stopped [] 0 a

unfoldable pub simplify : List ℕ → List ℕ → ℕ → List ℕ → Run
simplify book table budget ws = run_with_book book table budget ws (accept book)

unfoldable pub simplify_answer : ℕ → Run → Answer
simplify_answer room (Stopped trace last a) = a
simplify_answer room (Ended trace last a t) = pick (leb (length (words t)) room) a Short

-- the term's words and then zeros; zeros alone after a refusal, or where they do not fit
unfoldable pub simplify_words : ℕ → Run → List ℕ
simplify_words room (Stopped trace last a) = replicate room 0
simplify_words room (Ended trace last a t) = padded room (words t)

-- ---- the trace of a run: the searches of its steps
abbrev pub trace_of : Run → List Search
trace_of (Stopped trace last a) = trace
trace_of (Ended trace last a t) = trace

abbrev pub last_visits : Run → ℕ
last_visits (Stopped trace last a) = last
last_visits (Ended trace last a t) = last

abbrev pub all_visits : List Search → ℕ
all_visits [] = 0
all_visits (s ∷ trace) = s.visits + all_visits trace

-- "the steps counted are the steps of this definition", on refusals those completed
unfoldable pub simplify_steps : Run → ℕ
simplify_steps run = length (trace_of run)

-- "the sum over all walks of all steps and of the last search"
unfoldable pub simplify_visits : Run → ℕ
simplify_visits run = all_visits (trace_of run) + last_visits run

-- ---- all that comes back
pub record SimplifyOutcome : Type 0 where
  pub said : Answered
  pub steps : ℕ
  pub visits : ℕ
  pub out : List ℕ

abbrev pub simplify_came : Answered → (steps visits : ℕ) → List ℕ → SimplifyOutcome
simplify_came said steps visits out = record { said = said; steps = steps; visits = visits; out = out }

-- of a run, where there is so much room
abbrev pub run_came : ℕ → Run → SimplifyOutcome
run_came room run = simplify_came (answered (simplify_answer room run)) (simplify_steps run) (simplify_visits run) (simplify_words room run)

unfoldable pub simplify_gives : (book tree term : List ℕ) (budget room : ℕ) → SimplifyOutcome
simplify_gives book tree term budget room = run_came room (simplify book tree budget term)
