-- What the operations tell, one on the other: a rule written, a part rewritten, the lowest offset, a step in the work area, a run.
use Rattle.std.specs.Prelude as prelude
use Rattle.std.specs.Prelude.{ℕ, ◌+◌, ◌≤◌, ◌≡◌, true, false, Some, None, Result, Ok, Err, List, leb, length, take, replicate}
use Rattle.std.proofs.Math.Option.{Option, none, some}
use Rattle.term.specs.declared.answer.Answer.{Answer}
use Rattle.term.specs.declared.answer.Answer.TheVariants as answer
use Rattle.term.specs.Word.{pick}
use Rattle.term.specs.Row.{Row, width, words, nesting}
use Rattle.term.specs.Check.{check, term_limits}
use Rattle.book.specs.Book.{Rule, check_book, rule_at}
use Rattle.fit.specs.Match.{left_in}
use Rattle.fit.specs.Front.{root_arguments, aside, aside_arguments}
use Rattle.fit.specs.Build.{within_limits}
use Rattle.walk.specs.Walk.{Walked, NoneFits, RuleFits, DamagedAt}
use Rattle.walk.specs.Told.State.{part_from}
use Rattle.steps.specs.Right.{write}
use Rattle.steps.specs.Arguments.{with_aside}
use Rattle.steps.specs.Offset.{part_at}
use Rattle.steps.specs.Rewrite.{many_aside, rewritten}
use Rattle.steps.specs.Told.Told.{RightRow}
use Rattle.steps.specs.Told.RightWalk.{BodiesStand}
use Rattle.steps.specs.Step.{Sought, Nowhere, FoundAt, Broken, lowest_offset, search_visits, Stepped, Rests, Becomes, Refused}
use Rattle.steps.specs.Simplify.{Run, Stopped, Ended, budget_used, all_visits}
use Rattle.steps.specs.declared.simplify.Ran.{Ran}

-- what an accepted book is here: each of its rules is good
abbrev pub GoodBook : List ℕ → Type 0
GoodBook book = check_book book ≡ Ok tt

-- the book is asked, and then the term
abbrev pub asked : Result (Unit {0}) Answer → Result (Unit {0}) ℕ → Result (Unit {0}) Answer
asked (Ok _) (Ok _) = Ok tt
asked (Ok _) (Err at) = Err (answer.BadTerm at)
asked (Err a) c = Err a

-- room for the bodies of a rule and their lengths, with nothing in it
abbrev pub Cleared : List ℕ → List ℕ → Type 0
Cleared bodies lengths = (bodies ≡ replicate 65536 0) × (lengths ≡ replicate 16 0)

-- ---- what a rule writes stands in front, or it is over the limits
abbrev pub RowWritten : Row → List ℕ → Result ℕ Answer → Type 0
RowWritten u out (Ok n) = (within_limits u ≡ true) × (n ≡ length (words u)) × (n ≤ 4096) × (take n out ≡ words u)
RowWritten u out (Err a) = (a ≡ answer.Over) × (within_limits u ≡ false)

-- the same with so many arguments set aside, which it may not be able to take
abbrev pub TakenTold : ℕ → Option Row → List ℕ → Result ℕ Answer → Type 0
TakenTold n none out r = r ≡ Err (answer.CannotTake n)
TakenTold n (some u) out r = RowWritten u out r

-- a right side with bodies for its variables, and the arguments after the first b of the part that the words begin with
unfoldable pub FrontWritten : List ℕ → ℕ → List ℕ → List ℕ → List ℕ → List ℕ → Result ℕ Answer → Type 0
FrontWritten right b part bodies lengths out r =
    (vars : ℕ) (k : ℕ → ℕ) (bs : ℕ → Row) (p : Row) → RightRow vars k 0 p → width p ≡ 1 → nesting p ≤ 16 → words p ≡ right → BodiesStand vars bodies lengths bs
    → TakenTold (aside b (part_from part 0)) (with_aside (write bs 0 p) (aside_arguments b (part_from part 0))) out r

-- the right side of the rule of this number, where the book has it
unfoldable pub RuleWritten : List ℕ → ℕ → List ℕ → List ℕ → List ℕ → List ℕ → Result ℕ Answer → Type 0
RuleWritten book number part bodies lengths out r =
    (rule : Rule) → rule_at book number ≡ some rule → FrontWritten rule.right (root_arguments (left_in rule)) part bodies lengths out r

-- a part rewritten, by how its walk ended
unfoldable pub RewriteTold : List ℕ → Row → Walked → List ℕ → prelude.Option (Result ℕ Answer) → Type 0
RewriteTold book t NoneFits out r = r ≡ None
RewriteTold book t (RuleFits f n) out None = ⊥
RewriteTold book t (RuleFits f n) out (Some r) = TakenTold (many_aside book t f) (rewritten book t f) out r
RewriteTold book t (DamagedAt at) out r = r ≡ Some (Err (answer.Damaged at))

-- ---- an answer with words into a lent slice
abbrev pub given_answer : ℕ → List ℕ → Answer → Answer
given_answer room ws a = pick (leb (length ws) room) a answer.Short

-- ---- the lowest offset with a rule, and what became of the part there
unfoldable pub LowestTold : List ℕ → Row → Sought → List ℕ → prelude.Option (ℕ × Result ℕ Answer) → Type 0
LowestTold book t Nowhere new r = r ≡ None
LowestTold book t (FoundAt a f) new None = ⊥
LowestTold book t (FoundAt a f) new (Some (at, r)) = (at ≡ a) × TakenTold (many_aside book (part_at t a) f) (rewritten book (part_at t a) f) new r
LowestTold book t (Broken address) new None = ⊥
LowestTold book t (Broken address) new (Some (at, r)) = r ≡ Err (answer.Damaged address)

-- ---- a part replaced in the work area, and the whole checked
abbrev pub ReplaceTold : List ℕ → List ℕ → Result ℕ Answer → Type 0
ReplaceTold ws area (Ok size) = (check term_limits ws ≡ Ok tt) × (size ≤ 4096) × (take size area ≡ ws)
ReplaceTold ws area (Err a) = (a ≡ answer.Over) × (check term_limits ws ≡ Ok tt → ⊥)

-- a step in the work area: it rests and leaves the term as it was, the term has so many words now, or it is refused
unfoldable pub MoveTold : Stepped → List ℕ → List ℕ → Result (prelude.Option ℕ) Answer → Type 0
MoveTold Rests before area r = (r ≡ Ok None) × (area ≡ before)
MoveTold (Becomes rule u) before area r = (n : ℕ) × (r ≡ Ok (Some n)) × (n ≤ 4096) × (take n area ≡ words u)
MoveTold (Refused a) before area r = r ≡ Err a

-- ---- how repeating steps ends, with so many steps and visits before: the term so far stands in the work area
abbrev pub RanTold : (steps visits : ℕ) → Run → Ran → List ℕ → Type 0
RanTold n v (Stopped trace last a) r area = (r.answer ≡ a) × (r.steps ≡ n + length trace) × (r.visits ≡ v + (all_visits trace + last)) × (r.size ≡ 0)
RanTold n v (Ended trace last a t) r area =
    (r.answer ≡ a) × (r.steps ≡ n + length trace) × (r.visits ≡ v + (all_visits trace + last)) × (r.size ≤ length area) × (take r.size area ≡ words t)

-- the budget is used: the answer and how many words are left, by what the last search found
abbrev pub used_answer : prelude.Option (ℕ × Result ℕ Answer) → Answer
used_answer None = answer.Done
used_answer (Some (at, Err (answer.Damaged address))) = answer.Damaged address
used_answer (Some last) = answer.BudgetUsed

abbrev pub used_size : ℕ → prelude.Option (ℕ × Result ℕ Answer) → ℕ
used_size size (Some (at, Err (answer.Damaged address))) = 0
used_size size last = size

abbrev pub UsedTold : prelude.Option (ℕ × Result ℕ Answer) → (steps visits size : ℕ) → Ran → Type 0
UsedTold last steps visits size r = (r.answer ≡ used_answer last) × (r.steps ≡ steps) × (r.visits ≡ visits) × (r.size ≡ used_size size last)

abbrev pub looked_at : List ℕ → List ℕ → Row → Run
looked_at book table t = budget_used t (search_visits book table t) (lowest_offset book table t)
