-- What rewriting at the root answers and leaves: document 01's and 02's numbers 12, 11, 14, 1, 18, 15, 13, in this order. A term that is rewritten is answered and left as one that is built.
use Rattle.std.specs.Prelude.{ℕ, List, Result, Ok, Err}
use Rattle.std.proofs.Math.Option.{Option, none, some}
use Rattle.term.specs.declared.answer.Answer.{Answer}
use Rattle.term.specs.declared.answer.Answer.TheVariants.{NoFit, BadTerm, Damaged, CannotTake}
use Rattle.term.specs.Answer.{Answered, answered}
use Rattle.term.specs.Row.{Row, nothing}
use Rattle.term.specs.Check.{check, term_limits}
use Rattle.book.specs.Accept.{accept}
use Rattle.book.specs.Book.{Rule, rule_at}
use Rattle.fit.specs.Match.{tree_of, left_in}
use Rattle.fit.specs.Lowest.{Fitting, aside_o}
use Rattle.fit.specs.Front.{root_arguments, aside_arguments}
use Rattle.fit.specs.Build.{Built, refused, limited, build_answer, build_words}
use Rattle.walk.specs.Walk.{Walked, NoneFits, RuleFits, DamagedAt, walk, visits, book_fits}
use Rattle.walk.specs.ByTree.{term_visits}
use Rattle.steps.specs.Right.{write}
use Rattle.steps.specs.Arguments.{with_aside}

-- the right side of a rule of a book
abbrev pub right_in : Option Rule → Row
right_in none = nothing
right_in (some rule) = tree_of rule.right

-- the arguments of a term that it sets aside
abbrev pub set_aside : Option Rule → Row → Row
set_aside none t = nothing
set_aside (some rule) t = aside_arguments (root_arguments (left_in rule)) t

-- how many a rule that was found sets aside
abbrev pub many_aside : List ℕ → Row → Fitting → ℕ
many_aside book t f = aside_o (rule_at book f.number) t

-- what a rule with its bodies makes of a term: its right side written, with the arguments set aside at its end; none where it cannot take them
unfoldable pub rewritten : List ℕ → Row → Fitting → Option Row
rewritten book t f = with_aside (write f.bodies 0 (right_in (rule_at book f.number))) (set_aside (rule_at book f.number) t)

-- ---- what is asked, in order: the book, the term, the walk, the arguments set aside, the limits, the room
abbrev pub taken_root : ℕ → Option Row → Built
taken_root n none = refused (CannotTake n)
taken_root n (some u) = limited u

abbrev pub walked_root : List ℕ → Row → Walked → Built
walked_root book t NoneFits = refused NoFit
walked_root book t (RuleFits f n) = taken_root (many_aside book t f) (rewritten book t f)
walked_root book t (DamagedAt at) = refused (Damaged at)

abbrev pub root_with_term : List ℕ → List ℕ → List ℕ → Result (Unit {0}) ℕ → Built
root_with_term book table ws (Ok _) = walked_root book (tree_of ws) (walk (book_fits book) table (tree_of ws))
root_with_term book table ws (Err at) = refused (BadTerm at)

abbrev pub root_with_book : List ℕ → List ℕ → List ℕ → Result (Unit {0}) Answer → Built
root_with_book book table ws (Ok _) = root_with_term book table ws (check term_limits ws)
root_with_book book table ws (Err a) = refused a

unfoldable pub rewrite_root : List ℕ → List ℕ → List ℕ → Built
rewrite_root book table ws = root_with_book book table ws (accept book)

abbrev pub root_answer : ℕ → List ℕ → List ℕ → List ℕ → Answer
root_answer room book table ws = build_answer room (rewrite_root book table ws)

abbrev pub root_words : ℕ → List ℕ → List ℕ → List ℕ → List ℕ
root_words room book table ws = build_words room (rewrite_root book table ws)

-- the nodes that its one walk visited, "and zero before any walk"
abbrev pub sound_visits : List ℕ → List ℕ → Result (Unit {0}) Answer → ℕ
sound_visits table ws (Ok _) = term_visits (check term_limits ws) (visits table (tree_of ws))
sound_visits table ws (Err a) = 0

unfoldable pub root_visits : (book tree term : List ℕ) → ℕ
root_visits book table ws = sound_visits table ws (accept book)

-- ---- all that comes back
pub record RewriteRootOutcome : Type 0 where
  pub said : Answered
  pub visits : ℕ
  pub out : List ℕ

abbrev pub rewrite_root_came : Answered → ℕ → List ℕ → RewriteRootOutcome
rewrite_root_came said visits out = record { said = said; visits = visits; out = out }

unfoldable pub rewrite_root_gives : (book tree term : List ℕ) (room : ℕ) → RewriteRootOutcome
rewrite_root_gives book tree term room = rewrite_root_came (answered (root_answer room book tree term)) (root_visits book tree term) (root_words room book tree term)
