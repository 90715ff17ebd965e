-- What matching one rule answers and leaves: document 01's numbers 12, 16, 11, 1, 13, in this order. Document 02: the rule is for a front part of the
-- arguments (Front.antt), and the answer counts those set aside.
use Rattle.std.specs.Prelude.{ℕ, zero, suc, ◌-◌, ◌≡◌, List, [], ◌∷◌, ◌++◌, leb, length, replicate, Result, Ok, Err}
use Rattle.std.proofs.Math.Option.{Option, none, some}
use Rattle.term.specs.declared.answer.Answer.{Answer}
use Rattle.term.specs.declared.answer.Answer.TheVariants.{Done, NoFit, BadTerm, Short, NoRule}
use Rattle.term.specs.Answer.{Answered, answered}
use Rattle.term.specs.Word.{pick}
use Rattle.term.specs.Row.{Row, nothing, words, Got, read}
use Rattle.term.specs.Check.{check, term_limits}
use Rattle.term.specs.Part.{padded}
use Rattle.book.specs.Book.{Rule, rule_at}
use Rattle.book.specs.Accept.{accept}
use Rattle.fit.specs.Left.{Left, left_of}
use Rattle.fit.specs.Front.{root_arguments, aside, matching_front}

abbrev pub row_or : Got → Row
row_or none = nothing
row_or (some p) = p.0

-- the tree that a list of words is
unfoldable pub tree_of : List ℕ → Row
tree_of ws = row_or (read 1 ws)

-- the left side of a rule of a book
unfoldable pub left_in : Rule → Left
left_in rule = left_of (tree_of rule.left)

-- ---- bodies in variable order, as one list of words with sixteen lengths beside it
unfoldable pub body_list : (ℕ → Row) → ℕ → ℕ → List ℕ
body_list b x zero = []
body_list b x (suc more) = words (b x) ++ body_list b (suc x) more

unfoldable pub length_list : (ℕ → Row) → ℕ → ℕ → List ℕ
length_list b x zero = []
length_list b x (suc more) = length (words (b x)) ∷ length_list b (suc x) more

-- what is left of bodies that have room: the list and then zeros, and the sixteen lengths
pub record GivesBodies (room vars : ℕ) (b : ℕ → Row) (bodies lengths : List ℕ) : Type 0 where
  pub bodies_are : bodies ≡ body_list b 0 vars ++ replicate (room - length (body_list b 0 vars)) 0
  pub lengths_are : lengths ≡ length_list b 0 vars ++ replicate (16 - vars) 0

-- ---- what is asked, in order: the book, the rule, the term, the fit, the room
pub data Matched : Type 0 where
  refused : Answer → Matched
  fitted : (vars aside : ℕ) → (ℕ → Row) → Matched

abbrev pub fitted_o : (vars aside : ℕ) → Option (ℕ → Row) → Matched
fitted_o vars n none = refused NoFit
fitted_o vars n (some b) = fitted vars n b

abbrev pub with_term : Rule → List ℕ → Result (Unit {0}) ℕ → Matched
with_term rule ws (Ok _) = fitted_o rule.vars (aside (root_arguments (left_in rule)) (tree_of ws)) (matching_front (left_in rule) (tree_of ws))
with_term rule ws (Err at) = refused (BadTerm at)

abbrev pub with_rule : ℕ → List ℕ → Option Rule → Matched
with_rule number ws none = refused (NoRule number)
with_rule number ws (some rule) = with_term rule ws (check term_limits ws)

abbrev pub with_book : List ℕ → ℕ → List ℕ → Result (Unit {0}) Answer → Matched
with_book book number ws (Ok _) = with_rule number ws (rule_at book number)
with_book book number ws (Err a) = refused a

unfoldable pub match_rule : List ℕ → ℕ → List ℕ → Matched
match_rule book number ws = with_book book number ws (accept book)

unfoldable pub match_answer : ℕ → Matched → Answer
match_answer room (refused a) = a
match_answer room (fitted vars n b) = pick (leb (length (body_list b 0 vars)) room) Done Short

-- how many arguments are set aside; 0 where no rule fits, or where its bodies have no room
unfoldable pub match_aside : ℕ → Matched → ℕ
match_aside room (refused a) = 0
match_aside room (fitted vars n b) = pick (leb (length (body_list b 0 vars)) room) n 0

unfoldable pub match_words : ℕ → Matched → List ℕ
match_words room (refused a) = replicate room 0
match_words room (fitted vars n b) = padded room (body_list b 0 vars)

unfoldable pub match_lengths : ℕ → Matched → List ℕ
match_lengths room (refused a) = replicate 16 0
match_lengths room (fitted vars n b) = pick (leb (length (body_list b 0 vars)) room) (length_list b 0 vars ++ replicate (16 - vars) 0) (replicate 16 0)

-- ---- all that comes back
pub record MatchRuleOutcome : Type 0 where
  pub said : Answered
  pub aside : ℕ
  pub bodies : List ℕ
  pub lengths : List ℕ

abbrev pub match_rule_came : Answered → ℕ → List ℕ → List ℕ → MatchRuleOutcome
match_rule_came said aside bodies lengths = record { said = said; aside = aside; bodies = bodies; lengths = lengths }

abbrev pub matched_came : ℕ → Matched → MatchRuleOutcome
matched_came room m = match_rule_came (answered (match_answer room m)) (match_aside room m) (match_words room m) (match_lengths room m)

unfoldable pub match_rule_gives : (book : List ℕ) (number : ℕ) (term : List ℕ) (room : ℕ) → MatchRuleOutcome
match_rule_gives book number term room = matched_came room (match_rule book number term)
