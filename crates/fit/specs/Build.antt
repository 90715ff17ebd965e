-- What building a left side answers and leaves: document 01's numbers 12, 16, 11, 15, 13, in this order.
use Rattle.std.specs.Prelude.{ℕ, zero, suc, ◌+◌, max, Bool, true, false, ◌&&◌, List, [], ◌∷◌, leb, eqb, length, get_or, take, drop, replicate, Result, Ok, Err}
use Rattle.std.proofs.Math.Option.{Option, none, some}
use Rattle.term.specs.declared.answer.Answer.{Answer}
use Rattle.term.specs.declared.answer.Answer.TheVariants.{Done, BadTerm, Short, Over, NoRule}
use Rattle.term.specs.Answer.{Answered, answered}
use Rattle.term.specs.Word.{Head, symbol, abstraction, variable, pattern, pick}
use Rattle.term.specs.Row.{Row, nothing, node, words, nesting}
use Rattle.term.specs.Check.{check, term_limits}
use Rattle.term.specs.Part.{padded}
use Rattle.book.specs.Book.{Rule, rule_at}
use Rattle.book.specs.Accept.{accept}
use Rattle.fit.specs.Fit.{build}
use Rattle.fit.specs.Match.{tree_of, left_in}

-- ---- the bodies given, one list in variable order with sixteen lengths beside it
-- how many words stand before the body of a variable
unfoldable pub start_of : List ℕ → ℕ → ℕ
start_of lengths zero = 0
start_of lengths (suc x) = start_of lengths x + get_or lengths x 0

unfoldable pub words_at : List ℕ → List ℕ → ℕ → List ℕ
words_at bodies lengths x = take (get_or lengths x 0) (drop (start_of lengths x) bodies)

unfoldable pub given_bodies : List ℕ → List ℕ → ℕ → Row
given_bodies bodies lengths x = tree_of (words_at bodies lengths x)

unfoldable pub all_zero : List ℕ → Bool
all_zero [] = true
all_zero (n ∷ ns) = eqb n 0 && all_zero ns

-- "lengths that don't sum to the list, or a length at an unused variable" are bad
unfoldable pub good_lengths : ℕ → List ℕ → List ℕ → Bool
good_lengths vars bodies lengths = eqb (start_of lengths 16) (length bodies) && all_zero (drop vars lengths)

abbrev pub body_next : ℕ → Result (Unit {0}) ℕ → Result (Unit {0}) ℕ → Result (Unit {0}) ℕ
body_next x (Ok _) later = later
body_next x (Err at) later = Err x

-- the first bad variable of so many from x on: a body "is itself one term"
unfoldable pub check_bodies : List ℕ → List ℕ → ℕ → ℕ → Result (Unit {0}) ℕ
check_bodies bodies lengths x zero = Ok tt
check_bodies bodies lengths x (suc more) = body_next x (check term_limits (words_at bodies lengths x)) (check_bodies bodies lengths (suc x) more)

-- ---- the limits
abbrev pub id_in : Head → ℕ
id_in (symbol i c) = 0
id_in abstraction = 0
id_in (variable i) = i
id_in (pattern i c) = 0

-- the largest id of a variable
unfoldable pub largest : Row → ℕ
largest nothing = 0
largest (node h kids rest) = max (id_in h) (max (largest kids) (largest rest))

-- not over 4,096 words, nesting 64 or id 65,535
unfoldable pub within_limits : Row → Bool
within_limits t = leb (length (words t)) 4096 && (leb (nesting t) 64 && leb (largest t) 65535)

-- ---- what is asked, in order: the book, the rule, the lengths, the bodies, the limits, the room
pub data Built : Type 0 where
  refused : Answer → Built
  built : Row → Built

unfoldable pub limited : Row → Built
limited t = pick (within_limits t) (built t) (refused Over)

abbrev pub with_bodies : Rule → List ℕ → List ℕ → Result (Unit {0}) ℕ → Built
with_bodies rule bodies lengths (Ok _) = limited (build (given_bodies bodies lengths) 0 (left_in rule))
with_bodies rule bodies lengths (Err x) = refused (BadTerm x)

abbrev pub with_lengths : Rule → List ℕ → List ℕ → Bool → Built
with_lengths rule bodies lengths true = with_bodies rule bodies lengths (check_bodies bodies lengths 0 rule.vars)
with_lengths rule bodies lengths false = refused (BadTerm 16)

abbrev pub with_rule : ℕ → List ℕ → List ℕ → Option Rule → Built
with_rule number bodies lengths none = refused (NoRule number)
with_rule number bodies lengths (some rule) = with_lengths rule bodies lengths (good_lengths rule.vars bodies lengths)

abbrev pub with_book : List ℕ → ℕ → List ℕ → List ℕ → Result (Unit {0}) Answer → Built
with_book book number bodies lengths (Ok _) = with_rule number bodies lengths (rule_at book number)
with_book book number bodies lengths (Err a) = refused a

unfoldable pub build_left : List ℕ → ℕ → List ℕ → List ℕ → Built
build_left book number bodies lengths = with_book book number bodies lengths (accept book)

unfoldable pub build_answer : ℕ → Built → Answer
build_answer room (refused a) = a
build_answer room (built t) = pick (leb (length (words t)) room) Done Short

-- the term's words and then zeros; zeros alone after a refusal, or where they do not fit
unfoldable pub build_words : ℕ → Built → List ℕ
build_words room (refused a) = replicate room 0
build_words room (built t) = padded room (words t)

-- ---- all that comes back
pub record BuildLeftOutcome : Type 0 where
  pub said : Answered
  pub out : List ℕ

abbrev pub build_left_came : Answered → List ℕ → BuildLeftOutcome
build_left_came said out = record { said = said; out = out }

abbrev pub built_came : ℕ → Built → BuildLeftOutcome
built_came room b = build_left_came (answered (build_answer room b)) (build_words room b)

unfoldable pub build_left_gives : (book : List ℕ) (number : ℕ) (bodies lengths : List ℕ) (room : ℕ) → BuildLeftOutcome
build_left_gives book number bodies lengths room = built_came room (build_left book number bodies lengths)
