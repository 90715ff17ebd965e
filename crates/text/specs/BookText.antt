-- Document 01, "Text and program": a book is the lines `book=1`, `rules=`, and then per rule `rule=`, `vars=`, `left=`, `right=`.
use Rattle.std.specs.Prelude.{ℕ, zero, suc, ◌+◌, ◌*◌, List, [], ◌∷◌, ◌++◌, leb, eqb, length, replicate, get_or, Result, Ok, Err}
use Rattle.std.proofs.Math.Option.{Option, none, some}
use Rattle.term.specs.declared.answer.Answer.{Answer}
use Rattle.term.specs.declared.answer.Answer.TheVariants.{BadText, Short}
use Rattle.term.specs.Answer.{Answered, answered}
use Rattle.term.specs.Word.{pick}
use Rattle.book.specs.Book.{Rule, rule_of, after_next}
use Rattle.book.specs.Accept.{accept}
use Rattle.text.specs.Bytes.{byte, bytes}
use Rattle.text.specs.Given.{given_answer, given_left}
use Rattle.text.specs.Number.{decimal, number, Read}
use Rattle.text.specs.Line.{line_text, line}
use Rattle.text.specs.TermText.{Said, says, bad_line, at_end}

abbrev pub book_line : List ℕ
book_line = bytes "book=1\n"

abbrev pub rules_key : List ℕ
rules_key = bytes "rules="

abbrev pub rule_key : List ℕ
rule_key = bytes "rule="

abbrev pub vars_key : List ℕ
vars_key = bytes "vars="

abbrev pub left_key : List ℕ
left_key = bytes "left="

abbrev pub right_key : List ℕ
right_key = bytes "right="

-- ---- the text of a book, each line before the text that follows it
unfoldable pub number_text : List ℕ → ℕ → List ℕ → List ℕ
number_text key n rest = key ++ (decimal n ++ (byte "\n" ∷ rest))

unfoldable pub side_text : List ℕ → List ℕ → List ℕ → List ℕ
side_text key ws rest = key ++ (line_text ws ++ rest)

unfoldable pub rule_text : ℕ → Rule → List ℕ → List ℕ
rule_text number rule rest =
    number_text rule_key number (number_text vars_key rule.vars (side_text left_key rule.left (side_text right_key rule.right rest)))

abbrev pub next_text : ℕ → Option (Rule × List ℕ) → List ℕ → List ℕ
next_text number none rest = rest
next_text number (some p) rest = rule_text number p.0 rest

-- so many rules from this number on
unfoldable pub rules_text : ℕ → ℕ → List ℕ → List ℕ
rules_text number zero ws = []
rules_text number (suc more) ws = next_text number (rule_of ws) (rules_text (suc number) more (after_next (rule_of ws)))

unfoldable pub book_text : List ℕ → List ℕ
book_text [] = []
book_text (n ∷ ws) = book_line ++ number_text rules_key n (rules_text 0 n ws)

-- ---- reading
-- the text after a key; none where it does not begin with the key
unfoldable pub keyed : List ℕ → List ℕ → Option (List ℕ)
keyed [] bs = some bs
keyed (k ∷ key) [] = none
keyed (k ∷ key) (b ∷ bs) = pick (eqb b k) (keyed key bs) none

abbrev pub after_key : {A : Type 0} → (List ℕ → Read A) → Option (List ℕ) → Read A
after_key reading none = none
after_key reading (some bs) = reading bs

abbrev pub number_end : ℕ → List ℕ → Read ℕ
number_end n [] = none
number_end n (b ∷ bs) = pick (eqb b (byte "\n")) (some (n, bs)) none

abbrev pub number_then : Read ℕ → Read ℕ
number_then none = none
number_then (some p) = number_end p.0 p.1

-- a line of a key and a number of at most `most`
unfoldable pub number_line : List ℕ → ℕ → List ℕ → Read ℕ
number_line key most bs = after_key (λ rest. number_then (number most rest)) (keyed key bs)

-- a line of a key and 1 to 64 tokens
unfoldable pub side_line : List ℕ → List ℕ → Read (List ℕ)
side_line key bs = after_key (line 64) (keyed key bs)

-- a rule in words
abbrev pub rule_words : ℕ → List ℕ → List ℕ → List ℕ
rule_words v left right = v ∷ length left ∷ length right ∷ (left ++ right)

-- the words of rules and the text after them, or the first line that is not in form
pub data Rules : Type 0 where
  rules_are : List ℕ → List ℕ → Rules
  bad_at : ℕ → Rules

abbrev pub right_then : ℕ → ℕ → List ℕ → Read (List ℕ) → Rules
right_then number v left none = bad_at (4 * number + 6)
right_then number v left (some p) = rules_are (rule_words v left p.0) p.1

abbrev pub left_then : ℕ → ℕ → Read (List ℕ) → Rules
left_then number v none = bad_at (4 * number + 5)
left_then number v (some p) = right_then number v p.0 (side_line right_key p.1)

abbrev pub vars_then : ℕ → Read ℕ → Rules
vars_then number none = bad_at (4 * number + 4)
vars_then number (some p) = left_then number p.0 (side_line left_key p.1)

abbrev pub rule_then : ℕ → Read ℕ → Rules
rule_then number none = bad_at (4 * number + 3)
rule_then number (some p) = pick (eqb p.0 number) (vars_then number (number_line vars_key 16 p.1)) (bad_at (4 * number + 3))

-- the four lines of the rule with this number; two lines and four for each rule stand before them
unfoldable pub rule_read : ℕ → List ℕ → Rules
rule_read number bs = rule_then number (number_line rule_key 63 bs)

abbrev pub behind : List ℕ → Rules → Rules
behind ws (rules_are vs rest) = rules_are (ws ++ vs) rest
behind ws (bad_at at) = bad_at at

abbrev pub then_rules : (List ℕ → Rules) → Rules → Rules
then_rules others (rules_are ws rest) = behind ws (others rest)
then_rules others (bad_at at) = bad_at at

-- so many rules from this number on
unfoldable pub rules_read : ℕ → ℕ → List ℕ → Rules
rules_read number zero bs = rules_are [] bs
rules_read number (suc more) bs = then_rules (rules_read (suc number) more) (rule_read number bs)

abbrev pub count_then : Read ℕ → Rules
count_then none = bad_at 2
count_then (some p) = behind (p.0 ∷ []) (rules_read 0 p.0 p.1)

abbrev pub book_then : Option (List ℕ) → Rules
book_then none = bad_at 1
book_then (some bs) = count_then (number_line rules_key 64 bs)

-- the words of the book that a text begins with and the text after it, or the first line that is not in form
unfoldable pub book_read : List ℕ → Rules
book_read bs = book_then (keyed book_line bs)

-- the line due after a book: two lines and four for each rule stand before it
abbrev pub due_after : List ℕ → ℕ
due_after book = 4 * get_or book 0 0 + 3

abbrev pub book_alone : Rules → Said
book_alone (rules_are ws rest) = at_end (due_after ws) ws rest
book_alone (bad_at at) = bad_line at

unfoldable pub book_said : List ℕ → Said
book_said bs = pick (leb (length bs) 65536) (book_alone (book_read bs)) (bad_line 0)

-- ---- answers, and what is left in a lent slice of `room`
unfoldable pub read_book_answer : ℕ → Said → Answer
read_book_answer room (says ws) = given_answer room ws (accept ws)
read_book_answer room (bad_line at) = BadText at

unfoldable pub read_book_words : ℕ → Said → List ℕ
read_book_words room (says ws) = given_left room ws (accept ws)
read_book_words room (bad_line at) = replicate room 0

-- a text over 65,536 bytes is not written, whatever the room
abbrev pub text_gives : ℕ → List ℕ → Result (Unit {0}) Answer → Answer
text_gives room text (Ok _) = pick (leb (length text) 65536) (given_answer room text (Ok tt)) Short
text_gives room text (Err a) = a

abbrev pub text_leaves : ℕ → List ℕ → Result (Unit {0}) Answer → List ℕ
text_leaves room text (Ok _) = pick (leb (length text) 65536) (given_left room text (Ok tt)) (replicate room 0)
text_leaves room text (Err a) = replicate room 0

unfoldable pub write_book_answer : ℕ → List ℕ → Answer
write_book_answer room ws = text_gives room (book_text ws) (accept ws)

unfoldable pub write_book_bytes : ℕ → List ℕ → List ℕ
write_book_bytes room ws = text_leaves room (book_text ws) (accept ws)

-- ---- all that comes back of reading, and of writing
pub record ReadBookOutcome : Type 0 where
  pub said : Answered
  pub out : List ℕ

abbrev pub read_book_came : Answered → List ℕ → ReadBookOutcome
read_book_came said out = record { said = said; out = out }

unfoldable pub read_book_gives : (text : List ℕ) (room : ℕ) → ReadBookOutcome
read_book_gives text room = read_book_came (answered (read_book_answer room (book_said text))) (read_book_words room (book_said text))

pub record WriteBookOutcome : Type 0 where
  pub said : Answered
  pub out : List ℕ

abbrev pub write_book_came : Answered → List ℕ → WriteBookOutcome
write_book_came said out = record { said = said; out = out }

unfoldable pub write_book_gives : (book : List ℕ) (room : ℕ) → WriteBookOutcome
write_book_gives book room = write_book_came (answered (write_book_answer room book)) (write_book_bytes room book)
