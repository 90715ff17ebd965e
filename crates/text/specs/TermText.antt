-- Document 01, "Text and program": a term by itself is one line of 1 to 4,096 tokens, and a text has at most 65,536 bytes.
use Rattle.std.specs.Prelude.{ℕ, List, [], ◌∷◌, leb, length, replicate, Result, Ok, Err}
use Rattle.std.proofs.Math.Option.{none, some}
use Rattle.term.specs.declared.answer.Answer.{Answer}
use Rattle.term.specs.declared.answer.Answer.TheVariants.{BadText, BadTerm}
use Rattle.term.specs.Answer.{Answered, answered}
use Rattle.term.specs.Word.{pick}
use Rattle.term.specs.Check.{check, term_limits}
use Rattle.text.specs.Given.{given_answer, given_left}
use Rattle.text.specs.Number.{Read}
use Rattle.text.specs.Line.{line_text, line}

-- the words that a text says, or its first line that is not in form
pub data Said : Type 0 where
  says : List ℕ → Said
  bad_line : ℕ → Said

-- nothing may stand after the last line: the line due is the bad one
abbrev pub at_end : ℕ → List ℕ → List ℕ → Said
at_end due ws [] = says ws
at_end due ws (b ∷ bs) = bad_line due

abbrev pub one_line : Read (List ℕ) → Said
one_line none = bad_line 1
one_line (some p) = at_end 2 p.0 p.1

unfoldable pub term_said : List ℕ → Said
term_said bs = pick (leb (length bs) 65536) (one_line (line 4096 bs)) (bad_line 0)

-- ---- whether a term is accepted, or the answer that refuses it: "bad term: at = bad place"
abbrev pub judged_term : Result (Unit {0}) ℕ → Result (Unit {0}) Answer
judged_term (Ok _) = Ok tt
judged_term (Err at) = Err (BadTerm at)

unfoldable pub accept_term : List ℕ → Result (Unit {0}) Answer
accept_term ws = judged_term (check term_limits ws)

-- ---- answers, and what is left in a lent slice of `room`

unfoldable pub read_answer : ℕ → Said → Answer
read_answer room (says ws) = given_answer room ws (accept_term ws)
read_answer room (bad_line at) = BadText at

unfoldable pub read_words : ℕ → Said → List ℕ
read_words room (says ws) = given_left room ws (accept_term ws)
read_words room (bad_line at) = replicate room 0

unfoldable pub write_answer : ℕ → List ℕ → Answer
write_answer room ws = given_answer room (line_text ws) (accept_term ws)

unfoldable pub write_bytes : ℕ → List ℕ → List ℕ
write_bytes room ws = given_left room (line_text ws) (accept_term ws)

-- ---- all that comes back of reading, and of writing
pub record ReadTermOutcome : Type 0 where
  pub said : Answered
  pub out : List ℕ

abbrev pub read_term_came : Answered → List ℕ → ReadTermOutcome
read_term_came said out = record { said = said; out = out }

unfoldable pub read_term_gives : (text : List ℕ) (room : ℕ) → ReadTermOutcome
read_term_gives text room = read_term_came (answered (read_answer room (term_said text))) (read_words room (term_said text))

pub record WriteTermOutcome : Type 0 where
  pub said : Answered
  pub out : List ℕ

abbrev pub write_term_came : Answered → List ℕ → WriteTermOutcome
write_term_came said out = record { said = said; out = out }

unfoldable pub write_term_gives : (term : List ℕ) (room : ℕ) → WriteTermOutcome
write_term_gives term room = write_term_came (answered (write_answer room term)) (write_bytes room term)
