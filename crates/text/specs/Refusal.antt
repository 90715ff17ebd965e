-- Document 01, "Text and program": the two lines that a program prints where a file is refused, `answer=` and `at=`.
use Rattle.std.specs.Prelude.{ℕ, Bool, List, [], leb}
use Rattle.term.specs.declared.answer.Answer.{Answer}
use Rattle.term.specs.Answer.{number_of, place_of}
use Rattle.text.specs.Bytes.{bytes}
use Rattle.text.specs.BookText.{number_text}

abbrev pub answer_key : List ℕ
answer_key = bytes "answer="

abbrev pub at_key : List ℕ
at_key = bytes "at="

-- "Refusals are 10 and up"
abbrev pub refused : Answer → Bool
refused a = leb 10 (number_of a)

unfoldable pub refusal_block : Answer → List ℕ
refusal_block a = number_text answer_key (number_of a) (number_text at_key (place_of a) [])
