-- An answer, and what is left in a lent slice of `room`, where words or bytes are asked for that were accepted or refused.
use Rattle.std.specs.Prelude.{ℕ, List, leb, length, replicate, Result, Ok, Err}
use Rattle.term.specs.declared.answer.Answer.{Answer}
use Rattle.term.specs.declared.answer.Answer.TheVariants.{Done, Short}
use Rattle.term.specs.Word.{pick}
use Rattle.term.specs.Part.{padded}

abbrev pub given_answer : ℕ → List ℕ → Result (Unit {0}) Answer → Answer
given_answer room out (Ok _) = pick (leb (length out) room) Done Short
given_answer room out (Err a) = a

abbrev pub given_left : ℕ → List ℕ → Result (Unit {0}) Answer → List ℕ
given_left room out (Ok _) = padded room out
given_left room out (Err a) = replicate room 0
