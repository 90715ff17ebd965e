-- Document 02, E3: "a table with the length of the subterm at every offset, no more".
use Rattle.std.specs.Prelude.{ℕ, suc, List, [], ◌∷◌, ◌++◌, leb, eqb, length, replicate, Result, Ok, Err}
use Rattle.std.proofs.Math.Option.{Option, none, some}
use Rattle.term.specs.declared.answer.Answer.{Answer}
use Rattle.term.specs.declared.answer.Answer.TheVariants.{Done, BadTerm, Short, Disagree}
use Rattle.term.specs.Answer.{Answered, answered}
use Rattle.term.specs.Word.{pick}
use Rattle.term.specs.Row.{Row, nothing, node, words}
use Rattle.term.specs.Check.{check, term_limits}
use Rattle.term.specs.Part.{part_end, part, padded}

-- the table of a row: at each offset the number of words of the tree that begins there
unfoldable pub lengths_of : Row → List ℕ
lengths_of nothing = []
lengths_of (node h kids rest) = length (words (node h kids nothing)) ∷ (lengths_of kids ++ lengths_of rest)

abbrev pub lengths_o : Option Row → List ℕ
lengths_o none = []
lengths_o (some t) = lengths_of t

-- the table of a term in words
unfoldable pub table_of : List ℕ → List ℕ
table_of term = lengths_o (part term)

-- the same of any words, by their counts alone: at each offset, how many words the part takes
unfoldable pub part_lengths : List ℕ → List ℕ
part_lengths [] = []
part_lengths (w ∷ ws) = part_end (w ∷ ws) ∷ part_lengths ws

-- ---- what making a table answers and leaves: 0, 11, 13
pub record LengthsOutcome : Type 0 where
  pub said : Answered
  pub out : List ℕ

abbrev pub lengths_came : Answered → List ℕ → LengthsOutcome
lengths_came said out = record { said = said; out = out }

abbrev pub table_made : List ℕ → ℕ → Result (Unit {0}) ℕ → LengthsOutcome
table_made term room (Ok _) = lengths_came (answered (pick (leb (length (table_of term)) room) Done Short)) (padded room (table_of term))
table_made term room (Err at) = lengths_came (answered (BadTerm at)) (replicate room 0)

unfoldable pub lengths_gives : (term : List ℕ) (room : ℕ) → LengthsOutcome
lengths_gives term room = table_made term room (check term_limits term)

-- ---- what checking a table answers: 0, 11, and 19, "table and term disagree, at = first wrong, missing or surplus offset"
unfoldable pub agreed : ℕ → List ℕ → List ℕ → Answer
agreed at [] [] = Done
agreed at [] (m ∷ ms) = Disagree at
agreed at (n ∷ ns) [] = Disagree at
agreed at (n ∷ ns) (m ∷ ms) = pick (eqb n m) (agreed (suc at) ns ms) (Disagree at)

abbrev pub table_checked : List ℕ → List ℕ → Result (Unit {0}) ℕ → Answer
table_checked term table (Ok _) = agreed 0 (table_of term) table
table_checked term table (Err at) = BadTerm at

unfoldable pub check_lengths_gives : (term table : List ℕ) → Answered
check_lengths_gives term table = answered (table_checked term table (check term_limits term))
