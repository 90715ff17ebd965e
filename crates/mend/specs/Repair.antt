-- Document 02, "E1": the rules of a book that came by mail which stay, the lines that say which, and what repairing gives.
use Rattle.std.specs.Prelude.{ℕ, suc, Bool, ◌&&◌, List, [], ◌∷◌, ◌++◌, leb, ltb, eqb, length, replicate, Ok}
use Rattle.term.specs.declared.answer.Answer.{Answer}
use Rattle.term.specs.declared.answer.Answer.TheVariants.{BadText, Short}
use Rattle.term.specs.Answer.{Answered, answered}
use Rattle.term.specs.Word.{pick}
use Rattle.book.specs.Book.{sound, book_of}
use Rattle.text.specs.Bytes.{byte, bytes}
use Rattle.text.specs.Given.{given_answer, given_left}
use Rattle.text.specs.Number.{decimal}
use Rattle.text.specs.BookText.{number_text, book_text}
use Rattle.text.specs.Mail.{Mail, mail_is, bad_mail, mail_said}

-- ---- what stays
-- a rule stays where it keeps the book rules: "Of more than 64 sound rules the first 64 stay"
unfoldable pub stays : (before : ℕ) (rule : List ℕ) → Bool
stays before rule = sound rule && ltb before 64

-- the rules that stay, of those after so many that stayed
unfoldable pub kept_from : (before : ℕ) (rules : List (List ℕ)) → List (List ℕ)
kept_from before [] = []
kept_from before (rule ∷ rules) = pick (stays before rule) (rule ∷ kept_from (suc before) rules) (kept_from before rules)

-- "leaves out every rule that breaks the book rules, renumbers the rest in order"
unfoldable pub new_book : (rules : List (List ℕ)) → List ℕ
new_book rules = book_of (kept_from 0 rules)

-- ---- the lines after the book
pub data Note : Type 0 where
  dropped : (old : ℕ) → Note
  kept : (old new : ℕ) → Note

-- one for each rule present, by old number
unfoldable pub notes_from : (old new : ℕ) (rules : List (List ℕ)) → List Note
notes_from old new [] = []
notes_from old new (rule ∷ rules) =
    pick (stays new rule) (kept old new ∷ notes_from (suc old) (suc new) rules) (dropped old ∷ notes_from (suc old) new rules)

abbrev pub dropped_key : List ℕ
dropped_key = bytes "dropped="

abbrev pub kept_key : List ℕ
kept_key = bytes "kept="

abbrev pub was_key : List ℕ
was_key = bytes "rules-was="

-- `dropped=<old>`, `kept=<old> <new>`
unfoldable pub note_text : Note → List ℕ
note_text (dropped old) = number_text dropped_key old []
note_text (kept old new) = kept_key ++ (decimal old ++ (byte " " ∷ (decimal new ++ (byte "\n" ∷ []))))

unfoldable pub notes_text : List Note → List ℕ
notes_text [] = []
notes_text (note ∷ notes) = note_text note ++ notes_text notes

-- "Where the rules present and `rules=` disagree .. a line `rules-was=` with the stated number is added as the last"
unfoldable pub was_text : (stated present : ℕ) → List ℕ
was_text stated present = pick (eqb stated present) [] (number_text was_key stated [])

unfoldable pub repaired_text : (stated : ℕ) (rules : List (List ℕ)) → List ℕ
repaired_text stated rules = book_text (new_book rules) ++ (notes_text (notes_from 0 0 rules) ++ was_text stated (length rules))

-- ---- answers, and what is left in a lent slice of `room`
-- a new book whose text is over 65,536 bytes is not written, whatever the room
unfoldable pub repair_answer : (room : ℕ) → Mail → Answer
repair_answer room (mail_is stated rules) =
    pick (leb (length (book_text (new_book rules))) 65536) (given_answer room (repaired_text stated rules) (Ok tt)) Short
repair_answer room (bad_mail at) = BadText at

unfoldable pub repair_bytes : (room : ℕ) → Mail → List ℕ
repair_bytes room (mail_is stated rules) =
    pick (leb (length (book_text (new_book rules))) 65536) (given_left room (repaired_text stated rules) (Ok tt)) (replicate room 0)
repair_bytes room (bad_mail at) = replicate room 0

-- ---- all that comes back
pub record RepairBookOutcome : Type 0 where
  pub said : Answered
  pub out : List ℕ

abbrev pub repair_book_came : Answered → List ℕ → RepairBookOutcome
repair_book_came said out = record { said = said; out = out }

unfoldable pub repair_book_gives : (text : List ℕ) (room : ℕ) → RepairBookOutcome
repair_book_gives text room = repair_book_came (answered (repair_answer room (mail_said text))) (repair_bytes room (mail_said text))
