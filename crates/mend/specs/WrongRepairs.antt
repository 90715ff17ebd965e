-- Wrong programs for document 02's E1, each wrong only as its name says: a function from inputs to all that comes back, with an input on which it does not
-- give what the definition gives.
use Rattle.std.specs.Prelude.{ℕ, zero, suc, ◌≡◌, Bool, true, false, ◌&&◌, List, [], ◌∷◌, ◌++◌, leb, ltb, length, replicate, get_or, Ok}
use Rattle.term.specs.declared.answer.Answer.TheVariants.{BadText, Short}
use Rattle.term.specs.Answer.{answered}
use Rattle.term.specs.Word.{pick}
use Rattle.book.specs.Book.{sound, book_of}
use Rattle.text.specs.Bytes.{bytes}
use Rattle.text.specs.Given.{given_answer, given_left}
use Rattle.text.specs.BookText.{book_text}
use Rattle.text.specs.Mail.{Mail, mail_is, bad_mail, mail_said}
use Rattle.mend.specs.Repair.{new_book, Note, dropped, kept, notes_from, notes_text, was_text, RepairBookOutcome, repair_book_came, repair_book_gives}

-- ---- repairing with another choice of what stays, other lines, or another number beside the one stated
-- whether each rule stays
abbrev pub Choice : Type 0
Choice = List (List ℕ) → List Bool

unfoldable pub kept_by : List Bool → List (List ℕ) → List (List ℕ)
kept_by [] rules = []
kept_by (b ∷ marks) [] = []
kept_by (b ∷ marks) (rule ∷ rules) = pick b (rule ∷ kept_by marks rules) (kept_by marks rules)

unfoldable pub notes_of : (old new : ℕ) → List Bool → List Note
notes_of old new [] = []
notes_of old new (true ∷ marks) = kept old new ∷ notes_of (suc old) (suc new) marks
notes_of old new (false ∷ marks) = dropped old ∷ notes_of (suc old) new marks

abbrev pub gives_text : (room : ℕ) (book text : List ℕ) → RepairBookOutcome
gives_text room book text =
    repair_book_came (answered (pick (leb (length (book_text book)) 65536) (given_answer room text (Ok tt)) Short))
    (pick (leb (length (book_text book)) 65536) (given_left room text (Ok tt)) (replicate room 0))

abbrev pub writes : (room : ℕ) (book : List ℕ) (notes : List Note) (was : List ℕ) → RepairBookOutcome
writes room book notes was = gives_text room book (book_text book ++ (notes_text notes ++ was))

abbrev pub by_mail : (ℕ → List (List ℕ) → RepairBookOutcome) → ℕ → Mail → RepairBookOutcome
by_mail gives room (mail_is stated rules) = gives stated rules
by_mail gives room (bad_mail at) = repair_book_came (answered (BadText at)) (replicate room 0)

unfoldable pub choosing : Choice → (text : List ℕ) (room : ℕ) → RepairBookOutcome
choosing choice text room =
    by_mail (λ stated rules. writes room (book_of (kept_by (choice rules) rules)) (notes_of 0 0 (choice rules)) (was_text stated (length rules))) room (mail_said text)

-- ---- the programs
-- one that keeps 65
unfoldable pub up_to65 : ℕ → List (List ℕ) → List Bool
up_to65 before [] = []
up_to65 before (rule ∷ rules) = pick (sound rule && ltb before 65) (true ∷ up_to65 (suc before) rules) (false ∷ up_to65 before rules)

unfoldable pub keeps65 : (text : List ℕ) (room : ℕ) → RepairBookOutcome
keeps65 = choosing (up_to65 0)

-- one that drops a sound rule after a bad one
unfoldable pub until_bad : List (List ℕ) → List Bool
until_bad [] = []
until_bad (rule ∷ rules) = pick (sound rule) (true ∷ until_bad rules) (replicate (suc (length rules)) false)

unfoldable pub drops_after_bad : (text : List ℕ) (room : ℕ) → RepairBookOutcome
drops_after_bad = choosing until_bad

-- one that compares `rules=` with the rules kept
unfoldable pub compares_kept : (text : List ℕ) (room : ℕ) → RepairBookOutcome
compares_kept text room =
    by_mail (λ stated rules. writes room (new_book rules) (notes_from 0 0 rules) (was_text stated (get_or (new_book rules) 0 0))) room (mail_said text)

-- one that writes the new number first
abbrev pub new_first_in : Note → Note
new_first_in (dropped old) = dropped old
new_first_in (kept old new) = kept new old

unfoldable pub all_new_first : List Note → List Note
all_new_first [] = []
all_new_first (note ∷ notes) = new_first_in note ∷ all_new_first notes

unfoldable pub new_first : (text : List ℕ) (room : ℕ) → RepairBookOutcome
new_first text room =
    by_mail (λ stated rules. writes room (new_book rules) (all_new_first (notes_from 0 0 rules)) (was_text stated (length rules))) room (mail_said text)

-- ---- their inputs
-- the first of two rules has a variable on its right that its left has not
unfoldable pub first_bad : List ℕ
first_bad = bytes "book=1\nrules=2\nrule=0\nvars=0\nleft=s0.0\nright=m0.0\nrule=1\nvars=0\nleft=s0.0\nright=s1.0\n"

unfoldable pub times : ℕ → List ℕ → List ℕ
times zero bs = []
times (suc n) bs = bs ++ times n bs

-- 65 sound rules; the first 64 and the lines have 3,005 bytes
unfoldable pub sixty_five : List ℕ
sixty_five = bytes "book=1\nrules=65\n" ++ times 65 (bytes "rule=0\nvars=0\nleft=s0.0\nright=s0.0\n")

pub record WrongRepairs : Type 0 where
  -- "one that keeps 65"
  pub keeps_65 : keeps65 sixty_five 3005 ≡ repair_book_gives sixty_five 3005 → ⊥
  -- "one that compares `rules=` with the rules kept"
  pub compares_kept : compares_kept first_bad 100 ≡ repair_book_gives first_bad 100 → ⊥
  -- "one that writes the new number first"
  pub new_first : new_first first_bad 100 ≡ repair_book_gives first_bad 100 → ⊥
  -- "one that drops a sound rule after a bad one"
  pub drops_after_bad : drops_after_bad first_bad 100 ≡ repair_book_gives first_bad 100 → ⊥
