-- Document 02, "E1", of whatever the operations may hand back: the request's sentences in the comments, and below them what they became.
use Rattle.std.specs.Prelude.{ℕ, ◌-◌, ◌≤◌, ◌≡◌, false, List, ◌∷◌, ◌++◌, length, replicate}
use Rattle.term.specs.declared.answer.Answer.TheVariants.{Done}
use Rattle.term.specs.Answer.{Answered, answered}
use Rattle.book.specs.Book.{book_of}
use Rattle.text.specs.BookText.{book_text, ReadBookOutcome}
use Rattle.text.specs.Mail.{mail_is, mail_said}
use Rattle.mend.specs.Repair.{stays, kept_from, new_book, notes_text, repaired_text, RepairBookOutcome}
use Rattle.mend.specs.Keeps.{all_kept, kept_before, Keeps}
use Rattle.rosenduch.specs.Operations.{Operations}

-- a text, and zeros after it
abbrev pub Holds : ℕ → List ℕ → List ℕ → Type 0
Holds room out text = out ≡ text ++ replicate (room - length text) 0

pub record Repairs (ops : Operations) : Type 0 where
  -- where repairing answers 0, the text came by mail, and there stand the new book's text and the lines
  pub repaired : (text : List ℕ) (room : ℕ) (o : RepairBookOutcome) → ops.repair_book text room o → o.said ≡ answered Done
      → (stated : ℕ) × (rules : List (List ℕ)) × (mail_said text ≡ mail_is stated rules) × (length (book_text (new_book rules)) ≤ 65536) × Holds room o.out (repaired_text stated rules)
  -- "The new book is accepted, always."
  pub accepted : (text : List ℕ) (stated : ℕ) (rules : List (List ℕ)) → mail_said text ≡ mail_is stated rules
      → (said : Answered) → ops.check_book (new_book rules) said → said ≡ answered Done
  -- "What stands in the book part reads back to the rules kept, in order."
  pub reads_back : (text : List ℕ) (stated : ℕ) (rules : List (List ℕ)) → mail_said text ≡ mail_is stated rules → length (book_text (new_book rules)) ≤ 65536
      → (room : ℕ) (o : ReadBookOutcome) → ops.read_book (book_text (new_book rules)) room o → length (new_book rules) ≤ room
      → (o.said ≡ answered Done) × Holds room o.out (book_of (kept_from 0 rules))
  -- "A sound book comes back byte for byte, before the `kept=` lines."
  pub comes_back : (text : List ℕ) (more : ℕ) (p : ReadBookOutcome) → ops.read_book text more p → p.said ≡ answered Done
      → (room : ℕ) (o : RepairBookOutcome) → ops.repair_book text room o → o.said ≡ answered Done
      → (rules : List (List ℕ)) × Holds room o.out (text ++ notes_text (all_kept 0 (length rules)))
  -- "Nothing is dropped that could have stayed": "put back into its place, the book is refused"
  pub put_back : (text : List ℕ) (stated : ℕ) (front : List (List ℕ)) (rule : List ℕ) (back : List (List ℕ)) → mail_said text ≡ mail_is stated (front ++ (rule ∷ back))
      → stays (kept_before front) rule ≡ false
      → (said : Answered) → ops.check_book (book_of (kept_from 0 front ++ (rule ∷ kept_from (kept_before front) back))) said → 10 ≤ said.number
  -- the rest is said of the definitions
  pub keeps : Keeps
