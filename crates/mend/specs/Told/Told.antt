-- What reading the rules and writing the lines tells.
use Rattle.std.specs.Prelude.{ℕ, zero, suc, ◌≤◌, ◌*◌, ◌≡◌, Bool, false, List, [], ◌∷◌, ◌++◌, leb, eqb, length, take, replicate, Result, Ok, Err}
use Rattle.term.specs.declared.answer.Answer.{Answer}
use Rattle.term.specs.declared.answer.Answer.TheVariants.{Done, Short}
use Rattle.term.specs.Word.{pick}
use Rattle.term.specs.Answer.{answered}
use Rattle.book.specs.Book.{together}
use Rattle.text.specs.Given.{given_answer, given_left}
use Rattle.text.specs.BookText.{book_text}
use Rattle.text.specs.Mail.{Present, rules_present, bad_present, Mail, mail_is, bad_mail, mail_said}
use Rattle.mend.specs.declared.kept.Kept.{Kept}
use Rattle.mend.specs.Repair.{stays, kept_from, new_book, Note, dropped, kept, notes_text, was_text, repaired_text, repair_book_came, repair_book_gives}

-- ---- old numbers of the rules that stay
unfoldable pub olds_from : (old before : ℕ) (rules : List (List ℕ)) → List ℕ
olds_from old before [] = []
olds_from old before (rule ∷ rules) = pick (stays before rule) (old ∷ olds_from (suc old) (suc before) rules) (olds_from (suc old) before rules)

-- whether the first of them is this one
abbrev pub first_is : ℕ → List ℕ → Bool
first_is old [] = false
first_is old (o ∷ olds) = eqb o old

abbrev pub others : List ℕ → List ℕ
others [] = []
others (o ∷ olds) = olds

-- the lines of so many rules, of which those with these old numbers stay
unfoldable pub notes_by : (old new more : ℕ) (olds : List ℕ) → List Note
notes_by old new zero olds = []
notes_by old new (suc more) olds =
    pick (first_is old olds) (kept old new ∷ notes_by (suc old) (suc new) more (others olds)) (dropped old ∷ notes_by (suc old) new more olds)

-- ---- the rules present: how many, and those that stay behind a word for their number
pub record Sorted (o : Present) (book olds : List ℕ) (k : Kept) : Type 0 where
  pub rules : List (List ℕ)
  pub is : o ≡ rules_present rules
  pub present : k.present ≡ length rules
  pub kept_are : k.rules ≡ length (kept_from 0 rules)
  pub words : take k.words book ≡ 0 ∷ together (kept_from 0 rules)
  pub fits : k.words ≤ length book
  pub positions : take k.rules olds ≡ olds_from 0 0 rules
  pub few : 21 * k.present ≤ 65536
  pub many : k.rules ≤ 64

abbrev pub MailedTold : Present → List ℕ → List ℕ → Result Kept ℕ → Type 0
MailedTold o book olds (Ok k) = Sorted o book olds k
MailedTold o book olds (Err line) = o ≡ bad_present line

-- ---- the whole text: the number stated, and the new book
pub record Came (bs book olds : List ℕ) (stated : ℕ) (k : Kept) : Type 0 where
  pub rules : List (List ℕ)
  pub said : mail_said bs ≡ mail_is stated rules
  pub stated_few : stated ≤ 65535
  pub present : k.present ≡ length rules
  pub words : take k.words book ≡ new_book rules
  pub fits : k.words ≤ length book
  pub positions : take k.rules olds ≡ olds_from 0 0 rules
  pub few : 21 * k.present ≤ 65536
  pub many : k.rules ≤ 64

abbrev pub MailTold : List ℕ → List ℕ → List ℕ → Result (ℕ × Kept) ℕ → Type 0
MailTold bs book olds (Ok (stated, k)) = Came bs book olds stated k
MailTold bs book olds (Err line) = mail_said bs ≡ bad_mail line

-- ---- the answer: 0 with so many bytes, or the refusal
abbrev pub answer_of : Result ℕ Answer → Answer
answer_of (Ok n) = Done
answer_of (Err answer) = answer

-- ---- what is written of a new book, the number stated, the rules present and the old numbers of those that stay
abbrev pub written_text : (book : List ℕ) (stated present : ℕ) (olds : List ℕ) → List ℕ
written_text book stated present olds = book_text book ++ (notes_text (notes_by 0 0 present olds) ++ was_text stated present)

pub record WrittenTold (book : List ℕ) (stated present : ℕ) (olds : List ℕ) (room : ℕ) (done : List ℕ) (r : Result ℕ Answer) : Type 0 where
  pub answer : answer_of r ≡ pick (leb (length (book_text book)) 65536) (given_answer room (written_text book stated present olds) (Ok tt)) Short
  pub left : done ≡ pick (leb (length (book_text book)) 65536) (given_left room (written_text book stated present olds) (Ok tt)) (replicate room 0)
  pub size : answer_of r ≡ Done → r ≡ Ok (length (written_text book stated present olds))

-- ---- all that comes back, and the length of the text where one was written
abbrev pub length_of : Mail → ℕ
length_of (mail_is stated rules) = length (repaired_text stated rules)
length_of (bad_mail line) = 0

pub record RepairTold (bs : List ℕ) (room : ℕ) (done : List ℕ) (r : Result ℕ Answer) : Type 0 where
  pub came : repair_book_came (answered (answer_of r)) done ≡ repair_book_gives bs room
  pub size : answer_of r ≡ Done → r ≡ Ok (length_of (mail_said bs))
