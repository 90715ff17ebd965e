-- Document 02, "E1": what repairing a book keeps and what it leaves out, as one record: the request's sentences in the comments, and below them what
-- they became. All is said of the definitions, of every text in form and of every rule in it.
use Rattle.std.specs.Prelude.{ℕ, zero, suc, ◌≤◌, ◌≡◌, true, false, List, [], ◌∷◌, ◌++◌, map, ◌⊎◌, length, Ok, Err}
use Rattle.term.specs.declared.answer.Answer.{Answer}
use Rattle.term.specs.Word.{pick}
use Rattle.book.specs.Accept.{accept}
use Rattle.book.specs.Book.{sound, book_of}
use Rattle.text.specs.TermText.{says}
use Rattle.text.specs.BookText.{book_text, book_said}
use Rattle.text.specs.Mail.{mail_is, mail_said}
use Rattle.mend.specs.Repair.{stays, kept_from, new_book, Note, dropped, kept, notes_from, notes_text, repaired_text}

-- ---- the numbers of the lines
-- so many numbers from this one on
unfoldable pub up_to : (first many : ℕ) → List ℕ
up_to first zero = []
up_to first (suc many) = first ∷ up_to (suc first) many

-- so many lines that say that a rule stays under its own number
unfoldable pub all_kept : (first many : ℕ) → List Note
all_kept first zero = []
all_kept first (suc many) = kept first first ∷ all_kept (suc first) many

abbrev pub old_of : Note → ℕ
old_of (dropped old) = old
old_of (kept old new) = old

-- the new numbers, in the order of the lines
unfoldable pub news_of : List Note → List ℕ
news_of [] = []
news_of (dropped old ∷ notes) = news_of notes
news_of (kept old new ∷ notes) = new ∷ news_of notes

-- ---- one rule between others
-- how many of the rules before it stayed
abbrev pub kept_before : List (List ℕ) → ℕ
kept_before front = length (kept_from 0 front)

pub record LeftOut (front : List (List ℕ)) (rule : List ℕ) (back : List (List ℕ)) : Type 0 where
  -- "a dropped rule breaks the book rules, or 64 kept ones stand before it"
  pub breaks_or_over : (sound rule ≡ false) ⊎ (kept_before front ≡ 64)
  -- its place is between those that stay before it and those that stay after it
  pub out : kept_from 0 (front ++ (rule ∷ back)) ≡ kept_from 0 front ++ kept_from (kept_before front) back
  -- "put back into its place, the book is refused"
  pub put_back : (a : Answer) × (accept (book_of (kept_from 0 front ++ (rule ∷ kept_from (kept_before front) back))) ≡ Err a)

-- ---- a sound book
pub record ComesBack (text book : List ℕ) (rules : List (List ℕ)) : Type 0 where
  pub in_form : mail_said text ≡ mail_is (length rules) rules
  pub all_stay : kept_from 0 rules ≡ rules
  pub same_book : new_book rules ≡ book
  pub same_text : book_text (new_book rules) ≡ text
  pub then_kept : repaired_text (length rules) rules ≡ text ++ notes_text (all_kept 0 (length rules))

pub record Keeps : Type 0 where
  -- "The new book is accepted, always."
  pub accepted : (text : List ℕ) (stated : ℕ) (rules : List (List ℕ)) → mail_said text ≡ mail_is stated rules → accept (new_book rules) ≡ Ok tt
  -- it has at most 64 rules
  pub at_most : (rules : List (List ℕ)) → length (kept_from 0 rules) ≤ 64
  -- "A sound book comes back byte for byte, before the `kept=` lines."
  pub comes_back : (text book : List ℕ) → book_said text ≡ says book → accept book ≡ Ok tt → (rules : List (List ℕ)) × ComesBack text book rules
  -- "What stands in the book part reads back to the rules kept, in order."
  pub reads_back : (text : List ℕ) (stated : ℕ) (rules : List (List ℕ)) → mail_said text ≡ mail_is stated rules → length (book_text (new_book rules)) ≤ 65536
      → book_said (book_text (new_book rules)) ≡ says (book_of (kept_from 0 rules))
  -- "Nothing is dropped that could have stayed"
  pub left_out : (text : List ℕ) (stated : ℕ) (rules : List (List ℕ)) → mail_said text ≡ mail_is stated rules
      → (front : List (List ℕ)) (rule : List ℕ) (back : List (List ℕ)) → rules ≡ front ++ (rule ∷ back)
      → stays (kept_before front) rule ≡ false → LeftOut front rule back
  -- and a rule that is not dropped stands between those that stay before it and those that stay after it
  pub stayed : (front : List (List ℕ)) (rule : List ℕ) (back : List (List ℕ)) → stays (kept_before front) rule ≡ true
      → kept_from 0 (front ++ (rule ∷ back)) ≡ kept_from 0 front ++ (rule ∷ kept_from (suc (kept_before front)) back)
  -- "Every old number stands in exactly one line, in order"
  pub olds_once : (rules : List (List ℕ)) → map old_of (notes_from 0 0 rules) ≡ up_to 0 (length rules)
  -- "new numbers count from 0"
  pub news_counted : (rules : List (List ℕ)) → news_of (notes_from 0 0 rules) ≡ up_to 0 (length (kept_from 0 rules))
  -- the line of a rule says `kept=` with its new number where it stays, and `dropped=` where not
  pub note_at : (front : List (List ℕ)) (rule : List ℕ) (back : List (List ℕ))
      → notes_from 0 0 (front ++ (rule ∷ back))
      ≡ notes_from 0 0 front
      ++ (pick (stays (kept_before front) rule) (kept (length front) (kept_before front)) (dropped (length front))
      ∷ notes_from (suc (length front)) (pick (stays (kept_before front) rule) (suc (kept_before front)) (kept_before front)) back)
