-- One meaning has one text, said of what the operations answer and leave: words that are written and read again are the same words, and a text that is read and written again is the same bytes. What the text says and the text of the words undo each other, and the answers are 0 both times.
use mathlib.Core.Path.{◌≡◌, sym, ap, ◌∙◌}
use mathlib.Core.List.{List}
use Prim.Native.Nat.{ℕ, ◌≤◌}
use lib.ListN.{length}
use Rattle.term.specs.declared.answer.Answer.TheVariants.{Done}
use Rattle.std.specs.Prelude.{Ok}
use Rattle.term.specs.Answer.{answered}
use Rattle.term.specs.Check.{check, term_limits}
use Rattle.term.specs.Part.{part_end}
use Rattle.book.specs.Book.{check_book}
use Rattle.text.specs.Line.{line_text}
use Rattle.text.specs.TermText.{says, term_said, ReadTermOutcome, read_term_came, read_term_gives, write_term_came, write_term_gives}
use Rattle.text.specs.BookText.{book_text, book_said, ReadBookOutcome, read_book_came, read_book_gives, write_book_came, write_book_gives}
use Rattle.text.proofs.Rounds.{term_said_lem, said_term}
use Rattle.text.proofs.BookRounds.{book_said_lem, book_bytes, said_book}
use Rattle.text.proofs.Fronts.{term_ends, term_front, book_front}
use Rattle.text.proofs.Answers.{filled, read_good_term, read_term_done, write_good_term, read_good_book, read_book_done, write_good_book}
use Rattle.text.proofs.Outcomes.{read_term_gives_lem, read_term_said, write_term_gives_lem, read_book_gives_lem, read_book_said, write_book_gives_lem}

-- ---- words that are good, with room
term_written : (ws : List ℕ) (room : ℕ) → check term_limits ws ≡ Ok tt → length (line_text ws) ≤ room → write_term_gives ws room ≡ write_term_came (answered Done) (filled room (line_text ws))
term_written ws room g h = let w = write_good_term room ws g h in write_term_gives_lem ws room ∙ rw (w.0, w.1)

term_read : (bs ws : List ℕ) (room : ℕ) → term_said bs ≡ says ws → check term_limits ws ≡ Ok tt → length ws ≤ room → read_term_gives bs room ≡ read_term_came (answered Done) (filled room ws)
term_read bs ws room e g h = let w = read_good_term room ws g h in read_term_gives_lem bs room ∙ rw (e, w.0, w.1)

book_written : (ws : List ℕ) (room : ℕ) → check_book ws ≡ Ok tt → length (book_text ws) ≤ 65536 → length (book_text ws) ≤ room → write_book_gives ws room ≡ write_book_came (answered Done) (filled room (book_text ws))
book_written ws room g m h = let w = write_good_book room ws g m h in write_book_gives_lem ws room ∙ rw (w.0, w.1)

book_read_lem : (bs ws : List ℕ) (room : ℕ) → book_said bs ≡ says ws → check_book ws ≡ Ok tt → length ws ≤ room → read_book_gives bs room ≡ read_book_came (answered Done) (filled room ws)
book_read_lem bs ws room e g h = let w = read_good_book room ws g h in read_book_gives_lem bs room ∙ rw (e, w.0, w.1)

-- ---- a term that is written with room, and its text read with room
pub record TermWrittenRead (ws : List ℕ) (room more : ℕ) : Type 0 where
  pub text : List ℕ
  pub written : write_term_gives ws room ≡ write_term_came (answered Done) (filled room text)
  pub read : read_term_gives text more ≡ read_term_came (answered Done) (filled more ws)

pub term_written_read : (ws : List ℕ) (room more : ℕ) → check term_limits ws ≡ Ok tt → length (line_text ws) ≤ room → length ws ≤ more → TermWrittenRead ws room more
term_written_read ws room more g h l =
    record { text = line_text ws; written = term_written ws room g h; read = term_read (line_text ws) ws more (term_said_lem ws g) g l }

-- ---- the text of a term that is read, and its words written with room; the words end where their counts say
pub record TermReadWritten (bs : List ℕ) (room more : ℕ) : Type 0 where
  pub term : List ℕ
  pub good : check term_limits term ≡ Ok tt
  pub read : read_term_gives bs room ≡ read_term_came (answered Done) (filled room term)
  pub end : part_end (filled room term) ≡ length term
  pub written : write_term_gives term more ≡ write_term_came (answered Done) (filled more bs)

term_says : (bs ws : List ℕ) (room more : ℕ) → term_said bs ≡ says ws → check term_limits ws ≡ Ok tt → length ws ≤ room → length bs ≤ more → TermReadWritten bs room more
term_says bs ws room more e g h l =
    let b : bs ≡ line_text ws = said_term bs ws e in
    record { term = ws; good = g; read = term_read bs ws room e g h; end = term_ends ws _ g; written = rw b (term_written ws more g (rw b at l)) }

pub term_read_written : (bs : List ℕ) (room more : ℕ) → (read_term_gives bs room).said ≡ answered Done → length bs ≤ more → TermReadWritten bs room more
term_read_written bs room more d l =
    let s = read_term_done room (term_said bs) (read_term_said bs room Done d) in term_says bs s.0 room more s.1 s.2 s.3 l

-- ---- a book that is written, and its text read with room
pub record BookWrittenRead (ws : List ℕ) (room more : ℕ) : Type 0 where
  pub text : List ℕ
  pub written : write_book_gives ws room ≡ write_book_came (answered Done) (filled room text)
  pub read : read_book_gives text more ≡ read_book_came (answered Done) (filled more ws)

pub book_written_read : (ws : List ℕ) (room more : ℕ) → check_book ws ≡ Ok tt → length (book_text ws) ≤ 65536 → length (book_text ws) ≤ room → length ws ≤ more → BookWrittenRead ws room more
book_written_read ws room more g m h l =
    record { text = book_text ws; written = book_written ws room g m h; read = book_read_lem (book_text ws) ws more (book_said_lem ws g m) g l }

-- ---- the text of a book that is read, and its words written with room
pub record BookReadWritten (bs : List ℕ) (room more : ℕ) : Type 0 where
  pub book : List ℕ
  pub good : check_book book ≡ Ok tt
  pub read : read_book_gives bs room ≡ read_book_came (answered Done) (filled room book)
  pub written : write_book_gives book more ≡ write_book_came (answered Done) (filled more bs)

book_says : (bs ws : List ℕ) (room more : ℕ) → book_said bs ≡ says ws → check_book ws ≡ Ok tt → length ws ≤ room → length bs ≤ 65536 → length bs ≤ more → BookReadWritten bs room more
book_says bs ws room more e g h m l =
    let b : bs ≡ book_text ws = said_book bs ws e in
    record { book = ws; good = g; read = book_read_lem bs ws room e g h; written = rw b (book_written ws more g (rw b at m) (rw b at l)) }

pub book_read_written : (bs : List ℕ) (room more : ℕ) → (read_book_gives bs room).said ≡ answered Done → length bs ≤ more → BookReadWritten bs room more
book_read_written bs room more d l =
    let s = read_book_done room (book_said bs) (read_book_said bs room Done d) in book_says bs s.0 room more s.1 s.2 s.3 (book_bytes bs s.0 s.1) l

-- ---- two texts that are read and leave the same words are the same bytes
pub one_term_read : (bs cs : List ℕ) (room : ℕ) → (read_term_gives bs room).said ≡ answered Done → (read_term_gives cs room).said ≡ answered Done
    → (read_term_gives bs room).out ≡ (read_term_gives cs room).out → bs ≡ cs
one_term_read bs cs room d e same =
    let s = read_term_done room (term_said bs) (read_term_said bs room Done d) in
    let t = read_term_done room (term_said cs) (read_term_said cs room Done e) in
    term_text_is bs cs s.0 t.0 s.1 t.1 (term_front s.0 t.0 _ _ s.2 t.2 (sym (left bs s.0 s.1 s.2 s.3) ∙ same ∙ left cs t.0 t.1 t.2 t.3))
  where
    left : (bs ws : List ℕ) → term_said bs ≡ says ws → check term_limits ws ≡ Ok tt → length ws ≤ room → (read_term_gives bs room).out ≡ filled room ws
    left bs ws e g h = ap (λ (o : ReadTermOutcome). o.out) (term_read bs ws room e g h)

    term_text_is : (bs cs ws vs : List ℕ) → term_said bs ≡ says ws → term_said cs ≡ says vs → ws ≡ vs → bs ≡ cs
    term_text_is bs cs ws vs p q w = said_term bs ws p ∙ ap (λ (x : List ℕ). line_text x) w ∙ sym (said_term cs vs q)

pub one_book_read : (bs cs : List ℕ) (room : ℕ) → (read_book_gives bs room).said ≡ answered Done → (read_book_gives cs room).said ≡ answered Done
    → (read_book_gives bs room).out ≡ (read_book_gives cs room).out → bs ≡ cs
one_book_read bs cs room d e same =
    let s = read_book_done room (book_said bs) (read_book_said bs room Done d) in
    let t = read_book_done room (book_said cs) (read_book_said cs room Done e) in
    book_text_is bs cs s.0 t.0 s.1 t.1 (book_front s.0 t.0 _ _ s.2 t.2 (sym (left bs s.0 s.1 s.2 s.3) ∙ same ∙ left cs t.0 t.1 t.2 t.3))
  where
    left : (bs ws : List ℕ) → book_said bs ≡ says ws → check_book ws ≡ Ok tt → length ws ≤ room → (read_book_gives bs room).out ≡ filled room ws
    left bs ws e g h = ap (λ (o : ReadBookOutcome). o.out) (book_read_lem bs ws room e g h)

    book_text_is : (bs cs ws vs : List ℕ) → book_said bs ≡ says ws → book_said cs ≡ says vs → ws ≡ vs → bs ≡ cs
    book_text_is bs cs ws vs p q w = said_book bs ws p ∙ ap (λ (x : List ℕ). book_text x) w ∙ sym (said_book cs vs q)
