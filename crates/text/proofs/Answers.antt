-- What the operations answer and leave, by what the text says and how the words are judged. The answer is 0 just where the text is in form, the words are good and there is room, and every other answer leaves zeros.
use mathlib.Core.Path.{◌≡◌, refl, ap}
use mathlib.Core.Bool.{Bool, true, false}
use mathlib.Core.List.{List, ◌++◌}
use Prim.Native.Nat.{ℕ, ◌-◌, ◌≤◌, ◌<◌}
use lib.Dec.{leb}
use lib.ListN.{length, replicate}
use borrow.Author.Tests.{leb-true, leb-false, le-leb, lt-leb}
use Rattle.term.specs.declared.answer.Answer.{Answer}
use Rattle.term.specs.declared.answer.Answer.TheVariants.{Done, BadText, BadTerm, BadBook, Short}
use Rattle.std.specs.Prelude.{Result, Ok, Err}
use Rattle.term.specs.Word.{pick}
use Rattle.term.specs.Check.{check, term_limits}
use Rattle.term.specs.Part.{padded}
use Rattle.term.proofs.Laws.{never, padded_fits, padded_short}
use Rattle.book.specs.Book.{check_book}
use Rattle.book.specs.Accept.{accept}
use Rattle.book.proofs.Laws.{good_accepted, bad_refused, accepted_good}
use Rattle.text.specs.Given.{given_answer, given_left}
use Rattle.text.specs.Line.{line_text}
use Rattle.text.specs.TermText.{Said, says, bad_line, accept_term, read_answer, read_words, write_answer, write_bytes}
use Rattle.text.specs.BookText.{book_text, text_gives, text_leaves, read_book_answer, read_book_words, write_book_answer, write_book_bytes}
use Rattle.text.proofs.Givens.{good_term, bad_term_lem, sound_term}

-- an answer, and what is left with it
abbrev pub Are : Answer → List ℕ → Answer → List ℕ → Type 0
Are r out answer left = (r ≡ answer) × (out ≡ left)

-- what was asked for, and zeros after it
abbrev pub filled : ℕ → List ℕ → List ℕ
filled room bs = bs ++ replicate (room - length bs) 0

-- a book that is refused is not answered with 0
refused_undone : (ws : List ℕ) → accept ws ≡ Err Done → ⊥
refused_undone ws e = go (check_book ws) refl
  where
    go : (c : Result (Unit {0}) ℕ) → check_book ws ≡ c → ⊥
    go (Ok _) g = never (let z = good_accepted ws g in cc)
    go (Err at) g = never (let z = bad_refused ws at g in cc)

-- nor is such a term
unsound_undone : (ws : List ℕ) → accept_term ws ≡ Err Done → ⊥
unsound_undone ws e = go (check term_limits ws) refl
  where
    go : (c : Result (Unit {0}) ℕ) → check term_limits ws ≡ c → ⊥
    go (Ok _) g = never (let z = good_term ws g in cc)
    go (Err at) g = never (let z = bad_term_lem ws at g in cc)

-- ---- room is asked for last
module _ (room : ℕ) (bs : List ℕ) where
  fits : length bs ≤ room → Are (pick (leb (length bs) room) Done Short) (padded room bs) Done (filled room bs)
  fits h = (rw (le-leb (length bs) room h), padded_fits room bs h)

  short : room < length bs → Are (pick (leb (length bs) room) Done Short) (padded room bs) Short (replicate room 0)
  short h = (rw (lt-leb (length bs) room h), padded_short room bs h)

  done_fits : pick (leb (length bs) room) Done Short ≡ Done → length bs ≤ room
  done_fits e = go (leb (length bs) room) refl e
    where
      go : (b : Bool) → leb (length bs) room ≡ b → pick b Done Short ≡ Done → length bs ≤ room
      go true q z = leb-true (length bs) room q
      go false q z = never (cc)

  undone_zeros : (pick (leb (length bs) room) Done Short ≡ Done → ⊥) → padded room bs ≡ replicate room 0
  undone_zeros n = go (leb (length bs) room) refl n
    where
      go : (b : Bool) → leb (length bs) room ≡ b → (pick b Done Short ≡ Done → ⊥) → padded room bs ≡ replicate room 0
      go true q z = absurd (z refl)
      go false q z = padded_short room bs (leb-false (length bs) room q)

  -- ---- what was accepted or refused
  given_done : (k : Result (Unit {0}) Answer) → (k ≡ Err Done → ⊥) → given_answer room bs k ≡ Done → (k ≡ Ok tt) × (length bs ≤ room)
  given_done (Ok _) n e = (refl, done_fits e)
  given_done (Err a) n e = absurd (n (ap Err e))

  given_zeros : (k : Result (Unit {0}) Answer) → (given_answer room bs k ≡ Done → ⊥) → given_left room bs k ≡ replicate room 0
  given_zeros (Ok _) n = undone_zeros n
  given_zeros (Err a) n = refl

  text_done : (k : Result (Unit {0}) Answer) → (k ≡ Err Done → ⊥) → text_gives room bs k ≡ Done → (k ≡ Ok tt) × (length bs ≤ 65536) × (length bs ≤ room)
  text_done (Ok _) n e = go (leb (length bs) 65536) refl e
    where
      go : (b : Bool) → leb (length bs) 65536 ≡ b → pick b (pick (leb (length bs) room) Done Short) Short ≡ Done → (◌≡◌ {A = Result (Unit {0}) Answer} (Ok tt) (Ok tt)) × (length bs ≤ 65536) × (length bs ≤ room)
      go true q z = (refl, leb-true (length bs) 65536 q, done_fits z)
      go false q z = never (cc)
  text_done (Err a) n e = absurd (n (ap Err e))

  text_zeros : (k : Result (Unit {0}) Answer) → (text_gives room bs k ≡ Done → ⊥) → text_leaves room bs k ≡ replicate room 0
  text_zeros (Ok _) n = go (leb (length bs) 65536) n
    where
      go : (b : Bool) → (pick b (pick (leb (length bs) room) Done Short) Short ≡ Done → ⊥) → pick b (padded room bs) (replicate room 0) ≡ replicate room 0
      go true z = undone_zeros z
      go false z = refl
  text_zeros (Err a) n = refl

-- ---- reading a term
module _ (room : ℕ) where
  pub read_bad_line : (at : ℕ) → Are (read_answer room (bad_line at)) (read_words room (bad_line at)) (BadText at) (replicate room 0)
  unfolding read_answer read_words
  read_bad_line at = (refl, refl)

  module _ (ws : List ℕ) where
    pub read_bad_term : (at : ℕ) → check term_limits ws ≡ Err at → Are (read_answer room (says ws)) (read_words room (says ws)) (BadTerm at) (replicate room 0)
    unfolding read_answer read_words
    read_bad_term at k = rw (bad_term_lem ws at k) (refl, refl)

    module _ (k : check term_limits ws ≡ Ok tt) where
      pub read_good_term : length ws ≤ room → Are (read_answer room (says ws)) (read_words room (says ws)) Done (filled room ws)
      unfolding read_answer read_words
      read_good_term h = rw (good_term ws k) (fits room ws h)

      pub read_short_term : room < length ws → Are (read_answer room (says ws)) (read_words room (says ws)) Short (replicate room 0)
      unfolding read_answer read_words
      read_short_term h = rw (good_term ws k) (short room ws h)

  pub read_term_done : (said : Said) → read_answer room said ≡ Done → (ws : List ℕ) × (said ≡ says ws) × (check term_limits ws ≡ Ok tt) × (length ws ≤ room)
  unfolding read_answer
  read_term_done (says ws) e = let d = given_done room ws (accept_term ws) (unsound_undone ws) e in (ws, refl, sound_term ws d.0, d.1)
  read_term_done (bad_line at) e = never (cc)

  pub read_term_zeros : (said : Said) → (read_answer room said ≡ Done → ⊥) → read_words room said ≡ replicate room 0
  unfolding read_answer read_words
  read_term_zeros (says ws) n = given_zeros room ws (accept_term ws) n
  read_term_zeros (bad_line at) n = refl

-- ---- writing a term
module _ (room : ℕ) (ws : List ℕ) where
  pub write_bad_term : (at : ℕ) → check term_limits ws ≡ Err at → Are (write_answer room ws) (write_bytes room ws) (BadTerm at) (replicate room 0)
  unfolding write_answer write_bytes
  write_bad_term at k = rw (bad_term_lem ws at k) (refl, refl)

  module _ (k : check term_limits ws ≡ Ok tt) where
    pub write_good_term : length (line_text ws) ≤ room → Are (write_answer room ws) (write_bytes room ws) Done (filled room (line_text ws))
    unfolding write_answer write_bytes
    write_good_term h = rw (good_term ws k) (fits room (line_text ws) h)

    pub write_short_term : room < length (line_text ws) → Are (write_answer room ws) (write_bytes room ws) Short (replicate room 0)
    unfolding write_answer write_bytes
    write_short_term h = rw (good_term ws k) (short room (line_text ws) h)

  pub write_term_done : write_answer room ws ≡ Done → (check term_limits ws ≡ Ok tt) × (length (line_text ws) ≤ room)
  unfolding write_answer
  write_term_done e = let d = given_done room (line_text ws) (accept_term ws) (unsound_undone ws) e in (sound_term ws d.0, d.1)

  pub write_term_zeros : (write_answer room ws ≡ Done → ⊥) → write_bytes room ws ≡ replicate room 0
  unfolding write_answer write_bytes
  write_term_zeros n = given_zeros room (line_text ws) (accept_term ws) n

-- ---- reading a book
module _ (room : ℕ) where
  pub read_bad_book_line : (at : ℕ) → Are (read_book_answer room (bad_line at)) (read_book_words room (bad_line at)) (BadText at) (replicate room 0)
  unfolding read_book_answer read_book_words
  read_bad_book_line at = (refl, refl)

  module _ (ws : List ℕ) where
    pub read_bad_book : (at : ℕ) → check_book ws ≡ Err at → Are (read_book_answer room (says ws)) (read_book_words room (says ws)) (BadBook at) (replicate room 0)
    unfolding read_book_answer read_book_words
    read_bad_book at k = rw (bad_refused ws at k) (refl, refl)

    module _ (k : check_book ws ≡ Ok tt) where
      pub read_good_book : length ws ≤ room → Are (read_book_answer room (says ws)) (read_book_words room (says ws)) Done (filled room ws)
      unfolding read_book_answer read_book_words
      read_good_book h = rw (good_accepted ws k) (fits room ws h)

      pub read_short_book : room < length ws → Are (read_book_answer room (says ws)) (read_book_words room (says ws)) Short (replicate room 0)
      unfolding read_book_answer read_book_words
      read_short_book h = rw (good_accepted ws k) (short room ws h)

  pub read_book_done : (said : Said) → read_book_answer room said ≡ Done → (ws : List ℕ) × (said ≡ says ws) × (check_book ws ≡ Ok tt) × (length ws ≤ room)
  unfolding read_book_answer
  read_book_done (says ws) e = let d = given_done room ws (accept ws) (refused_undone ws) e in (ws, refl, accepted_good ws d.0, d.1)
  read_book_done (bad_line at) e = never (cc)

  pub read_book_zeros : (said : Said) → (read_book_answer room said ≡ Done → ⊥) → read_book_words room said ≡ replicate room 0
  unfolding read_book_answer read_book_words
  read_book_zeros (says ws) n = given_zeros room ws (accept ws) n
  read_book_zeros (bad_line at) n = refl

-- ---- writing a book
module _ (room : ℕ) (ws : List ℕ) where
  pub write_bad_book : (at : ℕ) → check_book ws ≡ Err at → Are (write_book_answer room ws) (write_book_bytes room ws) (BadBook at) (replicate room 0)
  unfolding write_book_answer write_book_bytes
  write_bad_book at k = rw (bad_refused ws at k) (refl, refl)

  module _ (k : check_book ws ≡ Ok tt) where
    pub write_long_book : 65536 < length (book_text ws) → Are (write_book_answer room ws) (write_book_bytes room ws) Short (replicate room 0)
    unfolding write_book_answer write_book_bytes
    write_long_book l = rw (good_accepted ws k, lt-leb (length (book_text ws)) 65536 l) (refl, refl)

    module _ (l : length (book_text ws) ≤ 65536) where
      pub write_good_book : length (book_text ws) ≤ room → Are (write_book_answer room ws) (write_book_bytes room ws) Done (filled room (book_text ws))
      unfolding write_book_answer write_book_bytes
      write_good_book h = rw (good_accepted ws k, le-leb (length (book_text ws)) 65536 l) (fits room (book_text ws) h)

      pub write_short_book : room < length (book_text ws) → Are (write_book_answer room ws) (write_book_bytes room ws) Short (replicate room 0)
      unfolding write_book_answer write_book_bytes
      write_short_book h = rw (good_accepted ws k, le-leb (length (book_text ws)) 65536 l) (short room (book_text ws) h)

  pub write_book_done : write_book_answer room ws ≡ Done → (check_book ws ≡ Ok tt) × (length (book_text ws) ≤ 65536) × (length (book_text ws) ≤ room)
  unfolding write_book_answer
  write_book_done e =
      let d = text_done room (book_text ws) (accept ws) (refused_undone ws) e in (accepted_good ws d.0, d.1, d.2)

  pub write_book_zeros : (write_book_answer room ws ≡ Done → ⊥) → write_book_bytes room ws ≡ replicate room 0
  unfolding write_book_answer write_book_bytes
  write_book_zeros n = text_zeros room (book_text ws) (accept ws) n
