-- What reading the lines of a book tells, and what reading a book answers and leaves, for each way through the code.
use mathlib.Core.Path.{◌≡◌, refl, ap, ◌∙◌}
use mathlib.Core.List.{List, ◌∷◌}
use mathlib.Core.Option.{none, some}
use Prim.Native.Nat.{ℕ, ◌+◌, ◌≤◌, ◌<◌}
use native.Mathlib.Omega.{arith}
use lib.ListN.{length, replicate, drop, set, drop_of_length-le}
use lib.Seq.{sets, drop-cons}
use borrow.Author.Tests.{le-leb, lt-leb}
use Rattle.std.specs.Prelude.{Ok}
use Rattle.term.specs.declared.answer.Answer.{Answer}
use Rattle.term.specs.declared.answer.Answer.TheVariants.{BadText}
use Rattle.term.specs.Answer.{answered}
use Rattle.book.specs.Accept.{accept}
use Rattle.text.specs.Given.{given_answer, given_left}
use Rattle.text.specs.TermText.{says, bad_line}
use Rattle.text.specs.BookText.{book_line, rules_key, keyed, number_line, rules_read, rules_are, bad_at, book_read, due_after, book_said, read_book_answer, read_book_words, read_book_came, read_book_gives}
use Rattle.text.specs.Told.BookTold.{RulesTold}
use Rattle.text.proofs.Outcomes.{read_book_came_lem}

-- ---- the lines of a book from an offset on
module _ (bs : List ℕ) (at : ℕ) where
  pub no_book_lem : keyed book_line (drop at bs) ≡ none → book_read (drop at bs) ≡ bad_at 1
  unfolding book_read
  no_book_lem e = rw e

  module _ (a : ℕ) (e : keyed book_line (drop at bs) ≡ some (drop a bs)) where
    pub no_count : number_line rules_key 64 (drop a bs) ≡ none → book_read (drop at bs) ≡ bad_at 2
    unfolding book_read
    no_count q = rw (e, q)

    module _ (n b : ℕ) (q : number_line rules_key 64 (drop a bs) ≡ some (n, drop b bs)) where
      pub no_rules : (line : ℕ) → rules_read 0 n (drop b bs) ≡ bad_at line → book_read (drop at bs) ≡ bad_at line
      unfolding book_read
      no_rules line r = rw (e, q, r)

      pub all_rules : (out mid done : List ℕ) (m next : ℕ) → mid ≡ set out 0 n → RulesTold (rules_read 0 n) 8384 bs b 1 mid done (Ok (m, next))
          → RulesTold book_read 8385 bs at 0 out done (Ok (m + 1, next))
      unfolding book_read
      all_rules out mid done m next s t =
          (n ∷ t.0, rw (e, q, t.1), omega (arith, t.2), t.3 ∙ ap (λ (x : List ℕ). sets x 1 t.0) s, t.4, omega (arith, t.5))

-- ---- what a text says
module _ (bs : List ℕ) where
  pub too_long : 65536 < length bs → book_said bs ≡ bad_line 0
  unfolding book_said
  too_long h = rw (lt-leb (length bs) 65536 h)

  module _ (h : length bs ≤ 65536) where
    pub bad_line_lem : (line : ℕ) → book_read bs ≡ bad_at line → book_said bs ≡ bad_line line
    unfolding book_said
    bad_line_lem line e = rw (le-leb (length bs) 65536 h, e)

    module _ (ws : List ℕ) (next : ℕ) (e : book_read bs ≡ rules_are ws (drop next bs)) where
      pub more_lines : next < length bs → book_said bs ≡ bad_line (due_after ws)
      unfolding book_said
      more_lines l = rw (le-leb (length bs) 65536 h, e, drop-cons bs next 0 l)

      pub no_more : length bs ≤ next → book_said bs ≡ says ws
      unfolding book_said
      no_more l = rw (le-leb (length bs) 65536 h, e, drop_of_length-le bs {i = next} l)

-- ---- what is answered
pub answer_bad : (room : ℕ) (bs : List ℕ) (at : ℕ) (last : List ℕ) → book_said bs ≡ bad_line at → last ≡ replicate room 0 → read_book_came (answered (BadText at)) last ≡ read_book_gives bs room
unfolding read_book_answer read_book_words
answer_bad room bs at last e z = read_book_came_lem bs room (BadText at) last (rw e (refl, z))

-- the words vs, where they are what the text says, are given as they are judged
pub read_given : (room : ℕ) (bs ws vs : List ℕ) (r : Answer) (last : List ℕ) → book_said bs ≡ says ws → vs ≡ ws
    → (r ≡ given_answer room vs (accept vs)) × (last ≡ given_left room vs (accept vs)) → read_book_came (answered r) last ≡ read_book_gives bs room
unfolding read_book_answer read_book_words
read_given room bs ws vs r last e v g = read_book_came_lem bs room r last (rw e (rw v at g))
