-- What reading and writing a term answer and leave, for each way through the code; and a term's text says just that term.
use mathlib.Core.Path.{◌≡◌, refl, ◌∙◌}
use mathlib.Core.List.{List, [], ◌∷◌, ◌++◌, append_assoc}
use mathlib.Core.Option.{none, some}
use Prim.Native.Nat.{ℕ, ◌+◌, ◌≤◌, ◌<◌}
use native.Mathlib.Omega.{arith}
use native.Mathlib.Numerals.{add-one}
use lib.ListN.{length, replicate, take, drop, get_or, drop_of_length-le}
use lib.Seq.{sets, sets-eq, drop-cons, take_at}
use borrow.Author.Tests.{le-leb, lt-leb}
use Rattle.term.specs.declared.answer.Answer.{Answer}
use Rattle.term.specs.declared.answer.Answer.TheVariants.{BadText}
use Rattle.term.specs.Answer.{answered}
use Rattle.text.specs.Given.{given_answer, given_left}
use Rattle.text.specs.Token.{word_text}
use Rattle.text.specs.Line.{rest_text, line_text, line}
use Rattle.text.specs.TermText.{says, bad_line, term_said, accept_term, read_answer, read_words, write_answer, write_bytes, read_term_came, read_term_gives, write_term_came, write_term_gives}
use Rattle.text.proofs.Lines.{line_is}
use Rattle.text.proofs.Outcomes.{read_term_came_lem, write_term_came_lem}

-- ---- what a text says
module _ (bs : List ℕ) where
  pub too_long : 65536 < length bs → term_said bs ≡ bad_line 0
  unfolding term_said
  too_long h = rw (lt-leb (length bs) 65536 h)

  module _ (h : length bs ≤ 65536) where
    pub no_line : line 4096 bs ≡ none → term_said bs ≡ bad_line 1
    unfolding term_said
    no_line e = rw (le-leb (length bs) 65536 h, e)

    module _ (ws : List ℕ) (next : ℕ) (e : line 4096 bs ≡ some (ws, drop next bs)) where
      pub line_after : next < length bs → term_said bs ≡ bad_line 2
      unfolding term_said
      line_after l = rw (le-leb (length bs) 65536 h, e, drop-cons bs next 0 l)

      pub line_alone : length bs ≤ next → term_said bs ≡ says ws
      unfolding term_said
      line_alone l = rw (le-leb (length bs) 65536 h, e, drop_of_length-le bs {i = next} l)

-- ---- what is answered
pub answer_bad : (room : ℕ) (bs : List ℕ) (at : ℕ) (last : List ℕ) → term_said bs ≡ bad_line at → last ≡ replicate room 0 → read_term_came (answered (BadText at)) last ≡ read_term_gives bs room
unfolding read_answer read_words
answer_bad room bs at last e z = read_term_came_lem bs room (BadText at) last (rw e (refl, z))

-- the words vs, where they are what the text says, are given as they are judged
pub read_given : (room : ℕ) (bs ws vs : List ℕ) (r : Answer) (last : List ℕ) → term_said bs ≡ says ws → vs ≡ ws
    → (r ≡ given_answer room vs (accept_term vs)) × (last ≡ given_left room vs (accept_term vs)) → read_term_came (answered r) last ≡ read_term_gives bs room
unfolding read_answer read_words
read_given room bs ws vs r last e v g = read_term_came_lem bs room r last (rw e (rw v at g))

-- what is written of a term is its line
pub write_given : (room : ℕ) (ws : List ℕ) (r : Answer) (last : List ℕ)
    → (r ≡ given_answer room (line_text ws) (accept_term ws)) × (last ≡ given_left room (line_text ws) (accept_term ws)) → write_term_came (answered r) last ≡ write_term_gives ws room
unfolding write_answer write_bytes
write_given room ws r last g = write_term_came_lem ws room r last g

-- the words that were put into a work area are its first
pub first_words : (work ws done : List ℕ) (n : ℕ) → done ≡ sets work 0 ws → length ws ≡ n → n ≤ length work → take n done ≡ ws
first_words work ws done n d e h =
    let s : 0 + length ws ≤ length work = omega arith in rw (d, sets-eq ws work 0 s) (take_at ws (drop (0 + length ws) work) n e)

pub few_words : (bs ws : List ℕ) (next n : ℕ) → line 4096 bs ≡ some (ws, drop next bs) → length ws ≡ n → n ≤ 4096
few_words bs ws next n e l = omega (arith, (line_is 4096 bs ws (drop next bs) e).few)

-- ---- writing a line
module _ (words : List ℕ) (i : ℕ) (bs : List ℕ) (left : rest_text words ≡ bs ++ rest_text (drop i words)) where
  pub rest_next : i < length words → rest_text words ≡ (bs ++ (32 ∷ word_text (get_or words i 0))) ++ rest_text (drop (i + 1) words)
  unfolding rest_text
  rest_next h = left ∙ rw (drop-cons words i 0 h, append_assoc bs, add-one i)

  pub rest_ends : length words ≤ i → rest_text words ≡ bs ++ (10 ∷ [])
  unfolding rest_text
  rest_ends h = left ∙ rw (drop_of_length-le words {i = i} h)

pub first_rest : (words : List ℕ) → 0 < length words → line_text words ≡ word_text (get_or words 0 0) ++ rest_text (drop 1 words)
unfolding line_text
first_rest [] h = absurd (omega arith)
first_rest (w ∷ ws) h = refl

pub no_words : (words : List ℕ) → length words ≡ 0 → line_text words ≡ 10 ∷ []
unfolding line_text
no_words [] h = refl
no_words (w ∷ ws) h = absurd (omega arith)
