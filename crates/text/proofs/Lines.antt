-- A line's words are read back from its text, and the text that was read is theirs: each token ends at a blank or at the end of the line, neither of which is a digit.
use mathlib.Core.Path.{◌≡◌, refl, ap, ◌∙◌}
use mathlib.Core.Bool.{Bool, true, false}
use mathlib.Core.List.{List, [], ◌∷◌, ◌++◌, append_assoc}
use mathlib.Core.Option.{none, some}
use Prim.Native.Nat.{ℕ, zero, suc, ◌≤◌}
use native.Mathlib.Omega.{arith}
use lib.Dec.{eqb}
use lib.ListN.{length}
use borrow.Author.Tests.{eqb-true}
use Rattle.term.specs.Word.{Head, pick, InTable, word, head_of}
use Rattle.term.proofs.Laws.{head_word_lem}
use Rattle.text.specs.Number.{is_digit, Read}
use Rattle.text.specs.Token.{word_text, token_text, token}
use Rattle.text.specs.Line.{rest_text, line_text, ahead, token_end, token_then, line}
use Rattle.text.proofs.Numbers.{ends}
use Rattle.text.proofs.Tokens.{token_is, word_text_lem, word_back}

-- each word is in the table
unfoldable pub Known : List ℕ → Type 0
Known [] = Unit {0}
Known (w ∷ ws) = ((h : Head) × (head_of w ≡ some h)) × Known ws

pub ends_rest : (ws rest : List ℕ) → ends (rest_text ws ++ rest) ≡ true
unfolding rest_text ends is_digit
ends_rest [] rest = refl
ends_rest (w ∷ ws) rest = refl

-- ---- what is written is read
one_back : (most w : ℕ) (rest : List ℕ) (h : Head) → head_of w ≡ some h → line (suc most) (line_text (w ∷ []) ++ rest) ≡ some (w ∷ [], rest)
unfolding line line_text rest_text ends is_digit
one_back most w rest h e = let k = word_back w h (10 ∷ rest) e refl in rw (append_assoc, k.0, k.1)

more_back : (most w v : ℕ) (ws rest : List ℕ) (h : Head) → head_of w ≡ some h → line most (line_text (v ∷ ws) ++ rest) ≡ some (v ∷ ws, rest)
    → line (suc most) (line_text (w ∷ v ∷ ws) ++ rest) ≡ some (w ∷ v ∷ ws, rest)
unfolding line line_text rest_text ends is_digit
more_back most w v ws rest h e again =
    let k = word_back w h (32 ∷ ((word_text v ++ rest_text ws) ++ rest)) e refl in rw (append_assoc (word_text w) (32 ∷ (word_text v ++ rest_text ws)) rest, k.0, again, k.1)

pub line_back : (most : ℕ) (ws rest : List ℕ) → Known ws → 1 ≤ length ws → length ws ≤ most → line most (line_text ws ++ rest) ≡ some (ws, rest)
unfolding Known
line_back most [] rest k h l = absurd (omega arith)
line_back zero (w ∷ ws) rest k h l = absurd (omega arith)
line_back (suc most) (w ∷ []) rest k h l = one_back most w rest k.0.0 k.0.1
line_back (suc most) (w ∷ v ∷ ws) rest k h l =
    more_back most w v ws rest k.0.0 k.0.1 (line_back most (v ∷ ws) rest k.1 (omega arith) (omega arith))

-- ---- what was read is what is written
abbrev LineIs : ℕ → List ℕ → Read (List ℕ) → Type 0
LineIs most bs none = Unit {0}
LineIs most bs (some p) = (bs ≡ line_text p.0 ++ p.1) × Known p.0 × (1 ≤ length p.0) × (length p.0 ≤ most)

module _ (most : ℕ) (bs : List ℕ) (h : Head) (t : InTable h) where
  last_are : (rest : List ℕ) → bs ≡ token_text h ++ (10 ∷ rest) → LineIs (suc most) bs (some (word h ∷ [], rest))
  unfolding line_text rest_text Known
  last_are rest e = (rw (word_text_lem h t, append_assoc) e, ((h, head_word_lem h t), tt), omega arith, omega arith)

  blank_are : (rest : List ℕ) → bs ≡ token_text h ++ (32 ∷ rest) → (o : Read (List ℕ)) → LineIs most rest o → LineIs (suc most) bs (ahead (word h ∷ []) o)
  unfolding line_text rest_text Known
  blank_are rest e none k = tt
  blank_are rest e (some ([], after)) k = absurd (omega (arith, k.2))
  blank_are rest e (some (v ∷ ws, after)) k =
      (rw (word_text_lem h t, append_assoc (token_text h)) (e ∙ ap (λ (x : List ℕ). token_text h ++ (32 ∷ x)) k.0), ((h, head_word_lem h t), k.1), omega arith, omega (arith, k.3))

  end_are : (rest : List ℕ) → bs ≡ token_text h ++ rest → ((after : List ℕ) → LineIs most after (line most after)) → LineIs (suc most) bs (token_end (line most) (word h) rest)
  end_are [] e again = tt
  end_are (b ∷ rest) e again = go (eqb b 10) refl (eqb b 32) refl
    where
      go : (x : Bool) → eqb b 10 ≡ x → (y : Bool) → eqb b 32 ≡ y
          → LineIs (suc most) bs (pick x (some (word h ∷ [], rest)) (pick y (ahead (word h ∷ []) (line most rest)) none))
      go true p y q = last_are rest (rw (eqb-true b 10 p) at e)
      go false p true q = blank_are rest (rw (eqb-true b 32 q) at e) (line most rest) (again rest)
      go false p false q = tt

then_are : (most : ℕ) (bs : List ℕ) → ((after : List ℕ) → LineIs most after (line most after)) → (o : Read Head) → token bs ≡ o → LineIs (suc most) bs (token_then (line most) o)
then_are most bs again none q = tt
then_are most bs again (some p) q = let k = token_is bs p.0 p.1 q in end_are most bs p.0 k.1 p.1 k.0 again

line_are : (most : ℕ) (bs : List ℕ) → LineIs most bs (line most bs)
unfolding line
line_are zero bs = tt
line_are (suc most) bs = then_are most bs (line_are most) (token bs) refl

pub record LineWas (most : ℕ) (bs ws rest : List ℕ) : Type 0 where
  pub same : bs ≡ line_text ws ++ rest
  pub known : Known ws
  pub some_words : 1 ≤ length ws
  pub few : length ws ≤ most

pub line_is : (most : ℕ) (bs ws rest : List ℕ) → line most bs ≡ some (ws, rest) → LineWas most bs ws rest
line_is most bs ws rest e = let k : LineIs most bs (some (ws, rest)) = rw e at (line_are most bs) in record { same = k.0; known = k.1; some_words = k.2; few = k.3 }
