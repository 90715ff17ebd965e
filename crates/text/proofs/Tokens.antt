-- A token is read back from its text, and the text that was read is the token's: its letter tells the row of the table, and its numbers end at a dot or where the token ends.
use mathlib.Core.Path.{◌≡◌, refl, ap}
use mathlib.Core.Bool.{Bool, true, false}
use mathlib.Core.List.{List, [], ◌∷◌, ◌++◌, append_assoc}
use mathlib.Core.Option.{none, some}
use Prim.Native.Nat.{ℕ, ◌≤◌}
use lib.Dec.{leb, eqb}
use borrow.Author.Tests.{leb-true, eqb-true, le-leb}
use Rattle.term.specs.Word.{Head, symbol, abstraction, variable, pattern, pick, InTable, word, head_of}
use Rattle.term.proofs.Laws.{head_word_lem, head_is_lem, symbol_few, symbol_table, variable_id, id_variable, pattern_few, pattern_table, abstraction_in_table}
use Rattle.text.specs.Number.{decimal, is_digit, Read, number}
use Rattle.text.specs.Token.{dotted, token_text, word_text, count_read, dot_read, ident_read, dotted_read, variable_read, token}
use Rattle.text.proofs.Numbers.{ends, number_back, number_is}

ends_dot : (bs : List ℕ) → ends (46 ∷ bs) ≡ true
unfolding ends is_digit
ends_dot bs = refl

-- ---- what is written is read
dotted_back : (head : ℕ → ℕ → Head) (ids counts i c : ℕ) (rest : List ℕ) → i ≤ ids → c ≤ counts → ends rest ≡ true
    → dotted_read head ids counts (dotted i c ++ rest) ≡ some (head i c, rest)
unfolding dotted_read dotted
dotted_back head ids counts i c rest h l e =
    rw (append_assoc, number_back ids i (46 ∷ (decimal c ++ rest)) h (ends_dot (decimal c ++ rest)), number_back counts c rest l e)

pub token_back : (h : Head) (rest : List ℕ) → InTable h → ends rest ≡ true → token (token_text h ++ rest) ≡ some (h, rest)
unfolding token token_text
token_back (symbol i c) rest t e = let f = symbol_few i c t in dotted_back symbol 1023 15 i c rest f.1 f.0 e
token_back abstraction rest t e = refl
token_back (variable i) rest t e = let f = variable_id i t in rw (number_back 65535 i rest f.1 e, le-leb 1 i f.0)
token_back (pattern i c) rest t e = let f = pattern_few i c t in dotted_back pattern 15 4 i c rest f.1 f.0 e

-- ---- what was read is what is written
abbrev TokenIs : List ℕ → Read Head → Type 0
TokenIs bs none = Unit {0}
TokenIs bs (some p) = (bs ≡ token_text p.0 ++ p.1) × InTable p.0

module _ (letter : ℕ) (head : ℕ → ℕ → Head) (ids counts : ℕ)
    (text-is : (i c : ℕ) → token_text (head i c) ≡ letter ∷ dotted i c) (in_table : (i c : ℕ) → i ≤ ids → c ≤ counts → InTable (head i c)) (bs : List ℕ) where
  count_are : (i : ℕ) (rest : List ℕ) → bs ≡ decimal i ++ (46 ∷ rest) → i ≤ ids → (o : Read ℕ) → number counts rest ≡ o → TokenIs (letter ∷ bs) (count_read head i o)
  unfolding dotted
  count_are i rest e h none q = tt
  count_are i rest e h (some p) q =
      let k = number_is counts rest p.0 p.1 q in
      (rw (text-is i p.0, e, append_assoc) (ap (λ (x : List ℕ). letter ∷ (decimal i ++ (46 ∷ x))) k.0), in_table i p.0 h k.1)

  dot_are : (i : ℕ) (rest : List ℕ) → bs ≡ decimal i ++ rest → i ≤ ids → TokenIs (letter ∷ bs) (dot_read head counts i rest)
  dot_are i [] e h = tt
  dot_are i (b ∷ rest) e h = go (eqb b 46) refl
    where
      go : (d : Bool) → eqb b 46 ≡ d → TokenIs (letter ∷ bs) (pick d (count_read head i (number counts rest)) none)
      go true q = count_are i rest (rw (eqb-true b 46 q) at e) h (number counts rest) refl
      go false q = tt

  dotted_are : TokenIs (letter ∷ bs) (dotted_read head ids counts bs)
  unfolding dotted_read
  dotted_are = go (number ids bs) refl
    where
      go : (o : Read ℕ) → number ids bs ≡ o → TokenIs (letter ∷ bs) (ident_read head counts o)
      go none q = tt
      go (some p) q = let k = number_is ids bs p.0 p.1 q in dot_are p.0 p.1 k.0 k.1

variable_are : (bs : List ℕ) (o : Read ℕ) → number 65535 bs ≡ o → TokenIs (118 ∷ bs) (variable_read o)
unfolding token_text
variable_are bs none q = tt
variable_are bs (some p) q = go (leb 1 p.0) refl
  where
    go : (b : Bool) → leb 1 p.0 ≡ b → TokenIs (118 ∷ bs) (pick b (some (variable p.0, p.1)) none)
    go true e = let k = number_is 65535 bs p.0 p.1 q in (ap (λ (x : List ℕ). 118 ∷ x) k.0, id_variable p.0 (leb-true 1 p.0 e, k.1))
    go false e = tt

token_are : (bs : List ℕ) → TokenIs bs (token bs)
unfolding token token_text
token_are [] = tt
token_are (b ∷ bs) = go (eqb b 115) refl (eqb b 108) refl (eqb b 118) refl (eqb b 109) refl
  where
    go : (s : Bool) → eqb b 115 ≡ s → (l : Bool) → eqb b 108 ≡ l → (v : Bool) → eqb b 118 ≡ v → (m : Bool) → eqb b 109 ≡ m
        → TokenIs (b ∷ bs) (pick s (dotted_read symbol 1023 15 bs) (pick l (some (abstraction, bs)) (pick v (variable_read (number 65535 bs)) (pick m (dotted_read pattern 15 4 bs) none))))
    go true e l f v g m k = rw (eqb-true b 115 e) (dotted_are 115 symbol 1023 15 (λ i c. refl) (λ i c x y. symbol_table i c y x) bs)
    go false e true f v g m k = (rw (eqb-true b 108 f), abstraction_in_table)
    go false e false f true g m k = rw (eqb-true b 118 g) (variable_are bs (number 65535 bs) refl)
    go false e false f false g true k = rw (eqb-true b 109 k) (dotted_are 109 pattern 15 4 (λ i c. refl) (λ i c x y. pattern_table i c y x) bs)
    go false e false f false g false k = tt

pub token_is : (bs : List ℕ) (h : Head) (rest : List ℕ) → token bs ≡ some (h, rest) → (bs ≡ token_text h ++ rest) × InTable h
token_is bs h rest e = rw e at (token_are bs)

-- ---- tokens of words
pub word_text_lem : (h : Head) → InTable h → word_text (word h) ≡ token_text h
unfolding word_text
word_text_lem h t = rw (head_word_lem h t)

-- a word of the table is read back
pub word_back : (w : ℕ) (h : Head) (rest : List ℕ) → head_of w ≡ some h → ends rest ≡ true → (token (word_text w ++ rest) ≡ some (h, rest)) × (word h ≡ w)
unfolding word_text
word_back w h rest e z = let k = head_is_lem w h e in (rw e (token_back h rest k.1 z), k.0)
