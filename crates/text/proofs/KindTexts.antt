-- The token of a word by its rank: a head of the table has its word's id and count.
use mathlib.Core.Path.{◌≡◌, refl, sym, ap, ◌∙◌}
use mathlib.Core.List.{[], ◌∷◌}
use mathlib.Core.Option.{Option, none, some}
use Prim.Native.Nat.{ℕ, zero, suc, ◌+◌, ◌*◌, ◌/◌, ◌≤◌, ◌<◌}
use native.Mathlib.Omega.{arith}
use lib.ListN.{length, length-append}
use Rattle.term.specs.Word.{Head, symbol, abstraction, variable, pattern, count, ident, InTable, count_of, ident_of, head_of}
use Rattle.term.specs.Check.{rank_or}
use Rattle.term.proofs.Laws.{head_is_lem, count_word_lem, ident_word, rank_symbol, rank_abstraction, rank_variable, rank_pattern, count_symbol, count_pattern, ident_symbol, ident_variable, ident_pattern, symbol_few, variable_id, pattern_few}
use Rattle.text.specs.Number.{decimal}
use Rattle.text.specs.Token.{dotted, token_text, token_o, word_text}
use Rattle.text.proofs.Numbers.{decimal_one, decimal_more}

module _ (w : ℕ) where
  ident_is : (h : Head) → head_of w ≡ some h → ident h ≡ ident_of w
  ident_is h e = let k = head_is_lem w h e in sym (ident_word h k.1) ∙ ap (λ (x : ℕ). ident_of x) k.0

  count_is : (h : Head) → head_of w ≡ some h → count h ≡ count_of w
  count_is h e = let k = head_is_lem w h e in sym (count_word_lem h k.1) ∙ ap (λ (x : ℕ). count_of x) k.0

  pub symbol_text : rank_or 4 (head_of w) ≡ 0 → word_text w ≡ 115 ∷ dotted (ident_of w) (count_of w)
  unfolding word_text token_text
  symbol_text e = go (head_of w) refl e
    where
      go : (o : Option Head) → head_of w ≡ o → rank_or 4 o ≡ 0 → token_o o ≡ 115 ∷ dotted (ident_of w) (count_of w)
      go none q z = absurd (omega arith)
      go (some (symbol i c)) q z = rw (← ident_is (symbol i c) q, ← count_is (symbol i c) q, ident_symbol i c, count_symbol i c)
      go (some abstraction) q z = absurd (omega (arith, rank_abstraction))
      go (some (variable i)) q z = absurd (omega (arith, rank_variable i))
      go (some (pattern i c)) q z = absurd (omega (arith, rank_pattern i c))

  pub abstraction_text : rank_or 4 (head_of w) ≡ 1 → word_text w ≡ 108 ∷ []
  unfolding word_text token_text
  abstraction_text e = go (head_of w) e
    where
      go : (o : Option Head) → rank_or 4 o ≡ 1 → token_o o ≡ 108 ∷ []
      go none z = absurd (omega arith)
      go (some (symbol i c)) z = absurd (omega (arith, rank_symbol i c))
      go (some abstraction) z = refl
      go (some (variable i)) z = absurd (omega (arith, rank_variable i))
      go (some (pattern i c)) z = absurd (omega (arith, rank_pattern i c))

  pub variable_text : rank_or 4 (head_of w) ≡ 2 → word_text w ≡ 118 ∷ decimal (ident_of w)
  unfolding word_text token_text
  variable_text e = go (head_of w) refl e
    where
      go : (o : Option Head) → head_of w ≡ o → rank_or 4 o ≡ 2 → token_o o ≡ 118 ∷ decimal (ident_of w)
      go none q z = absurd (omega arith)
      go (some (symbol i c)) q z = absurd (omega (arith, rank_symbol i c))
      go (some abstraction) q z = absurd (omega (arith, rank_abstraction))
      go (some (variable i)) q z = rw (← ident_is (variable i) q, ident_variable i)
      go (some (pattern i c)) q z = absurd (omega (arith, rank_pattern i c))

  pub pattern_text : rank_or 4 (head_of w) ≡ 3 → word_text w ≡ 109 ∷ dotted (ident_of w) (count_of w)
  unfolding word_text token_text
  pattern_text e = go (head_of w) refl e
    where
      go : (o : Option Head) → head_of w ≡ o → rank_or 4 o ≡ 3 → token_o o ≡ 109 ∷ dotted (ident_of w) (count_of w)
      go none q z = absurd (omega arith)
      go (some (symbol i c)) q z = absurd (omega (arith, rank_symbol i c))
      go (some abstraction) q z = absurd (omega (arith, rank_abstraction))
      go (some (variable i)) q z = absurd (omega (arith, rank_variable i))
      go (some (pattern i c)) q z = rw (← ident_is (pattern i c) q, ← count_is (pattern i c) q, ident_pattern i c, count_pattern i c)

  pub no_text : (rank_or 4 (head_of w) ≡ 0 → ⊥) → (rank_or 4 (head_of w) ≡ 1 → ⊥) → (rank_or 4 (head_of w) ≡ 2 → ⊥) → (rank_or 4 (head_of w) ≡ 3 → ⊥) → word_text w ≡ []
  unfolding word_text token_text
  no_text s l v m = go (head_of w) s l v m
    where
      go : (o : Option Head) → (rank_or 4 o ≡ 0 → ⊥) → (rank_or 4 o ≡ 1 → ⊥) → (rank_or 4 o ≡ 2 → ⊥) → (rank_or 4 o ≡ 3 → ⊥) → token_o o ≡ []
      go none a b c d = refl
      go (some (symbol i k)) a b c d = absurd (a (rank_symbol i k))
      go (some abstraction) a b c d = absurd (b rank_abstraction)
      go (some (variable i)) a b c d = absurd (c (rank_variable i))
      go (some (pattern i k)) a b c d = absurd (d (rank_pattern i k))

-- ---- a token has at most 12 bytes
longer : (m k : ℕ) → ((n : ℕ) → n < m → length (decimal n) ≤ k) → (n : ℕ) → n < 10 * m → length (decimal n) ≤ k + 1
longer m k short n h = go (n / 10) refl
  where
    go : (t : ℕ) → n / 10 ≡ t → length (decimal n) ≤ k + 1
    go zero e = rw (decimal_one n (omega arith)) (omega arith)
    go (suc t) e = let s = short (n / 10) (omega arith) in rw (decimal_more n (omega arith), length-append) (omega arith)

pub decimal_short : (n : ℕ) → n < 100000 → length (decimal n) ≤ 5
decimal_short n h =
    longer 10000 4 (longer 1000 3 (longer 100 2 (longer 10 1 (λ m l. rw (decimal_one m l) (omega arith))))) n (omega arith)

dotted_short : (i c : ℕ) → i < 100000 → c < 100000 → length (dotted i c) ≤ 11
unfolding dotted
dotted_short i c h l = rw length-append (omega (arith, decimal_short i h, decimal_short c l))

pub token_short : (h : Head) → InTable h → length (token_text h) ≤ 12
unfolding token_text
token_short (symbol i c) t = let f = symbol_few i c t in omega (arith, dotted_short i c (omega arith) (omega arith))
token_short abstraction t = omega arith
token_short (variable i) t = let f = variable_id i t in omega (arith, decimal_short i (omega arith))
token_short (pattern i c) t = let f = pattern_few i c t in omega (arith, dotted_short i c (omega arith) (omega arith))

pub word_short : (w : ℕ) → length (word_text w) ≤ 12
unfolding word_text
word_short w = go (head_of w) refl
  where
    go : (o : Option Head) → head_of w ≡ o → length (token_o o) ≤ 12
    go none q = omega arith
    go (some h) q = token_short h (head_is_lem w h q).1
