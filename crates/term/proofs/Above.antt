-- Clauses of definitions that crates above cite: each is its definition's own line, or one induction on the words.
use mathlib.Core.Path.{◌≡◌, refl}
use mathlib.Core.Bool.{true, ◌&&◌}
use mathlib.Core.List.{List, [], ◌∷◌}
use Prim.Native.Nat.{ℕ, zero, suc, ◌+◌, ◌*◌, ◌≤◌}
use native.Mathlib.Omega.{arith}
use lib.Dec.{eqb}
use lib.ListN.{length}
use Rattle.term.specs.Word.{Head, symbol, abstraction, variable, pattern, kind, count, ident, word, InTable, count_of}
use Rattle.term.specs.Renumber.{inside, Listed}
use Rattle.term.specs.Part.{past, part_end, same_words}

-- ---- words of the table
pub ident_symbol : (i c : ℕ) → ident (symbol i c) ≡ i
unfolding ident
ident_symbol i c = refl

pub word_symbol : (i c : ℕ) → word (symbol i c) ≡ c * 65536 + i
unfolding word kind count ident
word_symbol i c = omega arith

pub word_abstraction : word abstraction ≡ 16842752
unfolding word kind count ident
word_abstraction = refl

pub word_variable : (i : ℕ) → word (variable i) ≡ 33554432 + i
unfolding word kind count ident
word_variable i = omega arith

pub word_pattern : (x c : ℕ) → word (pattern x c) ≡ 50331648 + c * 65536 + x
unfolding word kind count ident
word_pattern x c = omega arith

pub pattern_table : (x c : ℕ) → c ≤ 4 → x ≤ 15 → InTable (pattern x c)
unfolding InTable
pattern_table x c a b = (a, b)

pub symbol_table : (i c : ℕ) → c ≤ 15 → i ≤ 1023 → InTable (symbol i c)
unfolding InTable
symbol_table i c a b = (a, b)

pub symbol_few : (i c : ℕ) → InTable (symbol i c) → (c ≤ 15) × (i ≤ 1023)
unfolding InTable
symbol_few i c t = t

pub inside_next : (h : Head) (d : ℕ) → inside h d ≤ suc d
unfolding inside
inside_next (symbol i c) d = omega arith
inside_next abstraction d = omega arith
inside_next (variable i) d = omega arith
inside_next (pattern i c) d = omega arith

-- ---- lists of ids
pub listed_more : (d y : ℕ) (ys : List ℕ) → Listed d (y ∷ ys) → (1 ≤ y) × (y ≤ d) × Listed d ys
unfolding Listed
listed_more d y ys l = (l.0, l.1, l.3)

-- ---- words passed by their counts
pub past_step : (n w : ℕ) (ws : List ℕ) → past (suc n) (w ∷ ws) ≡ suc (past (count_of w + n) ws)
unfolding past
past_step n w ws = refl

past_short : (n : ℕ) (ws : List ℕ) → past n ws ≤ length ws
unfolding past
past_short n [] = omega arith
past_short zero (w ∷ ws) = omega arith
past_short (suc n) (w ∷ ws) = let r = past_short (count_of w + n) ws in omega (arith, r)

pub part_past : (ws : List ℕ) → part_end ws ≡ past 1 ws
unfolding part_end
part_past ws = refl

pub part_short : (ws : List ℕ) → part_end ws ≤ length ws
unfolding part_end
part_short ws = past_short 1 ws

-- ---- the same words
pub same_none : same_words [] [] ≡ true
unfolding same_words
same_none = refl

pub same_more : (w v : ℕ) (ws vs : List ℕ) → same_words (w ∷ ws) (v ∷ vs) ≡ eqb w v && same_words ws vs
unfolding same_words
same_more w v ws vs = refl
