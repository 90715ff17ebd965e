-- Heads and their words: a head in the table is read back from its word, and a word that is read gives itself back.
use mathlib.Core.Path.{◌≡◌, refl, sym, ◌∙◌}
use mathlib.Core.Bool.{Bool, true, false, ◌&&◌}
use mathlib.Core.List.{List}
use mathlib.Core.Option.{Option, none, some}
use Prim.Native.Nat.{ℕ, ◌≤◌, ◌<◌}
use native.Mathlib.Omega.{arith}
use lib.Dec.{leb, ltb, eqb}
use lib.ListN.{length, get_or}
use borrow.Author.Tests.{eqb-true, leb-true, le-leb, ltb-true, ltb-false}
use Rattle.std.proofs.lemmas.List.{get_or_default}
use Rattle.term.specs.Check.{rank_or}
use Rattle.term.specs.Word.{Head, symbol, abstraction, variable, pattern, pick, kind, count, ident, word, InTable, kind_of, count_of, ident_of, head_with, head_of}

pub never : {A : Type 0} → ◌≡◌ {A = ℕ} 0 1 → A
never e = absurd (omega arith)

pub and_left : (a b : Bool) → a && b ≡ true → a ≡ true
and_left true b e = refl
and_left false b e = e

pub and_right : (a b : Bool) → a && b ≡ true → b ≡ true
and_right true b e = e
and_right false b e = never (cc)

pub and_both : (a b : Bool) → a ≡ true → b ≡ true → a && b ≡ true
and_both true b p q = q
and_both false b p q = p

-- the three parts of a word of the table
pub kind_word : (h : Head) → InTable h → kind_of (word h) ≡ kind h
unfolding word kind count ident InTable
kind_word (symbol i c) t = omega arith
kind_word abstraction t = refl
kind_word (variable i) t = omega arith
kind_word (pattern i c) t = omega arith

pub count_word_lem : (h : Head) → InTable h → count_of (word h) ≡ count h
unfolding word kind count ident InTable
count_word_lem (symbol i c) t = omega arith
count_word_lem abstraction t = refl
count_word_lem (variable i) t = omega arith
count_word_lem (pattern i c) t = omega arith

pub ident_word : (h : Head) → InTable h → ident_of (word h) ≡ ident h
unfolding word kind count ident InTable
ident_word (symbol i c) t = omega arith
ident_word abstraction t = refl
ident_word (variable i) t = omega arith
ident_word (pattern i c) t = omega arith

with_parts : (h : Head) → InTable h → head_with (kind h) (count h) (ident h) ≡ some h
unfolding head_with kind count ident InTable
with_parts (symbol i c) t = rw (le-leb c 15 t.0, le-leb i 1023 t.1)
with_parts abstraction t = refl
with_parts (variable i) t = rw (le-leb 1 i t.0)
with_parts (pattern i c) t = rw (le-leb c 4 t.0, le-leb i 15 t.1)

-- what is written is read
pub head_word_lem : (h : Head) → InTable h → head_of (word h) ≡ some h
unfolding head_of
head_word_lem h t = rw (kind_word h t, count_word_lem h t, ident_word h t) (with_parts h t)

-- what a word that is read has
abbrev pub WordIs : ℕ → Option Head → Type 0
WordIs w none = Unit {0}
WordIs w (some h) = (word h ≡ w) × InTable h

module _ (w : ℕ) where
  picked : (b : Bool) (o p : Option Head) → (b ≡ true → WordIs w o) → (b ≡ false → WordIs w p) → WordIs w (pick b o p)
  picked true o p yes-it no-it = yes-it refl
  picked false o p yes-it no-it = no-it refl

  shown : (b : Bool) (h : Head) → (b ≡ true → WordIs w (some h)) → WordIs w (pick b (some h) none)
  shown true h f = f refl
  shown false h f = tt

  pub word_head : WordIs w (head_of w)
  unfolding head_of head_with word kind count ident InTable
  word_head =
      let k = kind_of w in
      let c = count_of w in
      let i = ident_of w in
      picked (eqb k 0) _ _
      (λ e. shown (leb c 15 && leb i 1023) (symbol i c)
      (λ t. let kz = eqb-true k 0 e in (omega arith, (leb-true c 15 (and_left (leb c 15) _ t), leb-true i 1023 (and_right (leb c 15) _ t)))))
      (λ n0. picked (eqb k 1) _ _
      (λ e. shown (eqb c 1 && eqb i 0) abstraction
      (λ t. let kz = eqb-true k 1 e in let cz = eqb-true c 1 (and_left (eqb c 1) _ t) in let iz = eqb-true i 0 (and_right (eqb c 1) _ t) in (omega arith, tt)))
      (λ n1. picked (eqb k 2) _ _
      (λ e. shown (eqb c 0 && leb 1 i) (variable i)
      (λ t. let kz = eqb-true k 2 e in let cz = eqb-true c 0 (and_left (eqb c 0) _ t) in (omega arith, (leb-true 1 i (and_right (eqb c 0) _ t), omega arith))))
      (λ n2. picked (eqb k 3) _ _
      (λ e. shown (leb c 4 && leb i 15) (pattern i c)
      (λ t. let kz = eqb-true k 3 e in (omega arith, (leb-true c 4 (and_left (leb c 4) _ t), leb-true i 15 (and_right (leb c 4) _ t)))))
      (λ n3. tt))))

pub head_is_lem : (w : ℕ) (h : Head) → head_of w ≡ some h → (word h ≡ w) × InTable h
head_is_lem w h e = rw e at (word_head w)

-- the rank of a word, by its parts
pub table_is : (w k c i r : ℕ) → k ≡ kind_of w → c ≡ count_of w → i ≡ ident_of w → r ≡ rank_or 4 (head_with k c i) → r ≡ rank_or 4 (head_of w)
unfolding head_of
table_is w k c i r a b d e = rw (a, b, d) at e

-- ---- what `get` tells of an offset: the word that stands there, or that the words end before
module _ (ws : List ℕ) (i : ℕ) where
  pub word_there : (w : ℕ) → true ≡ ltb i (length ws) → w ≡ get_or ws i w → (i < length ws) × (w ≡ get_or ws i 0)
  word_there w t e = let h = ltb-true i (length ws) (sym t) in (h, e ∙ sym (get_or_default ws i 0 w h))

  pub words_past : false ≡ ltb i (length ws) → length ws ≤ i
  words_past t = ltb-false i (length ws) (sym t)
