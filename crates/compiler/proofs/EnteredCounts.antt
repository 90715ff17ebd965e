-- The next child of a spot begins where the counts of the words say that this one ends, and in a left side of an accepted book each word counts what stands below it.
use mathlib.Core.Path.{◌≡◌, sym, ap, ◌∙◌}
use mathlib.Core.List.{List, [], ◌∷◌}
use Prim.Native.Nat.{ℕ, suc, ◌+◌, ◌-◌, ◌≤◌, ◌<◌}
use native.Mathlib.Omega.{arith}
use lib.ListN.{length, get_or, take, drop}
use lib.Seq.{drop-cons}
use Rattle.term.specs.Word.{Head, variable, pattern, word, count_of}
use Rattle.term.specs.Renumber.{Listed, inside}
use Rattle.term.specs.Part.{past}
use Rattle.term.proofs.Laws.{count_word_lem, count_variable, count_pattern, id_variable, pattern_table, listed_more, inside_next, past_step, past_none, part_past}
use Rattle.fit.specs.Left.{Left, end, hole, part, wide, deep, GoodLeft}
use Rattle.fit.specs.Constraint.{Place}
use Rattle.fit.proofs.Laws.{deep_hole, deep_part, wide_end, wide_hole, wide_part, good_hole, good_part}
use Rattle.tree.specs.Path.{Uncovered}
use Rattle.compiler.specs.Told.Tables.{next_child}
use Rattle.compiler.specs.Told.Stands.{spread, ListAt, LeftAt}
use Rattle.compiler.proofs.NumberLaws.{next_in}

-- ---- the words of a left side count what stands below them
abbrev NoneBelow : List ℕ → Type 0
NoneBelow [] = Unit {0}
NoneBelow (y ∷ ys) = (count_of (word (variable y)) ≡ 0) × NoneBelow ys

abbrev pub Counts : Left → Type 0
Counts end = Unit {0}
Counts (hole x ys rest) = (count_of (word (pattern x (length ys))) ≡ length ys) × NoneBelow ys × Counts rest
Counts (part h kids rest) = (count_of (word h) ≡ wide kids) × Counts kids × Counts rest

variable_counts : (y : ℕ) → 1 ≤ y → y ≤ 65535 → count_of (word (variable y)) ≡ 0
variable_counts y a b = count_word_lem (variable y) (id_variable y (a, b)) ∙ count_variable y

pattern_counts : (x c : ℕ) → c ≤ 4 → x ≤ 15 → count_of (word (pattern x c)) ≡ c
pattern_counts x c a b = count_word_lem (pattern x c) (pattern_table x c a b) ∙ count_pattern x c

list_counts : (d : ℕ) (ys : List ℕ) → d ≤ 65535 → Listed d ys → NoneBelow ys
list_counts d [] h l = tt
list_counts d (y ∷ ys) h l = let t = listed_more d y ys l in (variable_counts y t.0 (omega (arith, h, t.1)), list_counts d ys h t.2)

pub good_counts : (vars d : ℕ) (x : Left) → vars ≤ 16 → d + deep x ≤ 65535 → GoodLeft vars d x → Counts x
good_counts vars d end v h g = tt
good_counts vars d (hole x ys rest) v h g =
    let s = good_hole vars d x ys rest g in
    (pattern_counts x (length ys) s.1.few (omega (arith, s.0)), list_counts d ys (omega arith) s.1.listed, good_counts vars d rest v (omega (arith, deep_hole x ys rest)) s.2)
good_counts vars d (part f kids rest) v h g =
    let s = good_part vars d f kids rest g in
    let m = deep_part f kids rest in
    (count_word_lem f s.0 ∙ sym s.1, good_counts vars (inside f d) kids v (omega (arith, m.0, inside_next f d)) s.3, good_counts vars d rest v (omega (arith, m.1)) s.4)

-- ---- past the words of a left side
spread_one : (h : Head) (kids : Left) → (wide (part h kids end) ≡ 1) × (spread (part h kids end) ≡ 1 + spread kids)
unfolding spread
spread_one h kids = (omega (arith, wide_part h kids end, wide_end), omega arith)

hole_one : (x : ℕ) (ys : List ℕ) → (wide (hole x ys end) ≡ 1) × (spread (hole x ys end) ≡ 1 + length ys)
unfolding spread
hole_one x ys = (omega (arith, wide_hole x ys end, wide_end), omega arith)

module _ (fixed : List ℕ) (to : ℕ) (within : to ≤ length fixed) where
  -- the words from k up to the end of the rule's spots
  abbrev words_from : ℕ → List ℕ
  words_from k = take (to - k) (drop k fixed)

  words_step : (k : ℕ) → k < to → words_from k ≡ get_or fixed k 0 ∷ words_from (suc k)
  words_step k h =
      let z : to - k ≡ suc (to - suc k) = omega arith in
      ap (λ (m : ℕ). take m (drop k fixed)) z ∙ ap (take (suc (to - suc k))) (drop-cons fixed k 0 (omega (arith, within)))

  past_word : (k w n : ℕ) → k < to → get_or fixed k 0 ≡ w → past (suc n) (words_from k) ≡ suc (past (count_of w + n) (words_from (suc k)))
  past_word k w n h e = ap (past (suc n)) (words_step k h) ∙ past_step n (get_or fixed k 0) (words_from (suc k)) ∙ rw e

  past_list : (nums ys : List ℕ) (k m : ℕ) → k + length ys ≤ to → NoneBelow ys → ListAt fixed nums k ys → past (length ys + m) (words_from k) ≡ length ys + past m (words_from (k + length ys))
  unfolding ListAt
  past_list nums [] k m h c l =
      let z : k + 0 ≡ k = omega arith in
      let y : 0 + m ≡ m = omega arith in
      rw (z, y) (omega arith)
  past_list nums (y ∷ ys) k m h c l =
      let z : suc (length ys) + m ≡ suc (length ys + m) = omega arith in
      let x : k + suc (length ys) ≡ suc k + length ys = omega arith in
      let w : count_of (word (variable y)) + (length ys + m) ≡ length ys + m = omega (arith, c.0) in
      let a = past_word k (word (variable y)) (length ys + m) (omega arith) l.0 in
      let b : past (suc (length ys + m)) (words_from k) ≡ suc (past (length ys + m) (words_from (suc k))) = rw w at a in
      rw (z, x) (omega (arith, b, past_list nums ys (suc k) m (omega arith) c.1 l.2))

  pub past_left : (nums : List ℕ) (us : List Uncovered) (x : Left) (k : ℕ) (p : Place) (i d m : ℕ) → k + spread x ≤ to → Counts x → LeftAt fixed nums us k p i d x
      → past (wide x + m) (words_from k) ≡ spread x + past m (words_from (k + spread x))
  unfolding LeftAt spread
  past_left nums us end k p i d m h c l =
      let z : k + 0 ≡ k = omega arith in
      let y : wide end + m ≡ m = omega (arith, wide_end) in
      rw (z, y) (omega arith)
  past_left nums us (hole x ys rest) k p i d m h c l =
      let z : wide (hole x ys rest) + m ≡ suc (wide rest + m) = omega (arith, wide_hole x ys rest) in
      let a = past_word k (word (pattern x (length ys))) (wide rest + m) (omega arith) l.0 in
      let b : past (suc (wide rest + m)) (words_from k) ≡ suc (past (length ys + (wide rest + m)) (words_from (suc k))) = rw c.0 at a in
      let e = past_list nums ys (suc k) (wide rest + m) (omega arith) c.1 l.3 in
      let q : suc k + length ys ≡ k + 1 + length ys = omega arith in
      let f : past (length ys + (wide rest + m)) (words_from (suc k)) ≡ length ys + past (wide rest + m) (words_from (k + 1 + length ys)) = rw q at e in
      let t : k + (1 + length ys + spread rest) ≡ k + 1 + length ys + spread rest = omega arith in
      rw (z, t) (omega (arith, b, f, past_left nums us rest (k + 1 + length ys) p (suc i) d m (omega arith) c.2 l.4))
  past_left nums us (part g kids rest) k p i d m h c l =
      let z : wide (part g kids rest) + m ≡ suc (wide rest + m) = omega (arith, wide_part g kids rest) in
      let a = past_word k (word g) (wide rest + m) (omega arith) l.0 in
      let b : past (suc (wide rest + m)) (words_from k) ≡ suc (past (wide kids + (wide rest + m)) (words_from (suc k))) = rw c.0 at a in
      let e = past_left nums us kids (suc k) (i ∷ p) 0 (inside g d) (wide rest + m) (omega arith) c.1 l.2 in
      let q : suc k + spread kids ≡ k + 1 + spread kids = omega arith in
      let f : past (wide kids + (wide rest + m)) (words_from (suc k)) ≡ spread kids + past (wide rest + m) (words_from (k + 1 + spread kids)) = rw q at e in
      let t : k + (1 + spread kids + spread rest) ≡ k + 1 + spread kids + spread rest = omega arith in
      rw (z, t) (omega (arith, b, f, past_left nums us rest (k + 1 + spread kids) p (suc i) d m (omega arith) c.2 l.3))

  -- one tree
  next_tree_lem : (nums : List ℕ) (us : List Uncovered) (x : Left) (k : ℕ) (p : Place) (i d s : ℕ) → wide x ≡ 1 → spread x ≡ s → k + s ≤ to → Counts x → LeftAt fixed nums us k p i d x
      → next_child fixed k to ≡ k + s
  next_tree_lem nums us x k p i d s one e h c l =
      let a : past (wide x + 0) (words_from k) ≡ spread x + past 0 (words_from (k + spread x)) = past_left nums us x k p i d 0 (omega (arith, e)) c l in
      let z : wide x + 0 ≡ 1 = omega (arith, one) in
      let b : past 1 (words_from k) ≡ spread x + past 0 (words_from (k + spread x)) = rw z at a in
      sym (next_in fixed k to s (omega (arith, b, e, past_none (words_from (k + spread x)), part_past (words_from k))) (omega arith))

  pub next_hole : (nums : List ℕ) (us : List Uncovered) (x : ℕ) (ys : List ℕ) (rest : Left) (k : ℕ) (p : Place) (i d : ℕ) → k + 1 + length ys ≤ to → Counts (hole x ys rest)
      → LeftAt fixed nums us k p i d (hole x ys rest) → next_child fixed k to ≡ k + 1 + length ys
  unfolding LeftAt
  next_hole nums us x ys rest k p i d h c l =
      next_tree_lem nums us (hole x ys end) k p i d (1 + length ys) (hole_one x ys).0 (hole_one x ys).1 (omega arith) (c.0, c.1, tt) (l.0, l.1, l.2, l.3, tt) ∙ omega arith

  pub next_part : (nums : List ℕ) (us : List Uncovered) (g : Head) (kids rest : Left) (k : ℕ) (p : Place) (i d : ℕ) → k + 1 + spread kids ≤ to → Counts (part g kids rest)
      → LeftAt fixed nums us k p i d (part g kids rest) → next_child fixed k to ≡ k + 1 + spread kids
  unfolding LeftAt
  next_part nums us g kids rest k p i d h c l =
      next_tree_lem nums us (part g kids end) k p i d (1 + spread kids) (spread_one g kids).0 (spread_one g kids).1 (omega arith) (c.0, c.1, tt) (l.0, l.1, l.2, tt) ∙ omega arith
