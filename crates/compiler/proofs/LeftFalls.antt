-- The words and constraints left in the rows fall from a node to its subtrees: marks are only added and numbers only given, so nothing comes to be left that
-- was not, and each way strikes or enters one thing that was.
use mathlib.Core.Path.{◌≡◌, refl, sym, ap, ◌∙◌}
use mathlib.Core.Bool.{Bool, true, false, ◌&&◌}
use mathlib.Core.List.{List}
use mathlib.Core.Logic.{inl, inr}
use Prim.Native.Nat.{ℕ, zero, suc, ◌+◌, ◌-◌, ◌*◌, ◌/◌, ◌≤◌, ◌<◌}
use native.Mathlib.Omega.{arith}
use lib.Dec.{eqb, ltb}
use lib.ListN.{get_or}
use borrow.Author.Tests.{eqb-true, eqb-false, eq-eqb, ne_eqb, ltb-true, lt-ltb, le-ltb}
use Rattle.term.specs.Word.{pick}
use Rattle.term.proofs.Laws.{never, and_left, and_right, and_both}
use Rattle.compiler.specs.Told.Tables.{first_at, many_at, is_free, spot_at, head_is, head_word, is_head_word, is_left, is_constraint, same_name, left_same, row_has, kind_from, row_of, strikes, head_kind}
use Rattle.compiler.specs.Told.NodeTold.{unentered, word_left, constraint_left, left_in_rows}
use Rattle.compiler.proofs.Sweeps.{first_true}
use Rattle.compiler.proofs.Restores.{MarkedAt, Marked, GrownAt, Grown, grown_none}

-- ---- counting
many_most : (p q : ℕ → Bool) → ((k : ℕ) → q k ≡ true → p k ≡ true) → (more i : ℕ) → many_at q i more ≤ many_at p i more
unfolding many_at
many_most p q f zero i = omega arith
many_most p q f (suc more) i = go (q i) refl (p i) refl (many_most p q f more (suc i))
  where
    go : (b : Bool) → q i ≡ b → (a : Bool) → p i ≡ a → many_at q (suc i) more ≤ many_at p (suc i) more → pick b 1 0 + many_at q (suc i) more ≤ pick a 1 0 + many_at p (suc i) more
    go true e true z h = omega (arith, h)
    go true e false z h = never (let y = f i e in cc)
    go false e true z h = omega (arith, h)
    go false e false z h = omega (arith, h)

many_less : (p q : ℕ → Bool) → ((k : ℕ) → q k ≡ true → p k ≡ true) → (k : ℕ) → p k ≡ true → q k ≡ false → (more i : ℕ) → i ≤ k → k < i + more → many_at q i more < many_at p i more
unfolding many_at
many_less p q f k t u zero i l h = absurd (omega arith)
many_less p q f k t u (suc more) i l h = go (eqb k i) refl (λ x. many_less p q f k t u more (suc i) x (omega arith)) (many_most p q f more (suc i))
  where
    step : (b : Bool) → q i ≡ b → (a : Bool) → p i ≡ a → many_at q (suc i) more < many_at p (suc i) more → pick b 1 0 + many_at q (suc i) more < pick a 1 0 + many_at p (suc i) more
    step true e true z y = omega (arith, y)
    step true e false z y = never (let x = f i e in cc)
    step false e true z y = omega (arith, y)
    step false e false z y = omega (arith, y)

    go : (b : Bool) → eqb k i ≡ b → (suc i ≤ k → many_at q (suc i) more < many_at p (suc i) more) → many_at q (suc i) more ≤ many_at p (suc i) more
        → pick (q i) 1 0 + many_at q (suc i) more < pick (p i) 1 0 + many_at p (suc i) more
    go true e ind m =
        let z = eqb-true k i e in
        let a : p i ≡ true = rw z at t in
        let b : q i ≡ false = rw z at u in
        rw (a, b) (omega (arith, m))
    go false e ind m = step (q i) refl (p i) refl (ind (omega (arith, eqb-false k i e)))

-- ---- nothing comes to be left
pub free_back : (m : ℕ) (before after : List ℕ) → Marked m before after → (k : ℕ) → is_free after k ≡ true → is_free before k ≡ true
free_back m before after p k e = go (get_or before k 0) (get_or after k 0) (p.each k) e
  where
    go : (x y : ℕ) → MarkedAt m x y → eqb y 0 ≡ true → eqb x 0 ≡ true
    go x y (inl q) e = rw q at e
    go x y (inr q) e = eq-eqb x 0 q.0

unentered_back : (count m : ℕ) (before after : List ℕ) → Marked m before after → (x y : ℕ) → GrownAt count x y → unentered after y ≡ true → unentered before x ≡ true
unentered_back count m before after p zero y g e = refl
unentered_back count m before after p (suc x) y (inl q) e = free_back m before after p (64 + x) (rw q at e)
unentered_back count m before after p (suc x) y (inr q) e = absurd (omega (arith, q.0))

module _ (fixed nums nums' marks marks' : List ℕ) (count m : ℕ) (more : Marked m marks marks') (given : Grown count nums nums') where
  word_back : (k : ℕ) → word_left fixed nums' marks' k ≡ true → word_left fixed nums marks k ≡ true
  word_back k e =
      let a = and_left (is_free marks' (k / 64)) (head_kind (get_or fixed k 0) && unentered marks' (get_or nums' k 0)) e in
      let b = and_right (is_free marks' (k / 64)) (head_kind (get_or fixed k 0) && unentered marks' (get_or nums' k 0)) e in
      let c = and_left (head_kind (get_or fixed k 0)) (unentered marks' (get_or nums' k 0)) b in
      let d = and_right (head_kind (get_or fixed k 0)) (unentered marks' (get_or nums' k 0)) b in
      and_both (is_free marks (k / 64)) (head_kind (get_or fixed k 0) && unentered marks (get_or nums k 0)) (free_back m marks marks' more (k / 64) a)
      (and_both (head_kind (get_or fixed k 0)) (unentered marks (get_or nums k 0)) c (unentered_back count m marks marks' more (get_or nums k 0) (get_or nums' k 0) (given.each k) d))

  constraint_back : (id : ℕ) → constraint_left fixed marks' id ≡ true → constraint_left fixed marks id ≡ true
  constraint_back id e =
      let a = and_left (is_free marks' (row_of (kind_from id) id)) (is_left fixed marks' id) e in
      let b = and_right (is_free marks' (row_of (kind_from id) id)) (is_left fixed marks' id) e in
      let c = and_left (is_free marks' id) (is_constraint fixed id) b in
      let d = and_right (is_free marks' id) (is_constraint fixed id) b in
      and_both (is_free marks (row_of (kind_from id) id)) (is_left fixed marks id) (free_back m marks marks' more (row_of (kind_from id) id) a)
      (and_both (is_free marks id) (is_constraint fixed id) (free_back m marks marks' more id c) d)

  -- a word that was left is left no more
  word_falls : (k : ℕ) → k < 4096 → word_left fixed nums marks k ≡ true → word_left fixed nums' marks' k ≡ false → left_in_rows fixed nums' marks' < left_in_rows fixed nums marks
  unfolding left_in_rows
  word_falls k h e q =
      omega (
        arith,
        many_less (word_left fixed nums marks) (word_left fixed nums' marks') word_back k e q 4096 0 (omega arith) (omega arith),
        many_most (constraint_left fixed marks) (constraint_left fixed marks') constraint_back 8192 4160,
      )

  -- a constraint that was left is left no more
  constraint_falls : (id : ℕ) → 4160 ≤ id → id < 12352 → constraint_left fixed marks id ≡ true → constraint_left fixed marks' id ≡ false → left_in_rows fixed nums' marks' < left_in_rows fixed nums marks
  unfolding left_in_rows
  constraint_falls id l h e q =
      omega (
        arith,
        many_most (word_left fixed nums marks) (word_left fixed nums' marks') word_back 4096 0,
        many_less (constraint_left fixed marks) (constraint_left fixed marks') constraint_back id e q 8192 4160 l (omega arith),
      )

-- ---- the spot of a head
pub record HeadSpot (fixed nums : List ℕ) (r n : ℕ) : Type 0 where
  pub spot : ℕ
  pub within : spot < 4096
  pub own : spot / 64 ≡ r
  pub number : get_or nums spot 0 ≡ suc n
  pub head : head_kind (get_or fixed spot 0) ≡ true

pub head_spot : (fixed nums : List ℕ) (r n : ℕ) → r < 64 → is_head_word (head_word fixed nums r n) ≡ true → HeadSpot fixed nums r n
unfolding head_word spot_at
head_spot fixed nums r n h e = go (first_at (λ o. eqb (get_or nums (r * 64 + o) 0) (n + 1)) 0 64) (λ l. first_true (λ o. eqb (get_or nums (r * 64 + o) 0) (n + 1)) 64 0 l) e
  where
    low : (k : ℕ) → k < 4096 → k / 64 ≡ r → get_or nums k 0 ≡ suc n → (b : Bool) → head_kind (get_or fixed k 0) ≡ b → is_head_word (pick b (get_or fixed k 0) 33554432) ≡ true → HeadSpot fixed nums r n
    low k l own q true w f = record { spot = k; within = l; own = own; number = q; head = w }
    low k l own q false w f = never (cc)

    inner : (o : ℕ) → (o < 64 → eqb (get_or nums (r * 64 + o) 0) (n + 1) ≡ true) → (b : Bool) → ltb o 64 ≡ b
        → is_head_word (pick (eqb (pick b (r * 64 + o) 4096) 4096) 33554432 (head_is (get_or fixed (pick b (r * 64 + o) 4096) 0))) ≡ true → HeadSpot fixed nums r n
    inner o t false z f = never (cc)
    inner o t true z f =
        let l = ltb-true o 64 z in
        let g : is_head_word (head_is (get_or fixed (r * 64 + o) 0)) ≡ true = rw (ne_eqb (r * 64 + o) 4096 (λ x. omega (arith, x))) at f in
        low (r * 64 + o) (omega arith) (omega arith) (omega (arith, eqb-true (get_or nums (r * 64 + o) 0) (n + 1) (t l))) (head_kind (get_or fixed (r * 64 + o) 0)) refl g

    go : (o : ℕ) → (o < 64 → eqb (get_or nums (r * 64 + o) 0) (n + 1) ≡ true)
        → is_head_word (pick (eqb (pick (ltb o 64) (r * 64 + o) 4096) 4096) 33554432 (head_is (get_or fixed (pick (ltb o 64) (r * 64 + o) 4096) 0))) ≡ true → HeadSpot fixed nums r n
    go o t f = inner o t (ltb o 64) refl f

left_of_lem : (fixed nums marks : List ℕ) (id k : ℕ) → left_same fixed nums marks id k ≡ true → is_left fixed marks k ≡ true
unfolding left_same
left_of_lem fixed nums marks id k t = and_left (is_left fixed marks k) (same_name fixed nums id k) t

-- ---- THE LAWS: what falls on each way
module _ (fixed nums marks marks' : List ℕ) (m : ℕ) (real : m ≡ 0 → ⊥) (more : Marked m marks marks') where
  -- a case: the place is entered
  pub case_falls : (nums' : List ℕ) (count r n : ℕ) → Grown count nums nums' → r < 64 → is_free marks r ≡ true → is_head_word (head_word fixed nums r n) ≡ true → is_free marks (64 + n) ≡ true
      → get_or marks' (64 + n) 0 ≡ m → left_in_rows fixed nums' marks' < left_in_rows fixed nums marks
  case_falls nums' count r n g h f e o z =
      let s = head_spot fixed nums r n h e in
      word_falls fixed nums nums' marks marks' count m more g s.spot s.within (was s) (now_not s (given s (g.each s.spot)))
    where
      was : (s : HeadSpot fixed nums r n) → word_left fixed nums marks s.spot ≡ true
      was s = rw (s.own, s.number, f, s.head) o

      given : (s : HeadSpot fixed nums r n) → GrownAt count (get_or nums s.spot 0) (get_or nums' s.spot 0) → get_or nums' s.spot 0 ≡ suc n
      given s (inl q) = q ∙ s.number
      given s (inr q) = absurd (omega (arith, q.0, s.number))

      last : (a b : Bool) → a && (b && false) ≡ false
      last true true = refl
      last true false = refl
      last false b = refl

      now_not : (s : HeadSpot fixed nums r n) → get_or nums' s.spot 0 ≡ suc n → word_left fixed nums' marks' s.spot ≡ false
      now_not s q = rw (q, z, ne_eqb m 0 real) (last (is_free marks' (s.spot / 64)) (head_kind (get_or fixed s.spot 0)))

  -- the default: a row with a head at an open place is struck
  pub default_falls : (r n : ℕ) → r < 64 → is_free marks r ≡ true → is_head_word (head_word fixed nums r n) ≡ true → is_free marks (64 + n) ≡ true → get_or marks' r 0 ≡ m
      → left_in_rows fixed nums marks' < left_in_rows fixed nums marks
  default_falls r n h f e o z =
      let s = head_spot fixed nums r n h e in
      word_falls fixed nums nums marks marks' 0 m more (grown_none 0 nums) s.spot s.within (was s) (now_not s)
    where
      was : (s : HeadSpot fixed nums r n) → word_left fixed nums marks s.spot ≡ true
      was s = rw (s.own, s.number, f, s.head) o

      now_not : (s : HeadSpot fixed nums r n) → word_left fixed nums marks' s.spot ≡ false
      now_not s = rw (s.own, z, ne_eqb m 0 real)

  -- yes: the constraint itself is struck
  pub yes_falls : (id : ℕ) → 4160 ≤ id → id < 12352 → is_free marks id ≡ true → strikes fixed nums marks id id ≡ true → get_or marks' id 0 ≡ m → left_in_rows fixed nums marks' < left_in_rows fixed nums marks
  yes_falls id l h f e z =
      let a = and_left (is_free marks (row_of (kind_from id) id)) (is_constraint fixed id && same_name fixed nums id id) e in
      let b = and_left (is_constraint fixed id) (same_name fixed nums id id) (and_right (is_free marks (row_of (kind_from id) id)) (is_constraint fixed id && same_name fixed nums id id) e) in
      constraint_falls fixed nums nums marks marks' 0 m more (grown_none 0 nums) id l h
      (and_both (is_free marks (row_of (kind_from id) id)) (is_left fixed marks id) a (and_both (is_free marks id) (is_constraint fixed id) f b)) (now_not z)
    where
      last : (a : Bool) → a && false ≡ false
      last true = refl
      last false = refl

      now_not : get_or marks' id 0 ≡ m → constraint_left fixed marks' id ≡ false
      now_not z = rw (z, ne_eqb m 0 real) (last (is_free marks' (row_of (kind_from id) id)))

  -- no: a row that has the constraint is struck
  pub no_falls : (id r : ℕ) → 4160 ≤ id → id < 12352 → r < 64 → is_free marks r ≡ true → row_has fixed nums marks id r ≡ true → get_or marks' r 0 ≡ m → left_in_rows fixed nums marks' < left_in_rows fixed nums marks
  unfolding row_has
  no_falls id r l h s f e z =
      let o = first_at (λ o. left_same fixed nums marks id (kind_from id + r * 64 + o)) 0 64 in
      let i = ltb-true o 64 e in
      found o i (first_true (λ o. left_same fixed nums marks id (kind_from id + r * 64 + o)) 64 0 i)
    where
      kind : (b : Bool) → ltb id 8256 ≡ b → (o : ℕ) → o < 64 → (4160 ≤ pick b 4160 8256 + r * 64 + o) × (pick b 4160 8256 + r * 64 + o < 12352) × (pick b 4160 8256 ≡ kind_from (pick b 4160 8256 + r * 64 + o))
      kind true q o i = (omega arith, omega arith, sym (rw (lt-ltb (4160 + r * 64 + o) 8256 (omega arith))))
      kind false q o i = (omega arith, omega arith, sym (rw (le-ltb (8256 + r * 64 + o) 8256 (omega arith))))

      found : (o : ℕ) → o < 64 → left_same fixed nums marks id (kind_from id + r * 64 + o) ≡ true → left_in_rows fixed nums marks' < left_in_rows fixed nums marks
      found o i t =
          let k = kind (ltb id 8256) refl o i in
          at_row (kind_from id + r * 64 + o) k.0 k.1 (ap (λ x. row_of x (kind_from id + r * 64 + o)) (sym k.2) ∙ row_is (kind_from id) o i) (left_of_lem fixed nums marks id (kind_from id + r * 64 + o) t)
        where
          row_is : (from o : ℕ) → o < 64 → (from + r * 64 + o - from) / 64 ≡ r
          row_is from o i = omega arith

          at_row : (k : ℕ) → 4160 ≤ k → k < 12352 → row_of (kind_from k) k ≡ r → is_left fixed marks k ≡ true → left_in_rows fixed nums marks' < left_in_rows fixed nums marks
          at_row k a b w t = constraint_falls fixed nums nums marks marks' 0 m more (grown_none 0 nums) k a b (rw (w, f) t) (rw (w, z, ne_eqb m 0 real))
