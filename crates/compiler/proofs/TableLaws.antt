-- What the compiler's tables say, as its loops meet it.
use mathlib.Core.Path.{◌≡◌, refl, sym, ap, ◌∙◌}
use mathlib.Core.Bool.{Bool, true, false, ◌&&◌, not}
use mathlib.Core.List.{List}
use Prim.Native.Nat.{ℕ, zero, suc, ◌+◌, ◌-◌, ◌*◌, ◌/◌, ◌%◌, ◌≤◌, ◌<◌}
use native.Mathlib.Omega.{arith}
use lib.Dec.{eqb, ltb}
use lib.ListN.{length, get_or, set}
use borrow.Author.Tests.{ltb-true, ltb-false, lt-ltb, le-ltb, eq-eqb, ne_eqb, eqb-true, eqb-false}
use Rattle.std.specs.Prelude.{Option, None, Some}
use Rattle.std.specs.Option.{is_some, SomeIff}
use Rattle.term.specs.Word.{pick, kind_of, count_of, ident_of}
use Rattle.term.proofs.Laws.{never}
use Rattle.compiler.proofs.Sweeps.{Sweeping, sweep_here, sweep_set, sweep_skip, sweep_fixed}
use Rattle.compiler.specs.Told.Tables.{Changed, first_at, many_at, unless, place_of, only_at, is_row, of_row, of_free_row, is_free, spot_in, spot_at, head_kind, head_word, lower_of, lowest_from, has_head, struck_rows, new_head, is_head_word, count_heads, first_spot, is_variable, is_closed, is_constraint, is_left, same_name, kind_from, left_same, row_has, row_of, strikes, struck_same}
use Rattle.tree.proofs.Laws.{and_assoc, and_false}

picked_same : (b : Bool) (x : ℕ) → pick b x x ≡ x
picked_same true x = refl
picked_same false x = refl

-- ---- a number as an answer
pub some_is : (none x y : ℕ) → y ≡ x → (y ≡ none → ⊥) → Some y ≡ unless none x
some_is none x y e n = rw (← e, ne_eqb y none n)

pub none_is : (none x : ℕ) → none ≡ x → None ≡ unless none x
none_is none x e = rw (eq-eqb x none (sym e))

pub some_gives : (none x y : ℕ) → Some y ≡ unless none x → (y ≡ x) × (y ≡ none → ⊥)
some_gives none x y e = go (eqb x none) refl e
  where
    go : (b : Bool) → eqb x none ≡ b → Some y ≡ pick b None (Some x) → (y ≡ x) × (y ≡ none → ⊥)
    go true q h = cc
    go false q h = let z : y ≡ x = cc in (z, λ n. eqb-false x none q (sym z ∙ n))

pub none_gives : (none x : ℕ) → None ≡ unless none x → none ≡ x
none_gives none x e = go (eqb x none) refl e
  where
    go : (b : Bool) → eqb x none ≡ b → None ≡ pick b None (Some x) → none ≡ x
    go true q h = sym (eqb-true x none q)
    go false q h = cc

pub there : (none x : ℕ) → is_some (unless none x) ≡ pick (eqb x none) false true
there none x = go (eqb x none)
  where
    go : (b : Bool) → is_some (pick b None (Some x)) ≡ pick b false true
    go true = refl
    go false = refl

pub some_there : (none x : ℕ) (o : Option ℕ) → o ≡ unless none x → is_some o ≡ true → x ≡ none → ⊥
some_there none x o e s n = absurd (let z : is_some (unless none x) ≡ false = there none x ∙ ap (λ (b : Bool). pick b false true) (eq-eqb x none n) in cc)

pub none_there : (none x : ℕ) (o : Option ℕ) → o ≡ unless none x → is_some o ≡ false → x ≡ none
none_there none x o e s = go (eqb x none) refl (sym (there none x) ∙ ap is_some (sym e) ∙ s)
  where
    go : (b : Bool) → eqb x none ≡ b → pick b false true ≡ false → x ≡ none
    go true q h = eqb-true x none q
    go false q h = absurd (cc)

-- the number before, where there is one
pub place_is : (o : Option ℕ) (b x : ℕ) → SomeIff o (1 ≤ b) (b - 1) → b ≡ x → o ≡ place_of x
place_is o b zero h e = go o h
  where
    go : (o : Option ℕ) → SomeIff o (1 ≤ b) (b - 1) → o ≡ None
    go None h = refl
    go (Some y) h = absurd (omega (arith, h.0, e))
place_is o b (suc m) h e = go o h
  where
    go : (o : Option ℕ) → SomeIff o (1 ≤ b) (b - 1) → o ≡ Some m
    go None h = absurd (h (omega (arith, e)))
    go (Some y) h = ap Some (let z : y ≡ m = omega (arith, h.1, e) in z)

pub place_some : (x n : ℕ) → Some n ≡ place_of x → suc n ≡ x
place_some zero n e = absurd (cc)
place_some (suc m) n e = let z : n ≡ m = cc in ap suc z

pub place_none : (x : ℕ) → None ≡ place_of x → x ≡ 0
place_none zero e = refl
place_none (suc m) e = absurd (cc)

-- ---- a sweep over the rows
pub row_only : (f : ℕ → ℕ → ℕ) (k x : ℕ) → k < 64 → f k x ≡ only_at is_row f k x
row_only f k x h = sym (ap (λ (b : Bool). pick b (f k x) x) (lt-ltb k 64 h))

pub past_only : (f : ℕ → ℕ → ℕ) (k x : ℕ) → 64 ≤ k → only_at is_row f k x ≡ x
past_only f k x h = ap (λ (b : Bool). pick b (f k x) x) (le-ltb k 64 h)

-- ---- a sweep over the words of the rows that are not struck
module _ (marks : List ℕ) (from : ℕ) (f : ℕ → ℕ → ℕ) where
  pub after_rows : (k x : ℕ) → from + 4096 ≤ k → only_at (of_free_row marks from) f k x ≡ x
  after_rows k x h = rw (le-ltb k from (omega arith), le-ltb k (from + 4096) h)

  in_row : (k x : ℕ) (b : Bool) → from ≤ k → k < from + 4096 → is_free marks (row_of from k) ≡ b → only_at (of_free_row marks from) f k x ≡ pick b (f k x) x
  in_row k x b l h e = rw (le-ltb k from l, lt-ltb k (from + 4096) h, e)

  module _ (before after : List ℕ) (i : ℕ) (few : i < 4096) (s : Sweeping (only_at (of_free_row marks from) f) before after (from + i)) where
    -- a word of a row that is not struck is changed
    pub free_step : get_or marks (i / 64) 0 ≡ 0 → (k : ℕ) → k ≡ from + i → k < length after → (x : ℕ) → x ≡ f k (get_or after k 0)
        → Sweeping (only_at (of_free_row marks from) f) before (set after k x) (from + (i + 1))
    free_step free k eq h x e =
        let y : from + i + 1 ≡ from + (i + 1) = omega arith in
        let row : row_of from k ≡ i / 64 = omega (arith, eq) in
        let z : x ≡ only_at (of_free_row marks from) f k (get_or before k 0) =
        e ∙ ap (f k) (sweep_here (only_at (of_free_row marks from) f) before after (from + i) s k (omega (arith, eq)))
        ∙ sym (in_row k (get_or before k 0) true (omega (arith, eq)) (omega (arith, eq)) (ap (is_free marks) row ∙ eq-eqb (get_or marks (i / 64) 0) 0 free)) in
        rw (← y, eq) (sweep_set (only_at (of_free_row marks from) f) before after (from + i) x s (omega (arith, eq)) (rw eq at z))

-- ---- a sweep over the words of one row
pub in_one : (f : ℕ → ℕ → ℕ) (r k x : ℕ) → k / 64 ≡ r → f k x ≡ only_at (of_row r) f k x
in_one f r k x e = sym (ap (λ (b : Bool). pick b (f k x) x) (eq-eqb (k / 64) r e))

pub off_one : (f : ℕ → ℕ → ℕ) (r k x : ℕ) → (k / 64 ≡ r → ⊥) → only_at (of_row r) f k x ≡ x
off_one f r k x e = ap (λ (b : Bool). pick b (f k x) x) (ne_eqb (k / 64) r e)

-- a row that is not struck was changed whole
pub free_row : (marks : List ℕ) (f : ℕ → ℕ → ℕ) (before middle after : List ℕ) (r : ℕ) → r < 64 → Sweeping (only_at (of_free_row marks 0) f) before middle (r * 64)
    → get_or marks r 0 ≡ 0 → length after ≡ length middle → Changed (only_at (of_row r) f) middle after → Sweeping (only_at (of_free_row marks 0) f) before after ((r + 1) * 64)
unfolding Changed
free_row marks f before middle after r few s free long e = record { long = long ∙ s.long; changed = λ k. go k (ltb k (r * 64)) refl (ltb k ((r + 1) * 64)) refl }
  where
    go : (k : ℕ) (a : Bool) → ltb k (r * 64) ≡ a → (b : Bool) → ltb k ((r + 1) * 64) ≡ b → get_or after k 0 ≡ pick b (only_at (of_free_row marks 0) f k (get_or before k 0)) (get_or before k 0)
    go k true p true q =
        e k ∙ off_one f r k (get_or middle k 0) (λ z. absurd (omega (arith, z, ltb-true k (r * 64) p))) ∙ s.changed k
        ∙ ap (λ (b : Bool). pick b (only_at (of_free_row marks 0) f k (get_or before k 0)) (get_or before k 0)) p
    go k true p false q = absurd (omega (arith, ltb-true k (r * 64) p, ltb-false k ((r + 1) * 64) q))
    go k false p true q =
        let l : r * 64 ≤ k = ltb-false k (r * 64) p in
        let h : k < (r + 1) * 64 = ltb-true k ((r + 1) * 64) q in
        let row : k / 64 ≡ r = omega arith in
        let own : row_of 0 k ≡ r = omega arith in
        e k ∙ sym (in_one f r k (get_or middle k 0) row) ∙ ap (f k) (sweep_here (only_at (of_free_row marks 0) f) before middle (r * 64) s k l)
        ∙ sym (in_row marks 0 f k (get_or before k 0) true (omega arith) (omega arith) (ap (is_free marks) own ∙ eq-eqb (get_or marks r 0) 0 free))
    go k false p false q =
        let h : (r + 1) * 64 ≤ k = ltb-false k ((r + 1) * 64) q in
        e k ∙ off_one f r k (get_or middle k 0) (λ z. absurd (omega (arith, z, h))) ∙ sweep_here (only_at (of_free_row marks 0) f) before middle (r * 64) s k (ltb-false k (r * 64) p)

-- and one that is struck is passed over
pub struck_row : (marks : List ℕ) (f : ℕ → ℕ → ℕ) (before after : List ℕ) (r : ℕ) → r < 64 → Sweeping (only_at (of_free_row marks 0) f) before after (r * 64)
    → (get_or marks r 0 ≡ 0 → ⊥) → Sweeping (only_at (of_free_row marks 0) f) before after ((r + 1) * 64)
struck_row marks f before after r few s struck = sweep_skip (only_at (of_free_row marks 0) f) before after (r * 64) ((r + 1) * 64) s (omega arith) kept
  where
    kept : (k : ℕ) → r * 64 ≤ k → k < (r + 1) * 64 → only_at (of_free_row marks 0) f k (get_or before k 0) ≡ get_or before k 0
    kept k a b =
        let own : row_of 0 k ≡ r = omega arith in
        in_row marks 0 f k (get_or before k 0) false (omega arith) (omega arith) (ap (is_free marks) own ∙ ne_eqb (get_or marks r 0) 0 struck)

-- ---- sub-patterns at places
abbrev pub at_place : List ℕ → ℕ → ℕ → ℕ → Bool
at_place nums r n o = eqb (get_or nums (r * 64 + o) 0) (n + 1)

-- a spot of a rule is below 4096
pub spot_within : (nums : List ℕ) (r n : ℕ) → r < 64 → (spot_at nums r n ≡ 4096 → ⊥) → spot_at nums r n < 4096
unfolding spot_at
spot_within nums r n h ne = go (first_at (at_place nums r n) 0 64) ne
  where
    go : (o : ℕ) → (spot_in r o ≡ 4096 → ⊥) → spot_in r o < 4096
    go o q = inner (ltb o 64) refl q
      where
        inner : (b : Bool) → ltb o 64 ≡ b → (pick b (r * 64 + o) 4096 ≡ 4096 → ⊥) → pick b (r * 64 + o) 4096 < 4096
        inner true e f = omega (arith, ltb-true o 64 e)
        inner false e f = absurd (f refl)

-- a symbol, an abstraction, and any other word
pub head_symbol : (w k : ℕ) → k ≡ kind_of w → k ≡ 0 → true ≡ head_kind w
unfolding head_kind
head_symbol w k e z = rw (← e, eq-eqb k 0 z)

pub head_abstraction : (w k : ℕ) → k ≡ kind_of w → (k ≡ 0 → ⊥) → eqb k 1 ≡ head_kind w
unfolding head_kind
head_abstraction w k e z = rw (← e, ne_eqb k 0 z)

pub other_kind : (w : ℕ) → (kind_of w ≡ 0 → ⊥) → (kind_of w ≡ 1 → ⊥) → head_kind w ≡ false
unfolding head_kind
other_kind w a b = rw (ne_eqb (kind_of w) 0 a, ne_eqb (kind_of w) 1 b)

-- a head is no pattern variable, and there is one
pub head_not : (w : ℕ) → head_kind w ≡ true → kind_of w ≡ 3 → ⊥
head_not w h e = never (let z = other_kind w (λ a. omega (arith, e, a)) (λ a. omega (arith, e, a)) in cc)

pub head_there : (w : ℕ) → head_kind w ≡ true → w ≡ 33554432 → ⊥
head_there w h e = never (let z = other_kind w (λ a. omega (arith, e, a)) (λ a. omega (arith, e, a)) in cc)

pub head_none : (fixed nums : List ℕ) (r n : ℕ) → spot_at nums r n ≡ 4096 → 33554432 ≡ head_word fixed nums r n
unfolding head_word
head_none fixed nums r n e = rw e

pub head_some : (fixed nums : List ℕ) (r n k : ℕ) → k ≡ spot_at nums r n → (k ≡ 4096 → ⊥) → head_kind (get_or fixed k 0) ≡ true → get_or fixed k 0 ≡ head_word fixed nums r n
unfolding head_word
head_some fixed nums r n k e ne l = rw (← e, ne_eqb k 4096 ne, l)

pub head_other : (fixed nums : List ℕ) (r n k : ℕ) → k ≡ spot_at nums r n → (k ≡ 4096 → ⊥) → head_kind (get_or fixed k 0) ≡ false → 33554432 ≡ head_word fixed nums r n
unfolding head_word
head_other fixed nums r n k e ne l = rw (← e, ne_eqb k 4096 ne, l)

-- a spot that is found is the rule's at the place, and its word is the head if it is a head
pub spot_found : (nums : List ℕ) (r n k : ℕ) → r < 64 → Some k ≡ unless 4096 (spot_at nums r n) → k < 4096
spot_found nums r n k h e =
    let p = some_gives 4096 (spot_at nums r n) k e in
    rw p.0 (spot_within nums r n h (λ z. p.1 (p.0 ∙ z)))

pub head_found : (fixed nums : List ℕ) (r n k : ℕ) → Some k ≡ unless 4096 (spot_at nums r n) → head_kind (get_or fixed k 0) ≡ true
    → Some (get_or fixed k 0) ≡ unless 33554432 (head_word fixed nums r n)
head_found fixed nums r n k e t =
    let p = some_gives 4096 (spot_at nums r n) k e in
    some_is 33554432 (head_word fixed nums r n) (get_or fixed k 0) (head_some fixed nums r n k p.0 p.1 t) (head_there (get_or fixed k 0) t)

pub head_lacks : (fixed nums : List ℕ) (r n k : ℕ) → Some k ≡ unless 4096 (spot_at nums r n) → head_kind (get_or fixed k 0) ≡ false → 33554432 ≡ head_word fixed nums r n
head_lacks fixed nums r n k e t =
    let p = some_gives 4096 (spot_at nums r n) k e in
    head_other fixed nums r n k p.0 p.1 t

pub head_nowhere : (fixed nums : List ℕ) (r n : ℕ) → None ≡ unless 4096 (spot_at nums r n) → 33554432 ≡ head_word fixed nums r n
head_nowhere fixed nums r n e = head_none fixed nums r n (sym (none_gives 4096 (spot_at nums r n) e))

pub lower_zero : (marks : List ℕ) (n best : ℕ) → n ≡ 0 → best ≡ lower_of marks n best
unfolding lower_of
lower_zero marks n best e = rw (eq-eqb n 0 e)

pub lower_entered : (marks : List ℕ) (n best : ℕ) → (n ≡ 0 → ⊥) → (get_or marks (64 + n - 1) 0 ≡ 0 → ⊥) → best ≡ lower_of marks n best
unfolding lower_of
lower_entered marks n best a b = rw (ne_eqb n 0 a, ne_eqb (get_or marks (64 + n - 1) 0) 0 b)

pub lower_first : (marks : List ℕ) (n best : ℕ) → (n ≡ 0 → ⊥) → get_or marks (64 + n - 1) 0 ≡ 0 → best ≡ 0 → n ≡ lower_of marks n best
unfolding lower_of
lower_first marks n best a b c = rw (ne_eqb n 0 a, eq-eqb (get_or marks (64 + n - 1) 0) 0 b, eq-eqb best 0 c)

pub lower_best : (marks : List ℕ) (n best : ℕ) → (n ≡ 0 → ⊥) → get_or marks (64 + n - 1) 0 ≡ 0 → (best ≡ 0 → ⊥) → best < n → best ≡ lower_of marks n best
unfolding lower_of
lower_best marks n best a b c d = rw (ne_eqb n 0 a, eq-eqb (get_or marks (64 + n - 1) 0) 0 b, ne_eqb best 0 c, lt-ltb best n d)

pub lower_new : (marks : List ℕ) (n best : ℕ) → (n ≡ 0 → ⊥) → get_or marks (64 + n - 1) 0 ≡ 0 → (best ≡ 0 → ⊥) → n ≤ best → n ≡ lower_of marks n best
unfolding lower_of
lower_new marks n best a b c d = rw (ne_eqb n 0 a, eq-eqb (get_or marks (64 + n - 1) 0) 0 b, ne_eqb best 0 c, le-ltb best n d)

pub lowest_head : (fixed nums marks : List ℕ) (k best : ℕ) → head_kind (get_or fixed k 0) ≡ true → lower_of marks (get_or nums k 0) best ≡ lowest_from fixed nums marks k 1 best
unfolding lowest_from
lowest_head fixed nums marks k best l = rw l

pub lowest_other : (fixed nums marks : List ℕ) (k best : ℕ) → head_kind (get_or fixed k 0) ≡ false → best ≡ lowest_from fixed nums marks k 1 best
unfolding lowest_from
lowest_other fixed nums marks k best l = rw l

lowest_step : (fixed nums marks : List ℕ) (k more best : ℕ) → lowest_from fixed nums marks k (suc more) best ≡ lowest_from fixed nums marks (suc k) more (lowest_from fixed nums marks k 1 best)
unfolding lowest_from
lowest_step fixed nums marks k more best = refl

pub lowest_next : (fixed nums marks : List ℕ) (all r o best : ℕ) → o < 64 → all ≡ lowest_from fixed nums marks (r * 64 + o) (64 - o) best
    → (new : ℕ) → new ≡ lowest_from fixed nums marks (r * 64 + o) 1 best → all ≡ lowest_from fixed nums marks (r * 64 + (o + 1)) (64 - (o + 1)) new
lowest_next fixed nums marks all r o best h e new q =
    let z : 64 - o ≡ suc (64 - (o + 1)) = omega arith in
    let y : r * 64 + (o + 1) ≡ suc (r * 64 + o) = omega arith in
    e ∙ ap (λ (m : ℕ). lowest_from fixed nums marks (r * 64 + o) m best) z ∙ lowest_step fixed nums marks (r * 64 + o) (64 - (o + 1)) best
    ∙ rw (y, ← q)

pub lowest_end : (fixed nums marks : List ℕ) (all r o best : ℕ) → 64 ≤ o → all ≡ lowest_from fixed nums marks (r * 64 + o) (64 - o) best → best ≡ all
unfolding lowest_from
lowest_end fixed nums marks all r o best h e = let z : 64 - o ≡ 0 = omega arith in sym (rw z at e)

-- ---- heads of rows
pub new_struck : (fixed nums marks : List ℕ) (n r : ℕ) → (get_or marks r 0 ≡ 0 → ⊥) → 33554432 ≡ new_head fixed nums marks n r
unfolding new_head
new_struck fixed nums marks n r e = rw (ne_eqb (get_or marks r 0) 0 e)

pub new_first_lem : (fixed nums marks : List ℕ) (n r w : ℕ) → get_or marks r 0 ≡ 0 → w ≡ head_word fixed nums r n
    → eqb (first_at (has_head fixed nums marks n w) 0 r) r ≡ true → w ≡ new_head fixed nums marks n r
unfolding new_head
new_first_lem fixed nums marks n r w e q t =
    let u : eqb (first_at (has_head fixed nums marks n (head_word fixed nums r n)) 0 r) r ≡ true = rw q at t in
    rw (eq-eqb (get_or marks r 0) 0 e, u) q

pub new_seen : (fixed nums marks : List ℕ) (n r w : ℕ) → get_or marks r 0 ≡ 0 → w ≡ head_word fixed nums r n
    → eqb (first_at (has_head fixed nums marks n w) 0 r) r ≡ false → 33554432 ≡ new_head fixed nums marks n r
unfolding new_head
new_seen fixed nums marks n r w e q t =
    let u : eqb (first_at (has_head fixed nums marks n (head_word fixed nums r n)) 0 r) r ≡ false = rw q at t in
    rw (eq-eqb (get_or marks r 0) 0 e, u)

pub new_headless : (fixed nums marks : List ℕ) (n r : ℕ) → 33554432 ≡ head_word fixed nums r n → 33554432 ≡ new_head fixed nums marks n r
unfolding new_head
new_headless fixed nums marks n r e =
    rw (← e, picked_same (eqb (first_at (has_head fixed nums marks n 33554432) 0 r) r) 33554432, picked_same (is_free marks r) 33554432)

abbrev pub new_here : List ℕ → List ℕ → List ℕ → ℕ → ℕ → Bool
new_here fixed nums marks n r = is_head_word (new_head fixed nums marks n r)

pub heads_are : (fixed nums marks : List ℕ) (n c : ℕ) → c ≡ many_at (new_here fixed nums marks n) 0 64 → c ≡ count_heads fixed nums marks n
unfolding count_heads
heads_are fixed nums marks n c e = e

-- no mark past the rows is changed
pub past_rows : (p : ℕ → Bool) (mark k x : ℕ) → 64 ≤ k → struck_rows p mark k x ≡ x
past_rows p mark k x h = rw (le-ltb k 64 h)

pub not_pick : (b : Bool) → not b ≡ pick b false true
not_pick true = refl
not_pick false = refl

-- ---- constraints
pub variable_is : (fixed : List ℕ) (x k : ℕ) → kind_of (get_or fixed k 0) ≡ 3 → eqb (ident_of (get_or fixed k 0)) x ≡ is_variable fixed x k
variable_is fixed x k e = rw (eq-eqb (kind_of (get_or fixed k 0)) 3 e)

abbrev pub variable_of : List ℕ → ℕ → ℕ → Bool
variable_of fixed k j = is_variable fixed (ident_of (get_or fixed k 0)) j

pub closed_is : (fixed : List ℕ) (k : ℕ) → kind_of (get_or fixed k 0) ≡ 3 → not (eqb (count_of (get_or fixed k 0)) (get_or fixed (4096 + k) 0)) ≡ is_closed fixed k
closed_is fixed k e = rw (eq-eqb (kind_of (get_or fixed k 0)) 3 e) (not_pick (eqb (count_of (get_or fixed k 0)) (get_or fixed (4096 + k) 0)))

-- ---- the same constraint
first_within : (p : ℕ → Bool) (more i : ℕ) → first_at p i more ≤ i + more
unfolding first_at
first_within p zero i = omega arith
first_within p (suc more) i = go (p i) (first_within p more (suc i))
  where
    go : (b : Bool) → first_at p (suc i) more ≤ suc i + more → pick b i (first_at p (suc i) more) ≤ i + suc more
    go true l = omega arith
    go false l = omega arith

pub first_spot_within : (fixed : List ℕ) (k : ℕ) → first_spot fixed k ≤ k
unfolding first_spot
first_spot_within fixed k = omega (arith, first_within (variable_of fixed k) (k % 64) (k / 64 * 64))

-- each kind has 4096 names
pub kind_within : (id : ℕ) → (4160 ≤ kind_from id) × (kind_from id ≤ 8256)
kind_within id = go (ltb id 8256)
  where
    go : (b : Bool) → (4160 ≤ pick b 4160 8256) × (pick b 4160 8256 ≤ 8256)
    go true = (omega arith, omega arith)
    go false = (omega arith, omega arith)

pub left_some : (fixed nums marks : List ℕ) (id other : ℕ) (s t : Bool) → s ≡ is_left fixed marks other → s ≡ true → t ≡ same_name fixed nums id other → t ≡ left_same fixed nums marks id other
unfolding left_same
left_some fixed nums marks id other s t e q r = rw (← e, q) r

abbrev pub has_at : List ℕ → List ℕ → List ℕ → ℕ → ℕ → ℕ → Bool
has_at fixed nums marks id r o = left_same fixed nums marks id (kind_from id + r * 64 + o)

-- ---- striking a constraint
within_struck : (fixed nums marks : List ℕ) (id mark k x : ℕ) → kind_from id ≤ k → k < kind_from id + 4096
    → struck_same fixed nums marks id mark k x ≡ pick (eqb x 0 && strikes fixed nums marks id k) mark x
within_struck fixed nums marks id mark k x l h = rw (le-ltb k (kind_from id) l, lt-ltb k (kind_from id + 4096) h)

pub same_row_struck : (fixed nums marks : List ℕ) (id mark r k x : ℕ) → kind_from id ≤ k → k < kind_from id + 4096 → r ≡ row_of (kind_from id) k → (get_or marks r 0 ≡ 0 → ⊥)
    → x ≡ struck_same fixed nums marks id mark k x
same_row_struck fixed nums marks id mark r k x l h e n =
    sym (within_struck fixed nums marks id mark k x l h ∙ rw (← e, ne_eqb (get_or marks r 0) 0 n) (ap (λ (b : Bool). pick b mark x) (and_false (eqb x 0))))

left_parts : (fixed nums marks : List ℕ) (id k : ℕ) → left_same fixed nums marks id k ≡ eqb (get_or marks k 0) 0 && (is_constraint fixed k && same_name fixed nums id k)
unfolding left_same
left_parts fixed nums marks id k = and_assoc (eqb (get_or marks k 0) 0) (is_constraint fixed k) (same_name fixed nums id k)

same_mark : (fixed nums marks : List ℕ) (id mark r k : ℕ) → kind_from id ≤ k → k < kind_from id + 4096 → r ≡ row_of (kind_from id) k → get_or marks r 0 ≡ 0
    → struck_same fixed nums marks id mark k (get_or marks k 0) ≡ pick (left_same fixed nums marks id k) mark (get_or marks k 0)
same_mark fixed nums marks id mark r k l h e z =
    within_struck fixed nums marks id mark k (get_or marks k 0) l h ∙ rw (← e, eq-eqb (get_or marks r 0) 0 z, ← left_parts fixed nums marks id k)

pub same_struck : (fixed nums marks : List ℕ) (id mark r k : ℕ) (b : Bool) → kind_from id ≤ k → k < kind_from id + 4096 → r ≡ row_of (kind_from id) k → get_or marks r 0 ≡ 0
    → b ≡ left_same fixed nums marks id k → b ≡ true → mark ≡ struck_same fixed nums marks id mark k (get_or marks k 0)
same_struck fixed nums marks id mark r k b l h e z p q = sym (same_mark fixed nums marks id mark r k l h e z ∙ rw (← p, q))

pub same_kept : (fixed nums marks : List ℕ) (id mark r k : ℕ) (b : Bool) → kind_from id ≤ k → k < kind_from id + 4096 → r ≡ row_of (kind_from id) k → get_or marks r 0 ≡ 0
    → b ≡ left_same fixed nums marks id k → b ≡ false → get_or marks k 0 ≡ struck_same fixed nums marks id mark k (get_or marks k 0)
same_kept fixed nums marks id mark r k b l h e z p q = sym (same_mark fixed nums marks id mark r k l h e z ∙ rw (← p, q))

pub before_kind : (fixed nums marks : List ℕ) (id mark k x : ℕ) → k < kind_from id → struck_same fixed nums marks id mark k x ≡ x
before_kind fixed nums marks id mark k x h = rw (lt-ltb k (kind_from id) h)

pub after_kind : (fixed nums marks : List ℕ) (id mark k x : ℕ) → kind_from id + 4096 ≤ k → struck_same fixed nums marks id mark k x ≡ x
after_kind fixed nums marks id mark k x h = rw (le-ltb k (kind_from id) (omega arith), le-ltb k (kind_from id + 4096) h)

-- the rows are as they were while constraints are struck
pub struck_by_row : (fixed nums before after : List ℕ) (id mark k x : ℕ) → kind_from id ≤ k → k < kind_from id + 4096
    → get_or after (row_of (kind_from id) k) 0 ≡ get_or before (row_of (kind_from id) k) 0 → struck_same fixed nums after id mark k x ≡ struck_same fixed nums before id mark k x
struck_by_row fixed nums before after id mark k x l h e =
    within_struck fixed nums after id mark k x l h ∙ rw e (sym (within_struck fixed nums before id mark k x l h))

-- and the constraints are as they were while rows are struck
first_same : (p q : ℕ → Bool) → ((k : ℕ) → p k ≡ q k) → (more i : ℕ) → first_at p i more ≡ first_at q i more
unfolding first_at
first_same p q e zero i = refl
first_same p q e (suc more) i = rw (e i, first_same p q e more (suc i))

left_same_lem : (fixed nums before after : List ℕ) (id k : ℕ) → get_or after k 0 ≡ get_or before k 0 → left_same fixed nums after id k ≡ left_same fixed nums before id k
unfolding left_same
left_same_lem fixed nums before after id k e = rw e

pub has_same : (fixed nums before after : List ℕ) (id r : ℕ) → ((k : ℕ) → 64 ≤ k → get_or after k 0 ≡ get_or before k 0) → row_has fixed nums after id r ≡ row_has fixed nums before id r
unfolding row_has
has_same fixed nums before after id r e =
    ap (λ (o : ℕ). ltb o 64)
    (first_same (has_at fixed nums after id r) (has_at fixed nums before id r)
    (λ o. left_same_lem fixed nums before after id (kind_from id + r * 64 + o) (e (kind_from id + r * 64 + o) (omega (arith, (kind_within id).0)))) 64 0)

pub having_same : (fixed nums before after : List ℕ) (id mark r x y : ℕ) → ((k : ℕ) → 64 ≤ k → get_or after k 0 ≡ get_or before k 0) → x ≡ y
    → struck_rows (row_has fixed nums after id) mark r x ≡ struck_rows (row_has fixed nums before id) mark r y
having_same fixed nums before after id mark r x y e z = rw (has_same fixed nums before after id r e, z)

pub struck_step : (fixed nums before after : List ℕ) (id mark i from : ℕ) → from ≡ kind_from id → i < 4096 → Sweeping (struck_same fixed nums before id mark) before after (kind_from id + i)
    → kind_from id + i < length after → (x : ℕ) → x ≡ struck_same fixed nums after id mark (from + i) (get_or after (from + i) 0)
    → Sweeping (struck_same fixed nums before id mark) before (set after (from + i) x) (kind_from id + (i + 1))
struck_step fixed nums before after id mark i from z h s l x e =
    let f = struck_same fixed nums before id mark in
    let k = kind_from id + i in
    let y : kind_from id + i + 1 ≡ kind_from id + (i + 1) = omega arith in
    let row : get_or after (row_of (kind_from id) k) 0 ≡ get_or before (row_of (kind_from id) k) 0 =
    s.changed (row_of (kind_from id) k) ∙ rows_kept fixed nums before id mark i (row_of (kind_from id) k) (omega (arith, (kind_within id).0)) in
    let v : x ≡ struck_same fixed nums before id mark k (get_or before k 0) =
    e ∙ ap (λ (g : ℕ). struck_same fixed nums after id mark (g + i) (get_or after (g + i) 0)) z
    ∙ struck_by_row fixed nums before after id mark k (get_or after k 0) (omega arith) (omega arith) row
    ∙ ap (struck_same fixed nums before id mark k) (sweep_here f before after k s k (omega arith)) in
    rw (z, ← y) (sweep_set f before after k x s l v)
  where
    rows_kept : (fixed nums before : List ℕ) (id mark i r : ℕ) → r < kind_from id
        → pick (ltb r (kind_from id + i)) (struck_same fixed nums before id mark r (get_or before r 0)) (get_or before r 0) ≡ get_or before r 0
    rows_kept fixed nums before id mark i r h = ap (λ (u : ℕ). pick (ltb r (kind_from id + i)) u (get_or before r 0)) (before_kind fixed nums before id mark r (get_or before r 0) h) ∙ picked_same (ltb r (kind_from id + i)) (get_or before r 0)

-- a struck row's constraints are passed over
pub struck_skip : (fixed nums before after : List ℕ) (id mark i : ℕ) → i < 4096 → Sweeping (struck_same fixed nums before id mark) before after (kind_from id + i) → (get_or after (i / 64) 0 ≡ 0 → ⊥)
    → (j : ℕ) → j ≡ i / 64 * 64 + 64 → Sweeping (struck_same fixed nums before id mark) before after (kind_from id + j)
struck_skip fixed nums before after id mark i h s struck j eq =
    sweep_skip (struck_same fixed nums before id mark) before after (kind_from id + i) (kind_from id + j) s (omega (arith, eq))
    (λ k a b. sym (same_row_struck fixed nums before id mark (i / 64) k (get_or before k 0) (omega arith) (omega (arith, eq)) (omega (arith, eq)) was))
  where
    same : get_or after (i / 64) 0 ≡ get_or before (i / 64) 0
    same =
        sweep_fixed (struck_same fixed nums before id mark) before after (kind_from id + i) (i / 64) s (before_kind fixed nums before id mark (i / 64) (get_or before (i / 64) 0) (omega (arith, (kind_within id).0)))

    was : get_or before (i / 64) 0 ≡ 0 → ⊥
    was e = struck (same ∙ e)
