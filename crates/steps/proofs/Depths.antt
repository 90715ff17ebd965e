-- The ids of the right side's own abstractions, seen from where a word is written: each is the number of abstractions since, so all grow by one with each that is entered.
use mathlib.Core.Path.{◌≡◌, refl, sym, ap, ap₂, ◌∙◌}
use mathlib.Core.Bool.{Bool, true, false}
use mathlib.Core.List.{List, ◌∷◌}
use Prim.Native.Nat.{ℕ, zero, suc, ◌+◌, ◌-◌, ◌≤◌, ◌<◌}
use native.Mathlib.Omega.{arith}
use native.Mathlib.Numerals.{add-one}
use lib.Dec.{eqb}
use lib.ListN.{length, get_or, set, length-set, length-replicate}
use lib.Seq.{get_or-set_same, get_or-set_other}
use borrow.Author.Tests.{eqb-true, eqb-false, eq-eqb, ne_eqb}
use Rattle.term.specs.Word.{kind_of, pick}
use Rattle.steps.specs.declared.under.Under.{Under}
use Rattle.steps.specs.Told.Told.{deeper}
use Rattle.steps.specs.Told.Under.{Place, place, Around, at_root, deeper_by, lowered, entered, inside_right, ids_from, ids_in}

pub length_ids : (depth : ℕ) (marks : List ℕ) (n : ℕ) → length (ids_from depth marks n) ≡ n
unfolding ids_from
length_ids depth marks zero = refl
length_ids depth marks (suc n) = ap suc (length_ids depth marks n)

-- under e abstractions more
pub ids_deeper : (depth e : ℕ) (marks : List ℕ) (n : ℕ) → ((j : ℕ) → j < n → get_or marks j 0 < depth) → ids_from (depth + e) marks n ≡ deeper e (ids_from depth marks n)
unfolding ids_from deeper
ids_deeper depth e marks zero low = refl
ids_deeper depth e marks (suc n) low =
    let h : get_or marks n 0 < depth = low n (omega arith) in
    let x : depth + e - get_or marks n 0 ≡ e + (depth - get_or marks n 0) = omega (arith, h) in
    ap₂ ◌∷◌ x (ids_deeper depth e marks n (λ j l. low j (omega (arith, l))))

-- a mark further in is of no account
ids_kept : (depth v : ℕ) (marks : List ℕ) (m n : ℕ) → n ≤ m → ids_from depth (set marks m v) n ≡ ids_from depth marks n
unfolding ids_from
ids_kept depth v marks m zero h = refl
ids_kept depth v marks m (suc n) h =
    ap₂ ◌∷◌ (ap (λ (w : ℕ). depth - w) (get_or-set_other marks m n v 0 (λ e. omega (arith, e, h)))) (ids_kept depth v marks m n (omega (arith, h)))

-- the id of the abstraction i−1 further out
pub ids_at_lem : (depth : ℕ) (marks : List ℕ) (n i : ℕ) → i < n → get_or (ids_from depth marks n) i 0 ≡ depth - get_or marks (n - i - 1) 0
unfolding ids_from
ids_at_lem depth marks zero i h = absurd (omega (arith, h))
ids_at_lem depth marks (suc n) zero h = let e : suc n - 0 - 1 ≡ n = omega arith in rw e
ids_at_lem depth marks (suc n) (suc i) h =
    let e : suc n - suc i - 1 ≡ n - i - 1 = omega arith in rw e (ids_at_lem depth marks n i (omega (arith, h)))

-- ---- where a word is written
pub around_root : (levels : ℕ) → Around (at_root levels)
around_root levels = record { long = length-replicate {A = ℕ} 16 0; few = omega arith; low = λ j h. absurd (omega (arith, h)) }

pub inside_abstraction_is : (u : Place) (w : ℕ) → kind_of w ≡ 1 → inside_right w u ≡ entered (lowered u)
inside_abstraction_is u w k = rw (eq-eqb (kind_of w) 1 k)

pub inside_other_is : (u : Place) (w : ℕ) → (kind_of w ≡ 1 → ⊥) → inside_right w u ≡ lowered u
inside_other_is u w k = rw (ne_eqb (kind_of w) 1 k)

-- how many levels may nest is of no account there
pub around_lowered : (u : Place) → Around u → Around (lowered u)
around_lowered u a = record { long = a.long; few = a.few; low = a.low }

pub inside_levels : (u : Place) (w : ℕ) → (inside_right w u).levels ≡ u.levels - 1
inside_levels u w = go (eqb (kind_of w) 1)
  where
    go : (b : Bool) → (pick b (entered (lowered u)) (lowered u)).levels ≡ u.levels - 1
    go true = refl
    go false = refl

module _ (u : Place) (a : Around u) where
  pub around_deeper : (e : ℕ) → Around (deeper_by e u)
  around_deeper e = record { long = a.long; few = a.few; low = λ j h. let l = a.low j h in omega (arith, l) }

  pub in_deeper : (e : ℕ) → ids_in (deeper_by e u) ≡ deeper e (ids_in u)
  in_deeper e = ids_deeper u.depth e u.marks u.own a.low

  mark_low : (j : ℕ) (b : Bool) → eqb j u.own ≡ b → j < u.own + 1 → u.own < 16 → get_or (set u.marks u.own u.depth) j 0 < u.depth + 1
  mark_low j true q h m =
      let e : j ≡ u.own = eqb-true j u.own q in
      let s : get_or (set u.marks u.own u.depth) u.own 0 ≡ u.depth = get_or-set_same u.marks u.own u.depth 0 (omega (arith, m, a.long)) in
      rw e (omega (arith, s))
  mark_low j false q h m =
      let n = eqb-false j u.own q in
      let s : get_or (set u.marks u.own u.depth) j 0 ≡ get_or u.marks j 0 = get_or-set_other u.marks u.own j u.depth 0 n in
      let l : get_or u.marks j 0 < u.depth = a.low j (omega (arith, h, n)) in
      omega (arith, s, l)

  around_entered : u.own < 16 → Around (entered u)
  around_entered m =
      record { long = length-set u.marks u.own u.depth ∙ a.long; few = omega (arith, m); low = λ j h. mark_low j (eqb j u.own) refl h m }

  pub in_entered : u.own < 16 → ids_in (entered u) ≡ 1 ∷ deeper 1 (ids_in u)
  unfolding ids_from
  in_entered m =
      let s : get_or (set u.marks u.own u.depth) u.own 0 ≡ u.depth = get_or-set_same u.marks u.own u.depth 0 (omega (arith, m, a.long)) in
      let x : u.depth + 1 - get_or (set u.marks u.own u.depth) u.own 0 ≡ 1 = omega (arith, s) in
      rw (add-one u.own)
      (ap₂ ◌∷◌ x (ids_kept (u.depth + 1) u.depth u.marks u.own u.own (omega arith) ∙ ids_deeper u.depth 1 u.marks u.own a.low))

  pub inside_depth : (w : ℕ) → (inside_right w u).depth ≤ u.depth + 1
  inside_depth w = go (eqb (kind_of w) 1) refl
    where
      go : (b : Bool) → eqb (kind_of w) 1 ≡ b → (inside_right w u).depth ≤ u.depth + 1
      go true q = rw q (omega arith)
      go false q = rw q (omega arith)

  pub own_id_is : (i : ℕ) → 1 ≤ i → i ≤ u.own → u.depth - get_or u.marks (u.own - i) 0 ≡ get_or (ids_in u) (i - 1) 0
  own_id_is i h l =
      let e : u.own - (i - 1) - 1 ≡ u.own - i = omega (arith, h, l) in
      sym (ids_at_lem u.depth u.marks u.own (i - 1) (omega (arith, h, l)) ∙ ap (λ (j : ℕ). u.depth - get_or u.marks j 0) e)

pub around : (u : Under) → length u.marks ≡ 16 → Around (place u)
around u l = record { long = l; few = u.few; low = u.low }

pub levels_at : (u : Under) (p : Place) → place u ≡ p → u.levels ≡ p.levels
levels_at u p q = ap (λ (x : Place). x.levels) q
