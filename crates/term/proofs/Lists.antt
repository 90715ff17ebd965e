-- The list of a pattern variable: positions, and that distinct ids within 1..d are at most d.
use mathlib.Core.Path.{◌≡◌, refl, sym, ap, ◌∙◌}
use mathlib.Core.Bool.{Bool, true, false, ◌&&◌}
use mathlib.Core.List.{List, [], ◌∷◌}
use mathlib.Core.Logic.{◌≢◌}
use Prim.Native.Nat.{ℕ, zero, suc, ◌+◌, ◌-◌, ◌≤◌, ◌<◌}
use native.Mathlib.Omega.{arith}
use lib.Dec.{leb, ltb, eqb}
use native.Mathlib.Numerals.{add-one}
use lib.ListN.{length, get_or, take, drop, length-drop, drop_of_length-le}
use lib.Seq.{drop-cons, take_all}
use borrow.Author.Tests.{eqb-true, eqb-false, leb-true, eq-eqb, ne_eqb, le-leb, lt-leb}
use Rattle.std.proofs.Common.{Option, Some, None, cond}
use Rattle.std.specs.List.{position_from, position_or_len}
use Rattle.std.proofs.lemmas.Iterator.Adapters.{position_from-zero}
use Rattle.term.specs.Renumber.{position, position_b, Listed, GoodList, listed, good_list}
use Rattle.term.proofs.Words.{and_left, and_right, and_both}

-- a position that is there
abbrev Here : ℕ → List ℕ → ℕ → Type 0
Here y ys zero = Unit {0}
Here y ys (suc j) = (j < length ys) × (get_or ys j 0 ≡ y)

here_step : (y z : ℕ) (zs : List ℕ) (b : Bool) (p : ℕ) → eqb y z ≡ b → Here y zs p → Here y (z ∷ zs) (position_b b p)
here_step y z zs true p e h = (omega arith, sym (eqb-true y z e))
here_step y z zs false zero e h = tt
here_step y z zs false (suc j) e h = (omega arith, h.1)

here : (y : ℕ) (ys : List ℕ) → Here y ys (position y ys)
unfolding position
here y [] = tt
here y (z ∷ zs) = here_step y z zs (eqb y z) (position y zs) refl (here y zs)

pub position_is : (y : ℕ) (ys : List ℕ) (j : ℕ) → position y ys ≡ suc j → (j < length ys) × (get_or ys j 0 ≡ y)
position_is y ys j e = rw e at (here y ys)

first_is_lem : (y : ℕ) (ys : List ℕ) → position y (y ∷ ys) ≡ 1
unfolding position
first_is_lem y ys = rw (eq-eqb y y refl)

later_is : (y z : ℕ) (ys : List ℕ) (j : ℕ) → position z ys ≡ 0 → position y ys ≡ suc j → position y (z ∷ ys) ≡ suc (suc j)
unfolding position
later_is y z ys j h e = rw (ne_eqb y z (λ q. differ q), e)
  where
    differ : y ≡ z → ⊥
    differ q = let w : position z ys ≡ suc j = rw (← q) e in omega arith

pub position_at : (d : ℕ) (ys : List ℕ) → Listed d ys → (j : ℕ) → j < length ys → position (get_or ys j 0) ys ≡ suc j
unfolding Listed
position_at d [] l j h = absurd (omega arith)
position_at d (y ∷ ys) l zero h = first_is_lem y ys
position_at d (y ∷ ys) l (suc j) h = later_is (get_or ys j 0) y ys j l.2 (position_at d ys l.3 j (omega arith))

pub listed_range : (d : ℕ) (ys : List ℕ) → Listed d ys → (j : ℕ) → j < length ys → (1 ≤ get_or ys j 0) × (get_or ys j 0 ≤ d)
unfolding Listed
listed_range d [] l j h = omega arith
listed_range d (y ∷ ys) l zero h = (l.0, l.1)
listed_range d (y ∷ ys) l (suc j) h = listed_range d ys l.3 j (omega arith)

-- ---- at most d of them: without d they are distinct ids within 1..d−1
abbrev unless : Bool → ℕ → List ℕ → List ℕ
unless true y ys = ys
unless false y ys = y ∷ ys

without : ℕ → List ℕ → List ℕ
without x [] = []
without x (y ∷ ys) = unless (eqb x y) y (without x ys)

not_there : (x y : ℕ) (ys : List ℕ) → position x (y ∷ ys) ≡ 0 → (eqb x y ≡ false) × (position x ys ≡ 0)
unfolding position
not_there x y ys e = go (eqb x y) (position x ys) refl refl e
  where
    go : (b : Bool) (p : ℕ) → eqb x y ≡ b → position x ys ≡ p → position_b b p ≡ 0 → (eqb x y ≡ false) × (position x ys ≡ 0)
    go true p q r h = absurd (omega arith)
    go false zero q r h = (q, r)
    go false (suc p) q r h = absurd (omega arith)

stays_out : (x y : ℕ) (ys : List ℕ) → eqb x y ≡ false → position x ys ≡ 0 → position x (y ∷ ys) ≡ 0
unfolding position
stays_out x y ys e h = rw (e, h)

without_none : (x : ℕ) (ys : List ℕ) → position x ys ≡ 0 → without x ys ≡ ys
unfolding without
without_none x [] h = refl
without_none x (y ∷ ys) h = let n = not_there x y ys h in rw (n.0, without_none x ys n.1)

without_keeps : (x z : ℕ) (ys : List ℕ) → position z ys ≡ 0 → position z (without x ys) ≡ 0
unfolding without
without_keeps x z [] h = h
without_keeps x z (y ∷ ys) h = let n = not_there z y ys h in go (eqb x y) n.0 (without_keeps x z ys n.1)
  where
    go : (b : Bool) → eqb z y ≡ false → position z (without x ys) ≡ 0 → position z (unless b y (without x ys)) ≡ 0
    go true e q = q
    go false e q = stays_out z y (without x ys) e q

without_length : (d x : ℕ) (ys : List ℕ) → Listed d ys → length ys ≤ suc (length (without x ys))
unfolding without Listed
without_length d x [] l = omega arith
without_length d x (y ∷ ys) l = go (eqb x y) refl (without_length d x ys l.3)
  where
    go : (b : Bool) → eqb x y ≡ b → length ys ≤ suc (length (without x ys)) → suc (length ys) ≤ suc (length (unless b y (without x ys)))
    go true e q = rw (eqb-true x y e, without_none y ys l.2) (omega arith)
    go false e q = omega arith

without_listed : (d : ℕ) (ys : List ℕ) → Listed (suc d) ys → Listed d (without (suc d) ys)
unfolding without Listed
without_listed d [] l = tt
without_listed d (y ∷ ys) l = go (eqb (suc d) y) refl (without_listed d ys l.3)
  where
    go : (b : Bool) → eqb (suc d) y ≡ b → Listed d (without (suc d) ys) → Listed d (unless b y (without (suc d) ys))
    go true e q = q
    go false e q = let n : suc d ≢ y = eqb-false (suc d) y e in (l.0, omega arith, without_keeps (suc d) y ys l.2, q)

pub at_most : (d : ℕ) (ys : List ℕ) → Listed d ys → length ys ≤ d
unfolding Listed
at_most zero [] l = omega arith
at_most zero (y ∷ ys) l = absurd (omega arith)
at_most (suc d) ys l = omega (arith, without_length (suc d) (suc d) ys l, at_most d (without (suc d) ys) (without_listed d ys l))

-- as many as d are all of them: one more would be too many
pub all_there : (d : ℕ) (ys : List ℕ) → Listed d ys → length ys ≡ d → (y : ℕ) → 1 ≤ y → y ≤ d → 1 ≤ position y ys
unfolding Listed
all_there d ys l e y low high = go (position y ys) refl
  where
    go : (p : ℕ) → position y ys ≡ p → 1 ≤ position y ys
    go zero q = absurd (let n = at_most d (y ∷ ys) (low, high, q, l) in omega arith)
    go (suc p) q = omega arith

-- ---- the test
pub listed_true : (d : ℕ) (ys : List ℕ) → listed d ys ≡ true → Listed d ys
unfolding listed Listed
listed_true d [] e = tt
listed_true d (y ∷ ys) e =
    let a = and_left (leb 1 y && leb y d) _ e in
    let b = and_right (leb 1 y && leb y d) _ e in (
      leb-true 1 y (and_left (leb 1 y) _ a),
      leb-true y d (and_right (leb 1 y) _ a),
      eqb-true (position y ys) 0 (and_left (eqb (position y ys) 0) _ b),
      listed_true d ys (and_right (eqb (position y ys) 0) _ b),
    )

pub true_listed : (d : ℕ) (ys : List ℕ) → Listed d ys → listed d ys ≡ true
unfolding listed Listed
true_listed d [] l = refl
true_listed d (y ∷ ys) l =
    and_both _ _ (and_both _ _ (le-leb 1 y l.0) (le-leb y d l.1)) (and_both _ _ (eq-eqb (position y ys) 0 l.2) (true_listed d ys l.3))

pub good_true : (d : ℕ) (ys : List ℕ) → good_list d ys ≡ true → GoodList d ys
unfolding good_list
good_true d ys e = record { few = leb-true _ _ (and_left _ _ e); listed = listed_true d ys (and_right (leb (length ys) 4) _ e) }

pub true_good : (d : ℕ) (ys : List ℕ) → GoodList d ys → good_list d ys ≡ true
unfolding good_list
true_good d ys g = and_both _ _ (le-leb (length ys) 4 g.few) (true_listed d ys g.listed)

-- ---- the loops: what is left of the list gives the answer
pub later : ℕ → ℕ → ℕ
later j zero = 0
later j (suc p) = suc (j + p)

module _ (y : ℕ) (ys : List ℕ) (j : ℕ) where
  abbrev pub Sought : Type 0
  Sought = position y ys ≡ later j (position y (drop j ys))

  pub found_here : Sought → j < length ys → y ≡ get_or ys j 0 → j + 1 ≡ position y ys
  unfolding position later
  found_here s h e = sym (s ∙ rw (drop-cons ys j 0 h, eq-eqb y (get_or ys j 0) e) (omega arith))

  pub found_nowhere : Sought → length ys ≤ j → 0 ≡ position y ys
  unfolding position later
  found_nowhere s h = sym (s ∙ rw (drop_of_length-le ys h))

  pub sought_next : Sought → j < length ys → (y ≡ get_or ys j 0 → ⊥) → position y ys ≡ later (j + 1) (position y (drop (j + 1) ys))
  unfolding position later
  sought_next s h n = s ∙ rw (add-one, drop-cons ys j 0 h, ne_eqb y (get_or ys j 0) n) (passed (position y (drop (suc j) ys)))
    where
      passed : (p : ℕ) → later j (position_b false p) ≡ later (suc j) p
      passed zero = refl
      passed (suc p) = omega arith

  pub found_later : Sought → j < length ys → (y ≡ get_or ys j 0 → ⊥) → position y ys ≡ j + 1 → ⊥
  unfolding later
  found_later s h n e = after (position y (drop (j + 1) ys)) (sym (sought_next s h n) ∙ e)
    where
      after : (p : ℕ) → later (j + 1) p ≡ j + 1 → ⊥
      after zero q = omega arith
      after (suc p) q = omega arith

-- std's position counts from 0
abbrev pub counted_from_1 : Option ℕ → ℕ
counted_from_1 None = 0
counted_from_1 (Some j) = j + 1

place_is : (y : ℕ) (i : ℕ) (ys : List ℕ) → counted_from_1 (position_from (λ x. eqb y x) i ys) ≡ later i (position y ys)
unfolding position later
place_is y i [] = refl
place_is y i (z ∷ zs) = go (eqb y z) (place_is y (i + 1) zs)
  where
    go : (b : Bool) → counted_from_1 (position_from (λ x. eqb y x) (i + 1) zs) ≡ later (i + 1) (position y zs)
        → counted_from_1 (cond b (Some i) (position_from (λ x. eqb y x) (i + 1) zs)) ≡ later i (position_b b (position y zs))
    go true h = omega arith
    go false h = h ∙ passed (position y zs)
      where
        passed : (p : ℕ) → later (i + 1) p ≡ later i (position_b false p)
        passed zero = refl
        passed (suc p) = omega arith

pub sought_first : (y : ℕ) (ys : List ℕ) → position y ys ≡ later 0 (position y (drop 0 ys))
unfolding later
sought_first y ys = passed (position y ys)
  where
    passed : (p : ℕ) → p ≡ later 0 p
    passed zero = refl
    passed (suc p) = omega arith

pub counted_position : (y : ℕ) (ys : List ℕ) (o : Option ℕ) → o ≡ cond (ltb (position_or_len (eqb y) ys) (length ys)) (Some (position_or_len (eqb y) ys)) None
    → counted_from_1 o ≡ position y ys
counted_position y ys o e = ap counted_from_1 (e ∙ position_from-zero (eqb y) ys) ∙ place_is y 0 ys ∙ sym (sought_first y ys)

module _ (d : ℕ) (ys : List ℕ) (j : ℕ) (few : length ys ≤ 4) (rest : listed d ys ≡ listed d (drop j ys)) where
  pub too_small : j < length ys → get_or ys j 0 < 1 → false ≡ good_list d ys
  unfolding good_list listed
  too_small h l = sym (rw (le-leb (length ys) 4 few, rest, drop-cons ys j 0 h, lt-leb 1 (get_or ys j 0) l))

  pub too_large : j < length ys → 1 ≤ get_or ys j 0 → d < get_or ys j 0 → false ≡ good_list d ys
  unfolding good_list listed
  too_large h l g = sym (rw (le-leb (length ys) 4 few, rest, drop-cons ys j 0 h, le-leb 1 (get_or ys j 0) l, lt-leb (get_or ys j 0) d g))

  pub repeated : j < length ys → 1 ≤ get_or ys j 0 → get_or ys j 0 ≤ d → (position (get_or ys j 0) (drop (j + 1) ys) ≡ 0 → ⊥) → false ≡ good_list d ys
  unfolding good_list listed
  repeated h l g n =
      sym (rw (le-leb (length ys) 4 few, rest, drop-cons ys j 0 h, le-leb 1 (get_or ys j 0) l, le-leb (get_or ys j 0) d g, ← add-one j, ne_eqb _ 0 n))

  pub listed_next : j < length ys → 1 ≤ get_or ys j 0 → get_or ys j 0 ≤ d → position (get_or ys j 0) (drop (j + 1) ys) ≡ 0 → listed d ys ≡ listed d (drop (j + 1) ys)
  unfolding listed
  listed_next h l g n = rest ∙ rw (add-one j, drop-cons ys j 0 h, le-leb 1 (get_or ys j 0) l, le-leb (get_or ys j 0) d g, eq-eqb _ 0 (rw (add-one j) at n))

  pub all_listed : length ys ≤ j → true ≡ good_list d ys
  unfolding good_list listed
  all_listed h = sym (rw (le-leb (length ys) 4 few, rest, drop_of_length-le ys h))

pub too_many : (d : ℕ) (ys : List ℕ) → 4 < length ys → false ≡ good_list d ys
unfolding good_list
too_many d ys h = sym (rw (lt-leb (length ys) 4 h))

pub position_le : (y : ℕ) (ys : List ℕ) → position y ys ≤ length ys
position_le y ys = go (position y ys) refl
  where
    go : (p : ℕ) → position y ys ≡ p → p ≤ length ys
    go zero e = omega arith
    go (suc j) e = omega (arith, position_is y ys j e)

-- a slice from n on, as the code hands it over
pub suffix : (n : ℕ) (ws : List ℕ) → take (length ws - n) (drop n ws) ≡ drop n ws
suffix n ws = take_all (length ws - n) (drop n ws) (rw (length-drop n ws) (omega arith))
