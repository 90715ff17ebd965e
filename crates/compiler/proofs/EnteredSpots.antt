-- A left side stands at its spots in other tables too, where the numbers of its spots and of its places are the same in both.
use mathlib.Core.Path.{◌≡◌, refl, sym, ap, ◌∙◌}
use mathlib.Core.Bool.{false}
use mathlib.Core.List.{List, [], ◌∷◌}
use Prim.Native.Nat.{ℕ, zero, suc, ◌+◌, ◌-◌, ◌≤◌, ◌<◌}
use native.Mathlib.Omega.{arith}
use lib.ListN.{length, get_or, drop, length-drop}
use lib.Seq.{drop-drop}
use Rattle.term.specs.Renumber.{inside}
use Rattle.fit.specs.Left.{Left, end, hole, part}
use Rattle.fit.specs.Constraint.{Place}
use Rattle.tree.specs.Told.Covered.{numbered_as}
use Rattle.tree.specs.Path.{Uncovered}
use Rattle.tree.specs.Rows.{subs_under, sub_at}
use Rattle.compiler.specs.Told.Stands.{spread, ListAt, LeftAt, BlankAt}
use Rattle.tree.proofs.Laws.{subs_from, from_hole, from_part, from_start, sub_child, headed_below}
use Rattle.compiler.proofs.SpotHeads.{is_end}

-- ---- the places of a left side
abbrev pub PlacesIn : (Place → Type 0) → Place → ℕ → Left → Type 0
PlacesIn Q p i end = Unit {0}
PlacesIn Q p i (hole x ys rest) = Q (i ∷ p) × PlacesIn Q p (suc i) rest
PlacesIn Q p i (part h kids rest) = Q (i ∷ p) × PlacesIn Q (i ∷ p) 0 kids × PlacesIn Q p (suc i) rest

-- each has a sub-pattern
pub sub_places : (left : Left) (Q : Place → Type 0) → ((i : ℕ) (p : Place) → is_end (sub_at left (i ∷ p)) ≡ false → Q (i ∷ p))
    → (p : Place) (i : ℕ) (x : Left) → subs_from i (subs_under left p) ≡ x → PlacesIn Q p i x
sub_places left Q f p i end e = tt
sub_places left Q f p i (hole x ys rest) e =
    let a = from_hole (subs_under left p) i x ys rest e in
    (f i p (ap is_end (sub_child left i p ∙ a.0)), sub_places left Q f p (suc i) rest a.1)
sub_places left Q f p i (part h kids rest) e =
    let a = from_part (subs_under left p) i h kids rest e in
    let s : sub_at left (i ∷ p) ≡ part h kids end = sub_child left i p ∙ a.0 in
    let u : subs_under left (i ∷ p) ≡ kids = headed_below left i p h (record { kids = kids; rest = end; is = s }) in
    (f i p (ap is_end s), sub_places left Q f (i ∷ p) 0 kids (from_start (subs_under left (i ∷ p)) ∙ u), sub_places left Q f p (suc i) rest a.1)

-- q is the place of the tree number i below p, or stands below it
abbrev pub Under : ℕ → Place → Place → Type 0
Under i p q = (m : ℕ) × (drop m q ≡ i ∷ p)

under_length : (i m : ℕ) (p q : Place) → drop m q ≡ i ∷ p → suc (length p) ≡ length q - m
under_length i m p q e = sym (ap length e) ∙ length-drop m q

pub under_longer : (i : ℕ) (p q : Place) → Under i p q → length p < length q
under_longer i p q u = omega (arith, under_length i u.0 p q u.1)

pub under_own : (i : ℕ) (p : Place) → Under i p (i ∷ p)
under_own i p = (0, refl)

pub under_above : (i j : ℕ) (p q : Place) → Under j (i ∷ p) q → Under i p q
under_above i j p q u = (u.0 + 1, sym (drop-drop 1 u.0 q) ∙ ap (drop 1) u.1)

pub under_child : (i j : ℕ) (p q : Place) → Under i p q → Under i p (j ∷ q)
under_child i j p q u = (suc u.0, u.1)

pub under_one : (i j : ℕ) (p q : Place) → Under i p q → Under j p q → i ≡ j
under_one i j p q u v =
    let z : u.0 ≡ v.0 = omega (arith, under_length i u.0 p q u.1, under_length j v.0 p q v.1) in
    let e : ◌≡◌ {A = Place} (i ∷ p) (j ∷ p) = sym u.1 ∙ ap (λ (m : ℕ). drop m q) z ∙ v.1 in
    cc

pub under_places : (Q : Place → Type 0) (x : Left) (p : Place) (i : ℕ) → ((j : ℕ) (q : Place) → i ≤ j → Under j p q → Q q) → PlacesIn Q p i x
under_places Q end p i f = tt
under_places Q (hole x ys rest) p i f = (f i (i ∷ p) (omega arith) (under_own i p), under_places Q rest p (suc i) (λ j q l u. f j q (omega arith) u))
under_places Q (part h kids rest) p i f =
    (f i (i ∷ p) (omega arith) (under_own i p), under_places Q kids (i ∷ p) 0 (λ j q l u. f i q (omega arith) (under_above i j p q u)), under_places Q rest p (suc i) (λ j q l u. f j q (omega arith) u))

-- ---- tables with the same numbers at these spots
module _ (fixed nums other : List ℕ) where
  -- from k on, so many
  abbrev pub SameFrom : ℕ → ℕ → Type 0
  SameFrom k more = (o : ℕ) → k ≤ o → o < k + more → get_or other o 0 ≡ get_or nums o 0

  pub kept_list : (ys : List ℕ) (k : ℕ) → SameFrom k (length ys) → ListAt fixed nums k ys → ListAt fixed other k ys
  unfolding ListAt
  kept_list [] k s l = tt
  kept_list (y ∷ ys) k s l = (l.0, s k (omega arith) (omega arith) ∙ l.1, kept_list ys (suc k) (λ o a b. s o (omega arith) (omega arith)) l.2)

  pub kept_blank : (more k : ℕ) → SameFrom k more → BlankAt fixed nums k more → BlankAt fixed other k more
  unfolding BlankAt
  kept_blank zero k s l = tt
  kept_blank (suc more) k s l = (l.0, s k (omega arith) (omega arith) ∙ l.1, kept_blank more (suc k) (λ o a b. s o (omega arith) (omega arith)) l.2)

  pub kept_left : (us vs : List Uncovered) (x : Left) (k : ℕ) (p : Place) (i d : ℕ) → SameFrom k (spread x) → PlacesIn (λ q. numbered_as q vs ≡ numbered_as q us) p i x
      → LeftAt fixed nums us k p i d x → LeftAt fixed other vs k p i d x
  unfolding LeftAt spread
  kept_left us vs end k p i d s w l = tt
  kept_left us vs (hole x ys rest) k p i d s w l = (
    l.0,
    l.1,
    s k (omega arith) (omega arith) ∙ l.2 ∙ sym w.0,
    kept_list ys (suc k) (λ o a b. s o (omega arith) (omega arith)) l.3,
    kept_left us vs rest (k + 1 + length ys) p (suc i) d (λ o a b. s o (omega arith) (omega arith)) w.1 l.4,
  )
  kept_left us vs (part h kids rest) k p i d s w l = (
    l.0,
    s k (omega arith) (omega arith) ∙ l.1 ∙ sym w.0,
    kept_left us vs kids (suc k) (i ∷ p) 0 (inside h d) (λ o a b. s o (omega arith) (omega arith)) w.1 l.2,
    kept_left us vs rest (k + 1 + spread kids) p (suc i) d (λ o a b. s o (omega arith) (omega arith)) w.2 l.3,
  )

-- on the same path
pub same_left_lem : (fixed nums other : List ℕ) (us : List Uncovered) (x : Left) (k : ℕ) (p : Place) (i d : ℕ) → SameFrom fixed nums other k (spread x)
    → LeftAt fixed nums us k p i d x → LeftAt fixed other us k p i d x
same_left_lem fixed nums other us x k p i d s l = kept_left fixed nums other us us x k p i d s (under_places (λ q. numbered_as q us ≡ numbered_as q us) x p i (λ j q a u. refl)) l
