-- Numbers and places of a path lead to one another, and of the open places with a symbol or abstraction the lowest is below all others.
use mathlib.Core.Path.{◌≡◌, refl, ap}
use mathlib.Core.Bool.{Bool, true, false, not}
use mathlib.Core.List.{List, [], ◌∷◌}
use mathlib.Core.Logic.{◌⊎◌, inl, inr}
use mathlib.Core.Option.{Option, none, some}
use Prim.Native.Nat.{ℕ, zero, suc, ◌≤◌, ◌<◌}
use native.Mathlib.Omega.{arith}
use lib.ListN.{length}
use Rattle.term.specs.Word.{Head, pick}
use Rattle.term.specs.Part.{same_words}
use Rattle.term.proofs.Laws.{never, same_words_lem, words_same}
use Rattle.fit.specs.Left.{Left}
use Rattle.fit.specs.Constraint.{Place}
use Rattle.tree.specs.Path.{Uncovered, root, place_numbered, number_in}
use Rattle.tree.specs.Rows.{head_at, next_number, open_here, lowest_open}
use Rattle.tree.specs.Told.Covered.{Within, next_or, numbered_as, is_open}
use Rattle.tree.proofs.Fits.{entered_of, OpenAt}

-- a place that is uncovered has its number
pub numbered_within : (us : List Uncovered) (p : Place) → Within p us → numbered_as p us ≡ suc (number_in p us)
unfolding numbered_as number_in
numbered_within [] p w = absurd w
numbered_within (u ∷ us) p w = go (same_words u.place p) refl w (numbered_within us p)
  where
    go : (b : Bool) → same_words u.place p ≡ b → (u.place ≡ p) ⊎ Within p us → (Within p us → numbered_as p us ≡ suc (number_in p us))
        → pick b 1 (next_or (numbered_as p us)) ≡ suc (pick b 0 (suc (number_in p us)))
    go true e v i = refl
    go false e (inl z) i = let y : same_words u.place p ≡ true = rw z (words_same p) in never (cc)
    go false e (inr v) i = rw (i v)

pub number_leads : (us : List Uncovered) (p : Place) (m : ℕ) → numbered_as p us ≡ suc m → (m < length us) × (place_numbered m us ≡ p)
unfolding numbered_as place_numbered
number_leads [] p m e = never (cc)
number_leads (u ∷ us) p m e = go (same_words u.place p) refl (numbered_as p us) refl m e (λ x z. number_leads us p x z)
  where
    go : (b : Bool) → same_words u.place p ≡ b → (x : ℕ) → numbered_as p us ≡ x → (m : ℕ) → pick b 1 (next_or x) ≡ suc m → ((x : ℕ) → numbered_as p us ≡ suc x → (x < length us) × (place_numbered x us ≡ p)) → (m < length (u ∷ us)) × (place_numbered m (u ∷ us) ≡ p)
    go true q x z zero f i = (omega arith, same_words_lem u.place p q)
    go true q x z (suc m) f i = absurd (omega (arith, f))
    go false q zero z m f i = absurd (omega (arith, f))
    go false q (suc x) z zero f i = absurd (omega (arith, f))
    go false q (suc x) z (suc m) f i =
        let w : x ≡ m = omega (arith, f) in
        let r = i x z in
        (omega (arith, r.0, w), rw w at r.1)

pub number_there : (us : List Uncovered) (n : ℕ) → n < length us → (m : ℕ) × (numbered_as (place_numbered n us) us ≡ suc m)
unfolding numbered_as place_numbered
number_there [] n h = absurd (omega arith)
number_there (u ∷ us) zero h = (0, rw (words_same u.place))
number_there (u ∷ us) (suc n) h = go (same_words u.place (place_numbered n us)) (number_there us n (omega arith))
  where
    go : (b : Bool) → (m : ℕ) × (numbered_as (place_numbered n us) us ≡ suc m) → (m : ℕ) × (pick b 1 (next_or (numbered_as (place_numbered n us) us)) ≡ suc m)
    go true r = (0, refl)
    go false r = (suc r.0, rw r.1)

pub open_entered : (us : List Uncovered) (n : ℕ) → is_open n us ≡ true → entered_of n us ≡ false
unfolding is_open entered_of
open_entered [] n e = never (cc)
open_entered (u ∷ us) zero e = go u.entered e
  where
    go : (b : Bool) → not b ≡ true → b ≡ false
    go true q = never (cc)
    go false q = refl
open_entered (u ∷ us) (suc n) e = open_entered us n e

pub entered_open : (us : List Uncovered) (n : ℕ) → entered_of n us ≡ false → (n < length us) × (is_open n us ≡ true)
unfolding is_open entered_of
entered_open [] n e = never (cc)
entered_open (u ∷ us) zero e = (omega arith, ap not e)
entered_open (u ∷ us) (suc n) e = let r = entered_open us n e in (omega (arith, r.0), r.1)

-- only the root is uncovered
pub root_numbered_lem : numbered_as (0 ∷ []) (root ∷ []) ≡ 1
unfolding numbered_as
root_numbered_lem = rw (words_same (0 ∷ []))

pub below_root : (i j : ℕ) (p : Place) → numbered_as (i ∷ j ∷ p) (root ∷ []) ≡ 0
unfolding numbered_as
below_root i j p = go (same_words (0 ∷ []) (i ∷ j ∷ p)) refl
  where
    go : (b : Bool) → same_words (0 ∷ []) (i ∷ j ∷ p) ≡ b → pick b 1 (next_or 0) ≡ 0
    go true e =
        let z : ◌≡◌ {A = ℕ} 1 (suc (suc (length p))) = ap length (same_words_lem (0 ∷ []) (i ∷ j ∷ p) e) in
        absurd (omega (arith, z))
    go false e = refl

pub open_root : is_open 0 (root ∷ []) ≡ true
unfolding is_open
open_root = refl

none_open : (n : ℕ) → is_open n [] ≡ false
unfolding is_open
none_open zero = refl
none_open (suc n) = refl

pub open_later : (n : ℕ) → is_open (suc n) (root ∷ []) ≡ false
unfolding is_open
open_later n = none_open n

pub root_place : place_numbered 0 (root ∷ []) ≡ 0 ∷ []
unfolding place_numbered
root_place = refl

-- ---- no open place with a head is lower
abbrev pub LeastO : ℕ → Option ℕ → Type 0
LeastO m none = ⊥
LeastO m (some n) = n ≤ m

least_next : (m : ℕ) (o : Option ℕ) → LeastO m o → LeastO (suc m) (next_number o)
least_next m none l = l
least_next m (some n) l = omega (arith, l)

least_here : (m : ℕ) (b : Bool) (h : Option Head) (o : Option ℕ) → LeastO m o → LeastO (suc m) (open_here b h o)
least_here m true h o l = least_next m o l
least_here m false none o l = least_next m o l
least_here m false (some h) o l = omega arith

least_first : (b : Bool) (h : Option Head) (o : Option ℕ) (g : Head) → b ≡ false → h ≡ some g → LeastO 0 (open_here b h o)
least_first true h o g e q = never (cc)
least_first false none o g e q = never (cc)
least_first false (some h) o g e q = omega arith

pub least_open : (left : Left) (us : List Uncovered) (m : ℕ) → OpenAt left us m → LeastO m (lowest_open left us)
unfolding lowest_open entered_of place_numbered
least_open left [] m a = let z = a.new in never (cc)
least_open left (u ∷ us) zero a = least_first u.entered (head_at left u.place) (lowest_open left us) a.head a.new a.is
least_open left (u ∷ us) (suc m) a =
    least_here m u.entered (head_at left u.place) (lowest_open left us) (least_open left us m (record { new = a.new; head = a.head; is = a.is }))
