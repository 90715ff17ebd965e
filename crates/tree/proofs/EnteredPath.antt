-- Entering a place appends its children: a place that had a number keeps it, the children get the next ones, and no other place gets any.
use mathlib.Core.Path.{◌≡◌, refl, sym, ap, ◌∙◌}
use mathlib.Core.Bool.{Bool, true, false}
use mathlib.Core.List.{List, [], ◌∷◌, ◌++◌}
use Prim.Native.Nat.{ℕ, zero, suc, ◌+◌, ◌<◌}
use native.Mathlib.Omega.{arith}
use lib.ListN.{length, length-append}
use Rattle.term.specs.Word.{pick}
use Rattle.term.specs.Part.{same_words}
use Rattle.term.proofs.Laws.{never, same_words_lem, words_same}
use Rattle.fit.specs.Constraint.{Place}
use Rattle.tree.specs.Told.Covered.{next_or, numbered_as, is_open}
use Rattle.tree.specs.Path.{Uncovered, place_numbered, children_from, marked, enter}

-- ---- numbers of places
numbered_marked : (p : Place) (us : List Uncovered) (n : ℕ) → numbered_as p (marked n us) ≡ numbered_as p us
unfolding numbered_as marked
numbered_marked p [] n = refl
numbered_marked p (u ∷ us) zero = refl
numbered_marked p (u ∷ us) (suc n) = rw (numbered_marked p us n)

-- a number in the first list stays; without one there, the second list's counts on
numbered_first : (p : Place) (us vs : List Uncovered) (m : ℕ) → numbered_as p us ≡ suc m → numbered_as p (us ++ vs) ≡ suc m
unfolding numbered_as
numbered_first p [] vs m e = never (cc)
numbered_first p (u ∷ us) vs m e = go (same_words u.place p) (numbered_as p us) refl m e (λ x z. numbered_first p us vs x z)
  where
    go : (b : Bool) (x : ℕ) → numbered_as p us ≡ x → (m : ℕ) → pick b 1 (next_or x) ≡ suc m → ((x : ℕ) → numbered_as p us ≡ suc x → numbered_as p (us ++ vs) ≡ suc x)
        → pick b 1 (next_or (numbered_as p (us ++ vs))) ≡ suc m
    go true x z m f i = f
    go false zero z m f i = absurd (omega (arith, f))
    go false (suc x) z m f i = rw (i x z) f

-- so many more, where there is a number
abbrev count_on : ℕ → ℕ → ℕ
count_on l zero = 0
count_on l (suc m) = suc (l + m)

numbered_second : (p : Place) (us vs : List Uncovered) → numbered_as p us ≡ 0 → numbered_as p (us ++ vs) ≡ count_on (length us) (numbered_as p vs)
unfolding numbered_as
numbered_second p [] vs e = go (numbered_as p vs)
  where
    go : (x : ℕ) → x ≡ count_on 0 x
    go zero = refl
    go (suc x) = omega arith
numbered_second p (u ∷ us) vs e = go (same_words u.place p) (numbered_as p us) refl e (λ z. numbered_second p us vs z)
  where
    on : (l x : ℕ) → next_or (count_on l x) ≡ count_on (suc l) x
    on l zero = refl
    on l (suc x) = omega arith

    go : (b : Bool) (x : ℕ) → numbered_as p us ≡ x → pick b 1 (next_or x) ≡ 0 → (numbered_as p us ≡ 0 → numbered_as p (us ++ vs) ≡ count_on (length us) (numbered_as p vs))
        → pick b 1 (next_or (numbered_as p (us ++ vs))) ≡ count_on (suc (length us)) (numbered_as p vs)
    go true x z f i = absurd (omega (arith, f))
    go false zero z f i = rw (i z) (on (length us) (numbered_as p vs))
    go false (suc x) z f i = absurd (omega (arith, f))

-- ---- the children of a place
different : (p q : Place) → (p ≡ q → ⊥) → same_words p q ≡ false
different p q d = go (same_words p q) refl
  where
    go : (b : Bool) → same_words p q ≡ b → b ≡ false
    go true e = absurd (d (same_words_lem p q e))
    go false e = refl

pub child_number : (i j : ℕ) (p q : Place) → ◌≡◌ {A = Place} (i ∷ p) (j ∷ q) → (i ≡ j) × (p ≡ q)
child_number i j p q e = let a : i ≡ j = cc in let b : p ≡ q = cc in (a, b)

child_numbered : (p : Place) (more i j : ℕ) → j < more → numbered_as ((i + j) ∷ p) (children_from p i more) ≡ suc j
unfolding numbered_as children_from
child_numbered p zero i j h = absurd (omega arith)
child_numbered p (suc more) i zero h = let z : i + 0 ≡ i = omega arith in rw (z, words_same (i ∷ p))
child_numbered p (suc more) i (suc j) h =
    let z : i + suc j ≡ suc i + j = omega arith in
    let later : numbered_as ((i + suc j) ∷ p) (children_from p (suc i) more) ≡ suc j =
    ap (λ (x : ℕ). numbered_as (x ∷ p) (children_from p (suc i) more)) z ∙ child_numbered p more (suc i) j (omega arith) in
    rw (different (i ∷ p) ((i + suc j) ∷ p) (λ e. omega (arith, (child_number i (i + suc j) p p e).0)), later)

child_unnumbered : (p q : Place) (more i : ℕ) → ((j : ℕ) → q ≡ j ∷ p → ⊥) → numbered_as q (children_from p i more) ≡ 0
unfolding numbered_as children_from
child_unnumbered p q zero i d = refl
child_unnumbered p q (suc more) i d = rw (different (i ∷ p) q (λ e. d i (sym e)), child_unnumbered p q more (suc i) d)

-- ---- places of numbers
place_marked : (us : List Uncovered) (n m : ℕ) → place_numbered m (marked n us) ≡ place_numbered m us
unfolding place_numbered marked
place_marked [] n m = refl
place_marked (u ∷ us) zero zero = refl
place_marked (u ∷ us) zero (suc m) = refl
place_marked (u ∷ us) (suc n) zero = refl
place_marked (u ∷ us) (suc n) (suc m) = place_marked us n m

place_first : (us vs : List Uncovered) (m : ℕ) → m < length us → place_numbered m (us ++ vs) ≡ place_numbered m us
unfolding place_numbered
place_first [] vs m h = absurd (omega arith)
place_first (u ∷ us) vs zero h = refl
place_first (u ∷ us) vs (suc m) h = place_first us vs m (omega arith)

place_second : (us vs : List Uncovered) (m : ℕ) → place_numbered (length us + m) (us ++ vs) ≡ place_numbered m vs
unfolding place_numbered
place_second [] vs m = let z : 0 + m ≡ m = omega arith in rw z
place_second (u ∷ us) vs m = let z : suc (length us) + m ≡ suc (length us + m) = omega arith in rw z (place_second us vs m)

child_place : (p : Place) (more i j : ℕ) → j < more → place_numbered j (children_from p i more) ≡ (i + j) ∷ p
unfolding place_numbered children_from
child_place p zero i j h = absurd (omega arith)
child_place p (suc more) i zero h = let z : i + 0 ≡ i = omega arith in rw z
child_place p (suc more) i (suc j) h = let z : i + suc j ≡ suc i + j = omega arith in rw z (child_place p more (suc i) j (omega arith))

-- ---- open places
open_marked : (us : List Uncovered) (n m : ℕ) → (m ≡ n → ⊥) → is_open m (marked n us) ≡ is_open m us
unfolding is_open marked
open_marked [] n m d = refl
open_marked (u ∷ us) zero zero d = absurd (d refl)
open_marked (u ∷ us) zero (suc m) d = refl
open_marked (u ∷ us) (suc n) zero d = refl
open_marked (u ∷ us) (suc n) (suc m) d = open_marked us n m (λ e. d (ap suc e))

marked_shut : (us : List Uncovered) (n : ℕ) → is_open n (marked n us) ≡ false
unfolding is_open marked
marked_shut [] n = refl
marked_shut (u ∷ us) zero = refl
marked_shut (u ∷ us) (suc n) = marked_shut us n

open_first : (us vs : List Uncovered) (m : ℕ) → m < length us → is_open m (us ++ vs) ≡ is_open m us
unfolding is_open
open_first [] vs m h = absurd (omega arith)
open_first (u ∷ us) vs zero h = refl
open_first (u ∷ us) vs (suc m) h = open_first us vs m (omega arith)

open_second : (us vs : List Uncovered) (m : ℕ) → is_open (length us + m) (us ++ vs) ≡ is_open m vs
unfolding is_open
open_second [] vs m = let z : 0 + m ≡ m = omega arith in rw z
open_second (u ∷ us) vs m = let z : suc (length us) + m ≡ suc (length us + m) = omega arith in rw z (open_second us vs m)

child_open : (p : Place) (more i j : ℕ) → j < more → is_open j (children_from p i more) ≡ true
unfolding is_open children_from
child_open p zero i j h = absurd (omega arith)
child_open p (suc more) i zero h = refl
child_open p (suc more) i (suc j) h = child_open p more (suc i) j (omega arith)

pub open_within : (us : List Uncovered) (m : ℕ) → is_open m us ≡ true → m < length us
unfolding is_open
open_within [] m e = never (cc)
open_within (u ∷ us) zero e = omega arith
open_within (u ∷ us) (suc m) e = omega (arith, open_within us m e)

length_marked : (us : List Uncovered) (n : ℕ) → length (marked n us) ≡ length us
unfolding marked
length_marked [] n = refl
length_marked (u ∷ us) zero = refl
length_marked (u ∷ us) (suc n) = ap suc (length_marked us n)

length_children : (p : Place) (i more : ℕ) → length (children_from p i more) ≡ more
unfolding children_from
length_children p i zero = refl
length_children p i (suc more) = ap suc (length_children p (suc i) more)

pub length_enter : (us : List Uncovered) (n c : ℕ) → length (enter n c us) ≡ length us + c
unfolding enter
length_enter us n c = omega (arith, length-append (marked n us) (children_from (place_numbered n us) 0 c), length_marked us n, length_children (place_numbered n us) 0 c)

-- ---- the path on which a place is entered
module _ (us : List Uncovered) (n c : ℕ) where
  pub enter_old : (p : Place) (m : ℕ) → numbered_as p us ≡ suc m → numbered_as p (enter n c us) ≡ suc m
  unfolding enter
  enter_old p m e = numbered_first p (marked n us) (children_from (place_numbered n us) 0 c) m (numbered_marked p us n ∙ e)

  pub enter_child : (j : ℕ) → j < c → numbered_as (j ∷ place_numbered n us) us ≡ 0 → numbered_as (j ∷ place_numbered n us) (enter n c us) ≡ suc (length us + j)
  unfolding enter
  enter_child j h e =
      let z : 0 + j ≡ j = omega arith in
      let k : numbered_as (j ∷ place_numbered n us) (children_from (place_numbered n us) 0 c) ≡ suc j = rw z at (child_numbered (place_numbered n us) c 0 j h) in
      numbered_second (j ∷ place_numbered n us) (marked n us) (children_from (place_numbered n us) 0 c) (numbered_marked (j ∷ place_numbered n us) us n ∙ e) ∙ rw (k, length_marked us n)

  enter_none : (q : Place) → ((j : ℕ) → q ≡ j ∷ place_numbered n us → ⊥) → numbered_as q us ≡ 0 → numbered_as q (enter n c us) ≡ 0
  unfolding enter
  enter_none q d e =
      numbered_second q (marked n us) (children_from (place_numbered n us) 0 c) (numbered_marked q us n ∙ e) ∙ rw (child_unnumbered (place_numbered n us) q c 0 d)

  pub enter_other : (q : Place) → ((j : ℕ) → q ≡ j ∷ place_numbered n us → ⊥) → numbered_as q (enter n c us) ≡ numbered_as q us
  enter_other q d = go (numbered_as q us) refl
    where
      go : (x : ℕ) → numbered_as q us ≡ x → numbered_as q (enter n c us) ≡ x
      go zero e = enter_none q d e
      go (suc x) e = enter_old q x e

  pub enter_place : (m : ℕ) → m < length us → place_numbered m (enter n c us) ≡ place_numbered m us
  unfolding enter
  enter_place m h = place_first (marked n us) (children_from (place_numbered n us) 0 c) m (omega (arith, h, length_marked us n)) ∙ place_marked us n m

  pub enter_new : (j : ℕ) → j < c → place_numbered (length us + j) (enter n c us) ≡ j ∷ place_numbered n us
  unfolding enter
  enter_new j h =
      let z : 0 + j ≡ j = omega arith in
      rw (← length_marked us n) (place_second (marked n us) (children_from (place_numbered n us) 0 c) j ∙ child_place (place_numbered n us) c 0 j h ∙ rw z)

  pub enter_keeps : (m : ℕ) → m < length us → (m ≡ n → ⊥) → is_open m (enter n c us) ≡ is_open m us
  unfolding enter
  enter_keeps m h d = open_first (marked n us) (children_from (place_numbered n us) 0 c) m (omega (arith, h, length_marked us n)) ∙ open_marked us n m d

  pub enter_shuts : n < length us → is_open n (enter n c us) ≡ false
  unfolding enter
  enter_shuts h = open_first (marked n us) (children_from (place_numbered n us) 0 c) n (omega (arith, h, length_marked us n)) ∙ marked_shut us n

  pub enter_opens : (j : ℕ) → j < c → is_open (length us + j) (enter n c us) ≡ true
  unfolding enter
  enter_opens j h = rw (← length_marked us n) (open_second (marked n us) (children_from (place_numbered n us) 0 c) j ∙ child_open (place_numbered n us) c 0 j h)
