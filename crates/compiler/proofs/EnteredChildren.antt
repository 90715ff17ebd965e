-- Numbering the children of a spot gives the sub-patterns there the numbers that their places get on the path, and changes no other spot.
use mathlib.Core.Path.{◌≡◌, refl, sym, ap, ◌∙◌}
use mathlib.Core.Bool.{Bool, true, false}
use mathlib.Core.List.{List, ◌∷◌}
use Prim.Native.Nat.{ℕ, suc, ◌+◌, ◌≤◌, ◌<◌}
use native.Mathlib.Omega.{arith}
use native.Mathlib.Decide.{dec_le}
use lib.Dec.{eqb}
use lib.ListN.{length, get_or, set, length-set}
use lib.Seq.{get_or-set_same, get_or-set_other}
use borrow.Author.Tests.{eqb-true, eqb-false, lt-ltb}
use Rattle.term.specs.Word.{Head}
use Rattle.term.specs.Renumber.{inside}
use Rattle.fit.specs.Left.{Left, end, hole, part, wide}
use Rattle.fit.specs.Constraint.{Place}
use Rattle.fit.proofs.Laws.{wide_end, wide_hole, wide_part}
use Rattle.tree.specs.Told.Covered.{numbered_as}
use Rattle.tree.specs.Path.{Uncovered, place_numbered, enter}
use Rattle.compiler.specs.Told.Tables.{next_child, children_numbered}
use Rattle.compiler.specs.Told.Stands.{spread, LeftAt}
use Rattle.compiler.proofs.Restores.{Grown, grown_none, grown_join, set_grown}
use Rattle.tree.proofs.Laws.{enter_child, enter_other}
use Rattle.compiler.proofs.EnteredSpots.{Under, under_longer, under_places, kept_list, kept_left, same_left_lem}
use Rattle.compiler.proofs.EnteredCounts.{Counts, next_hole, next_part}

-- the numbers after count + j, up to count + t of no more than count + c, are given to spots from k up to e that had none
pub record Numbered (count c t : ℕ) (nums next : List ℕ) (k e j : ℕ) : Type 0 where
  pub grown : Grown count nums next
  pub before : (o : ℕ) → o < k → get_or next o 0 ≡ get_or nums o 0
  pub after : (o : ℕ) → e ≤ o → get_or next o 0 ≡ get_or nums o 0
  pub most : (o : ℕ) → get_or nums o 0 ≤ count + c → get_or next o 0 ≤ count + c
  pub used : (i : ℕ) → j ≤ i → i < t → (o : ℕ) × (k ≤ o) × (o < e) × (get_or next o 0 ≡ suc (count + i))

pub numbered_none : (count c t : ℕ) (nums : List ℕ) (k e j : ℕ) → t ≤ j → Numbered count c t nums nums k e j
numbered_none count c t nums k e j h =
    record { grown = grown_none count nums; before = λ o l. refl; after = λ o l. refl; most = λ o l. l; used = λ i a b. absurd (omega arith) }

-- the first child, and then the others
first_child : (count c t : ℕ) (nums next : List ℕ) (k s e j : ℕ) → 1 ≤ s → k + s ≤ e → k < length nums → get_or nums k 0 ≡ 0 → j < c
    → Numbered count c t (set nums k (count + 1 + j)) next (k + s) e (suc j) → Numbered count c t nums next k e j
first_child count c t nums next k s e j a b l z h r =
    record {
      grown = grown_join count nums (set nums k (count + 1 + j)) next (set_grown count nums k (count + 1 + j) l z (omega arith)) r.grown;
      before = λ o q. r.before o (omega arith) ∙ get_or-set_other nums k o (count + 1 + j) 0 (λ x. omega (arith, x, q));
      after = λ o q. r.after o q ∙ get_or-set_other nums k o (count + 1 + j) 0 (λ x. omega (arith, x, q, a, b));
      most = λ o q. r.most o (set_most o (eqb o k) refl q);
      used = λ i f g. used_one i f g (dec_le (suc j) i);
    }
  where
    set_most : (o : ℕ) (b : Bool) → eqb o k ≡ b → get_or nums o 0 ≤ count + c → get_or (set nums k (count + 1 + j)) o 0 ≤ count + c
    set_most o true x q = let y = eqb-true o k x in rw y (omega (arith, get_or-set_same nums k (count + 1 + j) 0 l, h))
    set_most o false x q = omega (arith, get_or-set_other nums k o (count + 1 + j) 0 (eqb-false o k x), q)

    used_one : (i : ℕ) → j ≤ i → i < t → Dec (suc j ≤ i) → (o : ℕ) × (k ≤ o) × (o < e) × (get_or next o 0 ≡ suc (count + i))
    used_one i f g (yes q) =
        let u = r.used i q g in
        (u.0, omega (arith, u.1), u.2, u.3)
    used_one i f g (no q) =
        let w : i ≡ j = omega arith in
        (k, omega arith, omega arith, omega (arith, r.before k (omega arith), get_or-set_same nums k (count + 1 + j) 0 l, w))

-- ---- the children of an entered place
numbered_zero : (fixed : List ℕ) (to v k : ℕ) (nums : List ℕ) → children_numbered fixed to v k 0 nums ≡ nums
unfolding children_numbered
numbered_zero fixed to v k nums = refl

numbered_more : (fixed : List ℕ) (to v k m : ℕ) (nums : List ℕ) (w next : ℕ) → k < to → suc v ≡ w → next_child fixed k to ≡ next
    → children_numbered fixed to v k (suc m) nums ≡ children_numbered fixed to w next m (set nums k v)
unfolding children_numbered
numbered_more fixed to v k m nums w next h a b = rw (lt-ltb k to h, a, b)

pub spread_hole : (x : ℕ) (ys : List ℕ) (rest : Left) → spread (hole x ys rest) ≡ 1 + length ys + spread rest
unfolding spread
spread_hole x ys rest = refl

pub spread_part : (h : Head) (kids rest : Left) → spread (part h kids rest) ≡ 1 + spread kids + spread rest
unfolding spread
spread_part h kids rest = refl

module _ (fixed : List ℕ) (to : ℕ) (within : to ≤ length fixed) (us : List Uncovered) (n c t count : ℕ) (few : t ≤ c) (counted : length us ≡ count)
    (new : (j : ℕ) → numbered_as (j ∷ place_numbered n us) us ≡ 0) where
  abbrev Children : List ℕ → List ℕ → ℕ → ℕ → ℕ → Left → Type 0
  Children nums next k j d x = Numbered count c t nums next k (k + spread x) j × LeftAt fixed next (enter n c us) k (place_numbered n us) j d x

  -- what stands below a child keeps its number
  deeper : (j i : ℕ) (q : Place) → Under i (j ∷ place_numbered n us) q → numbered_as q (enter n c us) ≡ numbered_as q us
  deeper j i q u = enter_other us n c q (λ x e. omega (arith, under_longer i (j ∷ place_numbered n us) q u, ap length e))

  child_is : (nums next : List ℕ) (k s e j : ℕ) → k < length nums → 1 ≤ s → j < c → Numbered count c t (set nums k (count + 1 + j)) next (k + s) e (suc j)
      → get_or next k 0 ≡ numbered_as (j ∷ place_numbered n us) (enter n c us)
  child_is nums next k s e j l a h r =
      r.before k (omega arith) ∙ get_or-set_same nums k (count + 1 + j) 0 l ∙ (let z : count + 1 + j ≡ suc (length us + j) = omega (arith, counted) in z) ∙ sym (enter_child us n c j h (new j))

  -- between the child's spot and the next child nothing changes
  unchanged : (nums next : List ℕ) (k s e j o : ℕ) → Numbered count c t (set nums k (count + 1 + j)) next (k + s) e (suc j) → k < o → o < k + s → get_or next o 0 ≡ get_or nums o 0
  unchanged nums next k s e j o r a b = r.before o b ∙ get_or-set_other nums k o (count + 1 + j) 0 (λ x. omega (arith, x, a))

  after_hole : (x : ℕ) (ys : List ℕ) (rest : Left) (nums next : List ℕ) (k j d : ℕ) → j < c → k < length nums → LeftAt fixed nums us k (place_numbered n us) j d (hole x ys rest)
      → Children (set nums k (count + 1 + j)) next (k + 1 + length ys) (suc j) d rest → Children nums next k j d (hole x ys rest)
  unfolding LeftAt spread
  after_hole x ys rest nums next k j d h q l r =
      let z : k + 1 + length ys ≡ k + (1 + length ys) = omega arith in
      let y : k + 1 + length ys + spread rest ≡ k + (1 + length ys + spread rest) = omega arith in
      let m : Numbered count c t (set nums k (count + 1 + j)) next (k + (1 + length ys)) (k + (1 + length ys + spread rest)) (suc j) = rw (y, z) at r.0 in (
        first_child count c t nums next k (1 + length ys) (k + (1 + length ys + spread rest)) j (omega arith) (omega arith) q (l.2 ∙ new j) h m,
        (
          l.0,
          l.1,
          child_is nums next k (1 + length ys) (k + (1 + length ys + spread rest)) j q (omega arith) h m,
          kept_list fixed nums next ys (suc k) (λ o a b. unchanged nums next k (1 + length ys) (k + (1 + length ys + spread rest)) j o m (omega arith) (omega arith)) l.3,
          r.1,
        ),
      )

  after_part : (g : Head) (kids rest : Left) (nums next : List ℕ) (k j d : ℕ) → j < c → k < length nums → LeftAt fixed nums us k (place_numbered n us) j d (part g kids rest)
      → Children (set nums k (count + 1 + j)) next (k + 1 + spread kids) (suc j) d rest → Children nums next k j d (part g kids rest)
  unfolding LeftAt spread
  after_part g kids rest nums next k j d h q l r =
      let z : k + 1 + spread kids ≡ k + (1 + spread kids) = omega arith in
      let y : k + 1 + spread kids + spread rest ≡ k + (1 + spread kids + spread rest) = omega arith in
      let m : Numbered count c t (set nums k (count + 1 + j)) next (k + (1 + spread kids)) (k + (1 + spread kids + spread rest)) (suc j) = rw (y, z) at r.0 in (
        first_child count c t nums next k (1 + spread kids) (k + (1 + spread kids + spread rest)) j (omega arith) (omega arith) q (l.1 ∙ new j) h m,
        (
          l.0,
          child_is nums next k (1 + spread kids) (k + (1 + spread kids + spread rest)) j q (omega arith) h m,
          kept_left fixed nums next us (enter n c us) kids (suc k) (j ∷ place_numbered n us) 0 (inside g d)
              (λ o a b. unchanged nums next k (1 + spread kids) (k + (1 + spread kids + spread rest)) j o m (omega arith) (omega arith))
              (under_places (λ q. numbered_as q (enter n c us) ≡ numbered_as q us) kids (j ∷ place_numbered n us) 0 (λ i q a u. deeper j i q u)) l.2,
          r.1,
        ),
      )

  -- the other children's spots are as they were
  rest_same : (nums : List ℕ) (k v : ℕ) (rest : Left) (from j d : ℕ) → k < from → LeftAt fixed nums us from (place_numbered n us) j d rest → LeftAt fixed (set nums k v) us from (place_numbered n us) j d rest
  rest_same nums k v rest from j d h l = same_left_lem fixed nums (set nums k v) us rest from (place_numbered n us) j d (λ o a b. get_or-set_other nums k o v 0 (λ x. omega (arith, x, a, h))) l

  left_after_hole : (x : ℕ) (ys : List ℕ) (rest : Left) (nums : List ℕ) (k j d : ℕ) → LeftAt fixed nums us k (place_numbered n us) j d (hole x ys rest) → LeftAt fixed nums us (k + 1 + length ys) (place_numbered n us) (suc j) d rest
  unfolding LeftAt
  left_after_hole x ys rest nums k j d l = l.4

  left_after_part : (g : Head) (kids rest : Left) (nums : List ℕ) (k j d : ℕ) → LeftAt fixed nums us k (place_numbered n us) j d (part g kids rest) → LeftAt fixed nums us (k + 1 + spread kids) (place_numbered n us) (suc j) d rest
  unfolding LeftAt
  left_after_part g kids rest nums k j d l = l.3

  moved : (nums next other : List ℕ) (k j d : ℕ) (x : Left) → other ≡ next → Children nums next k j d x → Children nums other k j d x
  moved nums next other k j d x e r = rw e r

  -- the children from a spot on, numbered
  abbrev Fresh : Left → List ℕ → ℕ → ℕ → ℕ → Type 0
  Fresh x nums k j d = j + wide x ≡ t → k + spread x ≤ to → to ≤ length nums → LeftAt fixed nums us k (place_numbered n us) j d x
      → Children nums (children_numbered fixed to (count + 1 + j) k (wide x) nums) k j d x

  fresh_end : (nums : List ℕ) (k j d : ℕ) → Fresh end nums k j d
  unfolding LeftAt
  fresh_end nums k j d w h u l = rw (wide_end, numbered_zero fixed to (count + 1 + j) k nums) (numbered_none count c t nums k (k + spread end) j (omega (arith, w, wide_end)), tt)

  fresh_hole : (x : ℕ) (ys : List ℕ) (rest : Left) (nums : List ℕ) (k j d : ℕ) → Counts (hole x ys rest) → Fresh rest (set nums k (count + 1 + j)) (k + 1 + length ys) (suc j) d → Fresh (hole x ys rest) nums k j d
  fresh_hole x ys rest nums k j d y f w h u l =
      let a = spread_hole x ys rest in
      let b = wide_hole x ys rest in
      let e : children_numbered fixed to (count + 1 + j) k (wide (hole x ys rest)) nums ≡ children_numbered fixed to (count + 1 + suc j) (k + 1 + length ys) (wide rest) (set nums k (count + 1 + j)) =
      ap (λ (m : ℕ). children_numbered fixed to (count + 1 + j) k m nums) b
      ∙ numbered_more fixed to (count + 1 + j) k (wide rest) nums (count + 1 + suc j) (k + 1 + length ys) (omega (arith, a, h)) (omega arith)
      (next_hole fixed to within nums us x ys rest k (place_numbered n us) j d (omega (arith, a, h)) y l) in
      moved nums (children_numbered fixed to (count + 1 + suc j) (k + 1 + length ys) (wide rest) (set nums k (count + 1 + j))) (children_numbered fixed to (count + 1 + j) k (wide (hole x ys rest)) nums) k j d (hole x ys rest) e
      (after_hole x ys rest nums (children_numbered fixed to (count + 1 + suc j) (k + 1 + length ys) (wide rest) (set nums k (count + 1 + j))) k j d (omega (arith, w, b, few)) (omega (arith, a, h)) l
      (f (omega (arith, w, b)) (omega (arith, a, h)) (omega (arith, u, length-set nums k (count + 1 + j))) (rest_same nums k (count + 1 + j) rest (k + 1 + length ys) (suc j) d (omega arith) (left_after_hole x ys rest nums k j d l))))

  fresh_part : (g : Head) (kids rest : Left) (nums : List ℕ) (k j d : ℕ) → Counts (part g kids rest) → Fresh rest (set nums k (count + 1 + j)) (k + 1 + spread kids) (suc j) d → Fresh (part g kids rest) nums k j d
  fresh_part g kids rest nums k j d y f w h u l =
      let a = spread_part g kids rest in
      let b = wide_part g kids rest in
      let e : children_numbered fixed to (count + 1 + j) k (wide (part g kids rest)) nums ≡ children_numbered fixed to (count + 1 + suc j) (k + 1 + spread kids) (wide rest) (set nums k (count + 1 + j)) =
      ap (λ (m : ℕ). children_numbered fixed to (count + 1 + j) k m nums) b
      ∙ numbered_more fixed to (count + 1 + j) k (wide rest) nums (count + 1 + suc j) (k + 1 + spread kids) (omega (arith, a, h)) (omega arith)
      (next_part fixed to within nums us g kids rest k (place_numbered n us) j d (omega (arith, a, h)) y l) in
      moved nums (children_numbered fixed to (count + 1 + suc j) (k + 1 + spread kids) (wide rest) (set nums k (count + 1 + j))) (children_numbered fixed to (count + 1 + j) k (wide (part g kids rest)) nums) k j d (part g kids rest) e
      (after_part g kids rest nums (children_numbered fixed to (count + 1 + suc j) (k + 1 + spread kids) (wide rest) (set nums k (count + 1 + j))) k j d (omega (arith, w, b, few)) (omega (arith, a, h)) l
      (f (omega (arith, w, b)) (omega (arith, a, h)) (omega (arith, u, length-set nums k (count + 1 + j))) (rest_same nums k (count + 1 + j) rest (k + 1 + spread kids) (suc j) d (omega arith) (left_after_part g kids rest nums k j d l))))

  pub children_numbered_lem : (x : Left) (nums : List ℕ) (k j d : ℕ) → Counts x → Fresh x nums k j d
  children_numbered_lem end nums k j d y = fresh_end nums k j d
  children_numbered_lem (hole x ys rest) nums k j d y = fresh_hole x ys rest nums k j d y (children_numbered_lem rest (set nums k (count + 1 + j)) (k + 1 + length ys) (suc j) d y.2)
  children_numbered_lem (part g kids rest) nums k j d y = fresh_part g kids rest nums k j d y (children_numbered_lem rest (set nums k (count + 1 + j)) (k + 1 + spread kids) (suc j) d y.2)
