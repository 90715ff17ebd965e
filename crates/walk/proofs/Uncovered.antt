-- Places in memory: those of a number on are a list, by index; marking and appending keep the others.
use mathlib.Core.Path.{◌≡◌, refl, sym, ap, ap₂, ◌∙◌}
use mathlib.Core.Bool.{Bool, true, false}
use mathlib.Core.List.{List, [], ◌∷◌, ◌++◌}
use mathlib.Core.Option.{Option, none, some}
use Prim.Native.Nat.{ℕ, zero, suc, ◌+◌, ◌≤◌, ◌<◌}
use native.Mathlib.Omega.{arith}
use lib.ListN.{length, length-drop, get_or, drop}
use Rattle.term.specs.Word.{Head}
use Rattle.term.specs.Row.{Row, nothing, node, width}
use Rattle.term.specs.Renumber.{good_list, to_body}
use Rattle.term.specs.Told.Walk.{Stands}
use Rattle.term.specs.Part.{body_of, is_some, has_body, same_o, same_body}
use Rattle.term.proofs.Laws.{never, width_nothing, width_node, part_stands, body_stands, stands_short, good_true, is_some_lem, is_none, same_by_words, same_bodies}
use Rattle.fit.specs.Constraint.{body_here}
use Rattle.fit.proofs.Laws.{body_node}
use Rattle.tree.specs.Find.{PartAt, part_of, marked_part, child_parts, body_for}
use Rattle.tree.proofs.Laws.{part_first, part_later, marked_first, marked_later, child_parts_none, child_parts_more, body_for_is}
use Rattle.walk.specs.declared.state.Walk.{Walk}
use Rattle.walk.specs.Told.State.{part_from, place_in, places_from, places_of, Parted, Holds}

-- ---- places by index
pub length_places : (f : ℕ → PartAt) (i n : ℕ) → length (places_from f i n) ≡ n
unfolding places_from
length_places f i zero = refl
length_places f i (suc n) = ap suc (length_places f (suc i) n)

pub part_places : (f : ℕ → PartAt) (i n k : ℕ) → k < n → part_of k (places_from f i n) ≡ f (i + k)
unfolding places_from
part_places f i zero k h = absurd (omega arith)
part_places f i (suc n) zero h = let z : i + 0 ≡ i = omega arith in part_first (f i) (places_from f (suc i) n) ∙ ap f (sym z)
part_places f i (suc n) (suc k) h =
    let z : suc i + k ≡ i + suc k = omega arith in
    part_later k (f i) (places_from f (suc i) n) ∙ part_places f (suc i) n k (omega arith) ∙ ap f z

pub places_agree : (f g : ℕ → PartAt) (i n : ℕ) → ((j : ℕ) → j < i + n → f j ≡ g j) → places_from f i n ≡ places_from g i n
unfolding places_from
places_agree f g i zero e = refl
places_agree f g i (suc n) e = ap₂ (λ (p : PartAt) (l : List PartAt). p ∷ l) (e i (omega arith)) (places_agree f g (suc i) n (λ j h. e j (omega arith)))

pub places_more : (f : ℕ → PartAt) (i n : ℕ) → places_from f i (suc n) ≡ places_from f i n ++ (f (i + n) ∷ [])
unfolding places_from
places_more f i zero = let z : i + 0 ≡ i = omega arith in rw z
places_more f i (suc n) = let z : suc i + n ≡ i + suc n = omega arith in ap (f i ∷◌) (places_more f (suc i) n ∙ rw z)

abbrev pub entered_part : PartAt → PartAt
entered_part p = record { part = p.part; depth = p.depth; entered = true }

pub places_marked : (f g : ℕ → PartAt) (i n k : ℕ) → k < n → g (i + k) ≡ entered_part (f (i + k)) → ((j : ℕ) → (j ≡ i + k → ⊥) → g j ≡ f j)
    → marked_part k (places_from f i n) ≡ places_from g i n
unfolding places_from
places_marked f g i zero k h e o = absurd (omega arith)
places_marked f g i (suc n) zero h e o =
    let z : i + 0 ≡ i = omega arith in
    let q : g i ≡ entered_part (f i) = rw z at e in
    marked_first (f i) (places_from f (suc i) n) ∙ ap₂ (λ (p : PartAt) (l : List PartAt). p ∷ l) (sym q) (same (suc i) n (omega arith))
  where
    same : (a m : ℕ) → i < a → places_from f a m ≡ places_from g a m
    same a zero l = refl
    same a (suc m) l = ap₂ (λ (p : PartAt) (l : List PartAt). p ∷ l) (sym (o a (λ w. omega arith))) (same (suc a) m (omega arith))
places_marked f g i (suc n) (suc k) h e o =
    let z : i + suc k ≡ suc i + k = omega arith in
    let q : g (suc i + k) ≡ entered_part (f (suc i + k)) = rw z at e in
    marked_later k (f i) (places_from f (suc i) n)
    ∙ ap₂ (λ (p : PartAt) (l : List PartAt). p ∷ l) (sym (o i (λ w. omega arith))) (places_marked f g (suc i) n k (omega arith) q (λ j w. o j (λ v. w (v ∙ z))))

-- ---- children
pub length_children : (d : ℕ) (g : Row) → length (child_parts d g) ≡ width g
length_children d nothing = rw (child_parts_none d, width_nothing)
length_children d (node h kids rest) = rw (child_parts_more d h kids rest, width_node h kids rest) (ap suc (length_children d rest))

-- ---- one tree
pub one_tree : (f : Row) → width f ≡ 1 → (h : Head) × (kids : Row) × (f ≡ node h kids nothing)
one_tree nothing e = let z : ◌≡◌ {A = ℕ} 0 1 = sym width_nothing ∙ e in absurd (omega (arith, z))
one_tree (node h kids nothing) e = (h, kids, refl)
one_tree (node h kids (node g k r)) e =
    let z : suc (suc (width r)) ≡ 1 = rw (width_node h kids (node g k r), width_node g k r) at e in absurd (omega (arith, z))

pub from_stands : (term : List ℕ) (at : ℕ) (f : Row) (after : List ℕ) → length term ≤ 4096 → Stands 64 1 (drop at term) 0 f after → part_from term at ≡ f
unfolding part_from
from_stands term at f after l s = rw (part_stands (drop at term) f after (stands_short 64 1 (drop at term) 0 f after s (omega (arith, length-drop at term, l))) s)

-- ---- a place that is held
module _ (term : List ℕ) (s : Walk) (p : Parted term) (h : Holds term s) where
  pub held_count : s.count ≤ 4096
  held_count = omega (arith, h.few, p.short)

  pub held_length : length (places_of term s) ≡ s.count
  held_length = length_places (place_in term s.offsets s.depths s.entered) 0 s.count

  module _ (n : ℕ) (i : n < s.count) where
    abbrev offset : ℕ
    offset = get_or s.offsets n 0

    abbrev depth : ℕ
    depth = get_or s.depths n 0

    pub place_is : part_of n (places_of term s) ≡ place_in term s.offsets s.depths s.entered n
    place_is = let z : 0 + n ≡ n = omega arith in part_places (place_in term s.offsets s.depths s.entered) 0 s.count n i ∙ rw z

    pub place_depth : (part_of n (places_of term s)).depth ≡ depth
    unfolding place_in
    place_depth = ap (λ (q : PartAt). q.depth) place_is

    pub place_entered : (part_of n (places_of term s)).entered ≡ get_or s.entered n false
    unfolding place_in
    place_entered = ap (λ (q : PartAt). q.entered) place_is

    pub place_part : (part_of n (places_of term s)).part ≡ part_from term offset
    unfolding place_in
    place_part = ap (λ (q : PartAt). q.part) place_is

    pub place_stands : (f : Row) × (after : List ℕ) × Stands 64 1 (drop offset term) 0 f after
    place_stands = p.begins offset (h.within n i)

    pub place_tree : (part_of n (places_of term s)).part ≡ place_stands.0
    place_tree = place_part ∙ from_stands term offset place_stands.0 place_stands.1 p.short place_stands.2

    -- its body is that of the words at its offset
    pub place_body : (ys : List ℕ) → good_list depth ys ≡ true → body_for (places_of term s) n ys ≡ body_of depth ys (drop offset term)
    place_body ys g =
        let f = place_stands.0 in
        let o = one_tree f place_stands.2.wide in
        let b : body_here depth ys f ≡ to_body depth ys f = rw o.2 (body_node depth ys o.0 o.1 nothing) in
        body_for_is (places_of term s) n ys ∙ rw (place_depth, place_tree) (b ∙ sym (body_stands depth ys (drop offset term) f place_stands.1 (good_true depth ys g) (stands_short 64 1 (drop offset term) 0 f place_stands.1 place_stands.2 (omega (arith, length-drop offset term, p.short))) place_stands.2))

-- the tests of term, by the bodies
pub has_body_lem : (d : ℕ) (ys ws : List ℕ) → is_some (body_of d ys ws) ≡ has_body d ys ws
has_body_lem d ys ws = go (body_of d ys ws) refl
  where
    go : (o : Option Row) → body_of d ys ws ≡ o → is_some o ≡ has_body d ys ws
    go none e = is_none d ys ws e
    go (some b) e = is_some_lem d ys ws b e

pub same_body_is : (d : ℕ) (ys ws : List ℕ) (c : ℕ) (zs vs : List ℕ) → same_o (body_of d ys ws) (body_of c zs vs) ≡ same_body d ys ws c zs vs
same_body_is d ys ws c zs vs = go (body_of d ys ws) (body_of c zs vs) refl refl
  where
    no : (same_body d ys ws c zs vs ≡ true → ⊥) → false ≡ same_body d ys ws c zs vs
    no n = say (same_body d ys ws c zs vs) refl
      where
        say : (b : Bool) → same_body d ys ws c zs vs ≡ b → false ≡ b
        say true e = absurd (n e)
        say false e = refl

    go : (o q : Option Row) → body_of d ys ws ≡ o → body_of c zs vs ≡ q → same_o o q ≡ same_body d ys ws c zs vs
    go none q e u = no (λ t. let x = same_bodies d ys ws c zs vs t in never (cc))
    go (some b) none e u = no (λ t. let x = same_bodies d ys ws c zs vs t in never (cc))
    go (some b) (some a) e u = sym (same_by_words d ys ws c zs vs b a e u)
