-- The parts of a term at uncovered places: numbers and ways from the root tell the same parts, and entering a node keeps that.
use mathlib.Core.Path.{◌≡◌, refl, sym, ap, ◌∙◌}
use mathlib.Core.Bool.{Bool, true, false, ◌&&◌}
use mathlib.Core.List.{List, [], ◌∷◌, ◌++◌}
use mathlib.Core.Option.{Option}
use mathlib.Core.Logic.{inl, inr}
use Prim.Native.Nat.{ℕ, zero, suc, ◌<◌}
use native.Mathlib.Omega.{arith}
use lib.ListN.{length}
use Rattle.term.specs.Word.{Head, count, pick, InTable}
use Rattle.term.specs.Row.{Row, nothing, node, width, Formed}
use Rattle.term.specs.Renumber.{inside}
use Rattle.term.specs.Part.{same_words}
use Rattle.term.proofs.Laws.{never, formed_node, width_nothing, width_node, same_words_lem, words_same}
use Rattle.fit.specs.Left.{Left, end, hole, part}
use Rattle.fit.specs.Constraint.{Place, Occurrence, occurrences, tree, children_of, under, tree_at, is_head, shape_fits, body_here}
use Rattle.fit.proofs.Laws.{from, at_from, from_first, under_child, at_root_lem, at_child, children_node, head_nothing, shape_hole, shape_part, occurrences_end, occurrences_hole, occurrences_part, Each, each_join}
use Rattle.term.proofs.Laws.{and_left, and_right}
use Rattle.tree.specs.Told.Covered.{Within}
use Rattle.tree.specs.Path.{Uncovered, place_numbered, number_in, children_from, marked, enter}
use Rattle.tree.specs.Find.{PartAt, part_of, marked_part, child_parts, inside_of, enter_part, body_for}
use Rattle.tree.proofs.Basics.{head_is_lem, head_here_lem, formed_at}
use Rattle.tree.proofs.Subs.{Full}

-- ---- the abstractions passed on the way to a place
unfoldable pub depth_under : Row → Place → ℕ
depth_under t [] = 0
depth_under t (i ∷ p) = inside_of (tree (under t p) i) (depth_under t p)

unfoldable pub depth_at : Row → Place → ℕ
depth_at t [] = 0
depth_at t (i ∷ p) = depth_under t p

-- ---- the parts at uncovered places
abbrev pub part_at : Row → Uncovered → PartAt
part_at t u = record { part = tree_at t u.place; depth = depth_at t u.place; entered = u.entered }

unfoldable pub parts_at : Row → List Uncovered → List PartAt
parts_at t [] = []
parts_at t (u ∷ us) = part_at t u ∷ parts_at t us

pub part_of_lem : (t : Row) (us : List Uncovered) (n : ℕ) → (part_of n (parts_at t us)).part ≡ tree_at t (place_numbered n us)
unfolding parts_at part_of place_numbered
part_of_lem t [] n = sym (at_root_lem t)
part_of_lem t (u ∷ us) zero = refl
part_of_lem t (u ∷ us) (suc n) = part_of_lem t us n

pub depth_of_lem : (t : Row) (us : List Uncovered) (n : ℕ) → (part_of n (parts_at t us)).depth ≡ depth_at t (place_numbered n us)
unfolding parts_at part_of place_numbered depth_at
depth_of_lem t [] n = refl
depth_of_lem t (u ∷ us) zero = refl
depth_of_lem t (u ∷ us) (suc n) = depth_of_lem t us n

parts_marked : (t : Row) (us : List Uncovered) (n : ℕ) → marked_part n (parts_at t us) ≡ parts_at t (marked n us)
unfolding parts_at marked_part marked
parts_marked t [] n = refl
parts_marked t (u ∷ us) zero = refl
parts_marked t (u ∷ us) (suc n) = ap (part_at t u ∷◌) (parts_marked t us n)

parts_join : (t : Row) (us vs : List Uncovered) → parts_at t (us ++ vs) ≡ parts_at t us ++ parts_at t vs
unfolding parts_at
parts_join t [] vs = refl
parts_join t (u ∷ us) vs = ap (part_at t u ∷◌) (parts_join t us vs)

children_step : (t : Row) (p : Place) (i : ℕ) (h : Head) (kids rest : Row) → tree (under t p) i ≡ node h kids nothing
    → child_parts (depth_under t p) rest ≡ parts_at t (children_from p (suc i) (width rest))
    → child_parts (depth_under t p) (node h kids rest) ≡ parts_at t (children_from p i (suc (width rest)))
unfolding child_parts parts_at children_from depth_at
children_step t p i h kids rest e r = rw (at_child t i p, e, r)

no_children : (t : Row) (p : Place) (i : ℕ) → [] ≡ parts_at t (children_from p i 0)
unfolding parts_at children_from
no_children t p i = refl

children_parts : (t : Row) (p : Place) (i : ℕ) (f : Row) → from i (under t p) ≡ f → child_parts (depth_under t p) f ≡ parts_at t (children_from p i (width f))
unfolding child_parts
children_parts t p i nothing e = rw width_nothing (no_children t p i)
children_parts t p i (node h kids rest) e =
    let a = at_from (under t p) i h kids rest e in
    rw (width_node h kids rest) (children_step t p i h kids rest a.0 (children_parts t p (suc i) rest a.1))

depths : (t : Row) (j : ℕ) (q : Place) (f : Row) → child_parts (inside_of (tree_at t (j ∷ q)) (depth_at t (j ∷ q))) f ≡ child_parts (depth_under t (j ∷ q)) f
unfolding depth_under depth_at
depths t j q f = rw (at_child t j q)

-- the children of a node with this head
at_children : (t : Row) → Formed t → (h : Head) → InTable h → (p : Place) → is_head h (tree_at t p) ≡ true
    → child_parts (inside_of (tree_at t p) (depth_at t p)) (children_of (tree_at t p)) ≡ parts_at t (children_from p 0 (count h))
at_children t w h i [] e = never (let z = ap (is_head h) (at_root_lem t) in let y = head_nothing h in cc)
at_children t w h i (j ∷ q) e =
    let x = head_is_lem h (tree_at t (j ∷ q)) e in
    let g = head_here_lem h t (j ∷ q) w i x in
    let f : Formed (node x.head x.children x.rest) = rw x.is at (formed_at t w (j ∷ q)) in
    let u : under t (j ∷ q) ≡ children_of (tree_at t (j ∷ q)) = under_child t j q ∙ ap children_of (sym (at_child t j q)) in
    let c : children_of (tree_at t (j ∷ q)) ≡ x.children = ap children_of x.is ∙ children_node x.head x.children x.rest in
    let n : width (children_of (tree_at t (j ∷ q))) ≡ count h = ap width c ∙ (formed_node x.head x.children x.rest f).full ∙ ap count (sym g) in
    inner t j q (children_of (tree_at t (j ∷ q))) (count h) n (children_parts t (j ∷ q) 0 (children_of (tree_at t (j ∷ q))) (from_first (under t (j ∷ q)) ∙ u))
  where
    inner : (t : Row) (j : ℕ) (q : Place) (f : Row) (c : ℕ) → width f ≡ c → child_parts (depth_under t (j ∷ q)) f ≡ parts_at t (children_from (j ∷ q) 0 (width f))
        → child_parts (inside_of (tree_at t (j ∷ q)) (depth_at t (j ∷ q))) f ≡ parts_at t (children_from (j ∷ q) 0 c)
    inner t j q f c n e = depths t j q f ∙ e ∙ ap (λ (m : ℕ). parts_at t (children_from (j ∷ q) 0 m)) n

-- entering a node by its number appends the parts at its children
pub enter_parts : (t : Row) → Formed t → (h : Head) → InTable h → (us : List Uncovered) (n : ℕ) → is_head h (tree_at t (place_numbered n us)) ≡ true
    → enter_part n (parts_at t us) ≡ parts_at t (enter n (count h) us)
unfolding enter_part enter
enter_parts t w h i us n e =
    rw (part_of_lem t us n, depth_of_lem t us n, parts_marked t us n, parts_join t (marked n us) (children_from (place_numbered n us) 0 (count h)))
    (ap (parts_at t (marked n us) ++◌) (at_children t w h i (place_numbered n us) e))

-- ---- bodies at places
unfoldable pub body_there : Row → Place → List ℕ → Option Row
body_there t p ys = body_here (depth_at t p) ys (tree_at t p)

pub body_for_lem : (t : Row) (us : List Uncovered) (n : ℕ) (ys : List ℕ) → body_for (parts_at t us) n ys ≡ body_there t (place_numbered n us) ys
unfolding body_for body_there
body_for_lem t us n ys = rw (part_of_lem t us n, depth_of_lem t us n)

pub number_place : (p : Place) (us : List Uncovered) → Within p us → place_numbered (number_in p us) us ≡ p
unfolding place_numbered number_in
number_place p [] w = absurd w
number_place p (u ∷ us) w = go (same_words u.place p) refl w (number_place p us)
  where
    go : (b : Bool) → same_words u.place p ≡ b → Within p (u ∷ us) → (Within p us → place_numbered (number_in p us) us ≡ p) → place_numbered (pick b 0 (suc (number_in p us))) (u ∷ us) ≡ p
    go true e w r = same_words_lem u.place p e
    go false e (inl q) r = never (let z : same_words u.place p ≡ true = rw q (words_same p) in cc)
    go false e (inr q) r = r q

pub number_less : (p : Place) (us : List Uncovered) → Within p us → number_in p us < length us
unfolding number_in
number_less p [] w = absurd w
number_less p (u ∷ us) w = go (same_words u.place p) refl w (number_less p us)
  where
    go : (b : Bool) → same_words u.place p ≡ b → Within p (u ∷ us) → (Within p us → number_in p us < length us) → pick b 0 (suc (number_in p us)) < suc (length us)
    go true e w r = omega arith
    go false e (inl q) r = never (let z : same_words u.place p ≡ true = rw q (words_same p) in cc)
    go false e (inr q) r = omega (arith, r q)

pub length_parts : (t : Row) (us : List Uncovered) → length (parts_at t us) ≡ length us
unfolding parts_at
length_parts t [] = refl
length_parts t (u ∷ us) = ap suc (length_parts t us)

pub body_number : (t : Row) (us : List Uncovered) (p : Place) (ys : List ℕ) → Within p us → body_for (parts_at t us) (number_in p us) ys ≡ body_there t p ys
body_number t us p ys w = body_for_lem t us (number_in p us) ys ∙ ap (λ (q : Place). body_there t q ys) (number_place p us w)

-- ---- where the shape fits, the abstractions passed in the left side are those passed in the term
abbrev pub DepthIs : Row → Occurrence → Type 0
DepthIs t o = o.depth ≡ depth_at t o.place

inside_head : (t : Row) → Formed t → (h : Head) → InTable h → (p : Place) (i d : ℕ) → depth_under t p ≡ d → is_head h (tree_at t (i ∷ p)) ≡ true → depth_under t (i ∷ p) ≡ inside h d
unfolding depth_under inside_of
inside_head t w h i p j d e s =
    let x = head_is_lem h (tree_at t (j ∷ p)) s in
    let g = head_here_lem h t (j ∷ p) w i x in
    let q : tree (under t p) j ≡ node x.head x.children x.rest = sym (at_child t j p) ∙ x.is in
    rw (q, e, ← g)

depth_here : (t : Row) (p : Place) (i d : ℕ) → depth_under t p ≡ d → d ≡ depth_at t (i ∷ p)
unfolding depth_at
depth_here t p i d e = sym e

pub depths_are : (t : Row) → Formed t → (p : Place) (i d : ℕ) (k : Left) → Full k → depth_under t p ≡ d → shape_fits t p i k ≡ true → Each (DepthIs t) (occurrences p i d k)
depths_are t w p i d end f e s = rw (occurrences_end p i d) tt
depths_are t w p i d (hole x ys rest) f e s =
    rw (occurrences_hole p i d x ys rest) (depth_here t p i d e, depths_are t w p (suc i) d rest f e (sym (shape_hole t p i x ys rest) ∙ s))
depths_are t w p i d (part h kids rest) f e s =
    let a = sym (shape_part t p i h kids rest) ∙ s in
    let b = and_left (is_head h (tree_at t (i ∷ p)) && shape_fits t (i ∷ p) 0 kids) (shape_fits t p (suc i) rest) a in
    let c = and_left (is_head h (tree_at t (i ∷ p))) (shape_fits t (i ∷ p) 0 kids) b in
    rw (occurrences_part p i d h kids rest)
    (each_join (DepthIs t) (occurrences (i ∷ p) 0 (inside h d) kids) (occurrences p (suc i) d rest)
    (depths_are t w (i ∷ p) 0 (inside h d) kids f.2 (inside_head t w h f.0 p i d e c) (and_right (is_head h (tree_at t (i ∷ p))) (shape_fits t (i ∷ p) 0 kids) b))
    (depths_are t w p (suc i) d rest f.3 e (and_right (is_head h (tree_at t (i ∷ p)) && shape_fits t (i ∷ p) 0 kids) (shape_fits t p (suc i) rest) a)))
