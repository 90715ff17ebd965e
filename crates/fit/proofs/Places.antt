-- What matching finds is what stands at the places of the occurrences.
use mathlib.Core.Path.{◌≡◌, refl, sym, ap, ◌∙◌}
use mathlib.Core.Bool.{Bool, true, false, ◌&&◌}
use mathlib.Core.List.{List, [], ◌∷◌, ◌++◌}
use mathlib.Core.Option.{Option, none, some}
use Prim.Native.Nat.{ℕ, zero, suc}
use native.Mathlib.Omega.{arith}
use lib.Dec.{eqb}
use borrow.Author.Tests.{eqb-true}
use Rattle.term.specs.Word.{Head, word, count}
use Rattle.term.specs.Row.{Row, nothing, node, width, Formed}
use Rattle.term.specs.Renumber.{inside, to_body}
use Rattle.term.proofs.Laws.{never, formed_node, width_node, width_nothing}
use Rattle.fit.specs.Left.{Left, end, hole, part, wide, GoodLeft}
use Rattle.fit.specs.Fit.{Found, body_then, both_found, only_if, found}
use Rattle.fit.specs.Constraint.{Place, tree, children_of, under, tree_at, is_head, shape_fits, Occurrence, occurrences, body_here, body_at}
use Rattle.fit.proofs.Basics.{same_word}

-- the trees of a row from number i on
unfoldable pub from : ℕ → Row → Row
from zero f = f
from (suc i) nothing = nothing
from (suc i) (node h kids rest) = from i rest

from_nothing : (i : ℕ) → from i nothing ≡ nothing
unfolding from
from_nothing zero = refl
from_nothing (suc i) = refl

pub at_from : (f : Row) (i : ℕ) (h : Head) (kids rest : Row) → from i f ≡ node h kids rest → (tree f i ≡ node h kids nothing) × (from (suc i) f ≡ rest)
unfolding from tree
at_from nothing zero h kids rest e = never (cc)
at_from nothing (suc i) h kids rest e = never (cc)
at_from (node g ks rs) zero h kids rest e =
    let a : g ≡ h = cc in let b : ks ≡ kids = cc in let c : rs ≡ rest = cc in (rw (a, b), c)
at_from (node g ks rs) (suc i) h kids rest e = go rs i (at_from rs i h kids rest e)
  where
    go : (rs : Row) (i : ℕ) → (tree rs i ≡ node h kids nothing) × (from (suc i) rs ≡ rest) → (tree rs i ≡ node h kids nothing) × (from (suc i) rs ≡ rest)
    go rs i p = p

-- the bodies at the places of occurrences
unfoldable pub bodies_at : Row → List Occurrence → Option Found
bodies_at t [] = some []
bodies_at t (o ∷ os) = body_then o.var (body_at t o) (bodies_at t os)

both_then : (x : ℕ) (b : Option Row) (o q : Option Found) → body_then x b (both_found o q) ≡ both_found (body_then x b o) q
both_then x none o q = refl
both_then x (some b) none q = refl
both_then x (some b) (some l) none = refl
both_then x (some b) (some l) (some k) = refl

both_none : (o : Option Found) → o ≡ both_found (some []) o
both_none none = refl
both_none (some l) = refl

bodies_join : (t : Row) (xs ys : List Occurrence) → bodies_at t (xs ++ ys) ≡ both_found (bodies_at t xs) (bodies_at t ys)
unfolding bodies_at
bodies_join t [] ys = both_none (bodies_at t ys)
bodies_join t (o ∷ xs) ys = rw (bodies_join t xs ys) (both_then o.var (body_at t o) (bodies_at t xs) (bodies_at t ys))

then_only : (x : ℕ) (b : Option Row) (c : Bool) (o : Option Found) → body_then x b (only_if c o) ≡ only_if c (body_then x b o)
then_only x none true o = refl
then_only x none false o = refl
then_only x (some b) true o = refl
then_only x (some b) false o = refl

both_only : (a b : Bool) (o q : Option Found) → both_found (only_if a o) (only_if b q) ≡ only_if (a && b) (both_found o q)
both_only true true o q = refl
both_only true false none q = refl
both_only true false (some l) q = refl
both_only false b o q = refl

pub body_here_lem : (t : Row) (o : Occurrence) (h : Head) (kids : Row) → tree_at t o.place ≡ node h kids nothing → body_at t o ≡ to_body o.depth o.list (node h kids nothing)
unfolding body_at body_here
body_here_lem t o h kids e = rw e

pub children_at : (t : Row) (p : Place) (i : ℕ) (q : Head) (ts : Row) → tree (under t p) i ≡ node q ts nothing → from 0 (under t (i ∷ p)) ≡ ts
unfolding from under children_of
children_at t p i q ts e = rw e

hole_at : (t : Row) (p : Place) (i d x : ℕ) (ys : List ℕ) (rest : Left) (h : Head) (ts rs : Row) → tree (under t p) i ≡ node h ts nothing
    → found d rest rs ≡ only_if (shape_fits t p (suc i) rest) (bodies_at t (occurrences p (suc i) d rest))
    → found d (hole x ys rest) (node h ts rs) ≡ only_if (shape_fits t p i (hole x ys rest)) (bodies_at t (occurrences p i d (hole x ys rest)))
unfolding found shape_fits bodies_at occurrences tree_at
hole_at t p i d x ys rest h ts rs e r =
    rw (r, body_here_lem t (record { var = x; place = i ∷ p; depth = d; list = ys }) h ts e)
    (then_only x (to_body d ys (node h ts nothing)) (shape_fits t p (suc i) rest) (bodies_at t (occurrences p (suc i) d rest)))

part_at : (t : Row) (p : Place) (i d : ℕ) (h : Head) (kids rest : Left) (q : Head) (ts rs : Row) → tree (under t p) i ≡ node q ts nothing
    → (word h ≡ word q → found (inside h d) kids ts ≡ only_if (shape_fits t (i ∷ p) 0 kids) (bodies_at t (occurrences (i ∷ p) 0 (inside h d) kids)))
    → found d rest rs ≡ only_if (shape_fits t p (suc i) rest) (bodies_at t (occurrences p (suc i) d rest))
    → found d (part h kids rest) (node q ts rs) ≡ only_if (shape_fits t p i (part h kids rest)) (bodies_at t (occurrences p i d (part h kids rest)))
unfolding found shape_fits occurrences tree_at is_head
part_at t p i d h kids rest q ts rs e k r = rw e (go (eqb (word h) (word q)) refl)
  where
    go : (b : Bool) → eqb (word h) (word q) ≡ b
        → only_if b (both_found (found (inside h d) kids ts) (found d rest rs))
        ≡ only_if ((b && shape_fits t (i ∷ p) 0 kids) && shape_fits t p (suc i) rest) (bodies_at t (occurrences (i ∷ p) 0 (inside h d) kids ++ occurrences p (suc i) d rest))
    go true z =
        rw (k (eqb-true (word h) (word q) z), r, bodies_join t (occurrences (i ∷ p) 0 (inside h d) kids) (occurrences p (suc i) d rest))
        (both_only (shape_fits t (i ∷ p) 0 kids) (shape_fits t p (suc i) rest) (bodies_at t (occurrences (i ∷ p) 0 (inside h d) kids)) (bodies_at t (occurrences p (suc i) d rest)))
    go false z = refl

pub found_at : (vars : ℕ) (t : Row) (p : Place) (i d : ℕ) (k : Left) (f : Row) → from i (under t p) ≡ f → wide k ≡ width f → Formed f → GoodLeft vars d k
    → found d k f ≡ only_if (shape_fits t p i k) (bodies_at t (occurrences p i d k))
unfolding found shape_fits bodies_at occurrences wide GoodLeft
found_at vars t p i d end nothing e n w g = refl
found_at vars t p i d end (node h ts rs) e n w g = absurd (omega (arith, n, width_node h ts rs))
found_at vars t p i d (hole x ys rest) nothing e n w g = absurd (omega (arith, n, width_nothing))
found_at vars t p i d (hole x ys rest) (node h ts rs) e n w g =
    let a = at_from (under t p) i h ts rs e in
    hole_at t p i d x ys rest h ts rs a.0
    (found_at vars t p (suc i) d rest rs a.1 (omega (arith, n, width_node h ts rs)) (formed_node h ts rs w).beside g.2)
found_at vars t p i d (part h kids rest) nothing e n w g = absurd (omega (arith, n, width_nothing))
found_at vars t p i d (part h kids rest) (node q ts rs) e n w g =
    let a = at_from (under t p) i q ts rs e in
    let m = formed_node q ts rs w in
    part_at t p i d h kids rest q ts rs a.0
    (λ z. found_at vars t (i ∷ p) 0 (inside h d) kids ts (children_at t p i q ts a.0) (g.1 ∙ ap count (same_word h q g.0 m.table z) ∙ sym m.full) m.below g.3)
    (found_at vars t p (suc i) d rest rs a.1 (omega (arith, n, width_node q ts rs)) m.beside g.4)
