-- A left side's constraints hold together with its shape exactly where it fits.
use mathlib.Core.Path.{◌≡◌, refl, sym, ap, ◌∙◌}
use mathlib.Core.Bool.{Bool, true, false, ◌&&◌}
use mathlib.Core.List.{List, [], ◌∷◌, ◌++◌, append_assoc}
use mathlib.Core.Option.{Option, none, some}
use Prim.Native.Nat.{ℕ, suc}
use native.Mathlib.Omega.{arith}
use lib.Dec.{eqb}
use lib.ListN.{length}
use borrow.Author.Tests.{eqb-true, eq-eqb}
use Rattle.term.specs.Word.{Head, word, count, pick}
use Rattle.term.specs.Row.{Row, nothing, node, width, words, Formed}
use Rattle.term.specs.Renumber.{GoodList, inside}
use Rattle.term.specs.Part.{is_some, same_words}
use Rattle.term.proofs.Laws.{never, and_left, and_right, formed_node, node_formed, formed_nothing, width_node, width_nothing, closed_all, closed_body, words_same}
use Rattle.fit.specs.Left.{Left, end, hole, part, wide, GoodLeft}
use Rattle.fit.specs.Fit.{Found, body_then, only_if, body_b, body_in, all_same, agreed, matching}
use Rattle.fit.specs.Constraint.{Place, tree, under, tree_at, is_head, shape_fits, Occurrence, occurrences, Constraint, closed_at, closeds, first_b, first_of, same_then, sames, constraints, body_at, holds, all_hold}
use Rattle.fit.proofs.Basics.{same_word}
use Rattle.fit.proofs.Places.{from, at_from, children_at, bodies_at, found_at, body_here_lem}

whole : (t : Row) → from 0 (under t []) ≡ t
unfolding from under
whole t = refl

-- ---- where the shape fits, a tree stands at every occurrence
pub record There (t : Row) (o : Occurrence) : Type 0 where
  pub head : Head
  pub children : Row
  pub is : tree_at t o.place ≡ node head children nothing
  pub formed : Formed (node head children nothing)
  pub list : GoodList o.depth o.list

abbrev pub AllThere : Row → List Occurrence → Type 0
AllThere t [] = Unit {0}
AllThere t (o ∷ os) = There t o × AllThere t os

there_join : (t : Row) (xs ys : List Occurrence) → AllThere t xs → AllThere t ys → AllThere t (xs ++ ys)
there_join t [] ys a b = b
there_join t (o ∷ xs) ys a b = (a.0, there_join t xs ys a.1 b)

head_there : (t : Row) (p : Place) (i : ℕ) (h q : Head) (ts : Row) → tree (under t p) i ≡ node q ts nothing → is_head h (tree_at t (i ∷ p)) ≡ true → word h ≡ word q
unfolding tree_at is_head
head_there t p i h q ts e s = eqb-true (word h) (word q) (rw e at s)

pub all_there : (vars : ℕ) (t : Row) (p : Place) (i d : ℕ) (k : Left) (f : Row) → from i (under t p) ≡ f → wide k ≡ width f → Formed f → GoodLeft vars d k
    → shape_fits t p i k ≡ true → AllThere t (occurrences p i d k)
unfolding shape_fits occurrences wide GoodLeft tree_at
all_there vars t p i d end f e n w g s = tt
all_there vars t p i d (hole x ys rest) nothing e n w g s = absurd (omega (arith, n, width_nothing))
all_there vars t p i d (hole x ys rest) (node h ts rs) e n w g s =
    let a = at_from (under t p) i h ts rs e in
    let m = formed_node h ts rs w in (
      record { head = h; children = ts; is = a.0; formed = node_formed h ts nothing (record { table = m.table; full = m.full; below = m.below; beside = formed_nothing }); list = g.1 },
      all_there vars t p (suc i) d rest rs a.1 (omega (arith, n, width_node h ts rs)) m.beside g.2 s,
    )
all_there vars t p i d (part h kids rest) nothing e n w g s = absurd (omega (arith, n, width_nothing))
all_there vars t p i d (part h kids rest) (node q ts rs) e n w g s =
    let a = at_from (under t p) i q ts rs e in
    let m = formed_node q ts rs w in
    let b = and_left (is_head h (tree_at t (i ∷ p)) && shape_fits t (i ∷ p) 0 kids) (shape_fits t p (suc i) rest) s in
    let z = head_there t p i h q ts a.0 (and_left (is_head h (tree_at t (i ∷ p))) (shape_fits t (i ∷ p) 0 kids) b) in
    there_join t (occurrences (i ∷ p) 0 (inside h d) kids) (occurrences p (suc i) d rest)
    (all_there vars t (i ∷ p) 0 (inside h d) kids ts (children_at t p i q ts a.0) (g.1 ∙ ap count (same_word h q g.0 m.table z) ∙ sym m.full) m.below g.3
    (and_right (is_head h (tree_at t (i ∷ p))) (shape_fits t (i ∷ p) 0 kids) b))
    (all_there vars t p (suc i) d rest rs a.1 (omega (arith, n, width_node q ts rs)) m.beside g.4
    (and_right (is_head h (tree_at t (i ∷ p)) && shape_fits t (i ∷ p) 0 kids) (shape_fits t p (suc i) rest) s))

-- ---- closedness
unfoldable all_some : Row → List Occurrence → Bool
all_some t [] = true
all_some t (o ∷ os) = is_some (body_at t o) && all_some t os

-- with as many ids as abstractions there is nothing to test
omitted : (t : Row) (o : Occurrence) → There t o → length o.list ≡ o.depth → is_some (body_at t o) ≡ true
omitted t o h e =
    let c = closed_all o.depth o.list h.list.listed e (node h.head h.children nothing) h.formed in
    ap is_some (body_here_lem t o h.head h.children h.is ∙ closed_body o.depth o.list (node h.head h.children nothing) c)

closeds_hold : (t : Row) (os : List Occurrence) → AllThere t os → all_hold t (closeds os) ≡ all_some t os
unfolding closeds all_hold holds all_some
closeds_hold t [] a = refl
closeds_hold t (o ∷ os) a = go (eqb (length o.list) o.depth) refl (closeds_hold t os a.1)
  where
    go : (b : Bool) → eqb (length o.list) o.depth ≡ b → all_hold t (closeds os) ≡ all_some t os
        → all_hold t (pick b (closeds os) (closed_at o ∷ closeds os)) ≡ is_some (body_at t o) && all_some t os
    go true e r = rw (omitted t o a.0 (eqb-true _ _ e)) r
    go false e r = rw r

-- ---- occurrences beside the bodies found at them
abbrev pub Beside : Row → List Occurrence → Found → Type 0
Beside t [] [] = Unit {0}
Beside t [] (x ∷ l) = ⊥
Beside t (o ∷ os) [] = ⊥
Beside t (o ∷ os) (x ∷ l) = (o.var ≡ x.0) × (body_at t o ≡ some x.1) × Beside t os l

abbrev BesideO : Row → List Occurrence → Option Found → Type 0
BesideO t os none = all_some t os ≡ false
BesideO t os (some l) = (all_some t os ≡ true) × Beside t os l

and_false : (a : Bool) → a && false ≡ false
and_false true = refl
and_false false = refl

beside_step : (t : Row) (o : Occurrence) (os : List Occurrence) (b : Option Row) → body_at t o ≡ b → (q : Option Found) → BesideO t os q → BesideO t (o ∷ os) (body_then o.var b q)
unfolding all_some
beside_step t o os none e q h = rw e
beside_step t o os (some b) e none h = rw (e, h)
beside_step t o os (some b) e (some l) h = (rw (e, h.0), (refl, e, h.1))

beside : (t : Row) (os : List Occurrence) → BesideO t os (bodies_at t os)
unfolding bodies_at all_some
beside t [] = (refl, tt)
beside t (o ∷ os) = beside_step t o os (body_at t o) refl (bodies_at t os) (beside t os)

-- ---- sameness
beside_more : (t : Row) (es : List Occurrence) (l : Found) (o : Occurrence) (x : ℕ × Row) → Beside t es l → o.var ≡ x.0 → body_at t o ≡ some x.1 → Beside t (es ++ (o ∷ [])) (l ++ (x ∷ []))
beside_more t [] [] o x h p q = (p, q, tt)
beside_more t [] (y ∷ l) o x h p q = absurd h
beside_more t (e ∷ es) [] o x h p q = absurd h
beside_more t (e ∷ es) (y ∷ l) o x h p q = (h.0, h.1, beside_more t es l o x h.2 p q)

-- the first body of a variable that stands among the earlier ones, and of one that does not
earlier_body : (t : Row) (es : List Occurrence) (l k : Found) (x : ℕ) (f : Occurrence) → Beside t es l → first_of x es ≡ some f → body_at t f ≡ some (body_in (l ++ k) x)
unfolding first_of body_in
earlier_body t [] l k x f h e = never (cc)
earlier_body t (o ∷ es) [] k x f h e = absurd h
earlier_body t (o ∷ es) (y ∷ l) k x f h e = go (eqb x o.var) refl (earlier_body t es l k x f h.2) e
  where
    go : (b : Bool) → eqb x o.var ≡ b → (first_of x es ≡ some f → body_at t f ≡ some (body_in (l ++ k) x)) → first_b b o (first_of x es) ≡ some f → body_at t f ≡ some (body_b (eqb x y.0) y.1 (body_in (l ++ k) x))
    go true z r q = let w : o ≡ f = cc in let v : eqb x y.0 ≡ true = rw h.0 at z in rw (v, ← w) h.1
    go false z r q = let v : eqb x y.0 ≡ false = rw h.0 at z in rw v (r q)

new_body : (t : Row) (es : List Occurrence) (l k : Found) (x : ℕ × Row) → Beside t es l → first_of x.0 es ≡ none → body_in (l ++ (x ∷ k)) x.0 ≡ x.1
unfolding first_of body_in
new_body t [] [] k x h e = rw (eq-eqb x.0 x.0 refl)
new_body t [] (y ∷ l) k x h e = absurd h
new_body t (o ∷ es) [] k x h e = absurd h
new_body t (o ∷ es) (y ∷ l) k x h e = go (eqb x.0 o.var) refl (new_body t es l k x h.2) e
  where
    go : (b : Bool) → eqb x.0 o.var ≡ b → (first_of x.0 es ≡ none → body_in (l ++ (x ∷ k)) x.0 ≡ x.1) → first_b b o (first_of x.0 es) ≡ none → body_b (eqb x.0 y.0) y.1 (body_in (l ++ (x ∷ k)) x.0) ≡ x.1
    go true z r q = never (cc)
    go false z r q = let v : eqb x.0 y.0 ≡ false = rw h.0 at z in rw v (r q)

same_step : (t : Row) (es : List Occurrence) (l : Found) (o : Occurrence) (os : List Occurrence) (x : ℕ × Row) (k : Found) → Beside t es l → Beside t (o ∷ os) (x ∷ k)
    → (r : Option Occurrence) → first_of o.var es ≡ r → all_same (l ++ (x ∷ k)) k ≡ all_hold t (sames (es ++ (o ∷ [])) os)
    → same_words (words (body_in (l ++ (x ∷ k)) x.0)) (words x.1) && all_same (l ++ (x ∷ k)) k ≡ all_hold t (same_then r o (sames (es ++ (o ∷ [])) os))
unfolding all_hold holds
same_step t es l o os x k h g none e q =
    let b : body_in (l ++ (x ∷ k)) x.0 ≡ x.1 = new_body t es l k x h (rw g.0 at e) in
    rw (b, words_same (words x.1)) q
same_step t es l o os x k h g (some f) e q =
    let b : body_at t f ≡ some (body_in (l ++ (x ∷ k)) x.0) = earlier_body t es l (x ∷ k) o.var f h e ∙ ap (λ (y : ℕ). some (body_in (l ++ (x ∷ k)) y)) g.0 in
    rw (b, g.1, q)

-- each later occurrence is compared with the first of its variable, and the first with itself
sames_hold : (t : Row) (es : List Occurrence) (l : Found) (os : List Occurrence) (k : Found) → Beside t es l → Beside t os k → all_same (l ++ k) k ≡ all_hold t (sames es os)
unfolding all_same sames all_hold
sames_hold t es l [] [] h g = refl
sames_hold t es l [] (x ∷ k) h g = absurd g
sames_hold t es l (o ∷ os) [] h g = absurd g
sames_hold t es l (o ∷ os) (x ∷ k) h g =
    same_step t es l o os x k h g (first_of o.var es) refl
    (rw (append_assoc l (x ∷ []) k) at (sames_hold t (es ++ (o ∷ [])) (l ++ (x ∷ [])) os k (beside_more t es l o x h g.0 g.1) g.2))

-- ---- the theorem
abbrev pub is_match : Option (ℕ → Row) → Bool
is_match none = false
is_match (some b) = true

hold_join : (t : Row) (cs ds : List Constraint) → all_hold t (cs ++ ds) ≡ all_hold t cs && all_hold t ds
unfolding all_hold
hold_join t [] ds = refl
hold_join t (c ∷ cs) ds = rw (hold_join t cs ds) (go (holds t c))
  where
    go : (b : Bool) → b && (all_hold t cs && all_hold t ds) ≡ (b && all_hold t cs) && all_hold t ds
    go true = refl
    go false = refl

agreed_hold : (t : Row) (os : List Occurrence) → AllThere t os → (o : Option Found) → BesideO t os o → is_match (agreed o) ≡ all_hold t (closeds os ++ sames [] os)
agreed_hold t os a none h = sym (hold_join t (closeds os) (sames [] os) ∙ rw (closeds_hold t os a, h))
agreed_hold t os a (some l) h =
    picked (all_same l l) ∙ sames_hold t [] [] os l tt h.1 ∙ sym (hold_join t (closeds os) (sames [] os) ∙ rw (closeds_hold t os a, h.0))
  where
    picked : (b : Bool) → is_match (pick b (some (body_in l)) none) ≡ b
    picked true = refl
    picked false = refl

pub fits_constraints : (vars : ℕ) (left : Left) (t : Row) → GoodLeft vars 0 left → wide left ≡ width t → Formed t
    → is_match (matching left t) ≡ shape_fits t [] 0 left && all_hold t (constraints left)
unfolding matching constraints
fits_constraints vars left t g n f =
    rw (found_at vars t [] 0 0 left t (whole t) n f g) (go (shape_fits t [] 0 left) refl)
  where
    go : (b : Bool) → shape_fits t [] 0 left ≡ b
        → is_match (agreed (only_if b (bodies_at t (occurrences [] 0 0 left)))) ≡ b && all_hold t (closeds (occurrences [] 0 0 left) ++ sames [] (occurrences [] 0 0 left))
    go true s = agreed_hold t (occurrences [] 0 0 left) (all_there vars t [] 0 0 left t (whole t) n f g s) (bodies_at t (occurrences [] 0 0 left)) (beside t (occurrences [] 0 0 left))
    go false s = refl
