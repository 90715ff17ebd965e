-- Each uncovered part of a term is one term, whatever is entered, so what a sound Leaf gives its variables are bodies.
use mathlib.Core.Path.{◌≡◌, refl, sym, ap, ◌∙◌}
use mathlib.Core.Bool.{true, false}
use mathlib.Core.List.{List, [], ◌∷◌, ◌++◌}
use mathlib.Core.Option.{Option, none, some}
use Prim.Native.Nat.{ℕ, zero, suc, ◌<◌}
use native.Mathlib.Omega.{arith}
use lib.ListN.{length}
use Rattle.term.specs.Word.{Head}
use Rattle.term.specs.Row.{Row, nothing, node, words}
use Rattle.term.specs.Renumber.{GoodList}
use Rattle.term.specs.Part.{is_some}
use Rattle.term.proofs.Laws.{never, words_nothing, width_nothing, width_node, nesting_nothing, ranks_nothing, formed_nothing}
use Rattle.fit.specs.Fit.{WithinTerm, IsBody}
use Rattle.fit.specs.Constraint.{children_of, body_here}
use Rattle.fit.proofs.Laws.{kids_within, rest_within, first_within, part_body, children_nothing, children_node, body_nothing, body_node}
use Rattle.tree.specs.Tree.{LeafVariable}
use Rattle.tree.specs.Find.{PartAt, root_part, part_of, marked_part, child_parts, inside_of, enter_part, body_for, body_or, leaf_body}
use Rattle.tree.proofs.Walks.{AllSound}

unfoldable pub AllTerms : List PartAt → Type 0
AllTerms [] = Unit {0}
AllTerms (p ∷ ps) = IsBody p.part × AllTerms ps

pub terms_root : (t : Row) → IsBody t → AllTerms (root_part t)
unfolding AllTerms
terms_root t i = (i, tt)

pub part_root : (t : Row) → part_of 0 (root_part t) ≡ record { part = t; depth = 0; entered = false }
unfolding part_of
part_root t = refl

-- ---- a row of a term and its trees
nothing_within : WithinTerm nothing
nothing_within =
    let z : length (words nothing) ≡ 0 = ap length words_nothing in
    record { formed = formed_nothing; few = omega (arith, ranks_nothing); low = omega (arith, nesting_nothing); short = omega (arith, z) }

first_term_lem : (h : Head) (kids rest : Row) → WithinTerm (node h kids rest) → IsBody (node h kids nothing)
first_term_lem h kids rest w = record { one = width_node h kids nothing ∙ ap suc width_nothing; within = first_within h kids rest w }

children_within : (t : Row) → IsBody t → WithinTerm (children_of t)
children_within nothing i = rw children_nothing nothing_within
children_within (node h kids rest) i = rw (children_node h kids rest) (kids_within h kids rest i.within)

-- ---- entering a part
terms_children : (d : ℕ) (f : Row) → WithinTerm f → AllTerms (child_parts d f)
unfolding AllTerms child_parts
terms_children d nothing w = tt
terms_children d (node h kids rest) w = (first_term_lem h kids rest w, terms_children d rest (rest_within h kids rest w))

terms_join : (ps qs : List PartAt) → AllTerms ps → AllTerms qs → AllTerms (ps ++ qs)
unfolding AllTerms
terms_join [] qs a b = b
terms_join (p ∷ ps) qs a b = (a.0, terms_join ps qs a.1 b)

terms_marked : (n : ℕ) (ps : List PartAt) → AllTerms ps → AllTerms (marked_part n ps)
unfolding AllTerms marked_part
terms_marked n [] a = tt
terms_marked zero (p ∷ ps) a = (a.0, a.1)
terms_marked (suc n) (p ∷ ps) a = (a.0, terms_marked n ps a.1)

below_within : (n : ℕ) (ps : List PartAt) → AllTerms ps → WithinTerm (children_of (part_of n ps).part)
unfolding AllTerms part_of
below_within n [] a = rw children_nothing nothing_within
below_within zero (p ∷ ps) a = children_within p.part a.0
below_within (suc n) (p ∷ ps) a = below_within n ps a.1

pub terms_entered : (n : ℕ) (ps : List PartAt) → AllTerms ps → AllTerms (enter_part n ps)
unfolding enter_part
terms_entered n ps a =
    terms_join (marked_part n ps) (child_parts (inside_of (part_of n ps).part (part_of n ps).depth) (children_of (part_of n ps).part)) (terms_marked n ps a)
    (terms_children (inside_of (part_of n ps).part (part_of n ps).depth) (children_of (part_of n ps).part) (below_within n ps a))

-- ---- bodies
part_term : (n : ℕ) (ps : List PartAt) → AllTerms ps → n < length ps → IsBody (part_of n ps).part
unfolding AllTerms part_of
part_term n [] a h = absurd (omega arith)
part_term zero (p ∷ ps) a h = a.0
part_term (suc n) (p ∷ ps) a h = part_term n ps a.1 (omega arith)

body_here_lem : (d : ℕ) (ys : List ℕ) → GoodList d ys → (t : Row) → IsBody t → (b : Row) → body_here d ys t ≡ some b → IsBody b
body_here_lem d ys g nothing i b e = never (let z = body_nothing d ys in cc)
body_here_lem d ys g (node h kids rest) i b e = part_body d ys (node h kids rest) g i.one i.within b (sym (body_node d ys h kids rest) ∙ e)

given_term : (d : ℕ) (ys : List ℕ) → GoodList d ys → (t : Row) → IsBody t → is_some (body_here d ys t) ≡ true → IsBody (body_or (body_here d ys t))
given_term d ys g t i e = go (body_here d ys t) refl e
  where
    go : (o : Option Row) → body_here d ys t ≡ o → is_some o ≡ true → IsBody (body_or o)
    go none q s = never (cc)
    go (some b) q s = body_here_lem d ys g t i b q

pub leaf_terms : (ps : List PartAt) → AllTerms ps → (vs : List LeafVariable) → AllSound ps vs → (x : ℕ) → x < length vs → IsBody (leaf_body ps vs x)
unfolding leaf_body body_for
leaf_terms ps a [] s x h = absurd (omega arith)
leaf_terms ps a (v ∷ vs) s zero h =
    given_term (part_of v.at ps).depth v.list s.0.list (part_of v.at ps).part (part_term v.at ps a s.0.here) s.0.body
leaf_terms ps a (v ∷ vs) s (suc x) h = leaf_terms ps a vs s.1 x (omega arith)
