-- The clauses of the definitions on uncovered places, as equations, for a crate that does not open them.
use mathlib.Core.Path.{◌≡◌, refl}
use mathlib.Core.List.{List, [], ◌∷◌, ◌++◌}
use Prim.Native.Nat.{ℕ, suc}
use mathlib.Core.Bool.{true, false}
use Rattle.term.specs.Word.{Head, count}
use Rattle.term.specs.Row.{Row, nothing, node}
use Rattle.term.specs.Renumber.{inside}
use Rattle.fit.specs.Constraint.{children_of, body_here}
use lib.ListN.{length}
use Rattle.tree.specs.Tree.{LeafVariable, counts_of}
use Rattle.tree.specs.Find.{PartAt, root_count, part_of, marked_part, child_parts, inside_of, enter_part, body_for, body_or, leaf_body}

pub root_count_lem : (h : Head) (kids rest : Row) → root_count (node h kids rest) ≡ count h
unfolding root_count
root_count_lem h kids rest = refl

pub part_first : (p : PartAt) (ps : List PartAt) → part_of 0 (p ∷ ps) ≡ p
unfolding part_of
part_first p ps = refl

pub part_later : (n : ℕ) (p : PartAt) (ps : List PartAt) → part_of (suc n) (p ∷ ps) ≡ part_of n ps
unfolding part_of
part_later n p ps = refl

pub marked_none : (n : ℕ) → marked_part n [] ≡ []
unfolding marked_part
marked_none n = refl

pub marked_first : (p : PartAt) (ps : List PartAt) → marked_part 0 (p ∷ ps) ≡ record { part = p.part; depth = p.depth; entered = true } ∷ ps
unfolding marked_part
marked_first p ps = refl

pub marked_later : (n : ℕ) (p : PartAt) (ps : List PartAt) → marked_part (suc n) (p ∷ ps) ≡ p ∷ marked_part n ps
unfolding marked_part
marked_later n p ps = refl

pub child_parts_none : (d : ℕ) → child_parts d nothing ≡ []
unfolding child_parts
child_parts_none d = refl

pub child_parts_more : (d : ℕ) (h : Head) (kids rest : Row) → child_parts d (node h kids rest) ≡ record { part = node h kids nothing; depth = d; entered = false } ∷ child_parts d rest
unfolding child_parts
child_parts_more d h kids rest = refl

pub inside_of_lem : (h : Head) (kids rest : Row) (d : ℕ) → inside_of (node h kids rest) d ≡ inside h d
unfolding inside_of
inside_of_lem h kids rest d = refl

pub enter_is : (n : ℕ) (ps : List PartAt) → enter_part n ps ≡ marked_part n ps ++ child_parts (inside_of (part_of n ps).part (part_of n ps).depth) (children_of (part_of n ps).part)
unfolding enter_part
enter_is n ps = refl

pub body_for_is : (ps : List PartAt) (n : ℕ) (ys : List ℕ) → body_for ps n ys ≡ body_here (part_of n ps).depth ys (part_of n ps).part
unfolding body_for
body_for_is ps n ys = refl

pub leaf_first : (ps : List PartAt) (v : LeafVariable) (vs : List LeafVariable) → leaf_body ps (v ∷ vs) 0 ≡ body_or (body_for ps v.at v.list)
unfolding leaf_body
leaf_first ps v vs = refl

pub leaf_later : (ps : List PartAt) (v : LeafVariable) (vs : List LeafVariable) (x : ℕ) → leaf_body ps (v ∷ vs) (suc x) ≡ leaf_body ps vs x
unfolding leaf_body
leaf_later ps v vs x = refl

-- ---- how many parameters each variable of a Leaf has
pub counts_none : counts_of [] ≡ []
unfolding counts_of
counts_none = refl

pub counts_first : (v : LeafVariable) (vs : List LeafVariable) → counts_of (v ∷ vs) ≡ length v.list ∷ counts_of vs
unfolding counts_of
counts_first v vs = refl
