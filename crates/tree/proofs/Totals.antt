-- Each uncovered place is another part of the term, so there are no more than the term has words.
use mathlib.Core.Path.{◌≡◌, sym, ap, ◌∙◌}
use mathlib.Core.Bool.{false}
use mathlib.Core.List.{List, [], ◌∷◌, ◌++◌}
use Prim.Native.Nat.{ℕ, zero, suc, ◌+◌, ◌≤◌}
use native.Mathlib.Omega.{arith}
use lib.ListN.{length, length-append}
use Rattle.term.specs.Word.{Head}
use Rattle.term.specs.Row.{Row, nothing, node, width, words}
use Rattle.term.proofs.Laws.{never, words_nothing, words_node, width_nothing, width_node}
use Rattle.fit.specs.Constraint.{children_of}
use Rattle.fit.proofs.Laws.{children_node}
use Rattle.tree.specs.Find.{PartAt, root_part, part_of, marked_part, child_parts, inside_of, enter_part, total}

pub length_total : (ps : List PartAt) → length ps ≤ total ps
unfolding total
length_total [] = omega arith
length_total (p ∷ ps) = omega (arith, length_total ps)

total_join : (ps qs : List PartAt) → total (ps ++ qs) ≡ total ps + total qs
unfolding total
total_join [] qs = omega arith
total_join (p ∷ ps) qs = omega (arith, total_join ps qs)

row_length : (h : Head) (kids rest : Row) → length (words (node h kids rest)) ≡ suc (length (words kids) + length (words rest))
row_length h kids rest = ap length (words_node h kids rest) ∙ ap suc (length-append (words kids) (words rest))

total_children : (d : ℕ) (f : Row) → total (child_parts d f) ≡ length (words f)
unfolding total child_parts
total_children d nothing = sym (ap length words_nothing)
total_children d (node h kids rest) =
    omega (arith, row_length h kids rest, ap (λ (f : Row). length (words f)) (children_node h kids nothing), total_children d rest)

total_marked : (ps : List PartAt) (n : ℕ) → (part_of n ps).entered ≡ false → total ps ≡ length (words (children_of (part_of n ps).part)) + total (marked_part n ps)
unfolding total part_of marked_part
total_marked [] n e = never (cc)
total_marked (p ∷ ps) zero e = rw e (omega arith)
total_marked (p ∷ ps) (suc n) e = omega (arith, total_marked ps n e)

-- entering a node takes its words apart and adds none
pub total_entered : (ps : List PartAt) (n : ℕ) → (part_of n ps).entered ≡ false → total (enter_part n ps) ≡ total ps
unfolding enter_part
total_entered ps n e =
    omega (
      arith,
      total_join (marked_part n ps) (child_parts (inside_of (part_of n ps).part (part_of n ps).depth) (children_of (part_of n ps).part)),
      total_children (inside_of (part_of n ps).part (part_of n ps).depth) (children_of (part_of n ps).part),
      total_marked ps n e,
    )

-- at the root there are the words of the term
pub total_root : (t : Row) → width t ≡ 1 → total (root_part t) ≡ length (words t)
unfolding total
total_root nothing one = absurd (omega (arith, one, width_nothing))
total_root (node h kids nothing) one = omega (arith, row_length h kids nothing, ap length words_nothing, ap (λ (f : Row). length (words f)) (children_node h kids nothing))
total_root (node h kids (node g more rest)) one = absurd (omega (arith, one, width_node h kids (node g more rest), width_node g more rest))
