-- What a walk through a tree carries from node to node: the parts of the term at the places uncovered so far, and what stands there.
use Rattle.std.specs.Prelude.{ℕ, zero, suc, ◌+◌, Bool, true, false, List, [], ◌∷◌, ◌++◌, length}
use Rattle.std.proofs.Math.Option.{Option, none, some}
use Rattle.term.specs.Word.{count, pick}
use Rattle.term.specs.Row.{Row, nothing, node, words}
use Rattle.term.specs.Renumber.{inside}
use Rattle.fit.specs.Constraint.{children_of, body_here}
use Rattle.fit.specs.Lowest.{Fitting}
use Rattle.tree.specs.Tree.{LeafVariable, LeafNode}

-- the part of the term at an uncovered place, the abstractions passed on the way to it, and whether it was entered
pub record PartAt : Type 0 where
  pub part : Row
  pub depth : ℕ
  pub entered : Bool

abbrev pub no_part : PartAt
no_part = record { part = nothing; depth = 0; entered = true }

-- how many arguments the word at the root of a term counts, whatever its kind
unfoldable pub root_count : Row → ℕ
root_count nothing = 0
root_count (node h kids rest) = count h

-- the root is the place 0
abbrev pub root_part : Row → List PartAt
root_part t = record { part = t; depth = 0; entered = false } ∷ []

unfoldable pub part_of : ℕ → List PartAt → PartAt
part_of n [] = no_part
part_of zero (p ∷ ps) = p
part_of (suc n) (p ∷ ps) = part_of n ps

unfoldable pub marked_part : ℕ → List PartAt → List PartAt
marked_part n [] = []
marked_part zero (p ∷ ps) = record { part = p.part; depth = p.depth; entered = true } ∷ ps
marked_part (suc n) (p ∷ ps) = p ∷ marked_part n ps

unfoldable pub child_parts : ℕ → Row → List PartAt
child_parts d nothing = []
child_parts d (node h kids rest) = record { part = node h kids nothing; depth = d; entered = false } ∷ child_parts d rest

unfoldable pub inside_of : Row → ℕ → ℕ
inside_of nothing d = d
inside_of (node h kids rest) d = inside h d

-- the part of a number is entered: its children are appended
unfoldable pub enter_part : ℕ → List PartAt → List PartAt
enter_part n ps = marked_part n ps ++ child_parts (inside_of (part_of n ps).part (part_of n ps).depth) (children_of (part_of n ps).part)

unfoldable pub body_for : List PartAt → ℕ → List ℕ → Option Row
body_for ps n ys = body_here (part_of n ps).depth ys (part_of n ps).part

abbrev pub body_or : Option Row → Row
body_or none = nothing
body_or (some b) = b

unfoldable pub leaf_body : List PartAt → List LeafVariable → ℕ → Row
leaf_body ps [] x = nothing
leaf_body ps (v ∷ vs) zero = body_or (body_for ps v.at v.list)
leaf_body ps (v ∷ vs) (suc x) = leaf_body ps vs x

-- what is found at a Leaf: its rule, how many arguments are set aside, and the bodies
abbrev pub leaf_fitting : List PartAt → LeafNode → Fitting
leaf_fitting ps leaf = record { number = leaf.rule; aside = leaf.aside; bodies = leaf_body ps leaf.variables }

-- the places, and the words below those that were not entered
unfoldable pub total : List PartAt → ℕ
total [] = 0
total (p ∷ ps) = suc (pick p.entered 0 (length (words (children_of p.part)))) + total ps
