-- Document 01, "The tree": the constraints of a left side, and the places that they name.
use Rattle.std.specs.Prelude.{ℕ, zero, suc, Bool, true, false, ◌&&◌, List, [], ◌∷◌, ◌++◌, eqb, length}
use Rattle.std.proofs.Math.Option.{Option, none, some}
use Rattle.term.specs.Word.{Head, word, pick}
use Rattle.term.specs.Row.{Row, nothing, node}
use Rattle.term.specs.Renumber.{inside, to_body}
use Rattle.term.specs.Part.{is_some, same_o}
use Rattle.fit.specs.Left.{Left, end, hole, part}

-- ---- places: the way from a tree up to the root, innermost first. i ∷ p is the child i of p, and 0 ∷ [] is the root.
abbrev pub Place : Type 0
Place = List ℕ

-- the tree number i of a row, as a row of its own; nothing where there is none
unfoldable pub tree : Row → ℕ → Row
tree nothing i = nothing
tree (node h kids rest) zero = node h kids nothing
tree (node h kids rest) (suc i) = tree rest i

unfoldable pub children_of : Row → Row
children_of nothing = nothing
children_of (node h kids rest) = kids

-- the children of the tree at a place, and the tree itself
unfoldable pub under : Row → Place → Row
under t [] = t
under t (i ∷ p) = children_of (tree (under t p) i)

unfoldable pub tree_at : Row → Place → Row
tree_at t [] = nothing
tree_at t (i ∷ p) = tree (under t p) i

-- ---- the words of a left side, at the places i, i+1, .. below p
unfoldable pub is_head : Head → Row → Bool
is_head h nothing = false
is_head h (node g kids rest) = eqb (word h) (word g)

unfoldable pub shape_fits : Row → Place → ℕ → Left → Bool
shape_fits t p i end = true
shape_fits t p i (hole x ys rest) = shape_fits t p (suc i) rest
shape_fits t p i (part h kids rest) = (is_head h (tree_at t (i ∷ p)) && shape_fits t (i ∷ p) 0 kids) && shape_fits t p (suc i) rest

-- ---- occurrences of pattern variables in prefix order: the variable, its place, the abstractions passed, its list
pub record Occurrence : Type 0 where
  pub var : ℕ
  pub place : Place
  pub depth : ℕ
  pub list : List ℕ

unfoldable pub occurrences : Place → ℕ → ℕ → Left → List Occurrence
occurrences p i d end = []
occurrences p i d (hole x ys rest) = record { var = x; place = i ∷ p; depth = d; list = ys } ∷ occurrences p (suc i) d rest
occurrences p i d (part h kids rest) = occurrences (i ∷ p) 0 (inside h d) kids ++ occurrences p (suc i) d rest

-- ---- constraints
pub data Constraint : Type 0 where
  closed_at : Occurrence → Constraint
  same_at : Occurrence → Occurrence → Constraint

-- "closedness of each occurrence in prefix order, omitted where k = d"
unfoldable pub closeds : List Occurrence → List Constraint
closeds [] = []
closeds (o ∷ os) = pick (eqb (length o.list) o.depth) (closeds os) (closed_at o ∷ closeds os)

-- the first occurrence of a variable
abbrev pub first_b : Bool → Occurrence → Option Occurrence → Option Occurrence
first_b true o r = some o
first_b false o r = r

unfoldable pub first_of : ℕ → List Occurrence → Option Occurrence
first_of x [] = none
first_of x (o ∷ os) = first_b (eqb x o.var) o (first_of x os)

abbrev pub same_then : Option Occurrence → Occurrence → List Constraint → List Constraint
same_then none o cs = cs
same_then (some f) o cs = same_at f o ∷ cs

-- "then equality of each later occurrence with the first of its variable"
unfoldable pub sames : List Occurrence → List Occurrence → List Constraint
sames earlier [] = []
sames earlier (o ∷ os) = same_then (first_of o.var earlier) o (sames (earlier ++ (o ∷ [])) os)

unfoldable pub constraints : Left → List Constraint
constraints left = closeds (occurrences [] 0 0 left) ++ sames [] (occurrences [] 0 0 left)

-- ---- what a constraint says of a term
unfoldable pub body_here : ℕ → List ℕ → Row → Option Row
body_here d ys nothing = none
body_here d ys (node h kids rest) = to_body d ys (node h kids rest)

unfoldable pub body_at : Row → Occurrence → Option Row
body_at t o = body_here o.depth o.list (tree_at t o.place)

unfoldable pub holds : Row → Constraint → Bool
holds t (closed_at o) = is_some (body_at t o)
holds t (same_at f o) = same_o (body_at t f) (body_at t o)

unfoldable pub all_hold : Row → List Constraint → Bool
all_hold t [] = true
all_hold t (c ∷ cs) = holds t c && all_hold t cs
