-- Left sides: a pattern variable with its list, or a symbol or an abstraction with its children, and what stands to its right.
use Rattle.std.specs.Prelude.{ℕ, suc, ◌≤◌, max, Bool, false, ◌||◌, eqb, ◌≡◌, List, []}
use Rattle.std.proofs.Math.Option.{Option, none, some}
use Rattle.term.specs.Word.{Head, symbol, abstraction, variable, pattern, rank, count, InTable}
use Rattle.term.specs.Row.{Row, nothing, node}
use Rattle.term.specs.Renumber.{GoodList, inside}
use Rattle.book.specs.Rule.{ids_of}

pub data Left : Type 0 where
  end : Left
  hole : ℕ → List ℕ → Left → Left
  part : Head → Left → Left → Left

abbrev pub ids_or : Option (List ℕ) → List ℕ
ids_or none = []
ids_or (some ys) = ys

-- the left side that a row of a book is
unfoldable pub left_of : Row → Left
left_of nothing = end
left_of (node (symbol i c) kids rest) = part (symbol i c) (left_of kids) (left_of rest)
left_of (node abstraction kids rest) = part abstraction (left_of kids) (left_of rest)
left_of (node (variable i) kids rest) = left_of rest
left_of (node (pattern x c) kids rest) = hole x (ids_or (ids_of kids)) (left_of rest)

unfoldable pub wide : Left → ℕ
wide end = 0
wide (hole x ys rest) = suc (wide rest)
wide (part h kids rest) = suc (wide rest)

-- how deep a left side nests
unfoldable pub deep : Left → ℕ
deep end = 0
deep (hole x ys rest) = deep rest
deep (part h kids rest) = max (suc (deep kids)) (deep rest)

-- a variable occurs
unfoldable pub occurs : ℕ → Left → Bool
occurs x end = false
occurs x (hole y ys rest) = eqb x y || occurs x rest
occurs x (part h kids rest) = occurs x kids || occurs x rest

-- what an accepted book has: lists for the abstractions passed, heads of the table with as many children as they count, variables below vars
unfoldable pub GoodLeft : ℕ → ℕ → Left → Type 0
GoodLeft vars d end = Unit {0}
GoodLeft vars d (hole x ys rest) = (suc x ≤ vars) × GoodList d ys × GoodLeft vars d rest
GoodLeft vars d (part h kids rest) = InTable h × (wide kids ≡ count h) × (rank h ≤ 1) × GoodLeft vars (inside h d) kids × GoodLeft vars d rest
