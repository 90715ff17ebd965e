-- Document 01, "Words": terms as trees, and their words, each node before its children.
use Rattle.std.specs.Prelude.{ℕ, zero, suc, ◌+◌, max, ◌≡◌, List, [], ◌∷◌, ◌++◌}
use Rattle.std.proofs.Math.Option.{Option, none, some}
use Rattle.term.specs.Word.{Head, rank, count, word, InTable, head_of}

-- trees that stand side by side: nothing, or a node with its children, and the trees to its right. One tree is a row of width 1.
pub data Row : Type 0 where
  nothing : Row
  node : Head → Row → Row → Row

unfoldable pub width : Row → ℕ
width nothing = 0
width (node h kids rest) = suc (width rest)

unfoldable pub words : Row → List ℕ
words nothing = []
words (node h kids rest) = word h ∷ (words kids ++ words rest)

-- how deep a row nests: the root of a tree is 1
unfoldable pub nesting : Row → ℕ
nesting nothing = 0
nesting (node h kids rest) = max (suc (nesting kids)) (nesting rest)

-- the largest rank in a row
unfoldable pub ranks : Row → ℕ
ranks nothing = 0
ranks (node h kids rest) = max (rank h) (max (ranks kids) (ranks rest))

-- every node is in the table, and has as many children as it counts
unfoldable pub Formed : Row → Type 0
Formed nothing = Unit {0}
Formed (node h kids rest) = InTable h × (width kids ≡ count h) × Formed kids × Formed rest

infixr 66 ◌⧺◌
-- two rows side by side
unfoldable pub ◌⧺◌ : Row → Row → Row
nothing ⧺ g = g
node h kids rest ⧺ g = node h kids (rest ⧺ g)

-- the first n trees of a row, and the others
unfoldable pub firsts : ℕ → Row → Row
firsts n nothing = nothing
firsts zero (node h kids rest) = nothing
firsts (suc n) (node h kids rest) = node h kids (firsts n rest)

unfoldable pub others : ℕ → Row → Row
others n nothing = nothing
others zero (node h kids rest) = node h kids rest
others (suc n) (node h kids rest) = others n rest

abbrev pub Got : Type 0
Got = Option (Row × List ℕ)

-- a head before a row that was read: the first trees are its children
abbrev pub got_node : Option Head → Got → Got
got_node none o = none
got_node (some h) none = none
got_node (some h) (some p) = some (node h (firsts (count h) p.0) (others (count h) p.0), p.1)

abbrev pub count_o : Option Head → ℕ
count_o none = 0
count_o (some h) = count h

-- n trees from the front of a list of words, and the words after them; none where they do not stand there
unfoldable pub read : ℕ → List ℕ → Got
read zero [] = some (nothing, [])
read (suc n) [] = none
read zero (w ∷ ws) = some (nothing, w ∷ ws)
read (suc n) (w ∷ ws) = got_node (head_of w) (read (count_o (head_of w) + n) ws)
