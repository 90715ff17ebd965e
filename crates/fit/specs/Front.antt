-- Document 02, "Rules for a front part of the arguments": "At the root of a match, a left side with b arguments fits a symbol with a ≥ b, its last a−b
-- arguments set aside; inside a left side the counts stay equal."
use Rattle.std.specs.Prelude.{ℕ, ◌+◌, ◌-◌, Bool, false, ◌&&◌, eqb, leb}
use Rattle.std.proofs.Math.Option.{Option}
use Rattle.term.specs.Word.{Head, symbol, abstraction, variable, pattern, count, pick}
use Rattle.term.specs.Row.{Row, nothing, node, width, words, ◌⧺◌, firsts, others}
use Rattle.fit.specs.Left.{Left, end, hole, part}
use Rattle.fit.specs.Fit.{Fits, matching}

-- how many arguments the root of a left side has
unfoldable pub root_arguments : Left → ℕ
root_arguments end = 0
root_arguments (hole x ys rest) = 0
root_arguments (part h kids rest) = count h

-- "the term without the arguments set aside", for b arguments at the root of the left side
unfoldable pub front : ℕ → Row → Row
front b nothing = nothing
front b (node (symbol i a) kids rest) = pick (leb b a) (node (symbol i b) (firsts b kids) rest) (node (symbol i a) kids rest)
front b (node abstraction kids rest) = node abstraction kids rest
front b (node (variable i) kids rest) = node (variable i) kids rest
front b (node (pattern i c) kids rest) = node (pattern i c) kids rest

-- how many arguments are set aside: a−b, and none where there are no more than b
unfoldable pub aside : ℕ → Row → ℕ
aside b nothing = 0
aside b (node h kids rest) = count h - b

-- the arguments set aside: those after the first b
unfoldable pub aside_arguments : ℕ → Row → Row
aside_arguments b nothing = nothing
aside_arguments b (node h kids rest) = others b kids

-- a term whose root is a symbol, with more arguments at its end
unfoldable pub with_arguments : Row → Row → Row
with_arguments nothing more = nothing
with_arguments (node (symbol i c) kids rest) more = node (symbol i (c + width more)) (kids ⧺ more) rest
with_arguments (node abstraction kids rest) more = node abstraction kids rest
with_arguments (node (variable i) kids rest) more = node (variable i) kids rest
with_arguments (node (pattern i c) kids rest) more = node (pattern i c) kids rest

-- the bodies with which the left side fits the term at the root of a match; none where it does not
unfoldable pub matching_front : Left → Row → Option (ℕ → Row)
matching_front left t = matching left (front (root_arguments left) t)

-- the root of a left side is the same symbol, with no more arguments
abbrev pub symbol_covered : ℕ → ℕ → Left → Bool
symbol_covered i a end = false
symbol_covered i a (hole x ys rest) = false
symbol_covered i a (part (symbol j b) kids rest) = eqb j i && leb b a
symbol_covered i a (part abstraction kids rest) = false
symbol_covered i a (part (variable j) kids rest) = false
symbol_covered i a (part (pattern j b) kids rest) = false

unfoldable pub covers : Left → Head → Bool
covers left (symbol i a) = symbol_covered i a left
covers left abstraction = false
covers left (variable i) = false
covers left (pattern i c) = false

-- bodies that turn the left side into "the term without the arguments set aside", word for word
abbrev pub FitsFront : ℕ → Left → Row → (ℕ → Row) → Type 0
FitsFront vars left t b = Fits vars left (words (front (root_arguments left) t)) b
