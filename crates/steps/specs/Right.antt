-- Document 01, "Right sides and simplifying": "Writing a right side puts the body for each variable, and at each parameter of a body the written
-- child of that variable, all renumbered for the abstractions they now stand under."
use Rattle.std.specs.Prelude.{ℕ, ◌+◌, ◌-◌, [], leb}
use Rattle.term.specs.Word.{Head, symbol, abstraction, variable, pattern, pick}
use Rattle.term.specs.Row.{Row, nothing, node, width, ◌⧺◌}
use Rattle.term.specs.Renumber.{inside, to_term}
use Rattle.fit.specs.Constraint.{tree}

-- a tree under e abstractions more: what it names outside itself is e further away. So it is a body with no parameters, under e abstractions.
unfoldable pub shifted : ℕ → Row → Row
shifted e t = to_term e [] t

-- one variable
abbrev pub single : ℕ → Row
single i = node (variable i) nothing nothing

-- ---- a body, with a row for each of its variables
abbrev pub replaced_tree : (ℕ → Row) → Head → Row → Row
replaced_tree m (symbol i c) kids = node (symbol i c) kids nothing
replaced_tree m abstraction kids = node abstraction kids nothing
replaced_tree m (variable i) kids = m i
replaced_tree m (pattern x c) kids = node (pattern x c) kids nothing

-- each variable i under e abstractions of the row's own becomes the row m e i
unfoldable pub replaced : (ℕ → ℕ → Row) → ℕ → Row → Row
replaced m e nothing = nothing
replaced m e (node h kids rest) = replaced_tree (m e) h (replaced m (inside h e) kids) ⧺ replaced m e rest

-- "In a body, under e abstractions of its own, ids 1..e are its own, e+j is parameter j, and larger ids are outside": for a variable with k children
-- under d abstractions of the right side, i ≤ e stays; e+j becomes the written child j, now under e abstractions more; larger i becomes i−k+d
unfoldable pub in_body : ℕ → Row → ℕ → ℕ → Row
in_body d children e i =
    pick (leb i e) (single i)
    (pick (leb i (e + width children)) (shifted e (tree children (i - e - 1)))
    (single (i - width children + d)))

-- ---- a right side: a tree of it, with its children written
abbrev pub written_tree : (ℕ → Row) → ℕ → Head → Row → Row
written_tree b d (symbol i c) children = node (symbol i c) children nothing
written_tree b d abstraction children = node abstraction children nothing
written_tree b d (variable i) children = node (variable i) children nothing
written_tree b d (pattern x c) children = replaced (in_body d children) 0 (b x)

-- a row of a right side, under d abstractions of the right side, written from bodies
unfoldable pub write : (ℕ → Row) → ℕ → Row → Row
write b d nothing = nothing
write b d (node h kids rest) = written_tree b d h (write b (inside h d) kids) ⧺ write b d rest
