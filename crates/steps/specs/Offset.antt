-- Offsets of a term's words, seen in its tree: the part that begins at an offset, and the term with that part replaced.
use Rattle.std.specs.Prelude.{ℕ, zero, suc, ◌-◌, ltb, length}
use Rattle.term.specs.Word.{pick}
use Rattle.term.specs.Row.{Row, nothing, node, words, ◌⧺◌}

-- the words of a node come before those of its children, and these before the words of what stands to its right
unfoldable pub part_at : Row → ℕ → Row
part_at nothing at = nothing
part_at (node h kids rest) zero = node h kids nothing
part_at (node h kids rest) (suc at) = pick (ltb at (length (words kids))) (part_at kids at) (part_at rest (at - length (words kids)))

unfoldable pub spliced : Row → ℕ → Row → Row
spliced nothing at new = nothing
spliced (node h kids rest) zero new = new ⧺ rest
spliced (node h kids rest) (suc at) new =
    pick (ltb at (length (words kids))) (node h (spliced kids at new) rest) (node h kids (spliced rest (at - length (words kids)) new))
