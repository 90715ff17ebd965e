-- Document 02, "Rules for a front part of the arguments": "The written right side gets the set-aside arguments at its end if its root is a symbol and the sum
-- is at most 15." With nothing set aside it stays as it is, whatever its root.
use Rattle.std.specs.Prelude.{◌+◌, Bool, false, leb}
use Rattle.std.proofs.Math.Option.{Option, none, some}
use Rattle.term.specs.Word.{symbol, abstraction, variable, pattern, pick}
use Rattle.term.specs.Row.{Row, nothing, node, width}
use Rattle.fit.specs.Front.{with_arguments}
use Rattle.tree.specs.Root.{most_arguments}

-- the root is a symbol that has room for these arguments too
unfoldable pub takes : Row → Row → Bool
takes nothing more = false
takes (node (symbol i c) kids rest) more = leb (c + width more) most_arguments
takes (node abstraction kids rest) more = false
takes (node (variable i) kids rest) more = false
takes (node (pattern i c) kids rest) more = false

-- what is written with the arguments set aside; none where it cannot take them
unfoldable pub with_aside : Row → Row → Option Row
with_aside r nothing = some r
with_aside r (node h kids rest) = pick (takes r (node h kids rest)) (some (with_arguments r (node h kids rest))) none
