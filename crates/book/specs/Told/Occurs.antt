-- The pattern variables of a row.
use Rattle.std.specs.Prelude.{ℕ, suc, Bool, true, false, ◌&&◌, ◌||◌, List, ltb, eqb}
use Rattle.term.specs.Word.{Head, symbol, abstraction, variable, pattern}
use Rattle.term.specs.Row.{Row, nothing, node}
use Rattle.book.specs.Rule.{counted}

-- a head is the variable x
abbrev pub is_pattern : ℕ → Head → Bool
is_pattern x (symbol i c) = false
is_pattern x abstraction = false
is_pattern x (variable i) = false
is_pattern x (pattern i c) = eqb i x

-- the variable x is in the row
unfoldable pub occurs_in : ℕ → Row → Bool
occurs_in x nothing = false
occurs_in x (node h kids rest) = is_pattern x h || (occurs_in x kids || occurs_in x rest)

abbrev pub below_head : ℕ → Head → Bool
below_head vars (symbol i c) = true
below_head vars abstraction = true
below_head vars (variable i) = true
below_head vars (pattern i c) = ltb i vars

-- each variable of the row is below `vars`
unfoldable pub below_vars : ℕ → Row → Bool
below_vars vars nothing = true
below_vars vars (node h kids rest) = below_head vars h && (below_vars vars kids && below_vars vars rest)

abbrev pub counts_head : List ℕ → Head → Bool
counts_head left (symbol i c) = true
counts_head left abstraction = true
counts_head left (variable i) = true
counts_head left (pattern i c) = eqb (counted i left) (suc c)

-- each variable of the row has the count that its first occurrence in `left` has
unfoldable pub counts_as : List ℕ → Row → Bool
counts_as left nothing = true
counts_as left (node h kids rest) = counts_head left h && (counts_as left kids && counts_as left rest)
