-- Document 01, "The tree": the tree of a list of rows.
use Rattle.std.specs.Prelude.{ℕ, zero, suc, Bool, true, false, List, [], ◌∷◌, eqb}
use Rattle.std.proofs.Math.Option.{Option, none, some}
use Rattle.term.specs.Word.{Head, word, count, pick}
use Rattle.book.specs.Book.{Rule, rule_at}
use Rattle.fit.specs.Constraint.{Place, Occurrence, occurrences, first_of, Constraint, closed_at, same_at}
use Rattle.fit.specs.Match.{left_in}
use Rattle.tree.specs.Tree.{LeafVariable, LeafNode, Tree, Fail, Leaf, Switch, Closed, Same, Cases, NoCase, Case}
use Rattle.tree.specs.Path.{Uncovered, OnPath, place_numbered, number_in, enter}
use Rattle.tree.specs.Rows.{RuleRow, head_at, lowest_open, has, constraints_left, size}

-- ---- Switch
-- "the heads at that place over all rows, in order of first appearance"
unfoldable pub without : Head → List Head → List Head
without h [] = []
without h (g ∷ gs) = pick (eqb (word h) (word g)) (without h gs) (g ∷ without h gs)

abbrev pub add_head : Option Head → List Head → List Head
add_head none hs = hs
add_head (some h) hs = h ∷ without h hs

unfoldable pub heads : Place → List RuleRow → List Head
heads p [] = []
heads p (row ∷ rows) = add_head (head_at row.left p) (heads p rows)

-- "A row with no symbol or abstraction at that place (its pattern variable stands there or above) goes into every case and into the default."
abbrev pub in_case : Option Head → Head → Bool
in_case none h = true
in_case (some g) h = eqb (word g) (word h)

unfoldable pub case_rows : Place → Head → List RuleRow → List RuleRow
case_rows p h [] = []
case_rows p h (row ∷ rows) = pick (in_case (head_at row.left p) h) (row ∷ case_rows p h rows) (case_rows p h rows)

abbrev pub in_default : Option Head → Bool
in_default none = true
in_default (some g) = false

unfoldable pub default_rows : Place → List RuleRow → List RuleRow
default_rows p [] = []
default_rows p (row ∷ rows) = pick (in_default (head_at row.left p)) (row ∷ default_rows p rows) (default_rows p rows)

-- the node of a number is entered
unfoldable pub entering : ℕ → Head → OnPath → OnPath
entering n h path = record { uncovered = enter n (count h) path.uncovered; held = path.held }

-- ---- Closed and Same
-- "Yes strikes that constraint from every row"
unfoldable pub holding : Constraint → OnPath → OnPath
holding c path = record { uncovered = path.uncovered; held = c ∷ path.held }

-- "no strikes every row that has it"
unfoldable pub rows_without : Constraint → OnPath → List RuleRow → List RuleRow
rows_without c path [] = []
rows_without c path (row ∷ rows) = pick (has c (constraints_left path row)) (rows_without c path rows) (row ∷ rows_without c path rows)

unfoldable pub test_of : Constraint → List Uncovered → Tree → Tree → Tree
test_of (closed_at o) us ifYes ifNo = Closed (number_in o.place us) o.list ifYes ifNo
test_of (same_at f o) us ifYes ifNo = Same (number_in f.place us) (number_in o.place us) f.list o.list ifYes ifNo

-- ---- Leaf
abbrev pub variable_at : List Uncovered → Option Occurrence → LeafVariable
variable_at us none = record { at = 0; list = [] }
variable_at us (some o) = record { at = number_in o.place us; list = o.list }

-- so many variables from x on, each where it first occurs
unfoldable pub variables_from : List Uncovered → List Occurrence → ℕ → ℕ → List LeafVariable
variables_from us os x zero = []
variables_from us os x (suc more) = variable_at us (first_of x os) ∷ variables_from us os (suc x) more

abbrev pub leaf_node_of : List Uncovered → RuleRow → LeafNode
leaf_node_of us row = record { rule = row.number; aside = row.aside; variables = variables_from us (occurrences [] 0 0 row.left) 0 row.vars }

unfoldable pub leaf_of : List Uncovered → RuleRow → Tree
leaf_of us row = Leaf (leaf_node_of us row)

-- ---- the tree of a list of rows, made of smaller trees
unfoldable pub cases_of : (OnPath → List RuleRow → Tree) → OnPath → List RuleRow → ℕ → List Head → Cases
cases_of make path rows n [] = NoCase
cases_of make path rows n (h ∷ hs) =
    Case h (make (entering n h path) (case_rows (place_numbered n path.uncovered) h rows)) (cases_of make path rows n hs)

-- the first row, its lowest open place with a symbol or abstraction, the constraints left in it
unfoldable pub node_of : (OnPath → List RuleRow → Tree) → OnPath → RuleRow → List RuleRow → Option ℕ → List Constraint → Tree
node_of make path first rows none [] = leaf_of path.uncovered first
node_of make path first rows none (c ∷ cs) = test_of c path.uncovered (make (holding c path) rows) (make path (rows_without c path rows))
node_of make path first rows (some n) cs =
    Switch n (cases_of make path rows n (heads (place_numbered n path.uncovered) rows)) (make path (default_rows (place_numbered n path.uncovered) rows))

unfoldable pub step : (OnPath → List RuleRow → Tree) → OnPath → List RuleRow → Tree
step make path [] = Fail
step make path (row ∷ rows) = node_of make path row (row ∷ rows) (lowest_open row.left path.uncovered) (constraints_left path row)

-- "down to Leaf or Fail": the words and constraints left in the rows fall
unfoldable pub compile_by : ℕ → OnPath → List RuleRow → Tree
compile_by zero path rows = Fail
compile_by (suc n) path rows = step (compile_by n) path rows

unfoldable pub compile : OnPath → List RuleRow → Tree
compile path rows = compile_by (suc (size path rows)) path rows

-- ---- the rows of a book, from a number on
abbrev pub row_then : ℕ → Option Rule → List RuleRow → List RuleRow
row_then number none rows = rows
row_then number (some rule) rows = record { number = number; vars = rule.vars; left = left_in rule; aside = 0 } ∷ rows

unfoldable pub book_rows : List ℕ → ℕ → ℕ → List RuleRow
book_rows book number zero = []
book_rows book number (suc more) = row_then number (rule_at book number) (book_rows book (suc number) more)
