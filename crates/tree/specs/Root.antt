-- Document 02, "Rules for a front part of the arguments": "The root Switch lists, for each symbol in order of first appearance, every count from its
-- smallest up to 15, and a row stands in each count it covers." The nodes below are those of every tree.
use Rattle.std.specs.Prelude.{ℕ, zero, suc, ◌-◌, ◌&&◌, List, [], ◌∷◌, ◌++◌, eqb, leb, get_or}
use Rattle.std.proofs.Math.Option.{Option, none, some}
use Rattle.term.specs.Word.{Head, symbol, abstraction, variable, pattern, count, pick}
use Rattle.fit.specs.Front.{root_arguments, covers}
use Rattle.tree.specs.Tree.{Tree, Fail, Switch, Cases, NoCase, Case}
use Rattle.tree.specs.Path.{start}
use Rattle.tree.specs.Rows.{RuleRow, head_here}
use Rattle.tree.specs.Compile.{entering, compile, book_rows}

-- the most arguments that a symbol has
abbrev pub most_arguments : ℕ
most_arguments = 15

-- ---- "each symbol in order of first appearance"
unfoldable pub without_id : ℕ → List ℕ → List ℕ
without_id i [] = []
without_id i (j ∷ js) = pick (eqb i j) (without_id i js) (j ∷ without_id i js)

abbrev pub add_symbol : Option Head → List ℕ → List ℕ
add_symbol none is = is
add_symbol (some (symbol i c)) is = i ∷ without_id i is
add_symbol (some abstraction) is = is
add_symbol (some (variable i)) is = is
add_symbol (some (pattern i c)) is = is

unfoldable pub root_symbols : List RuleRow → List ℕ
root_symbols [] = []
root_symbols (row ∷ rows) = add_symbol (head_here row.left) (root_symbols rows)

-- ---- "every count from its smallest up to 15"
abbrev pub lesser : Option Head → ℕ → ℕ → ℕ
lesser none i n = n
lesser (some (symbol j c)) i n = pick (eqb j i && leb c n) c n
lesser (some abstraction) i n = n
lesser (some (variable j)) i n = n
lesser (some (pattern j c)) i n = n

-- the smallest count of a symbol at the root; more than any count where no row has it there
unfoldable pub smallest : ℕ → List RuleRow → ℕ
smallest i [] = suc most_arguments
smallest i (row ∷ rows) = lesser (head_here row.left) i (smallest i rows)

-- a symbol with so many counts from c on
unfoldable pub counts_from : ℕ → ℕ → ℕ → List Head
counts_from i c zero = []
counts_from i c (suc more) = symbol i c ∷ counts_from i (suc c) more

unfoldable pub heads_of : List RuleRow → List ℕ → List Head
heads_of rows [] = []
heads_of rows (i ∷ is) = counts_from i (smallest i rows) (suc most_arguments - smallest i rows) ++ heads_of rows is

unfoldable pub root_heads : List RuleRow → List Head
root_heads rows = heads_of rows (root_symbols rows)

-- ---- "a row stands in each count it covers", with the last a−b arguments set aside
abbrev pub setting_aside : Head → RuleRow → RuleRow
setting_aside h row = record { number = row.number; vars = row.vars; left = row.left; aside = count h - root_arguments row.left }

unfoldable pub root_case_rows : Head → List RuleRow → List RuleRow
root_case_rows h [] = []
root_case_rows h (row ∷ rows) = pick (covers row.left h) (setting_aside h row ∷ root_case_rows h rows) (root_case_rows h rows)

unfoldable pub root_cases : List RuleRow → List Head → Cases
root_cases rows [] = NoCase
root_cases rows (h ∷ hs) = Case h (compile (entering 0 h start) (root_case_rows h rows)) (root_cases rows hs)

-- the tree of the rows of a book
unfoldable pub root_tree : List RuleRow → Tree
root_tree [] = Fail
root_tree (row ∷ rows) = Switch 0 (root_cases (row ∷ rows) (root_heads (row ∷ rows))) Fail

-- the first word of a book is its number of rules
unfoldable pub book_tree : List ℕ → Tree
book_tree book = root_tree (book_rows book 0 (get_or book 0 0))
