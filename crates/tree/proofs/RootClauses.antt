-- The clauses of the root Switch, as equations, for a crate that does not open its definition.
use mathlib.Core.Path.{◌≡◌, refl, ap}
use mathlib.Core.List.{List, [], ◌∷◌, ◌++◌}
use mathlib.Core.Option.{some}
use Prim.Native.Nat.{ℕ, suc, ◌-◌}
use lib.Dec.{eqb}
use lib.ListN.{length, get_or}
use Rattle.term.specs.Word.{Head, symbol, pick}
use Rattle.fit.specs.Left.{Left, part}
use Rattle.fit.specs.Front.{covers}
use Rattle.tree.specs.Tree.{Fail, Switch, NoCase, Case}
use Rattle.tree.specs.Path.{start}
use Rattle.tree.specs.Rows.{RuleRow, sub, subs_under, sub_at, head_here, head_at}
use Rattle.tree.specs.Compile.{entering, compile, book_rows}
use Rattle.tree.specs.Layout.{case_count}
use Rattle.tree.specs.Root.{without_id, add_symbol, root_symbols, lesser, smallest, counts_from, heads_of, root_heads, setting_aside, root_case_rows, root_cases, root_tree, book_tree}

-- ---- symbols
pub without_id_none : (i : ℕ) → without_id i [] ≡ []
unfolding without_id
without_id_none i = refl

pub without_id_more : (i j : ℕ) (js : List ℕ) → without_id i (j ∷ js) ≡ pick (eqb i j) (without_id i js) (j ∷ without_id i js)
unfolding without_id
without_id_more i j js = refl

pub symbols_none : root_symbols [] ≡ []
unfolding root_symbols
symbols_none = refl

pub symbols_row : (row : RuleRow) (rows : List RuleRow) → root_symbols (row ∷ rows) ≡ add_symbol (head_here row.left) (root_symbols rows)
unfolding root_symbols
symbols_row row rows = refl

-- ---- counts
pub smallest_none : (i : ℕ) → smallest i [] ≡ 16
unfolding smallest
smallest_none i = refl

pub smallest_row : (i : ℕ) (row : RuleRow) (rows : List RuleRow) → smallest i (row ∷ rows) ≡ lesser (head_here row.left) i (smallest i rows)
unfolding smallest
smallest_row i row rows = refl

pub no_counts : (i c : ℕ) → counts_from i c 0 ≡ []
unfolding counts_from
no_counts i c = refl

pub more_counts : (i c more : ℕ) → counts_from i c (suc more) ≡ symbol i c ∷ counts_from i (suc c) more
unfolding counts_from
more_counts i c more = refl

pub heads_of_none : (rows : List RuleRow) → heads_of rows [] ≡ []
unfolding heads_of
heads_of_none rows = refl

pub heads_of_more : (rows : List RuleRow) (i : ℕ) (is : List ℕ) → heads_of rows (i ∷ is) ≡ counts_from i (smallest i rows) (16 - smallest i rows) ++ heads_of rows is
unfolding heads_of
heads_of_more rows i is = refl

pub root_heads_are : (rows : List RuleRow) → root_heads rows ≡ heads_of rows (root_symbols rows)
unfolding root_heads
root_heads_are rows = refl

-- ---- rows
pub root_rows_none : (h : Head) → root_case_rows h [] ≡ []
unfolding root_case_rows
root_rows_none h = refl

pub root_rows_row : (h : Head) (row : RuleRow) (rows : List RuleRow) → root_case_rows h (row ∷ rows) ≡ pick (covers row.left h) (setting_aside h row ∷ root_case_rows h rows) (root_case_rows h rows)
unfolding root_case_rows
root_rows_row h row rows = refl

-- ---- cases
pub root_cases_none : (rows : List RuleRow) → root_cases rows [] ≡ NoCase
unfolding root_cases
root_cases_none rows = refl

pub root_cases_more : (rows : List RuleRow) (h : Head) (hs : List Head) → root_cases rows (h ∷ hs) ≡ Case h (compile (entering 0 h start) (root_case_rows h rows)) (root_cases rows hs)
unfolding root_cases
root_cases_more rows h hs = refl

pub count_root_cases : (rows : List RuleRow) (hs : List Head) → case_count (root_cases rows hs) ≡ length hs
unfolding root_cases case_count
count_root_cases rows [] = refl
count_root_cases rows (h ∷ hs) = ap suc (count_root_cases rows hs)

-- ---- the tree
pub root_tree_none : (rows : List RuleRow) → rows ≡ [] → root_tree rows ≡ Fail
unfolding root_tree
root_tree_none rows e = rw e

pub root_tree_some : (rows : List RuleRow) (row : RuleRow) (rest : List RuleRow) → rows ≡ row ∷ rest → root_tree rows ≡ Switch 0 (root_cases rows (root_heads rows)) Fail
unfolding root_tree
root_tree_some rows row rest e = rw e

pub book_tree_is : (book : List ℕ) → book_tree book ≡ root_tree (book_rows book 0 (get_or book 0 0))
unfolding book_tree
book_tree_is book = refl

-- ---- the head at the root
pub head_at_root : (h : Head) (kids rest : Left) → head_at (part h kids rest) (0 ∷ []) ≡ some h
unfolding head_at sub_at subs_under sub
head_at_root h kids rest = refl
