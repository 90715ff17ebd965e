-- The clauses of the tree of a list of rows, as equations, for a crate that does not open its definition: which node a list of rows has, and its words.
use mathlib.Core.Path.{◌≡◌, refl, ap, ap₂, ◌∙◌}
use mathlib.Core.List.{List, [], ◌∷◌, ◌++◌, append_assoc}
use mathlib.Core.Option.{Option, none, some}
use Prim.Native.Nat.{ℕ, zero, suc, ◌+◌}
use native.Mathlib.Omega.{arith}
use lib.Dec.{eqb}
use lib.ListN.{length, length-append}
use Rattle.term.specs.Word.{Head, word, count, pick}
use Rattle.book.specs.Book.{rule_at}
use Rattle.fit.specs.Constraint.{Place, Occurrence, first_of, Constraint, closed_at, same_at}
use Rattle.tree.specs.Tree.{Tree, Fail, Leaf, Switch, NoCase, Case}
use Rattle.tree.specs.Path.{Uncovered, OnPath, place_numbered, number_in, enter}
use Rattle.tree.specs.Rows.{RuleRow, head_at, lowest_open, constraints_left}
use Rattle.tree.specs.Compile.{without, add_head, heads, case_rows, default_rows, entering, holding, rows_without, test_of, variable_at, variables_from, leaf_node_of, leaf_of, cases_of, node_of, step, compile, row_then, book_rows}
use Rattle.tree.specs.Layout.{case_count, long, layout}
use Rattle.tree.proofs.Subs.{Full}
use Rattle.tree.proofs.Finds.{InTables, tables_add}
use Rattle.tree.proofs.Knot.{compile_is}

-- ---- heads
pub without_none : (h : Head) → without h [] ≡ []
unfolding without
without_none h = refl

pub without_more : (h g : Head) (gs : List Head) → without h (g ∷ gs) ≡ pick (eqb (word h) (word g)) (without h gs) (g ∷ without h gs)
unfolding without
without_more h g gs = refl

pub heads_no : (p : Place) → heads p [] ≡ []
unfolding heads
heads_no p = refl

pub heads_row : (p : Place) (row : RuleRow) (rows : List RuleRow) → heads p (row ∷ rows) ≡ add_head (head_at row.left p) (heads p rows)
unfolding heads
heads_row p row rows = refl

pub tables_none : (p : Place) → InTables (heads p [])
unfolding heads
tables_none p = tt

pub tables_row : (row : RuleRow) (rows : List RuleRow) (p : Place) → Full row.left → InTables (heads p rows) → InTables (heads p (row ∷ rows))
unfolding heads
tables_row row rows p f i = tables_add row p f (head_at row.left p) refl (heads p rows) i

-- ---- leaves
pub from_none : (us : List Uncovered) (os : List Occurrence) (x : ℕ) → variables_from us os x 0 ≡ []
unfolding variables_from
from_none us os x = refl

pub from_more : (us : List Uncovered) (os : List Occurrence) (x more : ℕ) → variables_from us os x (suc more) ≡ variable_at us (first_of x os) ∷ variables_from us os (suc x) more
unfolding variables_from
from_more us os x more = refl

pub leaf_of_lem : (us : List Uncovered) (row : RuleRow) → leaf_of us row ≡ Leaf (leaf_node_of us row)
unfolding leaf_of
leaf_of_lem us row = refl

pub many_variables : (us : List Uncovered) (os : List Occurrence) (more x : ℕ) → length (variables_from us os x more) ≡ more
unfolding variables_from
many_variables us os zero x = refl
many_variables us os (suc more) x = ap suc (many_variables us os more (suc x))

-- ---- paths
pub entering_is : (n : ℕ) (h : Head) (path : OnPath) → entering n h path ≡ record { uncovered = enter n (count h) path.uncovered; held = path.held }
unfolding entering
entering_is n h path = refl

pub holding_is : (c : Constraint) (path : OnPath) → holding c path ≡ record { uncovered = path.uncovered; held = c ∷ path.held }
unfolding holding
holding_is c path = refl

-- ---- cases
module _ (path : OnPath) (rows : List RuleRow) (n : ℕ) where
  pub cases_of_none : cases_of compile path rows n [] ≡ NoCase
  unfolding cases_of
  cases_of_none = refl

  pub cases_of_more : (h : Head) (hs : List Head)
      → cases_of compile path rows n (h ∷ hs) ≡ Case h (compile (entering n h path) (case_rows (place_numbered n path.uncovered) h rows)) (cases_of compile path rows n hs)
  unfolding cases_of
  cases_of_more h hs = refl

  pub count_cases_of : (hs : List Head) → case_count (cases_of compile path rows n hs) ≡ length hs
  unfolding cases_of case_count
  count_cases_of [] = refl
  count_cases_of (h ∷ hs) = ap suc (count_cases_of hs)

-- ---- nodes
pub step_row : (path : OnPath) (row : RuleRow) (rest : List RuleRow) → step compile path (row ∷ rest) ≡ node_of compile path row (row ∷ rest) (lowest_open row.left path.uncovered) (constraints_left path row)
unfolding step
step_row path row rest = refl

pub step_none : (path : OnPath) → step compile path [] ≡ Fail
unfolding step
step_none path = refl

pub node_leaf : (path : OnPath) (row : RuleRow) (rows : List RuleRow) → node_of compile path row rows none [] ≡ leaf_of path.uncovered row
unfolding node_of
node_leaf path row rows = refl

pub node_test : (path : OnPath) (row : RuleRow) (rows : List RuleRow) (c : Constraint) (cs : List Constraint)
    → node_of compile path row rows none (c ∷ cs) ≡ test_of c path.uncovered (compile (holding c path) rows) (compile path (rows_without c path rows))
unfolding node_of
node_test path row rows c cs = refl

pub node_switch : (path : OnPath) (row : RuleRow) (rows : List RuleRow) (n : ℕ) (cs : List Constraint)
    → node_of compile path row rows (some n) cs
    ≡ Switch n (cases_of compile path rows n (heads (place_numbered n path.uncovered) rows)) (compile path (default_rows (place_numbered n path.uncovered) rows))
unfolding node_of
node_switch path row rows n cs = refl

pub compile_row : (path : OnPath) (row : RuleRow) (rest : List RuleRow) (o : Option ℕ) (cs : List Constraint) → lowest_open row.left path.uncovered ≡ o → constraints_left path row ≡ cs
    → compile path (row ∷ rest) ≡ node_of compile path row (row ∷ rest) o cs
compile_row path row rest o cs e q = compile_is path (row ∷ rest) ∙ step_row path row rest ∙ ap₂ (node_of compile path row (row ∷ rest)) e q

pub compile_none : (path : OnPath) (rows : List RuleRow) → rows ≡ [] → compile path rows ≡ Fail
compile_none path rows e = compile_is path rows ∙ ap (step compile path) e ∙ step_none path

pub compile_leaf : (path : OnPath) (rows : List RuleRow) (row : RuleRow) (rest : List RuleRow) → rows ≡ row ∷ rest → lowest_open row.left path.uncovered ≡ none → constraints_left path row ≡ []
    → compile path rows ≡ leaf_of path.uncovered row
compile_leaf path rows row rest z e q = ap (compile path) z ∙ compile_row path row rest none [] e q ∙ node_leaf path row (row ∷ rest)

pub compile_test : (path : OnPath) (rows : List RuleRow) (row : RuleRow) (rest : List RuleRow) (c : Constraint) (cs : List Constraint) → rows ≡ row ∷ rest → lowest_open row.left path.uncovered ≡ none
    → constraints_left path row ≡ c ∷ cs → compile path rows ≡ test_of c path.uncovered (compile (holding c path) rows) (compile path (rows_without c path rows))
compile_test path rows row rest c cs z e q = rw z (compile_row path row rest none (c ∷ cs) e q ∙ node_test path row (row ∷ rest) c cs)

pub compile_switch : (path : OnPath) (rows : List RuleRow) (row : RuleRow) (rest : List RuleRow) (n : ℕ) → rows ≡ row ∷ rest → lowest_open row.left path.uncovered ≡ some n
    → compile path rows ≡ Switch n (cases_of compile path rows n (heads (place_numbered n path.uncovered) rows)) (compile path (default_rows (place_numbered n path.uncovered) rows))
compile_switch path rows row rest n z e = rw z (compile_row path row rest (some n) (constraints_left path row) e refl ∙ node_switch path row (row ∷ rest) n (constraints_left path row))

-- ---- tests
-- the front of a test's layout
abbrev pub test_front : Constraint → List Uncovered → List ℕ
test_front (closed_at o) us = 3 ∷ number_in o.place us ∷ length o.list ∷ o.list
test_front (same_at f o) us = 4 ∷ number_in f.place us ∷ number_in o.place us ∷ length f.list ∷ (f.list ++ o.list)

abbrev pub TestLaid : ℕ → List ℕ → Tree → Tree → Tree → Type 0
TestLaid at front a b t =
    (layout at t ≡ front ++ ((at + length front + 2) ∷ (at + length front + 2 + long a) ∷ (layout (at + length front + 2) a ++ layout (at + length front + 2 + long a) b)))
    × (long t ≡ length front + 2 + long a + long b)

pub test_laid : (c : Constraint) (us : List Uncovered) (a b : Tree) (at : ℕ) → TestLaid at (test_front c us) a b (test_of c us a b)
unfolding test_of layout long
test_laid (closed_at o) us a b at =
    let z : at + suc (suc (suc (length o.list))) + 2 ≡ at + 5 + length o.list = omega arith in
    (rw z, omega arith)
test_laid (same_at f o) us a b at =
    let z : at + suc (suc (suc (suc (length (f.list ++ o.list))))) + 2 ≡ at + 6 + length f.list + length o.list = omega (arith, length-append f.list o.list) in
    (rw (z, append_assoc f.list o.list ((at + 6 + length f.list + length o.list) ∷ (at + 6 + length f.list + length o.list + long a) ∷ (layout (at + 6 + length f.list + length o.list) a ++ layout (at + 6 + length f.list + length o.list + long a) b))), omega (arith, length-append f.list o.list))

-- ---- books
pub rows_none : (book : List ℕ) (r m : ℕ) → m ≡ 0 → book_rows book r m ≡ []
unfolding book_rows
rows_none book r m e = rw e

pub rows_more : (book : List ℕ) (r more : ℕ) → book_rows book r (suc more) ≡ row_then r (rule_at book r) (book_rows book (suc r) more)
unfolding book_rows
rows_more book r more = refl
