-- The tree of rows is one node over the trees of smaller rows: the number that falls is of no account.
use mathlib.Core.Path.{◌≡◌, refl, ap₂}
use mathlib.Core.List.{List, [], ◌∷◌}
use mathlib.Core.Option.{Option, none, some}
use Prim.Native.Nat.{ℕ, zero, suc, ◌<◌}
use native.Mathlib.Omega.{arith}
use Rattle.term.specs.Word.{Head}
use Rattle.fit.specs.Constraint.{Constraint, closed_at, same_at}
use Rattle.tree.specs.Tree.{Tree, Switch, Closed, Same, Case}
use Rattle.tree.specs.Path.{Uncovered, OnPath, place_numbered, number_in}
use Rattle.tree.specs.Rows.{RuleRow, lowest_open, constraints_left, size}
use Rattle.tree.specs.Compile.{heads, case_rows, default_rows, entering, holding, rows_without, test_of, cases_of, node_of, step, compile_by, compile}
use Rattle.tree.proofs.Fits.{open_at}
use Rattle.tree.proofs.Sizes.{case_less, default_less, yes_less, no_less}

abbrev SameBelow : (OnPath → List RuleRow → Tree) → (OnPath → List RuleRow → Tree) → ℕ → Type 0
SameBelow c k n = (path : OnPath) (rows : List RuleRow) → size path rows < n → c path rows ≡ k path rows

cases_same : (c k : OnPath → List RuleRow → Tree) (path : OnPath) (rows : List RuleRow) (n : ℕ)
    → ((h : Head) → c (entering n h path) (case_rows (place_numbered n path.uncovered) h rows) ≡ k (entering n h path) (case_rows (place_numbered n path.uncovered) h rows))
    → (hs : List Head) → cases_of c path rows n hs ≡ cases_of k path rows n hs
unfolding cases_of
cases_same c k path rows n e [] = refl
cases_same c k path rows n e (h ∷ hs) = ap₂ (Case h) (e h) (cases_same c k path rows n e hs)

test_same : (x : Constraint) (us : List Uncovered) (a b u v : Tree) → a ≡ b → u ≡ v → test_of x us a u ≡ test_of x us b v
unfolding test_of
test_same (closed_at o) us a b u v p q = ap₂ (Closed (number_in o.place us) o.list) p q
test_same (same_at f o) us a b u v p q = ap₂ (Same (number_in f.place us) (number_in o.place us) f.list o.list) p q

node_same : (c k : OnPath → List RuleRow → Tree) (path : OnPath) (row : RuleRow) (rows : List RuleRow) → SameBelow c k (size path (row ∷ rows))
    → (o : Option ℕ) → lowest_open row.left path.uncovered ≡ o → (cs : List Constraint) → constraints_left path row ≡ cs
    → node_of c path row (row ∷ rows) o cs ≡ node_of k path row (row ∷ rows) o cs
unfolding node_of
node_same c k path row rows s none e [] q = refl
node_same c k path row rows s none e (x ∷ xs) q =
    test_same x path.uncovered (c (holding x path) (row ∷ rows)) (k (holding x path) (row ∷ rows)) (c path (rows_without x path (row ∷ rows))) (k path (rows_without x path (row ∷ rows)))
    (s (holding x path) (row ∷ rows) (yes_less path row rows x xs q)) (s path (rows_without x path (row ∷ rows)) (no_less path row rows x xs q))
node_same c k path row rows s (some n) e cs q =
    let o = open_at row.left path.uncovered n e in
    ap₂ (Switch n)
    (cases_same c k path (row ∷ rows) n (λ h. s (entering n h path) (case_rows (place_numbered n path.uncovered) h (row ∷ rows)) (case_less path row rows n h o)) (heads (place_numbered n path.uncovered) (row ∷ rows)))
    (s path (default_rows (place_numbered n path.uncovered) (row ∷ rows)) (default_less path row rows n o))

step_same : (c k : OnPath → List RuleRow → Tree) (path : OnPath) (rows : List RuleRow) → SameBelow c k (size path rows) → step c path rows ≡ step k path rows
unfolding step
step_same c k path [] s = refl
step_same c k path (row ∷ rows) s = node_same c k path row rows s (lowest_open row.left path.uncovered) refl (constraints_left path row) refl

by_same : (n m : ℕ) (path : OnPath) (rows : List RuleRow) → size path rows < n → size path rows < m → compile_by n path rows ≡ compile_by m path rows
unfolding compile_by
by_same zero m path rows h l = absurd (omega arith)
by_same (suc n) zero path rows h l = absurd (omega arith)
by_same (suc n) (suc m) path rows h l = step_same (compile_by n) (compile_by m) path rows (λ p rs q. by_same n m p rs (omega arith) (omega arith))

-- "Each tree is built of smaller trees in the same way"
pub compile_is : (path : OnPath) (rows : List RuleRow) → compile path rows ≡ step compile path rows
unfolding compile compile_by
compile_is path rows = step_same (compile_by (size path rows)) compile path rows (λ p rs q. by_same (size path rows) (suc (size p rs)) p rs q (omega arith))
