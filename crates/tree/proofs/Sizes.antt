-- The words and constraints left in the rows fall: a case opens a word of the first row, the default and no strike that row, yes strikes one of its constraints.
use mathlib.Core.Path.{◌≡◌, refl, ap, ◌∙◌}
use mathlib.Core.Bool.{Bool, true, false}
use mathlib.Core.List.{List, [], ◌∷◌, ◌++◌}
use mathlib.Core.Option.{some}
use Prim.Native.Nat.{ℕ, zero, suc, ◌+◌, ◌≤◌, ◌<◌}
use native.Mathlib.Omega.{arith}
use lib.ListN.{length}
use Rattle.term.specs.Word.{Head, count, pick}
use Rattle.term.proofs.Laws.{never}
use Rattle.fit.specs.Left.{Left, end, hole, part}
use Rattle.fit.specs.Constraint.{Place, Constraint, constraints}
use Rattle.tree.specs.Path.{Uncovered, OnPath, place_numbered, children_from, marked, enter}
use Rattle.tree.specs.Rows.{RuleRow, sub, below, subs_under, sub_at, head_at, has, constraints_left, words_of, words_left, size}
use Rattle.tree.specs.Compile.{in_case, case_rows, in_default, default_rows, entering, holding, rows_without}
use Rattle.tree.proofs.Subs.{subs_from, from_end, from_hole, from_part, from_start, subs_child, sub_child, head_headed, headed_below, root_unheaded}
use Rattle.tree.proofs.Fits.{entered_of, OpenAt}
use Rattle.tree.proofs.Holds.{unstruck_fewer, unstruck_less, has_first}

-- ---- words
words_join : (left : Left) (us vs : List Uncovered) → words_left left (us ++ vs) ≡ words_left left us + words_left left vs
unfolding words_left
words_join left [] vs = omega arith
words_join left (u ∷ us) vs = omega (arith, words_join left us vs)

words_split : (left : Left) (us : List Uncovered) (n : ℕ) → entered_of n us ≡ false → words_left left us ≡ words_of (sub_at left (place_numbered n us)) + words_left left (marked n us)
unfolding words_left entered_of place_numbered marked
words_split left [] n e = never (cc)
words_split left (u ∷ us) zero e = rw e (omega arith)
words_split left (u ∷ us) (suc n) e = omega (arith, words_split left us n e)

child_words : (left : Left) (p : Place) (i more : ℕ) → words_left left (children_from p i (suc more)) ≡ words_of (sub (subs_under left p) i) + words_left left (children_from p (suc i) more)
unfolding words_left children_from
child_words left p i more = rw (sub_child left i p)

no_child_words : (left : Left) (p : Place) (i : ℕ) → words_left left (children_from p i 0) ≡ 0
unfolding words_left children_from
no_child_words left p i = refl

words_end : words_of end ≡ 0
unfolding words_of
words_end = refl

words_hole : (x : ℕ) (ys : List ℕ) (rest : Left) → words_of (hole x ys rest) ≡ words_of rest
unfolding words_of
words_hole x ys rest = refl

words_part : (h : Head) (kids rest : Left) → words_of (part h kids rest) ≡ suc (words_of kids + words_of rest)
unfolding words_of
words_part h kids rest = refl

children_words : (left : Left) (p : Place) (more i : ℕ) (k : Left) → subs_from i (subs_under left p) ≡ k → words_left left (children_from p i more) ≤ words_of k
children_words left p zero i k e = omega (arith, no_child_words left p i)
children_words left p (suc more) i end e =
    let a = from_end (subs_under left p) i e in
    omega (arith, child_words left p i more, ap words_of a.0, words_end, children_words left p more (suc i) end a.1)
children_words left p (suc more) i (hole x ys rest) e =
    let a = from_hole (subs_under left p) i x ys rest e in
    omega (arith, child_words left p i more, ap words_of a.0, words_hole x ys end, words_hole x ys rest, words_end, children_words left p more (suc i) rest a.1)
children_words left p (suc more) i (part h kids rest) e =
    let a = from_part (subs_under left p) i h kids rest e in
    omega (arith, child_words left p i more, ap words_of a.0, words_part h kids end, words_part h kids rest, words_end, children_words left p more (suc i) rest a.1)

below_words : (k : Left) → words_of (below k) ≤ words_of k
unfolding words_of below
below_words end = omega arith
below_words (hole x ys rest) = omega arith
below_words (part h kids rest) = omega arith

-- no row has more words open after a node is entered
enter_words : (left : Left) (us : List Uncovered) (n c : ℕ) → entered_of n us ≡ false → (j : ℕ) (q : Place) → place_numbered n us ≡ j ∷ q → words_left left (enter n c us) ≤ words_left left us
unfolding enter
enter_words left us n c e j q z =
    let a = children_words left (j ∷ q) c 0 (subs_under left (j ∷ q)) (from_start (subs_under left (j ∷ q))) in
    let b : words_of (subs_under left (j ∷ q)) ≤ words_of (sub_at left (j ∷ q)) = rw (subs_child left j q) (below_words (sub_at left (j ∷ q))) in
    let s = words_split left us n e in
    let t : words_left left us ≡ words_of (sub_at left (j ∷ q)) + words_left left (marked n us) = rw z at s in
    rw z (omega (arith, words_join left (marked n us) (children_from (j ∷ q) 0 c), a, b, t))

-- a row with a word there has fewer
enter_less : (left : Left) (us : List Uncovered) (n c : ℕ) → OpenAt left us n → (j : ℕ) (q : Place) → place_numbered n us ≡ j ∷ q → words_left left (enter n c us) < words_left left us
unfolding enter
enter_less left us n c o j q z =
    let x = head_headed left (j ∷ q) o.head (rw z at o.is) in
    let a = children_words left (j ∷ q) c 0 x.kids (from_start (subs_under left (j ∷ q)) ∙ headed_below left j q o.head x) in
    let b : words_of (sub_at left (j ∷ q)) ≡ suc (words_of x.kids + words_of x.rest) = ap words_of x.is ∙ words_part o.head x.kids x.rest in
    let s = words_split left us n o.new in
    let t : words_left left us ≡ words_of (sub_at left (j ∷ q)) + words_left left (marked n us) = rw z at s in
    rw z (omega (arith, words_join left (marked n us) (children_from (j ∷ q) 0 c), a, b, t))

-- a row that is open at a place has a word left
open_some : (left : Left) (us : List Uncovered) (n : ℕ) → OpenAt left us n → 1 ≤ words_left left us
open_some left us n o =
    let x = head_headed left (place_numbered n us) o.head o.is in
    let b : words_of (sub_at left (place_numbered n us)) ≡ suc (words_of x.kids + words_of x.rest) = ap words_of x.is ∙ words_part o.head x.kids x.rest in
    omega (arith, words_split left us n o.new, b)

-- ---- rows
unfoldable row_size : OnPath → RuleRow → ℕ
row_size path row = words_left row.left path.uncovered + length (constraints_left path row)

size_row : (path : OnPath) (row : RuleRow) (rows : List RuleRow) → size path (row ∷ rows) ≡ row_size path row + size path rows
unfolding size row_size
size_row path row rows = refl

picked_size : (path : OnPath) (row : RuleRow) (b : Bool) (some-rows : List RuleRow) → size path (pick b (row ∷ some-rows) some-rows) ≤ row_size path row + size path some-rows
picked_size path row true rows = omega (arith, size_row path row rows)
picked_size path row false rows = omega arith

unpicked_size : (path : OnPath) (row : RuleRow) (b : Bool) (some-rows : List RuleRow) → size path (pick b some-rows (row ∷ some-rows)) ≤ row_size path row + size path some-rows
unpicked_size path row true rows = omega arith
unpicked_size path row false rows = omega (arith, size_row path row rows)

-- the default
default_size : (path : OnPath) (p : Place) (rows : List RuleRow) → size path (default_rows p rows) ≤ size path rows
unfolding default_rows
default_size path p [] = omega arith
default_size path p (row ∷ rows) =
    omega (arith, picked_size path row (in_default (head_at row.left p)) (default_rows p rows), size_row path row rows, default_size path p rows)

row_some : (path : OnPath) (row : RuleRow) (n : ℕ) → OpenAt row.left path.uncovered n → 1 ≤ row_size path row
unfolding row_size
row_some path row n o = omega (arith, open_some row.left path.uncovered n o)

pub default_less : (path : OnPath) (row : RuleRow) (rows : List RuleRow) (n : ℕ) → OpenAt row.left path.uncovered n
    → size path (default_rows (place_numbered n path.uncovered) (row ∷ rows)) < size path (row ∷ rows)
unfolding default_rows
default_less path row rows n o =
    rw o.is (omega (arith, size_row path row rows, row_some path row n o, default_size path (place_numbered n path.uncovered) rows))

-- a case
entering_row : (path : OnPath) (n : ℕ) (h : Head) (row : RuleRow) → words_left row.left (enter n (count h) path.uncovered) ≤ words_left row.left path.uncovered → row_size (entering n h path) row ≤ row_size path row
unfolding row_size entering constraints_left
entering_row path n h row l = omega (arith, l)

entering_first : (path : OnPath) (n : ℕ) (h : Head) (row : RuleRow) → words_left row.left (enter n (count h) path.uncovered) < words_left row.left path.uncovered → row_size (entering n h path) row < row_size path row
unfolding row_size entering constraints_left
entering_first path n h row l = omega (arith, l)

size_none : (path : OnPath) → size path [] ≡ 0
unfolding size
size_none path = refl

case_size : (path : OnPath) (n : ℕ) (h : Head) → entered_of n path.uncovered ≡ false → (j : ℕ) (q : Place) → place_numbered n path.uncovered ≡ j ∷ q → (p : Place) (rows : List RuleRow)
    → size (entering n h path) (case_rows p h rows) ≤ size path rows
unfolding case_rows
case_size path n h e j q z p [] = omega (arith, size_none path, size_none (entering n h path))
case_size path n h e j q z p (row ∷ rows) =
    omega (
      arith,
      picked_size (entering n h path) row (in_case (head_at row.left p) h) (case_rows p h rows),
      size_row path row rows,
      entering_row path n h row (enter_words row.left path.uncovered n (count h) e j q z),
      case_size path n h e j q z p rows,
    )

case_less_at : (path : OnPath) (row : RuleRow) (rows : List RuleRow) (n : ℕ) (h : Head) → OpenAt row.left path.uncovered n → (j : ℕ) (q : Place) → place_numbered n path.uncovered ≡ j ∷ q → (p : Place)
    → size (entering n h path) (case_rows p h (row ∷ rows)) < size path (row ∷ rows)
unfolding case_rows
case_less_at path row rows n h o j q z p =
    omega (
      arith,
      picked_size (entering n h path) row (in_case (head_at row.left p) h) (case_rows p h rows),
      size_row path row rows,
      entering_first path n h row (enter_less row.left path.uncovered n (count h) o j q z),
      case_size path n h o.new j q z p rows,
    )

pub case_less : (path : OnPath) (row : RuleRow) (rows : List RuleRow) (n : ℕ) (h : Head) → OpenAt row.left path.uncovered n
    → size (entering n h path) (case_rows (place_numbered n path.uncovered) h (row ∷ rows)) < size path (row ∷ rows)
case_less path row rows n h o = go (place_numbered n path.uncovered) refl
  where
    go : (p : Place) → place_numbered n path.uncovered ≡ p → size (entering n h path) (case_rows p h (row ∷ rows)) < size path (row ∷ rows)
    go [] e = never (let z : head_at row.left [] ≡ some o.head = rw e at o.is in let y = root_unheaded row.left in cc)
    go (j ∷ q) e = case_less_at path row rows n h o j q e (j ∷ q)

-- yes
holding_row : (path : OnPath) (c : Constraint) (row : RuleRow) → row_size (holding c path) row ≤ row_size path row
unfolding row_size holding constraints_left
holding_row path c row = omega (arith, unstruck_fewer c path.held (constraints row.left))

holding_first : (path : OnPath) (c : Constraint) (cs : List Constraint) (row : RuleRow) → constraints_left path row ≡ c ∷ cs → row_size (holding c path) row < row_size path row
unfolding row_size holding constraints_left
holding_first path c cs row e = omega (arith, unstruck_less c path.held (constraints row.left) cs e)

holding_size : (path : OnPath) (c : Constraint) (rows : List RuleRow) → size (holding c path) rows ≤ size path rows
holding_size path c [] = omega (arith, size_none path, size_none (holding c path))
holding_size path c (row ∷ rows) = omega (arith, size_row path row rows, size_row (holding c path) row rows, holding_row path c row, holding_size path c rows)

pub yes_less : (path : OnPath) (row : RuleRow) (rows : List RuleRow) (c : Constraint) (cs : List Constraint) → constraints_left path row ≡ c ∷ cs
    → size (holding c path) (row ∷ rows) < size path (row ∷ rows)
yes_less path row rows c cs e =
    omega (arith, size_row path row rows, size_row (holding c path) row rows, holding_first path c cs row e, holding_size path c rows)

-- no
without_size : (path : OnPath) (c : Constraint) (rows : List RuleRow) → size path (rows_without c path rows) ≤ size path rows
unfolding rows_without
without_size path c [] = omega arith
without_size path c (row ∷ rows) =
    omega (arith, unpicked_size path row (has c (constraints_left path row)) (rows_without c path rows), size_row path row rows, without_size path c rows)

constrained_row : (path : OnPath) (c : Constraint) (cs : List Constraint) (row : RuleRow) → constraints_left path row ≡ c ∷ cs → 1 ≤ row_size path row
unfolding row_size
constrained_row path c cs row e = let l : length (constraints_left path row) ≡ suc (length cs) = ap length e in omega (arith, l)

pub no_less : (path : OnPath) (row : RuleRow) (rows : List RuleRow) (c : Constraint) (cs : List Constraint) → constraints_left path row ≡ c ∷ cs
    → size path (rows_without c path (row ∷ rows)) < size path (row ∷ rows)
unfolding rows_without
no_less path row rows c cs e =
    rw (e, has_first c cs) (omega (arith, size_row path row rows, constrained_row path c cs row e, without_size path c rows))
