-- Document 01, "The tree": "Each row holds the sub-patterns at its open places and its constraints." A row is a rule seen from the path:
-- its open places are those that are uncovered and not entered, and the constraints that hold on the path are struck from it.
use Rattle.std.specs.Prelude.{ℕ, zero, suc, ◌+◌, Bool, true, false, ◌&&◌, ◌||◌, List, [], ◌∷◌, eqb, length}
use Rattle.std.proofs.Math.Option.{Option, none, some}
use Rattle.term.specs.Word.{Head, pick}
use Rattle.term.specs.Part.{same_words}
use Rattle.fit.specs.Left.{Left, end, hole, part}
use Rattle.fit.specs.Constraint.{Place, Constraint, closed_at, same_at, constraints}
use Rattle.tree.specs.Path.{Uncovered, OnPath}

-- a rule: its number, how many variables it has, its left side, and how many arguments are set aside for it (Root.antt)
pub record RuleRow : Type 0 where
  pub number : ℕ
  pub vars : ℕ
  pub left : Left
  pub aside : ℕ

-- ---- sub-patterns
-- the tree number i of a left side, as a left side of its own; end where there is none
unfoldable pub sub : Left → ℕ → Left
sub end i = end
sub (hole x ys rest) zero = hole x ys end
sub (hole x ys rest) (suc i) = sub rest i
sub (part h kids rest) zero = part h kids end
sub (part h kids rest) (suc i) = sub rest i

-- a pattern variable has no sub-pattern below it
unfoldable pub below : Left → Left
below end = end
below (hole x ys rest) = end
below (part h kids rest) = kids

-- the sub-patterns below a place, and the one at it
unfoldable pub subs_under : Left → Place → Left
subs_under left [] = left
subs_under left (i ∷ p) = below (sub (subs_under left p) i)

unfoldable pub sub_at : Left → Place → Left
sub_at left [] = end
sub_at left (i ∷ p) = sub (subs_under left p) i

abbrev pub head_here : Left → Option Head
head_here end = none
head_here (hole x ys rest) = none
head_here (part h kids rest) = some h

-- the symbol or abstraction at a place; none where its pattern variable stands there or above
unfoldable pub head_at : Left → Place → Option Head
head_at left p = head_here (sub_at left p)

-- the lowest open place with a symbol or abstraction, by its number
abbrev pub next_number : Option ℕ → Option ℕ
next_number none = none
next_number (some n) = some (suc n)

abbrev pub open_here : Bool → Option Head → Option ℕ → Option ℕ
open_here true h o = next_number o
open_here false none o = next_number o
open_here false (some h) o = some 0

unfoldable pub lowest_open : Left → List Uncovered → Option ℕ
lowest_open left [] = none
lowest_open left (u ∷ us) = open_here u.entered (head_at left u.place) (lowest_open left us)

-- ---- constraints
unfoldable pub is_in : ℕ → List ℕ → Bool
is_in y [] = false
is_in y (z ∷ zs) = eqb y z || is_in y zs

-- each id of the first list is in the second
unfoldable pub among : List ℕ → List ℕ → Bool
among [] zs = true
among (y ∷ ys) zs = is_in y zs && among ys zs

-- "the same constraint: same places and lists; for closedness the list as a set"
unfoldable pub same_constraint : Constraint → Constraint → Bool
same_constraint (closed_at o) (closed_at q) = same_words o.place q.place && (among o.list q.list && among q.list o.list)
same_constraint (closed_at o) (same_at g q) = false
same_constraint (same_at f o) (closed_at q) = false
same_constraint (same_at f o) (same_at g q) =
    (same_words f.place g.place && same_words o.place q.place) && (same_words f.list g.list && same_words o.list q.list)

-- a constraint is in a list
unfoldable pub has : Constraint → List Constraint → Bool
has c [] = false
has c (k ∷ ks) = same_constraint c k || has c ks

-- the constraints that are not struck
unfoldable pub unstruck : List Constraint → List Constraint → List Constraint
unstruck held [] = []
unstruck held (c ∷ cs) = pick (has c held) (unstruck held cs) (c ∷ unstruck held cs)

unfoldable pub constraints_left : OnPath → RuleRow → List Constraint
constraints_left path row = unstruck path.held (constraints row.left)

-- ---- the words and constraints left in the rows
unfoldable pub words_of : Left → ℕ
words_of end = 0
words_of (hole x ys rest) = words_of rest
words_of (part h kids rest) = suc (words_of kids + words_of rest)

unfoldable pub words_left : Left → List Uncovered → ℕ
words_left left [] = 0
words_left left (u ∷ us) = pick u.entered 0 (words_of (sub_at left u.place)) + words_left left us

unfoldable pub size : OnPath → List RuleRow → ℕ
size path [] = 0
size path (row ∷ rows) = words_left row.left path.uncovered + length (constraints_left path row) + size path rows
