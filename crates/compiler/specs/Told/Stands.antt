-- What the compiler's tables stand for: a path, and the rows that are not struck, each a rule seen from the path.
use Rattle.std.specs.Prelude.{ℕ, zero, suc, ◌+◌, ◌-◌, ◌*◌, ◌≤◌, ◌<◌, ◌≡◌, Bool, true, false, not, List, [], ◌∷◌, ◌++◌, eqb, length, get_or, Option as StdOption, Some, None, Ok}
use Rattle.std.proofs.Math.Option.{Option, none, some}
use Rattle.std.proofs.lemmas.List.Edits.{sets}
use Rattle.term.specs.Word.{variable, pattern, word}
use Rattle.term.specs.Renumber.{inside}
use Rattle.book.specs.Book.{Rule, check_book, rule_at}
use Rattle.fit.specs.Left.{Left, end, hole, part}
use Rattle.fit.specs.Constraint.{Place, Occurrence, first_of, Constraint, closed_at, same_at}
use Rattle.fit.specs.Front.{root_arguments}
use Rattle.fit.specs.Match.{left_in}
use Rattle.tree.specs.Path.{Uncovered, OnPath, place_numbered}
use Rattle.tree.specs.Rows.{RuleRow, has}
use Rattle.tree.specs.Told.Covered.{Covered, numbered_as, is_open}
use Rattle.tree.specs.Compile.{compile}
use Rattle.tree.specs.Layout.{long, layout}
use Rattle.compiler.specs.Told.Tables.{is_free, root_has, head_kind}

-- ---- the rows that are not struck, from number r on
-- a rule as a row, where the root has so many arguments
abbrev pub row_with : ℕ → ℕ → Rule → RuleRow
row_with a r rule = record { number = r; vars = rule.vars; left = left_in rule; aside = a - root_arguments (left_in rule) }

abbrev pub row_if : Bool → ℕ → ℕ → Option Rule → List RuleRow → List RuleRow
row_if true a r none rows = rows
row_if true a r (some rule) rows = row_with a r rule ∷ rows
row_if false a r o rows = rows

unfoldable pub rows_left : List ℕ → List ℕ → ℕ → ℕ → List RuleRow
rows_left book marks r zero = []
rows_left book marks r (suc more) = row_if (is_free marks r) (root_has marks) r (rule_at book r) (rows_left book marks (suc r) more)

-- ---- a left side at its spots
-- how many words a left side has
unfoldable pub spread : Left → ℕ
spread end = 0
spread (hole x ys rest) = 1 + length ys + spread rest
spread (part h kids rest) = 1 + spread kids + spread rest

-- the list of a pattern variable, from spot k on
unfoldable pub ListAt : List ℕ → List ℕ → ℕ → List ℕ → Type 0
ListAt fixed nums k [] = Unit {0}
ListAt fixed nums k (y ∷ ys) = (get_or fixed k 0 ≡ word (variable y)) × (get_or nums k 0 ≡ 0) × ListAt fixed nums (suc k) ys

-- the sub-patterns i, i+1, .. below p, under d abstractions, from spot k on: their words, the abstractions passed, the numbers of their places
unfoldable pub LeftAt : List ℕ → List ℕ → List Uncovered → ℕ → Place → ℕ → ℕ → Left → Type 0
LeftAt fixed nums us k p i d end = Unit {0}
LeftAt fixed nums us k p i d (hole x ys rest) =
    (get_or fixed k 0 ≡ word (pattern x (length ys))) × (get_or fixed (4096 + k) 0 ≡ d) × (get_or nums k 0 ≡ numbered_as (i ∷ p) us)
    × ListAt fixed nums (suc k) ys × LeftAt fixed nums us (k + 1 + length ys) p (suc i) d rest
LeftAt fixed nums us k p i d (part h kids rest) =
    (get_or fixed k 0 ≡ word h) × (get_or nums k 0 ≡ numbered_as (i ∷ p) us)
    × LeftAt fixed nums us (suc k) (i ∷ p) 0 (inside h d) kids × LeftAt fixed nums us (k + 1 + spread kids) p (suc i) d rest

-- so many spots from k on have no word
unfoldable pub BlankAt : List ℕ → List ℕ → ℕ → ℕ → Type 0
BlankAt fixed nums k zero = Unit {0}
BlankAt fixed nums k (suc more) = (get_or fixed k 0 ≡ 33554432) × (get_or nums k 0 ≡ 0) × BlankAt fixed nums (suc k) more

-- heads are symbols and abstractions, and pattern variables are neither
unfoldable pub HeadKinds : Left → Type 0
HeadKinds end = Unit {0}
HeadKinds (hole x ys rest) = (head_kind (word (pattern x (length ys))) ≡ false) × HeadKinds rest
HeadKinds (part h kids rest) = (head_kind (word h) ≡ true) × HeadKinds kids × HeadKinds rest

-- ---- the constraints that are struck
-- the occurrences of a left side with their spots
unfoldable pub occurrences_at : ℕ → Place → ℕ → ℕ → Left → List (ℕ × Occurrence)
occurrences_at k p i d end = []
occurrences_at k p i d (hole x ys rest) = (k, record { var = x; place = i ∷ p; depth = d; list = ys }) ∷ occurrences_at (k + 1 + length ys) p (suc i) d rest
occurrences_at k p i d (part h kids rest) = occurrences_at (suc k) (i ∷ p) 0 (inside h d) kids ++ occurrences_at (k + 1 + spread kids) p (suc i) d rest

-- closedness is omitted where k = d, and then its mark says nothing
abbrev pub ClosedStruck : List ℕ → List Constraint → ℕ → Occurrence → Type 0
ClosedStruck marks held k o = eqb (length o.list) o.depth ≡ false → is_free marks (4160 + k) ≡ not (has (closed_at o) held)

abbrev pub SameStruck : List ℕ → List Constraint → ℕ → Option Occurrence → Occurrence → Type 0
SameStruck marks held k none o = Unit {0}
SameStruck marks held k (some f) o = is_free marks (8256 + k) ≡ not (has (same_at f o) held)

-- a constraint is struck just where it holds on the path
unfoldable pub StruckAt : List ℕ → List Constraint → List Occurrence → List (ℕ × Occurrence) → Type 0
StruckAt marks held earlier [] = Unit {0}
StruckAt marks held earlier (s ∷ ss) =
    ClosedStruck marks held s.0 s.1 × SameStruck marks held s.0 (first_of s.1.var earlier) s.1
    × StruckAt marks held (earlier ++ (s.1 ∷ [])) ss

-- ---- a row, and the tables
pub record RowStands (fixed nums marks : List ℕ) (path : OnPath) (r vars : ℕ) (left : Left) : Type 0 where
  pub variables : get_or fixed (8192 + r) 0 ≡ vars
  pub few : vars ≤ 16
  pub short : spread left ≤ 64
  pub here : LeftAt fixed nums path.uncovered (r * 64) [] 0 0 left
  pub blank : (more : ℕ) → spread left + more ≡ 64 → BlankAt fixed nums (r * 64 + spread left) more
  pub kinds : HeadKinds left
  pub covered : Covered path.uncovered [] 0 left
  pub struck : StruckAt marks path.held [] (occurrences_at (r * 64) [] 0 0 left)

pub record Stands (book fixed nums marks : List ℕ) (count : ℕ) (path : OnPath) : Type 0 where
  pub accepted : check_book book ≡ Ok tt
  pub counted : length path.uncovered ≡ count
  pub opened : (n : ℕ) → n < count → is_free marks (64 + n) ≡ is_open n path.uncovered
  pub later : (n : ℕ) → count ≤ n → n < 4096 → is_free marks (64 + n) ≡ true
  -- no place has two numbers; what is uncovered below a place is so because the place was entered
  pub once : (n m : ℕ) → n < count → m < count → place_numbered n path.uncovered ≡ place_numbered m path.uncovered → n ≡ m
  pub new : (n i : ℕ) → is_open n path.uncovered ≡ true → numbered_as (i ∷ place_numbered n path.uncovered) path.uncovered ≡ 0
  pub above : (i j : ℕ) (p : Place) → numbered_as (j ∷ p) path.uncovered ≡ 0 → numbered_as (i ∷ j ∷ p) path.uncovered ≡ 0
  -- the root's number is 0 in every row, and each number over 15 is that of some spot: there are at most 4,096 places
  pub roots : (r : ℕ) → r < 64 → get_or nums (r * 64) 0 ≡ 1
  pub used : (n : ℕ) → 15 < n → n < count → (k : ℕ) × (k < 4096) × (get_or nums k 0 ≡ suc n)
  pub most : (k : ℕ) → get_or nums k 0 ≤ count
  pub absent : (r : ℕ) → r < 64 → rule_at book r ≡ none → is_free marks r ≡ false
  pub rows : (r : ℕ) (rule : Rule) → r < 64 → is_free marks r ≡ true → rule_at book r ≡ some rule → RowStands fixed nums marks path r rule.vars (left_in rule)

-- ---- what the compiler tells of the tree of the rows that are not struck, from the address `at` on
unfoldable pub TreeTold : List ℕ → List ℕ → List ℕ → List ℕ → ℕ → ℕ → ℕ → List ℕ → List ℕ → StdOption ℕ → Type 0
TreeTold book fixed nums marks limit count at out done (Some a) =
    (path : OnPath) → Stands book fixed nums marks count path
    → (a ≡ at + long (compile path (rows_left book marks 0 64))) × (done ≡ sets out at (layout at (compile path (rows_left book marks 0 64))))
TreeTold book fixed nums marks limit count at out done None =
    (path : OnPath) → Stands book fixed nums marks count path → limit < at + long (compile path (rows_left book marks 0 64))

-- ---- the cycle of calls that makes a tree
-- what it needs: tables of their sizes that stand for some path on which the root was entered, and marks older than those of a node at this address
pub record TreeReady (fixed nums marks : List ℕ) (limit count at : ℕ) : Type 0 where
  pub sizes : (length fixed ≡ 8256) × (length nums ≡ 4096) × (length marks ≡ 12352)
  pub within : (limit ≤ 16384) × (at ≤ limit + 5000)
  pub older : (k : ℕ) → get_or marks k 0 < at + 17
  pub inner : is_free marks 64 ≡ false
  pub book : List ℕ
  pub path : OnPath
  pub stands : Stands book fixed nums marks count path

-- the tables are left as they were found, and the offset after the tree is past its address by no more than a node of a compiled tree takes
abbrev pub TreeKept : List ℕ → List ℕ → ℕ → ℕ → List ℕ → List ℕ → StdOption ℕ → Type 0
TreeKept nums marks limit at nums-after marks-after (Some a) = (nums-after ≡ nums) × (marks-after ≡ marks) × (at ≤ a) × (a ≤ limit + 5000)
TreeKept nums marks limit at nums-after marks-after None = Unit {0}
