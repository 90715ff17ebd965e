-- What the functions that make the nodes need and tell, and the number that falls from node to node.
use Rattle.std.specs.Prelude.{ℕ, zero, suc, ◌+◌, ◌*◌, ◌/◌, ◌≤◌, ◌<◌, ◌≡◌, Bool, true, false, ◌&&◌, List, [], ◌∷◌, ◌++◌, length, get_or, Option, Some, None}
use Rattle.std.proofs.lemmas.List.Edits.{sets}
use Rattle.term.specs.Word.{Head, word, InTable}
use Rattle.tree.specs.Tree.{Tree, Cases}
use Rattle.tree.specs.Path.{OnPath, place_numbered}
use Rattle.tree.specs.Compile.{heads, case_rows, entering, cases_of, compile}
use Rattle.tree.specs.Layout.{long, long_cases, case_heads, layout, layout_cases}
use Rattle.compiler.specs.Told.Tables.{many_at, is_free, first_row, head_kind, lowest_from, new_head, is_head_word, is_left, kind_from, row_of, first_constraint}
use Rattle.compiler.specs.Told.Stands.{rows_left, Stands, TreeReady}

-- ---- the words and constraints left in the rows, counted from the tables
-- a place is not entered: it has no number yet, or its number has no mark
abbrev pub unentered : List ℕ → ℕ → Bool
unentered marks zero = true
unentered marks (suc n) = is_free marks (64 + n)

-- a head of a row that is not struck, at a place that is not entered
abbrev pub word_left : List ℕ → List ℕ → List ℕ → ℕ → Bool
word_left fixed nums marks k = is_free marks (k / 64) && (head_kind (get_or fixed k 0) && unentered marks (get_or nums k 0))

-- a constraint of a row that is not struck, not struck itself
abbrev pub constraint_left : List ℕ → List ℕ → ℕ → Bool
constraint_left fixed marks id = is_free marks (row_of (kind_from id) id) && is_left fixed marks id

unfoldable pub left_in_rows : List ℕ → List ℕ → List ℕ → ℕ
left_in_rows fixed nums marks = many_at (word_left fixed nums marks) 0 4096 + many_at (constraint_left fixed marks) 4160 8192

-- ---- what is needed
-- the first row's lowest open place with a symbol or abstraction is n
pub record SwitchReady (fixed nums marks : List ℕ) (limit count at n : ℕ) : Type 0 where
  pub ready : TreeReady fixed nums marks limit count at
  pub room : at < limit
  pub first : first_row marks < 64
  pub lowest : suc n ≡ lowest_from fixed nums marks (first_row marks * 64) 64 0

-- the first row has only pattern variables open, and this is its first constraint
pub record TestReady (fixed nums marks : List ℕ) (limit count at id : ℕ) : Type 0 where
  pub ready : TreeReady fixed nums marks limit count at
  pub room : at < limit
  pub first : first_row marks < 64
  pub none_open : lowest_from fixed nums marks (first_row marks * 64) 64 0 ≡ 0
  pub is : id ≡ first_constraint fixed marks (first_row marks)
  pub some_left : id ≡ 0 → ⊥

-- the root was entered, and the place n is open; the Switch's own mark is newer than every mark, and older than those of its subtrees
pub record CasesReady (fixed nums marks : List ℕ) (limit count at mark n : ℕ) : Type 0 where
  pub sizes : (length fixed ≡ 8256) × (length nums ≡ 4096) × (length marks ≡ 12352)
  pub within : (limit ≤ 16384) × (at ≤ limit + 5000)
  pub older : (k : ℕ) → get_or marks k 0 < mark
  pub newer : mark < at + 17
  pub inner : is_free marks 64 ≡ false
  pub known : n < count
  pub unmarked_place : is_free marks (64 + n) ≡ true
  pub book : List ℕ
  pub path : OnPath
  pub stands : Stands book fixed nums marks count path

-- w is the head that first appears in some row
pub record HeadOfCase (fixed nums marks : List ℕ) (n w : ℕ) : Type 0 where
  pub row : ℕ
  pub within : row < 64
  pub is : w ≡ new_head fixed nums marks n row
  pub head : is_head_word w ≡ true

-- ---- what is told
-- of the tree of one case whose head has the word w, for every path that the tables stand for
unfoldable pub OneTold : (OnPath → Type 0) → (OnPath → Head → Tree) → ℕ → ℕ → ℕ → List ℕ → List ℕ → Option ℕ → Type 0
OneTold stands tree limit at w out done (Some a) =
    (path : OnPath) → stands path → (h : Head) → word h ≡ w → InTable h → (a ≡ at + long (tree path h)) × (done ≡ sets out at (layout at (tree path h)))
OneTold stands tree limit at w out done None = (path : OnPath) → stands path → (h : Head) → word h ≡ w → InTable h → limit < at + long (tree path h)

-- of all cases: their heads and addresses and the default's address are written from `slot` on, their trees from `at` on
unfoldable pub AllTold : (OnPath → Type 0) → (OnPath → Cases) → ℕ → ℕ → ℕ → List ℕ → List ℕ → Option ℕ → Type 0
AllTold stands cases limit slot at out done (Some a) =
    (path : OnPath) → stands path
    → (a ≡ at + long_cases (cases path)) × (done ≡ sets (sets out slot (case_heads at (cases path) ++ (a ∷ []))) at (layout_cases at (cases path)))
AllTold stands cases limit slot at out done None = (path : OnPath) → stands path → limit < at + long_cases (cases path)

-- the cases of a Switch at n
abbrev pub case_tree : List ℕ → List ℕ → ℕ → OnPath → Head → Tree
case_tree book marks n path h = compile (entering n h path) (case_rows (place_numbered n path.uncovered) h (rows_left book marks 0 64))

abbrev pub switch_cases : List ℕ → List ℕ → ℕ → OnPath → Cases
switch_cases book marks n path = cases_of compile path (rows_left book marks 0 64) n (heads (place_numbered n path.uncovered) (rows_left book marks 0 64))

abbrev pub CaseTold : List ℕ → List ℕ → List ℕ → List ℕ → ℕ → ℕ → ℕ → ℕ → ℕ → List ℕ → List ℕ → Option ℕ → Type 0
CaseTold book fixed nums marks limit count at n w out done x = OneTold (Stands book fixed nums marks count) (case_tree book marks n) limit at w out done x

abbrev pub CasesTold : List ℕ → List ℕ → List ℕ → List ℕ → ℕ → ℕ → ℕ → ℕ → ℕ → List ℕ → List ℕ → Option ℕ → Type 0
CasesTold book fixed nums marks limit count slot at n out done x = AllTold (Stands book fixed nums marks count) (switch_cases book marks n) limit slot at out done x
