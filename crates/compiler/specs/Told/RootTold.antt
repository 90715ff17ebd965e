-- What the functions that make the root Switch need and tell.
use Rattle.std.specs.Prelude.{ℕ, ◌+◌, ◌≤◌, ◌<◌, ◌≡◌, List, length, get_or, Option, Some, None}
use Rattle.std.proofs.lemmas.List.Edits.{sets}
use Rattle.term.specs.Word.{Head, symbol, word}
use Rattle.tree.specs.Tree.{Tree, Cases}
use Rattle.tree.specs.Path.{OnPath, start}
use Rattle.tree.specs.Compile.{entering, compile}
use Rattle.tree.specs.Root.{root_heads, root_case_rows, root_cases, root_tree}
use Rattle.tree.specs.Layout.{long, layout}
use Rattle.compiler.specs.Told.Stands.{rows_left, Stands}
use Rattle.compiler.specs.Told.NodeTold.{OneTold, AllTold}

-- ---- what is needed
-- tables of their sizes that stand for the start of a path, and no node's mark
pub record RootReady (fixed nums marks : List ℕ) (limit : ℕ) : Type 0 where
  pub sizes : (length fixed ≡ 8256) × (length nums ≡ 4096) × (length marks ≡ 12352)
  pub most : limit ≤ 16384
  pub low : (k : ℕ) → get_or marks k 0 < 2
  pub book : List ℕ
  pub stands : Stands book fixed nums marks 1 start

-- the trees of cases stand after the node
pub record RootCasesReady (fixed nums marks : List ℕ) (limit at : ℕ) : Type 0 where
  pub ready : RootReady fixed nums marks limit
  pub begun : 0 < at
  pub room : at ≤ limit + 5000

-- w is the word of a symbol that the table has
pub record RootHead (w : ℕ) : Type 0 where
  pub ident : ℕ
  pub arguments : ℕ
  pub few : arguments ≤ 15
  pub low : ident ≤ 1023
  pub is : word (symbol ident arguments) ≡ w

-- ---- what is told
abbrev pub AtStart : List ℕ → List ℕ → List ℕ → List ℕ → OnPath → Type 0
AtStart book fixed nums marks path = Stands book fixed nums marks 1 start

-- of one case, and of all
abbrev pub root_case_tree : List ℕ → List ℕ → OnPath → Head → Tree
root_case_tree book marks path h = compile (entering 0 h start) (root_case_rows h (rows_left book marks 0 64))

abbrev pub root_cases_for : List ℕ → List ℕ → OnPath → List Head → Cases
root_cases_for book marks path hs = root_cases (rows_left book marks 0 64) hs

abbrev pub RootCaseTold : List ℕ → List ℕ → List ℕ → List ℕ → ℕ → ℕ → ℕ → List ℕ → List ℕ → Option ℕ → Type 0
RootCaseTold book fixed nums marks limit at w out done x = OneTold (AtStart book fixed nums marks) (root_case_tree book marks) limit at w out done x

abbrev pub RootCasesTold : List ℕ → List ℕ → List ℕ → List ℕ → ℕ → ℕ → ℕ → List ℕ → List ℕ → Option ℕ → Type 0
RootCasesTold book fixed nums marks limit slot at out done x =
    AllTold (AtStart book fixed nums marks) (λ path. root_cases_for book marks path (root_heads (rows_left book marks 0 64))) limit slot at out done x

-- of the whole tree
unfoldable pub RootTold : List ℕ → List ℕ → List ℕ → List ℕ → ℕ → List ℕ → List ℕ → Option ℕ → Type 0
RootTold book fixed nums marks limit out done (Some a) =
    Stands book fixed nums marks 1 start → (a ≡ long (root_tree (rows_left book marks 0 64))) × (done ≡ sets out 0 (layout 0 (root_tree (rows_left book marks 0 64))))
RootTold book fixed nums marks limit out done None = Stands book fixed nums marks 1 start → limit < long (root_tree (rows_left book marks 0 64))
