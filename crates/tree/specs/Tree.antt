-- Document 01, "The tree": decision trees.
use Rattle.std.specs.Prelude.{ℕ, List, [], ◌∷◌, length}
use Rattle.term.specs.Word.{Head}

-- what a Leaf has for a variable: the number of the place of its first occurrence, and its list there
pub record LeafVariable : Type 0 where
  pub at : ℕ
  pub list : List ℕ

-- how long the lists are
unfoldable pub counts_of : List LeafVariable → List ℕ
counts_of [] = []
counts_of (v ∷ vs) = length v.list ∷ counts_of vs

-- what a Leaf holds: the rule's number, how many arguments are set aside, and its variables
pub record LeafNode : Type 0 where
  pub rule : ℕ
  pub aside : ℕ
  pub variables : List LeafVariable

-- places by their numbers. Switch: the place, the cases, the default. Closed: the place, the list, yes, no.
-- Same: the first occurrence's place and the later one's, their lists, yes, no.
mutual
  pub data Tree : Type 0 where
    Fail : Tree
    Leaf : LeafNode → Tree
    Switch : ℕ → Cases → Tree → Tree
    Closed : ℕ → List ℕ → Tree → Tree → Tree
    Same : ℕ → ℕ → List ℕ → List ℕ → Tree → Tree → Tree

  pub data Cases : Type 0 where
    NoCase : Cases
    Case : Head → Tree → Cases → Cases
