-- Document 01, "The tree": "Layout, addresses as word numbers, each node followed by its subtrees in order." Document 02: "A Leaf holds, after n, how many arguments are
-- set aside".
use Rattle.std.specs.Prelude.{ℕ, suc, ◌+◌, ◌*◌, List, [], ◌∷◌, ◌++◌, length}
use Rattle.term.specs.Word.{word}
use Rattle.tree.specs.Tree.{LeafVariable, Tree, Fail, Leaf, Switch, Closed, Same, Cases, NoCase, Case}
use Rattle.tree.specs.Root.{book_tree}

-- for each variable, in order, the place, k, the list
unfoldable pub variable_words : List LeafVariable → List ℕ
variable_words [] = []
variable_words (v ∷ vs) = v.at ∷ length v.list ∷ (v.list ++ variable_words vs)

unfoldable pub case_count : Cases → ℕ
case_count NoCase = 0
case_count (Case h x cs) = suc (case_count cs)

-- how many words a tree takes
unfoldable mutual
  pub long : Tree → ℕ
  long Fail = 1
  long (Leaf leaf) = 4 + length (variable_words leaf.variables)
  long (Switch n cs default) = 4 + 2 * case_count cs + long_cases cs + long default
  long (Closed n ys ifYes ifNo) = 5 + length ys + long ifYes + long ifNo
  long (Same n m ys zs ifYes ifNo) = 6 + length ys + length zs + long ifYes + long ifNo

  pub long_cases : Cases → ℕ
  long_cases NoCase = 0
  long_cases (Case h x cs) = long x + long_cases cs

-- (head word, address) each: the trees of the cases stand one after the other from this address on
unfoldable pub case_heads : ℕ → Cases → List ℕ
case_heads at NoCase = []
case_heads at (Case h x cs) = word h ∷ at ∷ case_heads (at + long x) cs

-- the words of a tree that begins at this address
unfoldable mutual
  pub layout : ℕ → Tree → List ℕ
  layout at Fail = 0 ∷ []
  layout at (Leaf leaf) = 1 ∷ leaf.rule ∷ length leaf.variables ∷ leaf.aside ∷ variable_words leaf.variables
  layout at (Switch n cs default) =
      let next = at + 4 + 2 * case_count cs in
      2 ∷ n ∷ case_count cs ∷ (case_heads next cs ++ ((next + long_cases cs) ∷ (layout_cases next cs ++ layout (next + long_cases cs) default)))
  layout at (Closed n ys ifYes ifNo) =
      let next = at + 5 + length ys in
      3 ∷ n ∷ length ys ∷ (ys ++ (next ∷ (next + long ifYes) ∷ (layout next ifYes ++ layout (next + long ifYes) ifNo)))
  layout at (Same n m ys zs ifYes ifNo) =
      let next = at + 6 + length ys + length zs in
      4 ∷ n ∷ m ∷ length ys ∷ (ys ++ (zs ++ (next ∷ (next + long ifYes) ∷ (layout next ifYes ++ layout (next + long ifYes) ifNo))))

  pub layout_cases : ℕ → Cases → List ℕ
  layout_cases at NoCase = []
  layout_cases at (Case h x cs) = layout at x ++ layout_cases (at + long x) cs

-- the words of a book's tree
unfoldable pub tree_words : List ℕ → List ℕ
tree_words book = layout 0 (book_tree book)
