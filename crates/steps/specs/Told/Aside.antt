-- The root of what is written, and arguments behind it.
use Rattle.std.specs.Prelude.{ℕ, ◌+◌, ◌≤◌, ◌<◌, ◌≡◌, Option, Some, None, List, ◌∷◌, ◌++◌, eqb, length, take, drop}
use Rattle.term.specs.Word.{Head, symbol, abstraction, variable, pattern, word, kind_of, pick}
use Rattle.term.specs.Row.{Row, nothing, node}
use Rattle.steps.specs.Right.{write}
use Rattle.steps.specs.Told.RightWalk.{BodiesStand, RightStands}

-- the word of a symbol, none of anything else
abbrev pub root_head : Head → Option ℕ
root_head (symbol i c) = Some (word (symbol i c))
root_head abstraction = None
root_head (variable i) = None
root_head (pattern x c) = None

unfoldable pub root_is : Row → Option ℕ
root_is nothing = None
root_is (node h kids rest) = root_head h

-- the same from a word
abbrev pub root_of_word : ℕ → Option ℕ
root_of_word w = pick (eqb (kind_of w) 0) (Some w) None

-- the root of what the tree of a right side at an offset writes
unfoldable pub RootTold : List ℕ → ℕ → List ℕ → List ℕ → Option ℕ → Type 0
RootTold right at bodies lengths r =
    (vars : ℕ) (k : ℕ → ℕ) (b : ℕ → Row) (p : Row) (after : List ℕ) → RightStands vars k 0 1 right at p after → BodiesStand vars bodies lengths b → r ≡ root_is (write b 0 p)

-- arguments behind the first n words, with another first word
unfoldable pub AttachTold : List ℕ → ℕ → ℕ → List ℕ → List ℕ → Option ℕ → Type 0
AttachTold new n first arguments done (Some size) =
    (size ≡ n + length arguments) × (size ≤ 4096) × (0 < n → take size done ≡ first ∷ (drop 1 (take n new) ++ arguments))
AttachTold new n first arguments done None = 4096 < n + length arguments
