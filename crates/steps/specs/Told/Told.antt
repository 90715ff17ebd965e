-- A row of a right side, as an accepted book has it, and as it is written in one pass.
use Rattle.std.specs.Prelude.{ℕ, ◌+◌, ◌-◌, ◌≤◌, ◌<◌, ◌≡◌, List, [], ◌∷◌, leb, length}
use Rattle.term.specs.Word.{Head, symbol, abstraction, variable, pattern, count, InTable, pick}
use Rattle.term.specs.Row.{Row, nothing, node, width}
use Rattle.term.specs.Renumber.{inside, to_term}
use Rattle.fit.specs.Constraint.{tree}
use Rattle.steps.specs.Right.{single, write}

-- "kind 2 ids stay within the right side's own abstractions; variables occur in the left with that count": k says how many parameters a variable has
abbrev pub RightHead : ℕ → (ℕ → ℕ) → ℕ → Head → Type 0
RightHead vars k d (symbol i c) = Unit {0}
RightHead vars k d abstraction = Unit {0}
RightHead vars k d (variable i) = i ≤ d
RightHead vars k d (pattern x c) = (x < vars) × (c ≡ k x)

-- every node is in the table, and has as many children as it counts
unfoldable pub RightRow : ℕ → (ℕ → ℕ) → ℕ → Row → Type 0
RightRow vars k d nothing = Unit {0}
RightRow vars k d (node h kids rest) = InTable h × (width kids ≡ count h) × RightHead vars k d h × RightRow vars k (inside h d) kids × RightRow vars k d rest

-- ---- in one pass: under `depth` abstractions of what is written, where the abstractions of the right side, the innermost first, have these ids.
-- Seen from there, a row that is written is a body whose parameters are the right side's abstractions.
unfoldable pub written_in : (ℕ → Row) → ℕ → List ℕ → Row → Row
written_in b depth ids p = to_term depth ids (write b (length ids) p)

-- the ids under e abstractions more
unfoldable pub deeper : ℕ → List ℕ → List ℕ
deeper e [] = []
deeper e (y ∷ ys) = (e + y) ∷ deeper e ys

-- a variable of a body there: its own; the child j, under the body's abstractions too; outside
unfoldable pub variable_in : (ℕ → Row) → ℕ → List ℕ → Row → ℕ → ℕ → Row
variable_in b depth ids kids e i =
    pick (leb i e) (single i)
    (pick (leb i (e + width kids)) (written_in b (e + depth) (deeper e ids) (tree kids (i - e - 1)))
    (single (i - width kids + depth)))
