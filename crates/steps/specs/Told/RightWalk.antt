-- What the walk that writes a right side tells.
use Rattle.std.specs.Prelude.{ℕ, zero, suc, ◌+◌, ◌≤◌, ◌<◌, ◌≡◌, true, false, Option, Some, None, List, ◌++◌, length, drop}
use Rattle.std.proofs.lemmas.List.Edits.{sets}
use Rattle.term.specs.Word.{count_of, ident_of}
use Rattle.term.specs.Row.{Row, width, words, nesting}
use Rattle.term.specs.Part.{part_end}
use Rattle.fit.specs.Fit.{IsBody}
use Rattle.fit.specs.Told.Told.{TermStands}
use Rattle.fit.specs.Build.{words_at, within_limits}
use Rattle.fit.specs.Told.BuildWalk.{RowBuilt}
use Rattle.steps.specs.Right.{replaced, write}
use Rattle.steps.specs.Told.Told.{RightRow, written_in, variable_in}
use Rattle.steps.specs.Told.Under.{Place, ids_in}

-- the bodies of a rule's variables stand in one list in variable order, with sixteen lengths beside it
pub record BodiesStand (vars : ℕ) (bodies lengths : List ℕ) (b : ℕ → Row) : Type 0 where
  pub few : vars ≤ 16
  pub body : (x : ℕ) → x < vars → IsBody (b x)
  pub same : (x : ℕ) → x < vars → words (b x) ≡ words_at bodies lengths x

-- a row is written from the first word on, or it is over the limits
abbrev pub WrittenWithin : List ℕ → List ℕ → Row → Option ℕ → Type 0
WrittenWithin out done t (Some n) = (within_limits t ≡ true) × (n ≡ length (words t)) × (done ≡ sets out 0 (words t))
WrittenWithin out done t None = within_limits t ≡ false

-- ---- a right side with bodies for its variables
unfoldable pub RightWritten : List ℕ → List ℕ → List ℕ → List ℕ → List ℕ → Option ℕ → Type 0
RightWritten right bodies lengths out done r =
    (vars : ℕ) (k : ℕ → ℕ) (b : ℕ → Row) (p : Row) → RightRow vars k 0 p → width p ≡ 1 → nesting p ≤ 16 → words p ≡ right
    → BodiesStand vars bodies lengths b → WrittenWithin out done (write b 0 p) r

-- ---- where trees of a right side stand in its words
-- the tree after the one at an offset
abbrev pub next_tree : List ℕ → ℕ → ℕ
next_tree right at = at + part_end (drop at right)

-- the tree j trees further on
unfoldable pub child_at : List ℕ → ℕ → ℕ → ℕ
child_at right at zero = at
child_at right at (suc j) = child_at right (next_tree right at) j

-- `count` trees of a right side, under so many of its own abstractions
pub record RightStands (vars : ℕ) (k : ℕ → ℕ) (own count : ℕ) (right : List ℕ) (at : ℕ) (p : Row) (after : List ℕ) : Type 0 where
  pub good : RightRow vars k own p
  pub low : own + nesting p ≤ 16
  pub wide : width p ≡ count
  pub same : drop at right ≡ words p ++ after

-- ---- so many trees of a right side: the offset after what they write
unfoldable pub RightTold : Place → ℕ → ℕ → List ℕ → ℕ → List ℕ → List ℕ → List ℕ → ℕ → List ℕ → Option ℕ → Type 0
RightTold u levels count right at bodies lengths out to done r =
    (vars : ℕ) (k : ℕ → ℕ) (b : ℕ → Row) (p : Row) (after : List ℕ) → RightStands vars k u.own count right at p after → BodiesStand vars bodies lengths b → to ≤ 4096
    → RowBuilt levels out to done (written_in b u.depth (ids_in u) p) r

-- ---- the word of a pattern variable, whose children stand at `at`
unfoldable pub PatternTold : Place → ℕ → ℕ → List ℕ → ℕ → List ℕ → List ℕ → List ℕ → ℕ → List ℕ → Option ℕ → Type 0
PatternTold u levels w right at bodies lengths out to done r =
    (vars : ℕ) (k : ℕ → ℕ) (b : ℕ → Row) (kids : Row) (after : List ℕ) → RightStands vars k u.own (count_of w) right at kids after → BodiesStand vars bodies lengths b → ident_of w < vars → to ≤ 4096
    → RowBuilt levels out to done (replaced (variable_in b u.depth (ids_in u) kids) 0 (b (ident_of w))) r

-- ---- a variable of a body under e abstractions of the body, whose parameters have so many trees at `at` written for them
unfoldable pub VariableTold : Place → ℕ → ℕ → ℕ → ℕ → List ℕ → ℕ → List ℕ → List ℕ → List ℕ → ℕ → List ℕ → Option ℕ → Type 0
VariableTold u e count levels i right at bodies lengths out to done r =
    (vars : ℕ) (k : ℕ → ℕ) (b : ℕ → Row) (kids : Row) (after : List ℕ) → RightStands vars k u.own count right at kids after → BodiesStand vars bodies lengths b → to ≤ 4096
    → RowBuilt levels out to done (variable_in b u.depth (ids_in u) kids e i) r

-- ---- so many trees of a body: the offsets after them and after what they write
abbrev pub BothWritten : ℕ → List ℕ → ℕ → List ℕ → Row → ℕ → Option (ℕ × ℕ) → Type 0
BothWritten levels out to done t end (Some (a, c)) = (a ≡ end) × RowBuilt levels out to done t (Some c)
BothWritten levels out to done t end None = RowBuilt levels out to done t None

unfoldable pub BodyTold : Place → ℕ → ℕ → ℕ → ℕ → List ℕ → ℕ → List ℕ → ℕ → List ℕ → List ℕ → ℕ → List ℕ → Option (ℕ × ℕ) → Type 0
BodyTold u e count levels trees right at bodies from lengths out to done r =
    (vars : ℕ) (k : ℕ → ℕ) (b : ℕ → Row) (kids : Row) (after : List ℕ) (q : Row) (beyond : List ℕ)
    → RightStands vars k u.own count right at kids after → BodiesStand vars bodies lengths b → TermStands trees bodies from q beyond → to ≤ 4096
    → BothWritten levels out to done (replaced (variable_in b u.depth (ids_in u) kids) e q) (from + length (words q)) r
