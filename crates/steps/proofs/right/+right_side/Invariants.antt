-- Of the right side always less is left where a child of a pattern variable is written, and within a body the levels fall; a row is above its trees,
-- a tree of a body above its variable, and these above the rows below them. What is told of the trees left tells of the whole row.
use Rattle.std.proofs.Common.{ℕ, ◌+◌, ◌-◌, ◌*◌, ◌≤◌, List, length}
use Rattle.std.specs.Prelude.{Option}
use Rattle.steps.specs.Told.Under.{place}
use Rattle.steps.specs.Told.RightWalk.{RightTold, BodyTold}
use Rattle.steps.proofs.right.+right_side.Given as goal

abbrev pub decreases-body_row : goal.decreases-body_row
decreases-body_row l = (length l.right.now - l.within.at) * 1024 + (4 * l.within.under.levels + 4)

abbrev pub decreases-body_tree : goal.decreases-body_tree
decreases-body_tree l = (length l.right.now - l.within.at) * 1024 + (4 * l.within.under.levels + 3)

abbrev pub decreases-body_variable : goal.decreases-body_variable
decreases-body_variable l = (length l.right.now - l.within.at) * 1024 + (4 * l.within.under.levels + 2)

abbrev pub decreases-write_pattern : goal.decreases-write_pattern
decreases-write_pattern l = (length l.right.now - l.at) * 1024 + (4 * l.under.levels + 5)

abbrev pub decreases-write_row : goal.decreases-write_row
decreases-write_row l = (length l.right.now - l.at) * 1024 + 2

abbrev pub decreases-write_tree : goal.decreases-write_tree
decreases-write_tree l = (length l.right.now - l.at) * 1024 + 1

abbrev pub invariant-body_row-loop : goal.invariant-body_row-loop
invariant-body_row-loop l =
    (last : List ℕ) (r : Option (ℕ × ℕ))
    → BodyTold (place l.within.under) l.within.e l.within.count l.within.under.levels (l.trees - l.counter) l.right l.within.at l.bodies l.tree l.lengths l.out l.end last r
    → BodyTold (place l.within.under) l.within.e l.within.count l.within.under.levels l.trees l.right l.within.at l.bodies l.from l.lengths l.fn.out l.to last r

abbrev pub invariant-write_row-loop : goal.invariant-write_row-loop
invariant-write_row-loop l =
    record {
      onward : l.at ≤ l.tree;
      within : l.tree ≤ length l.right;
      told :
          (last : List ℕ) (r : Option ℕ) → RightTold (place l.under) l.under.levels (l.count - l.counter) l.right l.tree l.bodies l.lengths l.out l.end last r
          → RightTold (place l.under) l.under.levels l.count l.right l.at l.bodies l.lengths l.fn.out l.to last r;
    }
