-- The levels fall, and a row is above its trees as a tree is above the row of its children. What is told of the trees left tells of the whole row.
use Rattle.std.proofs.Common.{ℕ, ◌+◌, ◌-◌, ◌*◌, List}
use Rattle.fit.specs.Told.Told.{Offsets}
use Rattle.fit.specs.Told.BuildWalk.{LeftBuilt}
use Rattle.fit.proofs.build.+building.Given as goal

abbrev pub decreases-build_row : goal.decreases-build_row
decreases-build_row l = 2 * l.levels + 1

abbrev pub decreases-build_tree : goal.decreases-build_tree
decreases-build_tree l = 2 * l.levels

abbrev pub invariant-build_row-loop : goal.invariant-build_row-loop
invariant-build_row-loop l =
    (last : List ℕ) (r : Offsets) → LeftBuilt l.d l.levels (l.count - l.counter) l.left l.a l.bodies.words.now l.bodies.lengths.now l.out l.b last r
    → LeftBuilt l.d l.levels l.count l.left l.at l.bodies.words.now l.bodies.lengths.now l.fn.out l.to last r
