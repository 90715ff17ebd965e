-- The levels fall, and a row is above its trees as a tree is above the row of its children. What is told of the trees left tells of the whole row.
use Rattle.std.proofs.Common.{ℕ, ◌+◌, ◌-◌, ◌*◌, List}
use Rattle.fit.specs.Told.Told.{Offsets, FitTold}
use Rattle.fit.proofs.fitting.Pair.+fitting.Given as goal

abbrev pub decreases-fit_row : goal.decreases-fit_row
decreases-fit_row l = 2 * l.levels + 1

abbrev pub decreases-fit_tree : goal.decreases-fit_tree
decreases-fit_tree l = 2 * l.levels

abbrev pub invariant-fit_row-loop : goal.invariant-fit_row-loop
invariant-fit_row-loop l =
    (last : List ℕ) (r : Offsets) → FitTold l.self.vars l.d l.levels (l.count - l.counter) l.self.left.now l.a l.self.term.now l.b l.table last r
    → FitTold l.self.vars l.d l.levels l.count l.self.left.now l.at l.self.term.now l.to l.fn.table last r
