-- The levels fall, and what is told of the trees left tells of the whole row.
use Rattle.std.proofs.Common.{ℕ, ◌-◌, Option}
use Rattle.book.specs.Told.Shape.{SideTold}
use Rattle.book.proofs.shape.+side_row.Given as goal

abbrev pub decreases-side_row : goal.decreases-side_row
decreases-side_row l = l.levels

abbrev pub invariant-loop : goal.invariant-loop
invariant-loop l = (r : Option ℕ) → SideTold l.side l.d l.levels (l.count - l.counter) l.words l.a r → SideTold l.side l.d l.levels l.count l.words l.at r
