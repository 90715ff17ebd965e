-- The levels fall, and what is told of the trees left tells of the whole row.
use Rattle.std.proofs.Common.{◌≡◌, ◌-◌, length, List, ℕ, Option}
use Rattle.term.specs.Told.Walk.{image, RowTold}
use Rattle.term.proofs.image.+renumber_row.Given as goal

abbrev pub decreases-renumber_row : goal.decreases-renumber_row
decreases-renumber_row l = l.levels

abbrev pub invariant-loop : goal.invariant-loop
invariant-loop l =
    record {
      same_length : length l.out ≡ length l.initial.out;
      rest : (last : List ℕ) (r : Option ℕ) → RowTold (image l.way l.d l.list) l.e l.levels (l.count - l.counter) l.words l.a l.out last r
          → RowTold (image l.way l.d l.list) l.e l.levels l.count l.words l.at l.initial.out last r;
    }
