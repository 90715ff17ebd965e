-- The variables left give the answer.
use Rattle.std.proofs.Common.{◌≡◌, ◌-◌, ◌≤◌, length, drop}
use Rattle.walk.specs.Walk.{variables_in}
use Rattle.walk.specs.Told.WithBook.{counts_in}
use Rattle.walk.proofs.with_book.counts_fit.Given as goal

abbrev pub invariant-loop-x : goal.invariant-loop-x
invariant-loop-x l = (l.at ≤ length l.tree) × (counts_in l.left 0 (variables_in l.n (drop l.from l.tree)) ≡ counts_in l.left l.x (variables_in (l.n - l.x) (drop l.at l.tree)))
