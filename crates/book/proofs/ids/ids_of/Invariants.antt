-- What was read and what is left of the words give the ids.
use Rattle.std.proofs.Common.{◌≤◌}
use Rattle.book.proofs.IdLoop.{Sofar}
use Rattle.book.proofs.ids.ids_of.Given as goal

abbrev pub invariant-loop-j : goal.invariant-loop-j
invariant-loop-j l = (few : l.k ≤ 4) × Sofar l.k l.words few l.j l.ids
