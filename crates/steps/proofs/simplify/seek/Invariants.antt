-- What is left to seek gives the answer, and the visits made and those left to make are all.
use Rattle.steps.specs.Told.Operations.{Cleared}
use Rattle.steps.proofs.Seeks.{Seeking}
use Rattle.steps.proofs.simplify.seek.Given as goal

abbrev pub invariant-loop-at : goal.invariant-loop-at
invariant-loop-at l = record { cleared : Cleared l.bodies l.lengths; seeking : Seeking l.book l.tree l.term l.at l.visits }
