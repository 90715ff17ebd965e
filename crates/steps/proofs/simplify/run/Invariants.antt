-- What is told of the run that is left, after the steps and visits made, is told of the whole run; the budget falls each step.
use Rattle.fit.specs.Match.{tree_of}
use Rattle.steps.specs.Told.Operations.{Cleared}
use Rattle.steps.proofs.Runs.{Running}
use Rattle.steps.proofs.simplify.run.Given as goal

abbrev pub invariant-loop-left : goal.invariant-loop-left
invariant-loop-left l = record { running : Running l.book l.tree l.budget (tree_of l.term) l.area l.size l.left l.visits; cleared : Cleared l.bodies l.lengths }

abbrev pub decreases-loop-left : goal.decreases-loop-left
decreases-loop-left l = l.left
