-- `variables::all_occur`: what is asked of the variables below x is what is asked of all.
use Rattle.std.proofs.Common.{◌≡◌}
use Rattle.book.specs.Rule.{all_occur}
use Rattle.book.proofs.variables.all_occur.Given as goal

abbrev pub invariant-loop-x : goal.invariant-loop-x
invariant-loop-x l = all_occur l.vars l.left ≡ all_occur l.x l.left
