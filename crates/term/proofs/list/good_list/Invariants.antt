-- `list::good_list` meets its contract: what is left of the list gives the answer, at every turn.
use Rattle.std.proofs.Common.{◌≡◌, drop}
use Rattle.term.specs.Renumber.{listed}
use Rattle.term.proofs.list.good_list.Given as goal

abbrev pub invariant-loop-j : goal.invariant-loop-j
invariant-loop-j l = listed l.d l.list ≡ listed l.d (drop l.j l.list)
