-- `lengths::measure` meets its contract: the entries from `at` on are written, at every turn.
use Rattle.term.proofs.Measures.{Written}
use Rattle.term.proofs.lengths.measure.Given as goal

abbrev pub invariant-loop-at : goal.invariant-loop-at
invariant-loop-at l = Written l.words l.initial.out l.at l.out
