-- `lengths::length_at` meets its contract: what is left to pass gives where the part ends, at every turn.
use Rattle.std.proofs.Common.{◌-◌, ◌≤◌, ◌<◌, length}
use Rattle.term.proofs.Measures.{Ends}
use Rattle.term.proofs.lengths.length_at.Given as goal

abbrev pub invariant-loop : goal.invariant-loop
invariant-loop l = record { after : l.at < l.next; within : l.next ≤ length l.words; ends : Ends l.words l.at l.next (l.end - l.counter) }
