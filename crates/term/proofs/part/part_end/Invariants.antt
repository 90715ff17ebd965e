-- `part::part_end` meets its contract: what is left to pass gives the answer, at every turn.
use Rattle.std.proofs.Common.{◌≡◌, ◌+◌, drop}
use Rattle.term.specs.Part.{past, part_end}
use Rattle.term.proofs.part.part_end.Given as goal

abbrev pub invariant-loop-at : goal.invariant-loop-at
invariant-loop-at l = part_end l.words ≡ l.at + past l.left (drop l.at l.words)
