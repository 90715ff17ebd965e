use Rattle.std.proofs.Common.{ℕ, ◌+◌, ◌-◌, ◌≤◌, List, length}
use Rattle.simplify.proofs.Lines.{Left}
use Rattle.simplify.proofs.input.judge_terms.Given as goal

-- the terms so far, before those of the lines left, are the terms
abbrev pub invariant-loop-a : goal.invariant-loop-a
invariant-loop-a l = record { inside : l.a ≤ length l.text; early : l.line + l.at ≤ l.due + l.a; terms : List (List ℕ); left : Left l.due l.text l.at terms l.line l.a }

abbrev pub decreases-loop-a : goal.decreases-loop-a
decreases-loop-a l = length l.text - l.a
