use Rattle.std.proofs.Common.{◌+◌, ◌≤◌}
use Rattle.text.proofs.Digits.{Rest}
use Rattle.text.proofs.number.read_digits.Given as goal

-- what is left of the digits gives the number
abbrev pub invariant-loop-i : goal.invariant-loop-i
invariant-loop-i l = record { few : l.n ≤ l.most; rest : Rest l.most l.text l.at l.n (l.at + l.i) }
