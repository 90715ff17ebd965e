use Rattle.std.proofs.Common.{◌≡◌, ◌-◌, length, take}
use Rattle.std.proofs.lemmas.List.Edits.{sets}
use Rattle.text.proofs.lent.put_all.Given as goal

-- what was passed lies there
abbrev pub invariant-loop-to : goal.invariant-loop-to
invariant-loop-to g l = (length l.out ≡ length l.initial.out) × (l.out ≡ sets l.initial.out l.at (take (l.to - l.at) l.from))
