use Rattle.std.proofs.Common.{◌≡◌, ◌-◌, length}
use Rattle.mend.proofs.Keeping.{Reading}
use Rattle.mend.proofs.kept.keep_rules.Given as goal

-- what was read and what is left are the rules present
abbrev pub invariant-loop-a : goal.invariant-loop-a
invariant-loop-a l = record { room : length l.book ≡ 8516; places : length l.olds ≡ 64; reading : Reading l.text l.at l.book l.olds l.a l.old l.new l.to }

abbrev pub decreases-loop-a : goal.decreases-loop-a
decreases-loop-a l = length l.text - l.a
