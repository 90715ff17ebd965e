-- What is left to seek gives the answer, at every turn.
use Rattle.std.proofs.Common.{◌≡◌, ◌-◌, drop}
use Rattle.book.specs.Told.Found.{seek, sides_at}
use Rattle.book.proofs.book.find_rule.Given as goal

abbrev pub invariant-loop : goal.invariant-loop
invariant-loop l = sides_at l.words l.number ≡ seek l.at (l.number - l.counter) (drop l.at l.words)
