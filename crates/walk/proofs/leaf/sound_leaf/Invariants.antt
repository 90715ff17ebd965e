-- The variables left give the answer.
use Rattle.std.proofs.Common.{◌≡◌, ◌-◌, ◌≤◌, length, drop}
use Rattle.walk.specs.Walk.{variables_in}
use Rattle.walk.specs.Told.State.{places_of, sound_leaf}
use Rattle.walk.proofs.leaf.sound_leaf.Given as goal

abbrev pub invariant-loop : goal.invariant-loop
invariant-loop l =
    (l.at ≤ length l.tree)
    × (sound_leaf (places_of l.term l.walk) (variables_in l.n (drop l.from l.tree)) ≡ sound_leaf (places_of l.term l.walk) (variables_in (l.n - l.counter) (drop l.at l.tree)))
