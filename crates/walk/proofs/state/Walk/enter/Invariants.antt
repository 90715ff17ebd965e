-- What is left of the children is appended, one after the other.
use Rattle.std.proofs.Common.{◌≡◌, ◌-◌}
use Rattle.tree.specs.Find.{enter_part}
use Rattle.walk.specs.Told.State.{places_of}
use Rattle.walk.proofs.Entering.{Entering}
use Rattle.walk.proofs.state.Walk.enter.Given as goal

abbrev pub invariant-loop : goal.invariant-loop
invariant-loop l =
    Entering l.term (enter_part l.n (places_of l.term l.fn.self)) l.inner l.self.offsets l.self.depths l.self.entered l.count l.from (l.more - l.counter)
    × (l.self.stands ≡ l.fn.self.stands)
    × (l.self.visits ≡ l.fn.self.visits)
