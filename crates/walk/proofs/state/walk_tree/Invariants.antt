-- The walk from here is the walk from the start, each turn counts one node, and each node is later.
use Rattle.tree.specs.Find.{root_part}
use Rattle.walk.specs.Walk.{walk_from}
use Rattle.walk.specs.Told.State.{part_from, Standing, Visited}
use Rattle.walk.proofs.Walking.{left}
use Rattle.walk.proofs.state.walk_tree.Given as goal

abbrev pub invariant-loop-walk : goal.invariant-loop-walk
invariant-loop-walk l = Standing l.tree l.term (λ fits. walk_from fits l.tree 0 (root_part (part_from l.term 0))) l.walk × Visited l.tree l.term l.walk

abbrev pub decreases-loop-walk : goal.decreases-loop-walk
decreases-loop-walk l = left l.tree l.walk
