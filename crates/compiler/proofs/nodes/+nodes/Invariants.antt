-- The words and constraints left in the rows fall from each node to its subtrees.
use Rattle.std.proofs.Common.{◌+◌, ◌*◌}
use Rattle.compiler.specs.Told.NodeTold.{left_in_rows}
use Rattle.compiler.proofs.CaseLoops.{CasesSoFar}
use Rattle.compiler.proofs.nodes.+nodes.Given as goal

abbrev pub decreases-case_tree : goal.decreases-case_tree
decreases-case_tree l = 4 * left_in_rows l.fixed.now l.nums.now l.marks.now

abbrev pub decreases-case_trees : goal.decreases-case_trees
decreases-case_trees l = 4 * left_in_rows l.fixed.now l.nums.now l.marks.now + 1

abbrev pub decreases-switch_node : goal.decreases-switch_node
decreases-switch_node l = 4 * left_in_rows l.fixed.now l.nums.now l.marks.now + 2

abbrev pub decreases-test_node : goal.decreases-test_node
decreases-test_node l = 4 * left_in_rows l.fixed.now l.nums.now l.marks.now + 2

abbrev pub decreases-tree_of : goal.decreases-tree_of
decreases-tree_of l = 4 * left_in_rows l.fixed.now l.nums.now l.marks.now + 3

abbrev pub invariant-case_trees-loop-r : goal.invariant-case_trees-loop-r
invariant-case_trees-loop-r l = CasesSoFar l.fixed l.fn.nums l.fn.marks l.limit l.count l.slot l.at l.n l.fn.out l.nums l.marks l.out l.to l.a l.r
