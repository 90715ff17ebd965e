-- A right side is one tree, written under no abstraction.
use Rattle.steps.proofs.Depths.{levels_at}
use Rattle.steps.proofs.WholeRight.{right_written}
use Rattle.steps.proofs.right.write_right.Goals as goal

pub returns : goal.returns
returns c =
    let s = c.args in
    right_written s.right.now s.bodies.now s.lengths.now s.out.now _ _ (rw (c.root-root.ensures, levels_at c.root-root.result _ c.root-root.ensures) at c.write_tree.ensures)
