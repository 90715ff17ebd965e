-- One tree passed leaves one less to pass, and with none left the child is reached.
use Rattle.std.proofs.Common.{◌≡◌, ◌+◌, ◌-◌, arith, sym, ◌∙◌}
use Rattle.steps.proofs.RightTrees.{next_step, child_step, child_end}
use Rattle.steps.proofs.right.child_at.Goals as goal

pub loop-preserved : goal.loop-preserved
loop-preserved c =
    let right = c.args.right.now in
    let passed = c.loop in
    let less : c.args.j - passed.counter - 1 ≡ c.args.j - (passed.counter + 1) = omega arith in
    record {
      within = next_step right passed.child _ passed.invariant.within c.next_tree-child.ensures;
      leads = rw less at (passed.invariant.leads ∙ child_step right passed.child (c.args.j - passed.counter) (λ z. omega (arith, z)) _ c.next_tree-child.ensures);
    }

pub returns : goal.returns
returns c = sym (c.loop.invariant.leads ∙ child_end c.args.right.now c.loop.child (c.args.j - c.loop.counter) (omega arith))
