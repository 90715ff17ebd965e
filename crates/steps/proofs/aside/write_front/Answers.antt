-- Where nothing is set aside, the right side is all that is written.
use Rattle.std.proofs.Common.{arith}
use Rattle.steps.proofs.AsideWrites.{front_plain}
use Rattle.steps.proofs.aside.write_front.Goals as goal

pub returns : goal.returns
returns c =
    let s = c.args in
    rw c.ok_or.ensures.value
    (front_plain s.right.now s.b s.part.now c.requires.0 c.requires.1 s.bodies.now s.lengths.now (omega (arith, c.if-b-count_of.false, c.count_of.ensures)) s.out.now _ c.told-out c.write_right.result c.write_right.ensures)
