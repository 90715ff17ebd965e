-- The body is written, or there is none or no room for it.
use Rattle.std.proofs.Common.{sym, arith, length-take-le}
use Rattle.walk.proofs.Leaves.{part_none, part_said}
use Rattle.walk.proofs.leaf.write_part.Goals as goal

pub returns-then-out-long : goal.returns-then-out-long
returns-then-out-long c =
    let s = c.args in part_none s.d s.list.now s.words.now s.out.now _ c.part_end-long.ensures c.if-out-long.true _

pub slice_bounds-write_body-end-2 : goal.slice_bounds-write_body-end-2
slice_bounds-write_body-end-2 c = sym (length-take-le _ _ (omega (arith, c.if-out-long.false)))

pub returns : goal.returns
returns c =
    let s = c.args in
    rw c.ok.ensures.value
    (part_said s.d s.list.now s.words.now s.out.now _ c.part_end-long.ensures (omega (arith, c.if-out-long.false)) c.requires _ _ c.write_body.ensures.0 c.write_body.ensures.1)
