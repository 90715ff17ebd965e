-- The lowest so far and the spots left give the answer.
use Rattle.std.proofs.Common.{◌≡◌, ◌+◌, ◌*◌, arith}
use Rattle.compiler.proofs.TableLaws.{lowest_next, lowest_end, place_is}
use Rattle.compiler.proofs.heads.lowest_open.Goals as goal

pub loop-o-init : goal.loop-o-init
loop-o-init c = let z : c.args.r * 64 + 0 ≡ c.args.r * 64 = omega arith in rw z

pub loop-o-preserved : goal.loop-o-preserved
loop-o-preserved c = lowest_next c.args.fixed.now c.args.nums.now c.args.marks.now _ c.args.r c.loop-o.o c.loop-o.best (omega arith) c.loop-o.invariant _ c.lower_at-best.ensures

pub returns : goal.returns
returns c = place_is _ _ _ c.checked_sub.ensures (lowest_end c.args.fixed.now c.args.nums.now c.args.marks.now _ c.args.r c.loop-o.o c.loop-o.best (omega arith) c.loop-o.invariant)
