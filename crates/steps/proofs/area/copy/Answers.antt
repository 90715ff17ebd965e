-- `area::copy` meets its contract: the words copied so far stand there, and the rest is as it came.
use Rattle.std.proofs.Common.{arith}
use lib.Seq.{paste-zero}
use Rattle.steps.proofs.Copies.{copied_more, copied_all}
use Rattle.steps.proofs.area.copy.Goals as goal

pub loop-j-init : goal.loop-j-init
loop-j-init c = paste-zero c.args.to.now c.args.at c.args.from.now

pub loop-j-preserved : goal.loop-j-preserved
loop-j-preserved c = copied_more c.args.to.now c.args.at c.args.from.now c.loop-j.j c.loop-j.to c.requires c.loop-j-test.true c.loop-j.invariant

pub returns : goal.returns
returns c = copied_all c.args.to.now c.args.at c.args.from.now c.loop-j.j _ (omega arith) (omega arith) c.loop-j.invariant
