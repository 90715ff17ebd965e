-- The rules passed stand at their spots, and loading the next one keeps them there.
use Rattle.std.proofs.Common.{arith}
use Rattle.compiler.proofs.LoadLaws.{rules_next}
use Rattle.compiler.proofs.load.load_rules.Goals as goal

pub loop-r-init : goal.loop-r-init
loop-r-init c = λ q rule h e. absurd (omega (arith, h))

pub loop-r-preserved : goal.loop-r-preserved
loop-r-preserved c = let q = c.loop-r in rules_next c.args.book.now q.r q.fixed _ q.invariant (omega arith) c.load_rule.ensures

pub returns : goal.returns
returns c = λ q rule h e. c.loop-r.invariant q rule (omega arith) e
