-- `part::part_end` meets its contract: what is left to pass gives the answer, at every turn.
use Rattle.std.proofs.Common.{arith}
use Rattle.term.proofs.Parts.{passed_all, passed_none, passed_one, passed_first, passed_end}
use Rattle.term.proofs.part.part_end.Goals as goal

pub loop-at-init : goal.loop-at-init
loop-at-init c = passed_first _

pub returns-then-left-eq0 : goal.returns-then-left-eq0
returns-then-left-eq0 c = let q = c.loop-at in passed_none _ q.at q.left q.invariant c.if-left-eq0.true

pub loop-at-preserved : goal.loop-at-preserved
loop-at-preserved c = let q = c.loop-at in rw c.count_of.ensures (passed_one _ q.at q.left q.invariant c.loop-at-test.true c.if-left-eq0.false)

pub returns-after-loop-at : goal.returns-after-loop-at
returns-after-loop-at c = let q = c.loop-at in passed_end _ q.at q.left q.invariant (omega arith)

pub returns-then-words-at : goal.returns-then-words-at
returns-then-words-at c = let q = c.loop-at in passed_all _ q.at q.left q.invariant (omega arith) c.if-words-at.true
