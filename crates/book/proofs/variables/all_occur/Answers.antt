-- `variables::all_occur` meets its contract: the variables that are left give the answer.
use Rattle.std.proofs.Common.{sym, ◌∙◌, arith}
use Rattle.book.proofs.Counts.{occur_absent, occur_next, occur_all}
use Rattle.book.proofs.variables.all_occur.Goals as goal

pub returns-then-counted_in-eq-NO_COUNT : goal.returns-then-counted_in-eq-NO_COUNT
returns-then-counted_in-eq-NO_COUNT c =
    occur_absent _ _ c.loop-x.x c.loop-x.invariant (λ z. omega arith) (sym c.counted_in.ensures ∙ c.if-counted_in-eq-NO_COUNT.true)

pub loop-x-preserved : goal.loop-x-preserved
loop-x-preserved c = occur_next _ _ c.loop-x.x c.loop-x.invariant (λ z. omega arith) (λ e. c.if-counted_in-eq-NO_COUNT.false (c.counted_in.ensures ∙ e))

pub returns : goal.returns
returns c = occur_all _ _ c.loop-x.x c.loop-x.invariant (omega arith)
