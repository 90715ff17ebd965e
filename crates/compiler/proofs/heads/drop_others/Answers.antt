-- The rows passed are struck where they have another head, and what is after the rows is as it came.
use Rattle.std.proofs.Common.{arith}
use Rattle.compiler.specs.Told.Tables.{has_other, head_or}
use Rattle.compiler.proofs.Sweeps.{sweep_start, sweep_next, sweep_end}
use Rattle.compiler.proofs.TableLaws.{past_rows}
use Rattle.compiler.proofs.heads.drop_others.Goals as goal

pub loop-r-init : goal.loop-r-init
loop-r-init c = sweep_start _ c.args.marks.now 0 (λ k h. absurd (omega arith))

pub loop-r-preserved : goal.loop-r-preserved
loop-r-preserved c = let q = c.loop-r in sweep_next q.invariant (omega (arith, q.invariant.long)) c.other_mark.ensures

pub returns : goal.returns
returns c = sweep_end _ c.args.marks.now c.loop-r.marks _ c.loop-r.invariant (λ k h. past_rows (has_other c.args.fixed.now c.args.nums.now c.args.n (head_or c.args.w)) c.args.mark k _ (omega arith))
