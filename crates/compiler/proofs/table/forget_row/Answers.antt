-- The words of the row that are passed are changed, and those before and after the row are as they came.
use Rattle.std.proofs.Common.{◌*◌, get_or, ◌∙◌, arith}
use Rattle.compiler.specs.Told.Tables.{forgotten}
use Rattle.compiler.proofs.Sweeps.{sweep_start, sweep_next, sweep_end}
use Rattle.compiler.proofs.TableLaws.{in_one, off_one}
use Rattle.compiler.proofs.table.forget_row.Goals as goal

pub loop-k-init : goal.loop-k-init
loop-k-init c = sweep_start _ c.args.nums.now (c.args.r * 64) (λ k h. off_one (forgotten c.args.count) c.args.r k _ (λ z. absurd (omega (arith, z, h))))

pub loop-k-preserved : goal.loop-k-preserved
loop-k-preserved c = let q = c.loop-k in sweep_next q.invariant (omega (arith, q.invariant.long)) (c.up_to.ensures ∙ in_one (forgotten c.args.count) c.args.r q.k (get_or q.nums q.k 0) (omega arith))

pub returns : goal.returns
returns c = sweep_end _ c.args.nums.now c.loop-k.nums _ c.loop-k.invariant (λ k h. off_one (forgotten c.args.count) c.args.r k _ (λ z. absurd (omega (arith, z, h))))
