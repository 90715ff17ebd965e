-- The spots passed are numbered, and what is after the spots is as it came.
use Rattle.std.proofs.Common.{get_or, ◌∙◌, arith}
use Rattle.compiler.proofs.Sweeps.{sweep_start, sweep_next, sweep_end}
use Rattle.compiler.proofs.LoadLaws.{in_roots, past_roots}
use Rattle.compiler.proofs.load.number_roots.Goals as goal

pub loop-k-init : goal.loop-k-init
loop-k-init c = sweep_start _ c.args.nums.now 0 (λ k h. absurd (omega arith))

pub loop-k-preserved : goal.loop-k-preserved
loop-k-preserved c = let q = c.loop-k in sweep_next q.invariant (omega (arith, q.invariant.long)) (c.root_number.ensures ∙ in_roots q.k (get_or q.nums q.k 0) (omega arith))

pub returns : goal.returns
returns c = sweep_end _ c.args.nums.now c.loop-k.nums _ c.loop-k.invariant (λ k h. past_roots k _ (omega arith))
