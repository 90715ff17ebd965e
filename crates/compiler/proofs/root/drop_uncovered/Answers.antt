-- The rows passed are changed, and what is after them is as it came.
use native.Mathlib.Omega.{arith}
use Rattle.compiler.specs.Told.Tables.{leaves_out, struck_rows}
use Rattle.compiler.proofs.Sweeps.{sweep_end}
use Rattle.compiler.proofs.TableLaws.{past_rows}
use Rattle.compiler.proofs.root.drop_uncovered.Goals as goal

pub returns : goal.returns
returns c = let s = c.args in let q = c.loop-r in
    sweep_end (struck_rows (leaves_out s.fixed.now s.w) 17) s.marks.now q.marks q.r q.invariant (λ k h. past_rows (leaves_out s.fixed.now s.w) 17 k _ (omega arith))
