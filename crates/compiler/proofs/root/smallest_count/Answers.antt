-- Each row passed moves its count from what is left to the best so far.
use Rattle.std.proofs.Common.{arith, ◌*◌}
use Rattle.compiler.specs.Told.Tables.{has_symbol, size_at}
use Rattle.compiler.proofs.RootTables.{lesser_most, smallest_start, smallest_step, smallest_all}
use Rattle.compiler.proofs.root.smallest_count.Goals as goal

pub loop-r-init : goal.loop-r-init
loop-r-init c = (omega arith, smallest_start c.args.fixed.now c.args.marks.now c.args.i)

pub loop-r-preserved : goal.loop-r-preserved
loop-r-preserved c =
    let q = c.loop-r in let s = c.args in (
      omega (arith, c.lesser-best.ensures, lesser_most (has_symbol s.fixed.now s.marks.now s.i q.r) (size_at s.fixed.now (q.r * 64)) q.best),
      smallest_step s.fixed.now s.marks.now s.i _ q.r q.best _ (omega arith) q.invariant.1 c.lesser-best.ensures,
    )

pub returns : goal.returns
returns c = smallest_all c.args.fixed.now c.args.marks.now c.args.i _ c.loop-r.r c.loop-r.best (omega arith) c.loop-r.invariant.0 c.loop-r.invariant.1
