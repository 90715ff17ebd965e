-- The words and the abstractions passed are written offset by offset, and the variables after them.
use Rattle.std.proofs.Common.{arith}
use Rattle.compiler.proofs.LoadLaws.{row_start, row_next, row_loaded}
use Rattle.compiler.proofs.load.load_row.Goals as goal

pub loop-o-init : goal.loop-o-init
loop-o-init c = row_start c.args.left.now c.args.r c.args.fixed.now

pub loop-o-preserved : goal.loop-o-preserved
loop-o-preserved c = let q = c.loop-o in
    row_next c.args.left.now c.args.r q.o _ _ c.args.fixed.now q.fixed q.invariant c.requires (omega arith) (omega arith) c.word_or.ensures c.depth_or.ensures

pub returns : goal.returns
returns c = let q = c.loop-o in row_loaded c.args.left.now c.args.vars c.args.r q.o c.args.fixed.now q.fixed q.invariant c.requires (omega arith) (omega arith)
