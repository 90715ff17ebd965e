-- Its way is that of one case of the root.
use Rattle.std.proofs.Common.{arith}
use lib.ListN.{length-set}
use Rattle.compiler.proofs.RootRuns.{root_needs, root_over, root_done}
use Rattle.compiler.proofs.root.root_case.Goals as goal

pub tree_of-requires : goal.tree_of-requires
tree_of-requires c = let s = c.args in root_needs s.fixed.now s.nums.now s.marks.now s.limit s.at s.w c.requires.0 c.requires.1 s.out.now _ (omega arith) c.drop_uncovered.ensures _ c.number_rows.ensures _ c.count_of-more.ensures

pub returns-in_err-next : goal.returns-in_err-next
returns-in_err-next c = let s = c.args in rw c.from_residual.ensures (root_over s.fixed.now s.nums.now s.marks.now s.limit s.at s.w c.requires.0 c.requires.1 s.out.now _ (omega arith) c.drop_uncovered.ensures _ c.number_rows.ensures _ c.count_of-more.ensures _ _ _ _ c.tree_of.ensures c.in_err-next.was, tt)

pub returns : goal.returns
returns c = let s = c.args in root_done s.fixed.now s.nums.now s.marks.now s.limit s.at s.w c.requires.0 c.requires.1 s.out.now _ (omega arith) c.drop_uncovered.ensures _ c.number_rows.ensures _ c.count_of-more.ensures _ _ _ _ c.tree_of.ensures _ c.in_ok-next.was _ _ (omega arith) c.forget.ensures (omega (arith, length-set c.tree_of.new.marks 64 0)) c.unmark.ensures
