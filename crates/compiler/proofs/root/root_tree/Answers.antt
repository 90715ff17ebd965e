-- No row is left, or its way is that of the root Switch.
use mathlib.Core.Path.{refl}
use Rattle.compiler.proofs.TableLaws.{some_there, none_there}
use Rattle.compiler.proofs.RootTrees.{root_fails, cases_needs, root_cases_over, root_done}
use Rattle.compiler.proofs.root.root_tree.Goals as goal

pub returns-then-is_none : goal.returns-then-is_none
returns-then-is_none c = let s = c.args in root_fails s.fixed.now s.nums.now s.marks.now s.limit c.requires s.out.now _ refl (none_there 64 _ _ c.first_row.ensures c.if-is_none.ensures) _ c.put.ensures

pub root_cases-requires : goal.root_cases-requires
root_cases-requires c = let s = c.args in cases_needs s.fixed.now s.nums.now s.marks.now s.limit c.requires s.out.now _ refl (some_there 64 _ _ c.first_row.ensures c.if-is_none.ensures) _ c.count_roots-cases.ensures

pub returns-in_err-next : goal.returns-in_err-next
returns-in_err-next c = let s = c.args in rw c.from_residual.ensures (root_cases_over s.fixed.now s.nums.now s.marks.now s.limit c.requires s.out.now _ refl (some_there 64 _ _ c.first_row.ensures c.if-is_none.ensures) _ c.count_roots-cases.ensures _ _ _ _ _ _ c.put-2.ensures c.put-3.ensures c.put-4.ensures _ c.root_cases.ensures c.in_err-next.was)

pub returns : goal.returns
returns c = let s = c.args in root_done s.fixed.now s.nums.now s.marks.now s.limit c.requires s.out.now _ refl (some_there 64 _ _ c.first_row.ensures c.if-is_none.ensures) _ c.count_roots-cases.ensures _ _ _ _ _ _ c.put-2.ensures c.put-3.ensures c.put-4.ensures _ c.root_cases.ensures _ c.in_ok-next.was _ _ c.put-5.ensures refl
