-- Each way through a node keeps what the tables say, and writes what is told of it.
use native.Mathlib.Omega.{arith}
use mathlib.Core.Path.{◌≡◌, refl, sym, ◌∙◌}
use Prim.Native.Nat.{suc, ◌+◌, ◌-◌}
use lib.ListN.{length-set}
use Rattle.compiler.specs.Told.Tables.{mark_at}
use Rattle.compiler.proofs.KindLaws.{kind_is}
use Rattle.compiler.proofs.Readies.{place_small, case_places, case_place}
use Rattle.compiler.proofs.TestRuns.{slot_most, yes_needs, yes_over, no_needs, no_over, test_done}
use Rattle.compiler.proofs.SwitchRuns.{cases_needs, switch_cases_over, default_needs, switch_default_over, switch_done, case_needs, case_over, case_done}
use Rattle.compiler.proofs.CaseLoops.{place_low, so_far_skip, so_far_over, so_far_next, so_far_end}
use Rattle.compiler.proofs.TreeRuns.{row_few, tree_full, tree_fails, lowest_needs, switch_needs, test_needs, leaf_needs, tree_leaf}
use Rattle.compiler.proofs.TableLaws.{some_gives, none_gives, place_some, place_none}
use Rattle.compiler.proofs.nodes.+nodes.Goals as goal

pub case_tree-drop_others-requires : goal.case_tree-drop_others-requires
case_tree-drop_others-requires t c =
    let s = c.args in case_place s.fixed.now s.nums.now s.marks.now s.limit s.count s.at s.mark s.n s.w c.requires.0 c.requires.1

pub case_tree-number_rows-requires : goal.case_tree-number_rows-requires
case_tree-number_rows-requires t c =
    let s = c.args in (case_place s.fixed.now s.nums.now s.marks.now s.limit s.count s.at s.mark s.n s.w c.requires.0 c.requires.1, case_places s.fixed.now s.nums.now s.marks.now s.limit s.count s.at s.mark s.n s.w c.requires.0 c.requires.1)

pub case_tree-bounds-marks-n : goal.case_tree-bounds-marks-n
case_tree-bounds-marks-n t c =
    let s = c.args in omega (arith, case_place s.fixed.now s.nums.now s.marks.now s.limit s.count s.at s.mark s.n s.w c.requires.0 c.requires.1)

pub case_tree-overflow_add-count : goal.case_tree-overflow_add-count
case_tree-overflow_add-count t c =
    let s = c.args in omega (arith, c.count_of-more.ensures, case_places s.fixed.now s.nums.now s.marks.now s.limit s.count s.at s.mark s.n s.w c.requires.0 c.requires.1)

pub case_tree-tree_of-requires : goal.case_tree-tree_of-requires
case_tree-tree_of-requires t c =
    let s = c.args in let x = case_needs s.fixed.now s.nums.now s.marks.now s.limit s.count s.at s.mark s.n s.w c.requires.0 c.requires.1 s.out.now _ (omega arith) c.drop_others.ensures _ c.number_rows.ensures in (omega (arith, c.decreases, x.0), rw (← c.count_of-more.ensures) at x.1)

pub case_tree-returns-in_err-next : goal.case_tree-returns-in_err-next
case_tree-returns-in_err-next t c =
    let s = c.args in rw c.from_residual.ensures (case_over s.fixed.now s.nums.now s.marks.now s.limit s.count s.at s.mark s.n s.w c.requires.0 c.requires.1 s.out.now _ (omega arith) c.drop_others.ensures _ c.number_rows.ensures _ _ _ _ (rw c.count_of-more.ensures at c.tree_of.ensures) c.in_err-next.was, tt)

pub case_tree-bounds-marks-n-2 : goal.case_tree-bounds-marks-n-2
case_tree-bounds-marks-n-2 t c =
    let s = c.args in omega (arith, case_place s.fixed.now s.nums.now s.marks.now s.limit s.count s.at s.mark s.n s.w c.requires.0 c.requires.1)

pub case_tree-returns : goal.case_tree-returns
case_tree-returns t c =
    let s = c.args in case_done s.fixed.now s.nums.now s.marks.now s.limit s.count s.at s.mark s.n s.w c.requires.0 c.requires.1 s.out.now _ (omega arith) c.drop_others.ensures _ c.number_rows.ensures _ _ _ _ (rw c.count_of-more.ensures at c.tree_of.ensures) _ c.in_ok-next.was _ _ (omega arith) c.forget.ensures (omega (arith, length-set c.tree_of.new.marks (64 + s.n) 0)) c.unmark.ensures

pub case_trees-new_head-requires : goal.case_trees-new_head-requires
case_trees-new_head-requires t c =
    let s = c.args in (c.loop-r-test.true, place_low s.fixed.now s.nums.now s.marks.now s.limit s.count s.slot s.at s.mark s.n s.out.now c.requires)

pub case_trees-loop-r-preserved-in_default : goal.case_trees-loop-r-preserved-in_default
case_trees-loop-r-preserved-in_default t c =
    let s = c.args in let q = c.loop-r in so_far_skip s.fixed.now s.nums.now s.marks.now s.limit s.count s.slot s.at s.mark s.n s.out.now c.requires q.nums q.marks q.out q.to q.a q.r q.invariant c.loop-r-test.true 33554432 (none_gives _ _ (sym c.in_default.is ∙ c.new_head.ensures)) refl

pub case_trees-returns-in_err-a : goal.case_trees-returns-in_err-a
case_trees-returns-in_err-a t c =
    let s = c.args in let q = c.loop-r in let w = some_gives 33554432 _ _ (sym c.in-Some.is ∙ c.new_head.ensures) in rw c.from_residual.ensures (so_far_over s.fixed.now s.nums.now s.marks.now s.limit s.count s.slot s.at s.mark s.n s.out.now c.requires q.nums q.marks q.out q.to q.a q.r q.invariant c.loop-r-test.true _ w.0 w.1 _ _ _ _ _ c.case_tree.ensures c.in_err-a.was, tt)

pub case_trees-loop-r-preserved : goal.case_trees-loop-r-preserved
case_trees-loop-r-preserved t c =
    let s = c.args in let q = c.loop-r in let w = some_gives 33554432 _ _ (sym c.in-Some.is ∙ c.new_head.ensures) in so_far_next s.fixed.now s.nums.now s.marks.now s.limit s.count s.slot s.at s.mark s.n s.out.now c.requires q.nums q.marks q.out q.to q.a q.r q.invariant c.loop-r-test.true _ w.0 w.1 _ _ _ _ _ c.case_tree.ensures _ c.in_ok-a.was _ c.put.ensures c.put-in-loop-r.ensures (c.case_tree.auto.out ∙ c.put-in-loop-r.auto.out ∙ c.put.auto.out)

pub case_trees-returns : goal.case_trees-returns
case_trees-returns t c =
    let s = c.args in let q = c.loop-r in so_far_end s.fixed.now s.nums.now s.marks.now s.limit s.count s.slot s.at s.mark s.n s.out.now c.requires q.nums q.marks q.out q.to q.a q.r q.invariant c.loop-r-test.false _ c.put-2.ensures

pub switch_node-count_heads-cases-requires : goal.switch_node-count_heads-cases-requires
switch_node-count_heads-cases-requires t c =
    let s = c.args in place_small s.fixed.now s.nums.now s.marks.now s.limit s.count s.at s.n c.requires

pub switch_node-case_trees-requires : goal.switch_node-case_trees-requires
switch_node-case_trees-requires t c =
    let s = c.args in (omega (arith, c.decreases), cases_needs s.fixed.now s.nums.now s.marks.now s.limit s.count s.at s.n c.requires (s.at + 17) refl s.out.now _ c.count_heads-cases.ensures)

pub switch_node-returns-in_err-next : goal.switch_node-returns-in_err-next
switch_node-returns-in_err-next t c =
    let s = c.args in rw c.from_residual.ensures (switch_cases_over s.fixed.now s.nums.now s.marks.now s.limit s.count s.at s.n c.requires (s.at + 17) refl s.out.now _ c.count_heads-cases.ensures _ _ _ _ _ _ c.put.ensures c.put-2.ensures c.put-3.ensures _ c.case_trees.ensures c.in_err-next.was, tt)

pub switch_node-drop_others-requires : goal.switch_node-drop_others-requires
switch_node-drop_others-requires t c =
    let s = c.args in place_small s.fixed.now s.nums.now s.marks.now s.limit s.count s.at s.n c.requires

pub switch_node-tree_of-requires : goal.switch_node-tree_of-requires
switch_node-tree_of-requires t c =
    let s = c.args in let x = default_needs s.fixed.now s.nums.now s.marks.now s.limit s.count s.at s.n c.requires (s.at + 17) refl s.out.now _ c.count_heads-cases.ensures _ _ _ _ _ _ c.put.ensures c.put-2.ensures c.put-3.ensures _ c.case_trees.ensures _ c.in_ok-next.was _ (omega arith) c.drop_others.ensures in (omega (arith, c.decreases, x.0), x.1)

pub switch_node-returns-in_err-end : goal.switch_node-returns-in_err-end
switch_node-returns-in_err-end t c =
    let s = c.args in rw c.from_residual-in_err-end.ensures (switch_default_over s.fixed.now s.nums.now s.marks.now s.limit s.count s.at s.n c.requires (s.at + 17) refl s.out.now _ c.count_heads-cases.ensures _ _ _ _ _ _ c.put.ensures c.put-2.ensures c.put-3.ensures _ c.case_trees.ensures _ c.in_ok-next.was _ (omega arith) c.drop_others.ensures _ _ _ _ c.tree_of.ensures c.in_err-end.was, tt)

pub switch_node-returns : goal.switch_node-returns
switch_node-returns t c =
    let s = c.args in switch_done s.fixed.now s.nums.now s.marks.now s.limit s.count s.at s.n c.requires (s.at + 17) refl s.out.now _ c.count_heads-cases.ensures _ _ _ _ _ _ c.put.ensures c.put-2.ensures c.put-3.ensures _ c.case_trees.ensures _ c.in_ok-next.was _ (omega arith) c.drop_others.ensures _ _ _ _ c.tree_of.ensures _ c.in_ok-end.was _ (omega arith) c.unmark.ensures

pub test_node-put_front-slot-requires : goal.test_node-put_front-slot-requires
test_node-put_front-slot-requires t c =
    let s = c.args in omega (arith, c.requires.room, c.requires.ready.within.0)

pub test_node-overflow_cast-slot : goal.test_node-overflow_cast-slot
test_node-overflow_cast-slot t c =
    let s = c.args in omega (arith, c.requires.ready.within.0, slot_most s.fixed.now s.nums.now s.marks.now s.limit s.count s.at (mark_at s.own) c.requires (s.at + 17) refl s.out.now _ c.put_front-slot.ensures.1)

pub test_node-overflow_add-slot : goal.test_node-overflow_add-slot
test_node-overflow_add-slot t c =
    let s = c.args in omega (arith, c.requires.ready.within.0, slot_most s.fixed.now s.nums.now s.marks.now s.limit s.count s.at (mark_at s.own) c.requires (s.at + 17) refl s.out.now _ c.put_front-slot.ensures.1)

pub test_node-overflow_add-slot-2 : goal.test_node-overflow_add-slot-2
test_node-overflow_add-slot-2 t c =
    let s = c.args in omega (arith, c.requires.ready.within.0, slot_most s.fixed.now s.nums.now s.marks.now s.limit s.count s.at (mark_at s.own) c.requires (s.at + 17) refl s.out.now _ c.put_front-slot.ensures.1)

pub test_node-tree_of-requires : goal.test_node-tree_of-requires
test_node-tree_of-requires t c =
    let s = c.args in let x = yes_needs s.fixed.now s.nums.now s.marks.now s.limit s.count s.at (mark_at s.own) c.requires (s.at + 17) refl s.out.now _ c.put_front-slot.ensures.1 _ _ _ c.put_front-slot.ensures.0 c.put.ensures (omega arith) c.strike.ensures in (omega (arith, c.decreases, x.0), x.1)

pub test_node-returns-in_err-next : goal.test_node-returns-in_err-next
test_node-returns-in_err-next t c =
    let s = c.args in rw c.from_residual.ensures (yes_over s.fixed.now s.nums.now s.marks.now s.limit s.count s.at (mark_at s.own) c.requires (s.at + 17) refl s.out.now _ c.put_front-slot.ensures.1 _ _ _ c.put_front-slot.ensures.0 c.put.ensures (omega arith) c.strike.ensures _ _ _ _ c.tree_of.ensures c.in_err-next.was, tt)

pub test_node-tree_of-requires-2 : goal.test_node-tree_of-requires-2
test_node-tree_of-requires-2 t c =
    let s = c.args in let x = no_needs s.fixed.now s.nums.now s.marks.now s.limit s.count s.at (mark_at s.own) c.requires (s.at + 17) refl s.out.now _ c.put_front-slot.ensures.1 _ _ _ c.put_front-slot.ensures.0 c.put.ensures (omega arith) c.strike.ensures _ _ _ _ c.tree_of.ensures _ c.in_ok-next.was _ (omega arith) (rw (← kind_is s.own.kind s.own.spot s.own.within) at c.unstrike.ensures) _ _ c.put-2.ensures (omega arith) c.drop_having.ensures in (omega (arith, c.decreases, x.0), x.1)

pub test_node-returns-in_err-end : goal.test_node-returns-in_err-end
test_node-returns-in_err-end t c =
    let s = c.args in rw c.from_residual-in_err-end.ensures (no_over s.fixed.now s.nums.now s.marks.now s.limit s.count s.at (mark_at s.own) c.requires (s.at + 17) refl s.out.now _ c.put_front-slot.ensures.1 _ _ _ c.put_front-slot.ensures.0 c.put.ensures (omega arith) c.strike.ensures _ _ _ _ c.tree_of.ensures _ c.in_ok-next.was _ (omega arith) (rw (← kind_is s.own.kind s.own.spot s.own.within) at c.unstrike.ensures) _ _ c.put-2.ensures (omega arith) c.drop_having.ensures _ _ _ _ c.tree_of-2.ensures c.in_err-end.was, tt)

pub test_node-returns : goal.test_node-returns
test_node-returns t c =
    let s = c.args in test_done s.fixed.now s.nums.now s.marks.now s.limit s.count s.at (mark_at s.own) c.requires (s.at + 17) refl s.out.now _ c.put_front-slot.ensures.1 _ _ _ c.put_front-slot.ensures.0 c.put.ensures (omega arith) c.strike.ensures _ _ _ _ c.tree_of.ensures _ c.in_ok-next.was _ (omega arith) (rw (← kind_is s.own.kind s.own.spot s.own.within) at c.unstrike.ensures) _ _ c.put-2.ensures (omega arith) c.drop_having.ensures _ _ _ _ c.tree_of-2.ensures _ c.in_ok-end.was _ (omega arith) c.unmark.ensures

pub tree_of-returns-then-limit-at : goal.tree_of-returns-then-limit-at
tree_of-returns-then-limit-at t c =
    let s = c.args in tree_full s.fixed.now s.nums.now s.marks.now s.limit s.count s.at c.requires s.out.now c.if-limit-at.true _

pub tree_of-returns-in_default : goal.tree_of-returns-in_default
tree_of-returns-in_default t c =
    let s = c.args in tree_fails s.fixed.now s.nums.now s.marks.now s.limit s.count s.at c.requires s.out.now c.if-limit-at.false 64 (none_gives _ _ (sym c.in_default.is ∙ c.first_row.ensures)) refl _ _ c.put.ensures refl

pub tree_of-lowest_open-requires : goal.tree_of-lowest_open-requires
tree_of-lowest_open-requires t c =
    let s = c.args in let r = some_gives 64 _ _ (sym c.in-Some.is ∙ c.first_row.ensures) in lowest_needs s.fixed.now s.nums.now s.marks.now s.limit s.count s.at c.requires s.out.now c.if-limit-at.false _ r.0 (row_few s.marks.now _ r.1 r.0)

pub tree_of-switch_node-requires : goal.tree_of-switch_node-requires
tree_of-switch_node-requires t c =
    let s = c.args in let r = some_gives 64 _ _ (sym c.in-Some.is ∙ c.first_row.ensures) in (omega (arith, c.decreases), (let z : suc c.in-Some-lowest_open.n - 1 ≡ c.in-Some-lowest_open.n = omega arith in rw z at (switch_needs s.fixed.now s.nums.now s.marks.now s.limit s.count s.at c.requires s.out.now c.if-limit-at.false _ r.0 (row_few s.marks.now _ r.1 r.0) (suc c.in-Some-lowest_open.n) (place_some _ _ (sym c.in-Some-lowest_open.is ∙ c.lowest_open.ensures)) (omega arith))))

pub tree_of-first_constraint-requires : goal.tree_of-first_constraint-requires
tree_of-first_constraint-requires t c =
    let s = c.args in let r = some_gives 64 _ _ (sym c.in-Some.is ∙ c.first_row.ensures) in row_few s.marks.now _ r.1 r.0

pub tree_of-test_node-requires : goal.tree_of-test_node-requires
tree_of-test_node-requires t c =
    let s = c.args in let r = some_gives 64 _ _ (sym c.in-Some.is ∙ c.first_row.ensures) in (omega (arith, c.decreases), test_needs s.fixed.now s.nums.now s.marks.now s.limit s.count s.at c.requires s.out.now c.if-limit-at.false _ r.0 (row_few s.marks.now _ r.1 r.0) 0 (sym (place_none _ (sym c.in_default-lowest_open.is ∙ c.lowest_open.ensures))) refl _ (some_gives 0 _ _ c.in-Some-first_constraint.ensures).0 (some_gives 0 _ _ c.in-Some-first_constraint.ensures).1)

pub tree_of-put_leaf-requires : goal.tree_of-put_leaf-requires
tree_of-put_leaf-requires t c =
    let s = c.args in let r = some_gives 64 _ _ (sym c.in-Some.is ∙ c.first_row.ensures) in leaf_needs s.fixed.now s.nums.now s.marks.now s.limit s.count s.at c.requires s.out.now c.if-limit-at.false _ r.0 (row_few s.marks.now _ r.1 r.0) 0 (sym (place_none _ (sym c.in_default-lowest_open.is ∙ c.lowest_open.ensures))) refl _ refl

pub tree_of-returns : goal.tree_of-returns
tree_of-returns t c =
    let s = c.args in let r = some_gives 64 _ _ (sym c.in-Some.is ∙ c.first_row.ensures) in tree_leaf s.fixed.now s.nums.now s.marks.now s.limit s.count s.at c.requires s.out.now c.if-limit-at.false _ r.0 (row_few s.marks.now _ r.1 r.0) 0 (sym (place_none _ (sym c.in_default-lowest_open.is ∙ c.lowest_open.ensures))) refl _ refl (sym (none_gives 0 _ c.in_default-first_constraint.ensures)) _ _ c.put_leaf.ensures.0 c.put_leaf.ensures.1
