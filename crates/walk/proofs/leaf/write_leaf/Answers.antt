-- The next variable was read and is sound, so its body has its place behind those before it.
use Rattle.std.proofs.Common.{arith, refl, ap, ◌∙◌, length, get_or, drop, ◌+◌, ◌-◌}
use Rattle.std.proofs.lemmas.Grind.{common_steps}
use Rattle.std.proofs.Math.ListN.{length-drop, drop_of_length-le}
use Rattle.term.proofs.Laws.{cleared, suffix}
use Rattle.walk.proofs.Addresses.{lent}
use Rattle.walk.proofs.Variables.{FirstRead}
use Rattle.walk.proofs.Leaves.{part_at, writing_start, writing_done, writing_first, writing_short, writing_more, written_bounds}
use Rattle.walk.proofs.leaf.write_leaf.Goals as goal
use Rattle.walk.proofs.leaf.write_leaf.Goals.{In-loop-x}

-- what was read of the next variable
read : (c : In-loop-x) → FirstRead c.args.tree.now c.args.term.now c.args.walk.now c.loop-x.at (get_or c.args.tree.now (c.args.walk.now.at + 2) 0 - c.loop-x.x) c.loop-x.invariant.rest
read c = writing_first c.args.tree.now c.args.term.now c.args.walk.now c.requires.0 c.requires.1 c.requires.2 _ _ _ _ _ _ c.loop-x.invariant c.loop-x-test.true

pub loop-x-init : goal.loop-x-init
loop-x-init c = writing_start c.args.tree.now c.args.term.now c.args.walk.now c.requires.0 c.requires.1 c.requires.2 _ _ _ refl c.requires.3 c.requires.4

pub offset_bounds-tree-at : goal.offset_bounds-tree-at
offset_bounds-tree-at c = let f = read c in omega (arith, f.two)

pub bounds-tree-at : goal.bounds-tree-at
bounds-tree-at c = let f = read (goal.at.bounds-tree-at c).In-loop-x in omega (arith, f.two)

pub overflow_add-list : goal.overflow_add-list
overflow_add-list c = let f = read (goal.at.overflow_add-list c).In-loop-x in omega (arith, f.two)

pub overflow_add-end : goal.overflow_add-end
overflow_add-end c = let f = read (goal.at.overflow_add-end c).In-loop-x in omega (arith, f.two)

pub offset_bounds-tree-at-in-loop-x : goal.offset_bounds-tree-at-in-loop-x
offset_bounds-tree-at-in-loop-x c = let f = read (goal.at.offset_bounds-tree-at-in-loop-x c).In-loop-x in omega (arith, f.two)

pub bounds-tree-at-in-loop-x : goal.bounds-tree-at-in-loop-x
bounds-tree-at-in-loop-x c = let f = read (goal.at.bounds-tree-at-in-loop-x c).In-loop-x in omega (arith, f.two)

pub overflow_add-end-in-loop-x : goal.overflow_add-end-in-loop-x
overflow_add-end-in-loop-x c = let f = read (goal.at.overflow_add-end-in-loop-x c).In-loop-x in omega (arith, f.two, f.inside)

pub bounds-walk-place : goal.bounds-walk-place
bounds-walk-place c = let f = read (goal.at.bounds-walk-place c).In-loop-x in omega (arith, f.here, c.requires.1.few, c.requires.0.short)

pub bounds-walk-place-in-loop-x : goal.bounds-walk-place-in-loop-x
bounds-walk-place-in-loop-x c = let f = read (goal.at.bounds-walk-place-in-loop-x c).In-loop-x in omega (arith, f.here, c.requires.1.few, c.requires.0.short)

pub slice_bounds-write_part-count : goal.slice_bounds-write_part-count
slice_bounds-write_part-count c = let f = read (goal.at.slice_bounds-write_part-count c).In-loop-x in omega (arith, c.requires.1.within _ f.here)

pub slice_bounds-write_part-start : goal.slice_bounds-write_part-start
slice_bounds-write_part-start c = let f = read (goal.at.slice_bounds-write_part-start c).In-loop-x in omega (arith, c.requires.1.within _ f.here)

pub offset_bounds-tree-list : goal.offset_bounds-tree-list
offset_bounds-tree-list c = let f = read (goal.at.offset_bounds-tree-list c).In-loop-x in omega (arith, f.two, f.inside)

pub slice_bounds-write_part-end-in-loop-x : goal.slice_bounds-write_part-end-in-loop-x
slice_bounds-write_part-end-in-loop-x c = let f = read (goal.at.slice_bounds-write_part-end-in-loop-x c).In-loop-x in omega (arith, f.two, f.inside)

pub overflow_cast-lengths : goal.overflow_cast-lengths
overflow_cast-lengths c =
    let s = c.args in
    let q = c.loop-x in
    let w = part_at _ _ _ _ _ _ _ _ _ (lent s.tree.now (q.at + 2) (get_or s.tree.now (q.at + 1) 0)) (suffix (get_or s.walk.now.offsets (get_or s.tree.now q.at 0) 0) s.term.now) c.in-Some.is c.write_part.ensures in
    omega (arith, (written_bounds _ _ _ _ _ _ w).1, length-drop (get_or s.walk.now.offsets (get_or s.tree.now q.at 0) 0) s.term.now, c.requires.0.short)

pub overflow_add-to : goal.overflow_add-to
overflow_add-to c =
    let s = c.args in
    let q = c.loop-x in
    let w = part_at _ _ _ _ _ _ _ _ _ (lent s.tree.now (q.at + 2) (get_or s.tree.now (q.at + 1) 0)) (suffix (get_or s.walk.now.offsets (get_or s.tree.now q.at 0) 0) s.term.now) c.in-Some.is c.write_part.ensures in
    omega (arith, (written_bounds _ _ _ _ _ _ w).0, ap length (suffix q.to q.bodies), length-drop q.to q.bodies, q.invariant.many.within)

pub loop-x-preserved : goal.loop-x-preserved
loop-x-preserved c =
    let s = c.args in
    let q = c.loop-x in
    let w = part_at _ _ _ _ _ _ _ _ _ (lent s.tree.now (q.at + 2) (get_or s.tree.now (q.at + 1) 0)) (suffix (get_or s.walk.now.offsets (get_or s.tree.now q.at 0) 0) s.term.now) c.in-Some.is c.write_part.ensures in
    writing_more s.tree.now s.term.now s.walk.now c.requires.0 c.requires.1 c.requires.2 (length s.bodies.now) q.bodies q.lengths q.at q.to q.x q.invariant c.loop-x-test.true _ _ _ _
    (ap length (suffix q.to q.bodies) ∙ length-drop q.to q.bodies ∙ omega (arith, q.invariant.many.long)) c.write_part.auto.out
    (drop_of_length-le (drop q.to q.bodies) {i = length q.bodies - q.to} (omega (arith, length-drop q.to q.bodies))) w

pub returns-in-None : goal.returns-in-None
returns-in-None c =
    let s = c.args in
    let q = c.loop-x in
    let w = part_at _ _ _ _ _ _ _ _ _ (lent s.tree.now (q.at + 2) (get_or s.tree.now (q.at + 1) 0)) (suffix (get_or s.walk.now.offsets (get_or s.tree.now q.at 0) 0) s.term.now) c.in-None.is c.write_part.ensures in
    writing_short s.tree.now s.term.now s.walk.now c.requires.0 c.requires.1 c.requires.2 (length s.bodies.now) q.bodies q.lengths q.at q.to q.x q.invariant c.loop-x-test.true _ _
    (ap length (suffix q.to q.bodies) ∙ length-drop q.to q.bodies ∙ omega (arith, q.invariant.many.long)) w _ _
    (cleared _ _ _ (grind (arith, common_steps, c.write_part.auto.out, length-drop q.to q.bodies, q.invariant.many.within, q.invariant.many.long)) c.clear.ensures) (cleared _ _ _ q.invariant.many.sixteen c.clear-in-None.ensures)

pub returns : goal.returns
returns c = writing_done c.args.tree.now c.args.term.now c.args.walk.now c.requires.0 c.requires.1 c.requires.2 _ _ _ _ _ _ c.loop-x.invariant (omega arith)
