-- One law for each way a walk ends, and no more is set aside than the root counts.
use Rattle.std.proofs.Common.{arith, refl, length, ◌+◌, ◌≤◌}
use Rattle.walk.proofs.Answers.{ended_holds, ended_sound, match_none, match_damaged, match_over, match_short, match_done}
use Rattle.walk.proofs.by_tree.match_walk.Goals as goal
use Rattle.walk.proofs.by_tree.match_walk.Goals.{In-Rule}

inside : (c : In-Rule) → c.args.walk.now.at + 4 ≤ length c.args.tree.now
inside c = (ended_sound c.args.tree.now c.args.term.now c.args.walk.now c.requires.2 c.in-Rule.is).inside

pub returns-in-NoRule : goal.returns-in-NoRule
returns-in-NoRule c =
    let s = c.args in match_none s.tree.now s.term.now s.walk.now c.requires.2 (length s.bodies.now) _ _ _ c.requires.3 c.requires.4 c.in-NoRule.is c.no_rule.ensures

pub returns-in_default : goal.returns-in_default
returns-in_default c =
    let s = c.args in
    match_damaged s.tree.now s.term.now s.walk.now c.requires.2 (length s.bodies.now) _ _ _ c.requires.3 c.requires.4 c.in_default.not-NoRule c.in_default.not-Rule c.no_rule-in_default.ensures

pub overflow_add-aside : goal.overflow_add-aside
overflow_add-aside c = omega (arith, inside (goal.at.overflow_add-aside c).In-Rule)

pub offset_bounds-tree-at : goal.offset_bounds-tree-at
offset_bounds-tree-at c = omega (arith, inside (goal.at.offset_bounds-tree-at c).In-Rule)

pub bounds-tree-at : goal.bounds-tree-at
bounds-tree-at c = omega (arith, inside (goal.at.bounds-tree-at c).In-Rule)

pub returns-then-first_count-aside : goal.returns-then-first_count-aside
returns-then-first_count-aside c =
    let s = c.args in
    match_over s.tree.now s.term.now s.walk.now c.requires.2 (length s.bodies.now) _ _ _ c.requires.3 c.requires.4 c.in-Rule.is c.requires.0 c.requires.1 _ c.first_count.ensures c.if-first_count-aside.true
    c.no_rule-then-first_count-aside.ensures

pub write_leaf-requires : goal.write_leaf-requires
write_leaf-requires c =
    let s = c.args in
    (c.requires.0, ended_holds s.tree.now s.term.now s.walk.now c.requires.2, ended_sound s.tree.now s.term.now s.walk.now c.requires.2 c.in-Rule.is, c.requires.3, c.requires.4)

pub returns-then-not-write_leaf : goal.returns-then-not-write_leaf
returns-then-not-write_leaf c =
    let s = c.args in
    match_short s.tree.now s.term.now s.walk.now c.requires.2 (length s.bodies.now) _ _ _ c.in-Rule.is c.requires.0 c.requires.1 _ c.first_count.ensures (omega (arith, c.if-first_count-aside.false)) _
    c.write_leaf.ensures c.if-not-write_leaf.true c.no_rule-then-not-write_leaf.ensures

pub overflow_add-result : goal.overflow_add-result
overflow_add-result c = omega (arith, inside (goal.at.overflow_add-result c).In-Rule)

pub offset_bounds-tree-at-2 : goal.offset_bounds-tree-at-2
offset_bounds-tree-at-2 c = omega (arith, inside (goal.at.offset_bounds-tree-at-2 c).In-Rule)

pub bounds-tree-at-2 : goal.bounds-tree-at-2
bounds-tree-at-2 c = omega (arith, inside (goal.at.bounds-tree-at-2 c).In-Rule)

pub returns : goal.returns
returns c =
    let s = c.args in
    match_done s.tree.now s.term.now s.walk.now c.requires.2 (length s.bodies.now) _ _ _ c.in-Rule.is c.requires.0 c.requires.1 _ c.first_count.ensures (omega (arith, c.if-first_count-aside.false)) _
    c.write_leaf.ensures c.if-not-write_leaf.false refl refl refl refl
