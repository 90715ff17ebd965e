-- One law for each way a walk ends, and a Leaf is judged by the book.
use Rattle.std.proofs.Common.{arith, ℕ, sym, ap, ◌∙◌, refl, length, replicate, ◌+◌, ◌≤◌}
use Rattle.std.proofs.Math.ListN.{length-replicate}
use Rattle.walk.proofs.Answers.{ended_holds, ended_sound}
use Rattle.walk.proofs.BookEnds.{with_none, with_damaged, with_unfit, with_rule_lem}
use Rattle.walk.proofs.with_book.match_with.Goals as goal
use Rattle.walk.proofs.with_book.match_with.Goals.{In-Rule}

inside : (c : In-Rule) → c.args.walk.now.at + 4 ≤ length c.args.tree.now
inside c = (ended_sound c.args.tree.now c.args.term.now c.args.walk.now c.requires.2 c.in-Rule.is).inside

pub returns-in-NoRule : goal.returns-in-NoRule
returns-in-NoRule c = let s = c.args in with_none s.book.now s.tree.now s.term.now c.requires.3 s.walk.now c.requires.2 _ _ _ c.requires.4 c.requires.5 c.in-NoRule.is refl

pub returns-in_default : goal.returns-in_default
returns-in_default c =
    let s = c.args in with_damaged s.book.now s.tree.now s.term.now c.requires.3 s.walk.now c.requires.2 _ _ _ c.requires.4 c.requires.5 c.in_default.not-NoRule c.in_default.not-Rule refl

pub leaf_fits-requires : goal.leaf_fits-requires
leaf_fits-requires c = inside (goal.at.leaf_fits-requires c).In-Rule

pub returns-then-not-leaf_fits : goal.returns-then-not-leaf_fits
returns-then-not-leaf_fits c =
    let s = c.args in
    with_unfit s.book.now s.tree.now s.term.now c.requires.3 s.walk.now c.requires.2 _ _ _ c.in-Rule.is c.requires.0 c.requires.1 _ c.first_count.ensures c.requires.4 c.requires.5
    (sym c.leaf_fits.ensures ∙ c.if-not-leaf_fits.true) refl

pub write_leaf-requires : goal.write_leaf-requires
write_leaf-requires c =
    let s = c.args in (
      c.requires.0,
      ended_holds s.tree.now s.term.now s.walk.now c.requires.2,
      ended_sound s.tree.now s.term.now s.walk.now c.requires.2 c.in-Rule.is,
      c.requires.4 ∙ ap (λ (n : ℕ). replicate n 0) (sym (ap length c.requires.4)),
      c.requires.5,
    )

pub overflow_add-result : goal.overflow_add-result
overflow_add-result c = omega (arith, inside (goal.at.overflow_add-result c).In-Rule)

pub offset_bounds-tree-at : goal.offset_bounds-tree-at
offset_bounds-tree-at c = omega (arith, inside (goal.at.offset_bounds-tree-at c).In-Rule)

pub bounds-tree-at : goal.bounds-tree-at
bounds-tree-at c = omega (arith, inside (goal.at.bounds-tree-at c).In-Rule)

pub returns : goal.returns
returns c =
    let s = c.args in
    with_rule_lem s.book.now s.tree.now s.term.now c.requires.3 s.walk.now c.requires.2 _ _ _ c.in-Rule.is c.requires.0 c.requires.1 _ c.first_count.ensures
    (sym c.leaf_fits.ensures ∙ c.if-not-leaf_fits.false) _ (ap length c.requires.4 ∙ length-replicate {A = ℕ} 65536 0) _ c.write_leaf.ensures refl
