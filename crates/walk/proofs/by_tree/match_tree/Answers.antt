-- `by_tree::match_tree` meets its contract: the term, the length of the tree, and then the walk.
use native.Mathlib.Omega.{arith}
use mathlib.Core.Path.{sym, ap, ◌∙◌}
use Prim.Native.Nat.{ℕ}
use lib.ListN.{length, replicate}
use Rattle.term.proofs.Laws.{cleared}
use Rattle.walk.proofs.Answers.{term_parted, term_some, match_walked, match_bad_term, match_long}
use Rattle.walk.proofs.by_tree.match_tree.Goals as goal

pub returns-in-Err : goal.returns-in-Err
returns-in-Err c =
    let s = c.args in
    match_bad_term s.tree.now s.term.now (length s.bodies.now) _ _ _ c.clear.ensures (cleared _ _ _ c.clear-arg-2-1.given.0.1 c.clear-2.ensures) _ (sym c.check_term.ensures ∙ c.in-Err.is) c.no_rule.ensures

pub returns-then-tree-gt-MOST_TREE : goal.returns-then-tree-gt-MOST_TREE
returns-then-tree-gt-MOST_TREE c =
    let s = c.args in
    match_long s.tree.now s.term.now (length s.bodies.now) _ _ _ c.clear.ensures (cleared _ _ _ c.clear-arg-2-1.given.0.1 c.clear-2.ensures) (sym c.check_term.ensures ∙ c.in_default.is) c.if-tree-gt-MOST_TREE.true c.no_rule-then-tree-gt-MOST_TREE.ensures

pub walk_tree-requires : goal.walk_tree-requires
walk_tree-requires c =
    let s = c.args in
    let g = sym c.check_term.ensures ∙ c.in_default.is in (term_parted s.tree.now s.term.now 0 g, term_some s.tree.now s.term.now 0 g, omega (arith, c.if-tree-gt-MOST_TREE.false))

pub match_walk-requires : goal.match_walk-requires
match_walk-requires c =
    let s = c.args in
    let g = sym c.check_term.ensures ∙ c.in_default.is in (
      term_parted s.tree.now s.term.now 0 g,
      term_some s.tree.now s.term.now 0 g,
      c.walk_tree.ensures,
      c.clear.ensures ∙ ap (λ (n : ℕ). replicate n 0) (sym c.clear.auto.out),
      cleared _ _ _ c.clear-arg-2-1.given.0.1 c.clear-2.ensures,
    )

pub returns : goal.returns
returns c =
    let s = c.args in
    match_walked s.tree.now s.term.now (length s.bodies.now) (sym c.check_term.ensures ∙ c.in_default.is) (omega (arith, c.if-tree-gt-MOST_TREE.false)) _ (rw c.clear.auto.out at c.match_walk.ensures)
