-- The length of the tree, its root, and then the walk, with the visits of each.
use Rattle.std.proofs.Common.{arith, refl}
use Rattle.walk.proofs.BookEnds.{with_visits, with_long, with_skip}
use Rattle.walk.proofs.with_book.walk_book.Goals as goal

pub returns-then-tree-gt-MOST_TREE : goal.returns-then-tree-gt-MOST_TREE
returns-then-tree-gt-MOST_TREE c = let s = c.args in with_long s.book.now s.tree.now s.term.now _ _ _ c.requires.2 c.requires.3 c.if-tree-gt-MOST_TREE.true refl

pub returns-then-skips : goal.returns-then-skips
returns-then-skips c =
    let s = c.args in with_skip s.book.now s.tree.now s.term.now _ _ _ c.requires.2 c.requires.3 (omega arith) c.requires.0 c.requires.1 _ c.if-skips.true c.skips.ensures refl

pub returns : goal.returns
returns c = let s = c.args in (c.match_with.ensures, with_visits s.book.now s.tree.now s.term.now (omega arith) _ c.walk_tree-walk.ensures)
