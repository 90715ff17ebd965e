-- One law for each way through the code.
use Rattle.std.proofs.Common.{arith, ◌∙◌}
use borrow.Author.Tests.{lt-leb}
use Rattle.walk.proofs.Leaves.{leaf_node_cut, leaf_rule_high, leaf_vars_many, leaf_told}
use Rattle.walk.proofs.decide.decide_leaf.Goals as goal
use Rattle.walk.proofs.decide.decide_leaf.Goals.{then-n-le-MOST_VARS, else-n-le-MOST_VARS, then-tree-at-lt-LEAF_WORDS-via-then-tree-at-lt-LEAF_WORDS, then-tree-at-lt-LEAF_WORDS-via-else-tree-at-lt-LEAF_WORDS+then-tree-at-ge-MOST_RULES}

pub returns-then-tree-at-lt-LEAF_WORDS : goal.returns-then-tree-at-lt-LEAF_WORDS
returns-then-tree-at-lt-LEAF_WORDS c =
    let s = c.args in
    elim c.then-tree-at-lt-LEAF_WORDS.branch [
      | then-tree-at-lt-LEAF_WORDS-via-then-tree-at-lt-LEAF_WORDS w ↦ leaf_node_cut s.tree.now s.term.now s.walk.now c.requires.2 w.if-tree-at-lt-LEAF_WORDS.true
      | then-tree-at-lt-LEAF_WORDS-via-else-tree-at-lt-LEAF_WORDS+then-tree-at-ge-MOST_RULES w ↦ leaf_rule_high s.tree.now s.term.now s.walk.now (omega (arith, w.if-tree-at-lt-LEAF_WORDS.false)) w.if-tree-at-ge-MOST_RULES.true
    ]

pub returns : goal.returns
returns c =
    let s = c.args in
    elim c.if-n-le-MOST_VARS.branch [
      | then-n-le-MOST_VARS w ↦
          rw c.then_some.ensures
          (leaf_told s.tree.now s.term.now s.walk.now (omega (arith, c.if-tree-at-lt-LEAF_WORDS.false)) (omega (arith, c.if-tree-at-ge-MOST_RULES.false)) (omega (arith, w.if-n-le-MOST_VARS.true)) _
          (w.sound-is ∙ w.sound_leaf-sound.ensures))
      | else-n-le-MOST_VARS w ↦
          rw (c.then_some.ensures, w.sound-is ∙ lt-leb _ 16 w.if-n-le-MOST_VARS.false)
          (leaf_vars_many s.tree.now s.term.now s.walk.now (omega (arith, c.if-tree-at-lt-LEAF_WORDS.false)) (omega (arith, c.if-tree-at-ge-MOST_RULES.false)) w.if-n-le-MOST_VARS.false)
    ]
