-- A variable that is not sound makes the Leaf unsound, and after one that is sound the variables left give the answer.
use Rattle.std.proofs.Common.{arith, ◌≡◌, sym, ◌∙◌, ◌+◌, ◌-◌, ◌≤◌, length}
use Rattle.term.proofs.Laws.{suffix}
use Rattle.walk.proofs.Variables.{variables_none, leaf_cut, leaf_past, leaf_over, leaf_uncovered, leaf_open, leaf_next}
use Rattle.walk.proofs.leaf.sound_leaf.Goals as goal
use Rattle.walk.proofs.leaf.sound_leaf.Goals.{then-tree-list-via-then-tree-list, then-tree-list-via-else-tree-list+then-k-gt-MOST_IDS, then-tree-list-via-else-tree-list+else-k-gt-MOST_IDS+then-walk-place}

pub returns-then-tree-at-lt-VARIABLE_WORDS : goal.returns-then-tree-at-lt-VARIABLE_WORDS
returns-then-tree-at-lt-VARIABLE_WORDS c =
    let l = c.loop in
    leaf_cut c.args.tree.now l.at (c.args.n - l.counter) (λ z. omega arith) _ l.invariant.0 c.if-tree-at-lt-VARIABLE_WORDS.true ∙ sym l.invariant.1

pub returns-then-tree-list : goal.returns-then-tree-list
returns-then-tree-list c =
    let s = c.args in
    let l = c.loop in
    let left : s.n - l.counter ≡ 0 → ⊥ = λ z. omega arith in
    let two : l.at + 2 ≤ length s.tree.now = omega arith in
    elim c.then-tree-list.branch [
      | then-tree-list-via-then-tree-list w ↦ leaf_past s.tree.now l.at (s.n - l.counter) left two _ w.if-tree-list.true ∙ sym l.invariant.1
      | then-tree-list-via-else-tree-list+then-k-gt-MOST_IDS w ↦ leaf_over s.tree.now l.at (s.n - l.counter) left two (omega arith) _ w.if-k-gt-MOST_IDS.true ∙ sym l.invariant.1
      | then-tree-list-via-else-tree-list+else-k-gt-MOST_IDS+then-walk-place w ↦ leaf_uncovered s.tree.now l.at (s.n - l.counter) left two (omega arith) s.term.now s.walk.now c.requires.0 c.requires.1 w.if-walk-place.true ∙ sym l.invariant.1
    ]

pub returns-then-not-is_closed : goal.returns-then-not-is_closed
returns-then-not-is_closed c =
    let s = c.args in
    let l = c.loop in
    leaf_open s.tree.now l.at (s.n - l.counter) (λ z. omega arith) (omega arith) (omega arith) s.term.now s.walk.now c.requires.0 c.requires.1 (omega arith) (omega arith) _ (suffix _ s.term.now) _
    c.is_closed.ensures c.if-not-is_closed.true
    ∙ sym l.invariant.1

pub loop-preserved : goal.loop-preserved
loop-preserved c =
    let s = c.args in
    let l = c.loop in
    let z : s.n - (l.counter + 1) ≡ s.n - l.counter - 1 = omega arith in (
      omega arith,
      l.invariant.1
          ∙ rw z
          (leaf_next s.tree.now l.at (s.n - l.counter) (λ z. omega arith) (omega arith) (omega arith) s.term.now s.walk.now c.requires.0 c.requires.1 (omega arith) (omega arith) _
          (suffix _ s.term.now) _ c.is_closed.ensures c.if-not-is_closed.false),
    )

pub returns : goal.returns
returns c = variables_none _ _ _ (omega arith) ∙ sym c.loop.invariant.1
