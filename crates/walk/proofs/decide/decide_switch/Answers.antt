-- One law for each way through the code.
use Rattle.std.proofs.Common.{arith, length, ◌+◌, ◌≤◌}
use Rattle.walk.proofs.Judged.{switch_cut, switch_uncovered, switch_past, switch_goes, switch_takes}
use Rattle.walk.proofs.decide.decide_switch.Goals as goal
use Rattle.walk.proofs.decide.decide_switch.Goals.{then-walk-n-via-then-walk-n, then-walk-n-via-else-walk-n+then-tree-from}

pub returns-then-tree-at-lt-NODE_WORDS : goal.returns-then-tree-at-lt-NODE_WORDS
returns-then-tree-at-lt-NODE_WORDS c =
    let s = c.args in switch_cut s.tree.now s.term.now s.walk.now c.requires.0 c.requires.1 c.requires.2 c.if-tree-at-lt-NODE_WORDS.true

pub returns-then-walk-n : goal.returns-then-walk-n
returns-then-walk-n c =
    let s = c.args in
    let long : s.walk.now.at + 3 ≤ length s.tree.now = omega (arith, c.if-tree-at-lt-NODE_WORDS.false) in
    elim c.then-walk-n.branch [
      | then-walk-n-via-then-walk-n w ↦ switch_uncovered s.tree.now s.term.now s.walk.now c.requires.0 c.requires.1 long w.if-walk-n.true
      | then-walk-n-via-else-walk-n+then-tree-from w ↦ switch_past s.tree.now s.term.now s.walk.now c.requires.0 c.requires.1 long (omega (arith, w.if-walk-n.false)) w.if-tree-from.true
    ]

pub returns-in-Some : goal.returns-in-Some
returns-in-Some c =
    let s = c.args in
    switch_takes s.tree.now s.term.now s.walk.now c.requires.0 c.requires.1 (omega (arith, c.if-tree-at-lt-NODE_WORDS.false)) (omega (arith, c.if-walk-n.false))
    (omega (arith, c.if-tree-from.false)) _ c.find_case.ensures _ c.in-Some.is _ c.take_case.ensures

pub returns-in-None : goal.returns-in-None
returns-in-None c =
    let s = c.args in
    switch_goes s.tree.now s.term.now s.walk.now c.requires.0 c.requires.1 (omega (arith, c.if-tree-at-lt-NODE_WORDS.false)) (omega (arith, c.if-walk-n.false))
    (omega (arith, c.if-tree-from.false)) _ c.find_case.ensures c.in-None.is _ c.go_on.ensures
