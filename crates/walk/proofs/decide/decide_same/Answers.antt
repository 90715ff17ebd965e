-- One law for each way through the code.
use Rattle.std.proofs.Common.{arith, refl, sym, ◌∙◌, length, ◌+◌, ◌≤◌}
use Rattle.term.proofs.Laws.{suffix}
use Rattle.walk.proofs.Judged.{same_cut, same_uncovered, same_next_uncovered, same_goes, same_damaged}
use Rattle.walk.proofs.decide.decide_same.Goals as goal
use Rattle.walk.proofs.decide.decide_same.Goals.{then-walk-n-via-then-walk-n, then-walk-n-via-else-walk-n+then-walk-m}

pub returns-then-tree-at-lt-SAME_WORDS : goal.returns-then-tree-at-lt-SAME_WORDS
returns-then-tree-at-lt-SAME_WORDS c =
    let s = c.args in same_cut s.tree.now s.term.now s.walk.now c.requires.0 c.requires.1 c.requires.2 c.if-tree-at-lt-SAME_WORDS.true

pub returns-then-walk-n : goal.returns-then-walk-n
returns-then-walk-n c =
    let s = c.args in
    let long : s.walk.now.at + 4 ≤ length s.tree.now = omega (arith, c.if-tree-at-lt-SAME_WORDS.false) in
    elim c.then-walk-n.branch [
      | then-walk-n-via-then-walk-n w ↦ same_uncovered s.tree.now s.term.now s.walk.now c.requires.0 c.requires.1 long w.if-walk-n.true
      | then-walk-n-via-else-walk-n+then-walk-m w ↦ same_next_uncovered s.tree.now s.term.now s.walk.now c.requires.0 c.requires.1 long (omega (arith, w.if-walk-n.false)) w.if-walk-m.true
    ]

pub returns : goal.returns
returns c =
    let s = c.args in
    same_goes s.tree.now s.term.now s.walk.now c.requires.0 c.requires.1 (omega (arith, c.if-tree-at-lt-SAME_WORDS.false)) (omega (arith, c.if-walk-n.false)) (omega (arith, c.if-walk-m.false)) _ _
    (suffix _ s.term.now) (suffix _ s.term.now) _ (sym c.in_ok-to.was ∙ c.same_taken.ensures) _ refl _ c.go_on.ensures

pub returns-in_err-to : goal.returns-in_err-to
returns-in_err-to c =
    let s = c.args in
    rw c.from_residual.ensures
    (same_damaged s.tree.now s.term.now s.walk.now c.requires.0 c.requires.1 (omega (arith, c.if-tree-at-lt-SAME_WORDS.false)) (omega (arith, c.if-walk-n.false)) (omega (arith, c.if-walk-m.false)) _ _
    (suffix _ s.term.now) (suffix _ s.term.now) _ (sym c.in_err-to.was ∙ c.same_taken.ensures) refl)
