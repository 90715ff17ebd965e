-- One law for each way through the code.
use Rattle.std.proofs.Common.{arith, refl, sym, ◌∙◌}
use Rattle.term.proofs.Laws.{suffix}
use Rattle.walk.proofs.Judged.{closed_cut, closed_uncovered, closed_goes, closed_damaged}
use Rattle.walk.proofs.decide.decide_closed.Goals as goal

pub returns-then-tree-at-lt-NODE_WORDS : goal.returns-then-tree-at-lt-NODE_WORDS
returns-then-tree-at-lt-NODE_WORDS c =
    let s = c.args in closed_cut s.tree.now s.term.now s.walk.now c.requires.0 c.requires.1 c.requires.2 c.if-tree-at-lt-NODE_WORDS.true

pub returns-then-walk-n : goal.returns-then-walk-n
returns-then-walk-n c =
    let s = c.args in
    closed_uncovered s.tree.now s.term.now s.walk.now c.requires.0 c.requires.1 (omega (arith, c.if-tree-at-lt-NODE_WORDS.false)) c.if-walk-n.true

pub returns : goal.returns
returns c =
    let s = c.args in
    closed_goes s.tree.now s.term.now s.walk.now c.requires.0 c.requires.1 (omega (arith, c.if-tree-at-lt-NODE_WORDS.false)) (omega (arith, c.if-walk-n.false)) _
    (suffix _ s.term.now) _ (sym c.in_ok-to.was ∙ c.closed_taken.ensures) _ refl _ c.go_on.ensures

pub returns-in_err-to : goal.returns-in_err-to
returns-in_err-to c =
    let s = c.args in
    rw c.from_residual.ensures
    (closed_damaged s.tree.now s.term.now s.walk.now c.requires.0 c.requires.1 (omega (arith, c.if-tree-at-lt-NODE_WORDS.false)) (omega (arith, c.if-walk-n.false)) _
    (suffix _ s.term.now) _ (sym c.in_err-to.was ∙ c.closed_taken.ensures) refl)
