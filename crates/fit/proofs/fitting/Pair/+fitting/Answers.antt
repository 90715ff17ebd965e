-- `fitting::fit_tree` and `fitting::fit_row` meet their contracts: one law for each way of a tree, and for a row one tree at a time.
use Rattle.std.proofs.Common.{◌≡◌, ◌+◌, ◌-◌, None, ◌∙◌, arith, rules}
use Rattle.term.proofs.Laws.{inside_small, word_there, words_past}
use Rattle.fit.proofs.FitRow.{fit_none, fit_deep, fit_left_ended, fit_term_ended, fit_stuck, fit_more}
use Rattle.fit.proofs.Inner.{inner_differ, inner_told}
use Rattle.fit.proofs.fitting.Pair.+fitting.Goals as goal

pub fit_row-returns-in_err-a : goal.fit_row-returns-in_err-a
fit_row-returns-in_err-a t c =
    let s = c.args in let q = c.loop in
    let none : c.from_residual.result ≡ None = search rules in
    rw none
    (q.invariant _ _ (fit_stuck s.self.now.vars s.d s.levels (s.count - q.counter) s.self.now.left.now q.a s.self.now.term.now q.b q.table (λ e. omega (arith, e)) _ (rw c.in_err-a.was at c.fit_tree.ensures)))

pub fit_row-loop-preserved : goal.fit_row-loop-preserved
fit_row-loop-preserved t c last r told =
    let s = c.args in let q = c.loop in
    let e : s.count - (q.counter + 1) ≡ s.count - q.counter - 1 = omega arith in
    q.invariant last r
    (fit_more s.self.now.vars s.d s.levels (s.count - q.counter) s.self.now.left.now q.a s.self.now.term.now q.b q.table (λ z. omega (arith, z)) _ _ _ (rw c.in_ok-a.was at c.fit_tree.ensures) last r (rw e at told))

pub fit_row-returns : goal.fit_row-returns
fit_row-returns t c = c.loop.invariant _ _ (fit_none _ _ _ _ _ _ _ _ _ (omega arith))

pub fit_tree-returns-then-levels-eq0 : goal.fit_tree-returns-then-levels-eq0
fit_tree-returns-then-levels-eq0 t c = fit_deep _ _ _ _ _ _ _ _ _ (λ e. omega (arith, e)) _ c.if-levels-eq0.true

pub fit_tree-returns-in_err-w : goal.fit_tree-returns-in_err-w
fit_tree-returns-in_err-w t c = rw c.from_residual.ensures (fit_left_ended _ _ _ _ _ _ _ _ _ (λ e. omega (arith, e)) _ (words_past _ _ c.in_err-w.ensures.lookup.0))

pub fit_tree-returns-in_err-v : goal.fit_tree-returns-in_err-v
fit_tree-returns-in_err-v t c = rw c.from_residual-in_err-v.ensures (fit_term_ended _ _ _ _ _ _ _ _ _ (λ e. omega (arith, e)) _ (words_past _ _ c.in_err-v.ensures.lookup.0))

pub fit_tree-returns-then-w-v : goal.fit_tree-returns-then-w-v
fit_tree-returns-then-w-v t c =
    let s = c.args in
    let g = word_there s.self.now.left.now s.at c.in_ok-w.field-0.now c.in_ok-w.ensures.lookup.0 c.in_ok-w.ensures.lookup.1 in
    let h = word_there s.self.now.term.now s.to c.in_ok-v.field-0.now c.in_ok-v.ensures.lookup.0 c.in_ok-v.ensures.lookup.1 in
    inner_differ s.self.now.vars s.d s.levels s.self.now.left.now s.at s.self.now.term.now s.to s.table.now _ g.0 h.0
    (λ e. c.if-kind_of-eq-PATTERN.false (rw g.1 at c.kind_of.ensures ∙ e)) (rw (g.1, h.1) at c.if-w-v.true)

pub fit_tree-fit_row-requires : goal.fit_tree-fit_row-requires
fit_tree-fit_row-requires t c =
    let s = c.args in
    (omega arith, omega (arith, inside_small c.in_ok-w.field-0.now s.d))

pub fit_tree-returns : goal.fit_tree-returns
fit_tree-returns t c =
    let s = c.args in
    let g = word_there s.self.now.left.now s.at c.in_ok-w.field-0.now c.in_ok-w.ensures.lookup.0 c.in_ok-w.ensures.lookup.1 in
    let h = word_there s.self.now.term.now s.to c.in_ok-v.field-0.now c.in_ok-v.ensures.lookup.0 c.in_ok-v.ensures.lookup.1 in
    inner_told s.self.now.vars s.d s.levels s.self.now.left.now s.at s.self.now.term.now s.to s.table.now _ g.0 h.0
    (λ e. c.if-kind_of-eq-PATTERN.false (rw g.1 at c.kind_of.ensures ∙ e)) (rw (g.1, h.1) at c.if-w-v.false) _
    (rw (c.count_of-k.ensures, c.inside_word-inner.ensures, g.1) at c.fit_row.ensures)
