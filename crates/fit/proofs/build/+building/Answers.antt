-- `build::build_tree` and `build::build_row` meet their contracts: one law for each way of a tree, and for a row one tree at a time.
use Rattle.std.proofs.Common.{◌≡◌, ◌+◌, ◌-◌, None, sym, ◌∙◌, arith, rules}
use Rattle.term.proofs.Laws.{suffix, inside_small, word_there, words_past}
use Rattle.fit.proofs.BuildRow.{build_none, build_deep, build_ended, build_stuck, build_more}
use Rattle.fit.proofs.BuildTree.{build_full, build_inner, build_body, build_no_body}
use Rattle.fit.proofs.build.+building.Goals as goal

pub build_row-returns-in_err-a : goal.build_row-returns-in_err-a
build_row-returns-in_err-a t c =
    let s = c.args in let q = c.loop in
    let none : c.from_residual.result ≡ None = search rules in
    rw none
    (q.invariant _ _ (build_stuck s.d s.levels (s.count - q.counter) s.left.now q.a s.bodies.now.words.now s.bodies.now.lengths.now q.out q.b (λ e. omega (arith, e)) _ (rw c.in_err-a.was at c.build_tree.ensures)))

pub build_row-loop-preserved : goal.build_row-loop-preserved
build_row-loop-preserved t c last r told =
    let s = c.args in let q = c.loop in
    let e : s.count - (q.counter + 1) ≡ s.count - q.counter - 1 = omega arith in
    q.invariant last r
    (build_more s.d s.levels (s.count - q.counter) s.left.now q.a s.bodies.now.words.now s.bodies.now.lengths.now q.out q.b (λ z. omega (arith, z)) _ _ _ (rw c.in_ok-a.was at c.build_tree.ensures) last r (rw e at told))

pub build_row-returns : goal.build_row-returns
build_row-returns t c = c.loop.invariant _ _ (build_none _ _ _ _ _ _ _ _ _ (omega arith))

pub build_tree-returns-then-levels-eq0 : goal.build_tree-returns-then-levels-eq0
build_tree-returns-then-levels-eq0 t c = build_deep _ _ _ _ _ _ _ _ _ (λ e. omega (arith, e)) _ c.if-levels-eq0.true

pub build_tree-returns-in_err-w : goal.build_tree-returns-in_err-w
build_tree-returns-in_err-w t c = rw c.from_residual.ensures (build_ended _ _ _ _ _ _ _ _ _ (λ e. omega (arith, e)) _ (words_past _ _ c.in_err-w.ensures.lookup.0))

pub build_tree-returns-in_err-end : goal.build_tree-returns-in_err-end
build_tree-returns-in_err-end t c =
    let s = c.args in
    let g = word_there s.left.now s.at c.in_ok-w.field-0.now c.in_ok-w.ensures.lookup.0 c.in_ok-w.ensures.lookup.1 in
    rw c.from_residual-in_err-end.ensures
    (build_no_body s.d s.levels s.left.now s.at g.0 s.bodies.now.words.now s.bodies.now.lengths.now s.out.now s.to (rw g.1 at (sym c.kind_of.ensures) ∙ c.if-kind_of-eq-PATTERN.true) _
    (rw (suffix (s.at + 1) s.left.now, c.in_err-end.was, g.1) at c.build_variable.ensures))

pub build_tree-returns-then-kind_of-eq-PATTERN : goal.build_tree-returns-then-kind_of-eq-PATTERN
build_tree-returns-then-kind_of-eq-PATTERN t c =
    let s = c.args in
    let g = word_there s.left.now s.at c.in_ok-w.field-0.now c.in_ok-w.ensures.lookup.0 c.in_ok-w.ensures.lookup.1 in
    rw (c.count_of-k.ensures, g.1)
    (build_body s.d s.levels s.left.now s.at g.0 s.bodies.now.words.now s.bodies.now.lengths.now s.out.now s.to (rw g.1 at (sym c.kind_of.ensures) ∙ c.if-kind_of-eq-PATTERN.true) _ c.in_ok-end.end
    (rw (suffix (s.at + 1) s.left.now, c.in_ok-end.was, g.1) at c.build_variable.ensures))

pub build_tree-returns-then-to-ge-MOST_WORDS : goal.build_tree-returns-then-to-ge-MOST_WORDS
build_tree-returns-then-to-ge-MOST_WORDS t c =
    let s = c.args in
    let g = word_there s.left.now s.at c.in_ok-w.field-0.now c.in_ok-w.ensures.lookup.0 c.in_ok-w.ensures.lookup.1 in
    build_full s.d s.levels s.left.now s.at g.0 s.bodies.now.words.now s.bodies.now.lengths.now s.out.now s.to (λ e. c.if-kind_of-eq-PATTERN.false (rw g.1 at c.kind_of.ensures ∙ e)) _ c.if-to-ge-MOST_WORDS.true

pub build_tree-build_row-requires : goal.build_tree-build_row-requires
build_tree-build_row-requires t c = let s = c.args in
    let g = word_there s.left.now s.at c.in_ok-w.field-0.now c.in_ok-w.ensures.lookup.0 c.in_ok-w.ensures.lookup.1 in (omega arith, omega (arith, inside_small c.in_ok-w.field-0.now s.d))

pub build_tree-returns : goal.build_tree-returns
build_tree-returns t c =
    let s = c.args in
    let g = word_there s.left.now s.at c.in_ok-w.field-0.now c.in_ok-w.ensures.lookup.0 c.in_ok-w.ensures.lookup.1 in
    build_inner s.d s.levels s.left.now s.at g.0 s.bodies.now.words.now s.bodies.now.lengths.now s.out.now s.to (λ e. c.if-kind_of-eq-PATTERN.false (rw g.1 at c.kind_of.ensures ∙ e)) (omega arith) c.if-to-ge-MOST_WORDS.false _ _
    (rw (c.count_of-k.ensures, c.inside_word-inner.ensures, c.put.ensures, g.1) at c.build_row.ensures)
