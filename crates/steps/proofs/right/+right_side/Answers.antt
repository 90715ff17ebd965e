-- One law for each way through the walk: a row by its first tree and the rest, a word before its children, and a variable by what it stands for.
use Rattle.std.proofs.Common.{rules, ◌≡◌, ◌+◌, ◌-◌, arith, sym, ap, ◌∙◌}
use Rattle.term.specs.Word.{kind_of}
use Rattle.steps.specs.Told.Under.{place}
use Rattle.steps.proofs.Depths.{around, inside_levels, levels_at}
use Rattle.steps.proofs.RightTrees.{next_later, next_step, child_later}
use Rattle.steps.proofs.RightLaws.{right_none, right_stuck, right_on, right_ended, right_low, right_variable, right_pattern, right_deep, right_full, right_inner}
use Rattle.steps.proofs.BodyLaws.{variable_own, variable_outside, variable_inner, body_none, body_ended, body_stuck, body_more}
use Rattle.steps.proofs.BodyTrees.{body_stands_for, body_stands_stuck, body_deep, body_full, body_inner, pattern_none, pattern_told}
use Rattle.steps.proofs.right.+right_side.Goals as goal
use Rattle.steps.proofs.right.+right_side.Goals.{body_tree-then-within-eq0-via-then-within-eq0, body_tree-then-within-eq0-via-else-within-eq0+then-to-ge-MOST_WORDS, write_tree-then-under-eq0-via-then-under-eq0, write_tree-then-under-eq0-via-else-under-eq0+then-to-ge-MOST_WORDS}

-- ---- a row of a body
pub body_row-returns-in_err-tree : goal.body_row-returns-in_err-tree
body_row-returns-in_err-tree t c =
    let within = c.args.within in
    let row = c.loop in
    rw c.from_residual.ensures
    (row.invariant _ _ (body_stuck (place within.under) within.e within.count within.under.levels (c.args.trees - row.counter) c.args.right.now within.at c.args.bodies.now row.tree c.args.lengths.now row.out row.end
    (λ z. omega (arith, z)) _ c.in_err-tree.ensures))

pub body_row-loop-preserved : goal.body_row-loop-preserved
body_row-loop-preserved t c =
    let within = c.args.within in
    let row = c.loop in
    let less : c.args.trees - row.counter - 1 ≡ c.args.trees - (row.counter + 1) = omega arith in
    λ last r told.
    row.invariant last r (body_more (place within.under) within.e within.count within.under.levels (c.args.trees - row.counter) c.args.right.now within.at c.args.bodies.now row.tree c.args.lengths.now row.out row.end
    (λ z. omega (arith, z)) _ _ _ c.in_ok-tree.ensures last r (rw less told))

pub body_row-returns : goal.body_row-returns
body_row-returns t c = c.loop.invariant _ _ (body_none _ _ _ _ _ _ _ _ _ _ _ _ (omega arith))

-- ---- a tree of a body
pub body_tree-returns-in_err-w : goal.body_tree-returns-in_err-w
body_tree-returns-in_err-w t c = rw c.from_residual.ensures (body_ended _ _ _ _ _ _ _ _ _ _ _ _ (λ e. omega (arith, e)) _ (omega (arith, c.in_err-w.ensures.lookup.3)))

pub body_tree-returns-in_err-end : goal.body_tree-returns-in_err-end
body_tree-returns-in_err-end t c =
    let s = c.args in
    let within = s.within in
    let word = c.in_ok-w.ensures.lookup.3.1 0 in
    rw c.from_residual-in_err-end.ensures
    (body_stands_stuck (place within.under) within.e within.count within.under.levels s.right.now within.at s.bodies.now s.from s.lengths.now s.out.now s.to (ap kind_of (sym word) ∙ sym c.kind_of.ensures ∙ c.if-kind_of-eq-VARIABLE.true) _
    (rw (c.id_of.ensures, word) at c.in_err-end.ensures))

pub body_tree-returns-then-kind_of-eq-VARIABLE : goal.body_tree-returns-then-kind_of-eq-VARIABLE
body_tree-returns-then-kind_of-eq-VARIABLE t c =
    let s = c.args in
    let within = s.within in
    let word = c.in_ok-w.ensures.lookup.3.1 0 in
    body_stands_for (place within.under) within.e within.count within.under.levels s.right.now within.at s.bodies.now s.from s.lengths.now s.out.now s.to (ap kind_of (sym word) ∙ sym c.kind_of.ensures ∙ c.if-kind_of-eq-VARIABLE.true) _ c.in_ok-end.end
    (rw (c.id_of.ensures, word) at c.in_ok-end.ensures)

pub body_tree-returns-then-within-eq0 : goal.body_tree-returns-then-within-eq0
body_tree-returns-then-within-eq0 t c =
    let s = c.args in
    let within = s.within in
    let kind = c.kind_of.ensures ∙ ap kind_of (c.in_ok-w.ensures.lookup.3.1 0) in
    elim c.then-within-eq0.branch [
      | body_tree-then-within-eq0-via-then-within-eq0 w ↦ body_deep (place within.under) within.e within.count within.under.levels s.right.now within.at s.bodies.now s.from s.lengths.now s.out.now s.to (λ e. c.if-kind_of-eq-VARIABLE.false (kind ∙ e)) _ w.if-within-eq0.true
      | body_tree-then-within-eq0-via-else-within-eq0+then-to-ge-MOST_WORDS w ↦ body_full (place within.under) within.e within.count within.under.levels s.right.now within.at s.bodies.now s.from s.lengths.now s.out.now s.to (λ e. c.if-kind_of-eq-VARIABLE.false (kind ∙ e)) _ w.if-to-ge-MOST_WORDS.true
    ]

pub body_tree-body_row-requires : goal.body_tree-body_row-requires
body_tree-body_row-requires t c =
    let q = c.inside-inner.ensures in
    (omega (arith, q.at, levels_at c.inside-inner.result.under _ q.place), omega (arith, q.at))

pub body_tree-returns : goal.body_tree-returns
body_tree-returns t c =
    let s = c.args in
    let within = s.within in
    let word = c.in_ok-w.ensures.lookup.3.1 0 in
    let q = c.inside-inner.ensures in
    body_inner (place within.under) within.e within.count within.under.levels s.right.now within.at s.bodies.now s.from s.lengths.now s.out.now s.to (λ e. c.if-kind_of-eq-VARIABLE.false (c.kind_of.ensures ∙ ap kind_of word ∙ e)) (omega (arith, c.if-within-eq0.false)) c.if-to-ge-MOST_WORDS.false _ _
    (rw (q.place, levels_at c.inside-inner.result.under _ q.place, q.e, q.count, q.at, c.put.ensures, c.count_of.ensures, word) at c.body_row.ensures)

-- ---- a variable of a body
pub body_variable-returns-then-i-e : goal.body_variable-returns-then-i-e
body_variable-returns-then-i-e t c =
    let s = c.args in
    let within = s.within in
    variable_own (place within.under) within.e within.count within.under.levels s.i s.right.now within.at s.bodies.now s.lengths.now s.out.now s.to _ _ c.if-i-e.true c.write_variable.ensures

pub body_variable-returns-then-within-i : goal.body_variable-returns-then-within-i
body_variable-returns-then-within-i t c =
    let s = c.args in
    let within = s.within in
    variable_outside (place within.under) within.e within.count within.under.levels s.i s.right.now within.at s.bodies.now s.lengths.now s.out.now s.to _ _ c.if-i-e.false c.if-within-i.true c.write_variable-then-within-i.ensures

pub body_variable-write_tree-requires : goal.body_variable-write_tree-requires
body_variable-write_tree-requires t c = let s = c.args in (omega (arith, child_later s.right.now (s.i - s.within.e - 1) s.within.at), record {})

pub body_variable-returns : goal.body_variable-returns
body_variable-returns t c =
    let s = c.args in
    let within = s.within in
    variable_inner (place within.under) within.e within.count within.under.levels s.i s.right.now within.at s.bodies.now s.lengths.now s.out.now s.to _ _ (around within.under (search rules)) c.if-i-e.false c.if-within-i.false
    (rw (c.child_at-child.ensures, c.deeper-inner.ensures, levels_at c.deeper-inner.result _ c.deeper-inner.ensures) at c.write_tree.ensures)

-- ---- a pattern variable
pub write_pattern-returns-then-x-ge-MOST_VARS_LONG : goal.write_pattern-returns-then-x-ge-MOST_VARS_LONG
write_pattern-returns-then-x-ge-MOST_VARS_LONG t c =
    let s = c.args in
    pattern_none (place s.under) s.under.levels s.w s.right.now s.at s.bodies.now s.lengths.now s.out.now s.to _ (rw c.id_of-x.ensures at c.if-x-ge-MOST_VARS_LONG.true)

pub write_pattern-returns : goal.write_pattern-returns
write_pattern-returns t c =
    let s = c.args in
    pattern_told (place s.under) s.under.levels s.w s.right.now s.at s.bodies.now s.lengths.now s.out.now s.to _ c.body_tree.result
    (rw (c.start_of-from.ensures, c.id_of-x.ensures, c.count_of.ensures) at c.body_tree.ensures) c.map.result (search rules)

-- ---- a row of the right side
pub write_row-returns-in_err-end : goal.write_row-returns-in_err-end
write_row-returns-in_err-end t c =
    let s = c.args in
    let row = c.loop in
    rw c.from_residual.ensures
    (row.invariant.told _ _ (right_stuck (place s.under) s.under.levels (s.count - row.counter) s.right.now row.tree s.bodies.now s.lengths.now row.out row.end (λ z. omega (arith, z)) _ c.in_err-end.ensures))

pub write_row-loop-preserved : goal.write_row-loop-preserved
write_row-loop-preserved t c =
    let s = c.args in
    let row = c.loop in
    let less : s.count - row.counter - 1 ≡ s.count - (row.counter + 1) = omega arith in
    record {
      onward = next_later s.right.now s.at row.tree _ row.invariant.onward c.next_tree-tree.ensures;
      within = next_step s.right.now row.tree _ row.invariant.within c.next_tree-tree.ensures;
      told = λ last r told.
          row.invariant.told last r (right_on (place s.under) s.under.levels (s.count - row.counter) s.right.now row.tree s.bodies.now s.lengths.now row.out row.end (λ z. omega (arith, z)) _ _
          c.in_ok-end.ensures _ c.next_tree-tree.ensures last r (rw less told));
    }

pub write_row-returns : goal.write_row-returns
write_row-returns t c = c.loop.invariant.told _ _ (right_none _ _ _ _ _ _ _ _ _ (omega arith))

-- ---- a tree of the right side
pub write_tree-returns-in_err-w : goal.write_tree-returns-in_err-w
write_tree-returns-in_err-w t c = rw c.from_residual.ensures (right_ended _ _ _ _ _ _ _ _ _ (omega (arith, c.in_err-w.ensures.lookup.3)))

pub write_tree-returns-then-under-ge-SIDE_NESTING : goal.write_tree-returns-then-under-ge-SIDE_NESTING
write_tree-returns-then-under-ge-SIDE_NESTING t c = right_low _ _ _ _ _ _ _ _ _ c.if-under-ge-SIDE_NESTING.true

pub write_tree-returns-then-kind-eq-VARIABLE : goal.write_tree-returns-then-kind-eq-VARIABLE
write_tree-returns-then-kind-eq-VARIABLE t c =
    let s = c.args in
    let word = c.in_ok-w.ensures.lookup.3.1 0 in
    right_variable (place s.under) s.under.levels s.right.now s.at s.bodies.now s.lengths.now s.out.now s.to (ap kind_of (sym word) ∙ sym c.kind_of-kind.ensures ∙ c.if-kind-eq-VARIABLE.true) _ (rw (c.id_of.ensures, word) at c.own_id.ensures) _ _ c.write_variable.ensures

pub write_tree-returns-then-kind-eq-PATTERN : goal.write_tree-returns-then-kind-eq-PATTERN
write_tree-returns-then-kind-eq-PATTERN t c =
    let s = c.args in
    let word = c.in_ok-w.ensures.lookup.3.1 0 in
    right_pattern (place s.under) s.under.levels s.right.now s.at s.bodies.now s.lengths.now s.out.now s.to (ap kind_of (sym word) ∙ sym c.kind_of-kind.ensures ∙ c.if-kind-eq-PATTERN.true) _ _ (rw word at c.write_pattern.ensures)

pub write_tree-returns-then-under-eq0 : goal.write_tree-returns-then-under-eq0
write_tree-returns-then-under-eq0 t c =
    let s = c.args in
    let kind = c.kind_of-kind.ensures ∙ ap kind_of (c.in_ok-w.ensures.lookup.3.1 0) in
    elim c.then-under-eq0.branch [
      | write_tree-then-under-eq0-via-then-under-eq0 w ↦ right_deep (place s.under) s.under.levels s.right.now s.at s.bodies.now s.lengths.now s.out.now s.to (around s.under (search rules)) c.if-under-ge-SIDE_NESTING.false (λ e. c.if-kind-eq-VARIABLE.false (kind ∙ e)) (λ e. c.if-kind-eq-PATTERN.false (kind ∙ e)) _ w.if-under-eq0.true
      | write_tree-then-under-eq0-via-else-under-eq0+then-to-ge-MOST_WORDS w ↦ right_full (place s.under) s.under.levels s.right.now s.at s.bodies.now s.lengths.now s.out.now s.to (around s.under (search rules)) c.if-under-ge-SIDE_NESTING.false (λ e. c.if-kind-eq-VARIABLE.false (kind ∙ e)) (λ e. c.if-kind-eq-PATTERN.false (kind ∙ e)) _ w.if-to-ge-MOST_WORDS.true
    ]

pub write_tree-returns : goal.write_tree-returns
write_tree-returns t c =
    let s = c.args in
    let word = c.in_ok-w.ensures.lookup.3.1 0 in
    right_inner (place s.under) s.under.levels s.right.now s.at s.bodies.now s.lengths.now s.out.now s.to (around s.under (search rules)) c.if-under-ge-SIDE_NESTING.false (λ e. c.if-kind-eq-VARIABLE.false (c.kind_of-kind.ensures ∙ ap kind_of word ∙ e)) (λ e. c.if-kind-eq-PATTERN.false (c.kind_of-kind.ensures ∙ ap kind_of word ∙ e)) (omega (arith, c.if-under-eq0.false)) c.if-to-ge-MOST_WORDS.false _ _
    (rw (c.inside-inner.ensures, levels_at c.inside-inner.result _ c.inside-inner.ensures ∙ inside_levels (place s.under) c.in_ok-w.field-0.now, c.put.ensures, c.count_of.ensures, word) at c.write_row.ensures)
