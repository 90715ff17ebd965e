-- One law for each root that a right side can have; a parameter's child is further on.
use Rattle.std.proofs.Common.{◌≡◌, ℕ, ◌+◌, arith, sym, ap, ◌∙◌, get_or}
use Rattle.term.specs.Word.{kind_of, count_of, ident_of}
use Rattle.fit.specs.Build.{start_of}
use Rattle.steps.proofs.RightTrees.{child_onward}
use Rattle.steps.proofs.WrittenRoots.{root_ended, root_plain, root_strange, root_none, root_body, root_own, root_outside, root_child}
use Rattle.steps.proofs.aside.written_root.Goals as goal
use Rattle.steps.proofs.aside.written_root.Goals.{then-j-eq0-via-then-j-eq0, then-j-eq0-via-else-j-eq0+then-count_of-j}

pub returns-then-kind_of-ne-PATTERN : goal.returns-then-kind_of-ne-PATTERN
returns-then-kind_of-ne-PATTERN c =
    let s = c.args in
    let word : c.in-Some.field-0.now ≡ get_or c.args.right.now c.loop-w.at 0 = (rw c.in-Some.is at c.get.ensures.lookup.3).1 0 in
    c.loop-w.invariant _ (root_plain s.right.now c.loop-w.at s.bodies.now s.lengths.now _ word (λ z. c.if-kind_of-ne-PATTERN.true (c.kind_of.ensures ∙ z)) _ c.root_of.ensures)

pub returns-then-x-ge-MOST_VARS_LONG : goal.returns-then-x-ge-MOST_VARS_LONG
returns-then-x-ge-MOST_VARS_LONG c =
    let s = c.args in
    let word : c.in-Some.field-0.now ≡ get_or c.args.right.now c.loop-w.at 0 = (rw c.in-Some.is at c.get.ensures.lookup.3).1 0 in
    c.loop-w.invariant _ (root_strange s.right.now c.loop-w.at s.bodies.now s.lengths.now (ap kind_of (sym word) ∙ sym c.kind_of.ensures ∙ c.if-kind_of-ne-PATTERN.false) (omega (arith, c.if-x-ge-MOST_VARS_LONG.true, c.id_of-x.ensures, ap ident_of word)) _)

pub returns-in_err-v : goal.returns-in_err-v
returns-in_err-v c =
    let s = c.args in
    let word : c.in-Some.field-0.now ≡ get_or c.args.right.now c.loop-w.at 0 = (rw c.in-Some.is at c.get.ensures.lookup.3).1 0 in
    rw c.from_residual.ensures
    (c.loop-w.invariant _ (root_none s.right.now c.loop-w.at s.bodies.now s.lengths.now (ap kind_of (sym word) ∙ sym c.kind_of.ensures ∙ c.if-kind_of-ne-PATTERN.false)
    (omega (arith, c.in_err-v.ensures.lookup.3, c.start_of.ensures, ap (start_of s.lengths.now) (c.id_of-x.ensures ∙ ap ident_of word))) _))

pub returns-then-kind_of-ne-VARIABLE : goal.returns-then-kind_of-ne-VARIABLE
returns-then-kind_of-ne-VARIABLE c =
    let s = c.args in
    let word : c.in-Some.field-0.now ≡ get_or c.args.right.now c.loop-w.at 0 = (rw c.in-Some.is at c.get.ensures.lookup.3).1 0 in
    let v = c.in_ok-v.field-0.now in
    let there : v ≡ get_or s.bodies.now (start_of s.lengths.now (ident_of (get_or s.right.now c.loop-w.at 0))) 0 =
    c.in_ok-v.ensures.lookup.3.1 0 ∙ ap (λ (n : ℕ). get_or s.bodies.now n 0) (c.start_of.ensures ∙ ap (start_of s.lengths.now) (c.id_of-x.ensures ∙ ap ident_of word)) in
    let three = ap kind_of (sym word) ∙ sym c.kind_of.ensures ∙ c.if-kind_of-ne-PATTERN.false in
    c.loop-w.invariant _ (root_body s.right.now c.loop-w.at s.bodies.now s.lengths.now three v there (λ z. c.if-kind_of-ne-VARIABLE.true (c.kind_of-in-Some.ensures ∙ z)) _ c.root_of-then-kind_of-ne-VARIABLE.ensures)

pub returns-then-j-eq0 : goal.returns-then-j-eq0
returns-then-j-eq0 c =
    let s = c.args in
    let word : c.in-Some.field-0.now ≡ get_or c.args.right.now c.loop-w.at 0 = (rw c.in-Some.is at c.get.ensures.lookup.3).1 0 in
    let v = c.in_ok-v.field-0.now in
    let there : v ≡ get_or s.bodies.now (start_of s.lengths.now (ident_of (get_or s.right.now c.loop-w.at 0))) 0 =
    c.in_ok-v.ensures.lookup.3.1 0 ∙ ap (λ (n : ℕ). get_or s.bodies.now n 0) (c.start_of.ensures ∙ ap (start_of s.lengths.now) (c.id_of-x.ensures ∙ ap ident_of word)) in
    let three = ap kind_of (sym word) ∙ sym c.kind_of.ensures ∙ c.if-kind_of-ne-PATTERN.false in
    let two = sym c.kind_of-in-Some.ensures ∙ c.if-kind_of-ne-VARIABLE.false in
    elim c.then-j-eq0.branch [
      | then-j-eq0-via-then-j-eq0 w ↦ c.loop-w.invariant _ (root_own s.right.now c.loop-w.at s.bodies.now s.lengths.now three v there two (sym c.id_of-j.ensures ∙ w.if-j-eq0.true))
      | then-j-eq0-via-else-j-eq0+then-count_of-j w ↦ c.loop-w.invariant _ (root_outside s.right.now c.loop-w.at s.bodies.now s.lengths.now three v there two (omega (arith, w.if-count_of-j.true, w.count_of.ensures, ap count_of word, c.id_of-j.ensures)))
    ]

pub loop-w-smaller : goal.loop-w-smaller
loop-w-smaller c =
    let onward = child_onward c.args.right.now (c.loop-w.at + 1) _ _ c.child_at-at.ensures in
    omega (arith, (rw c.in-Some.is at c.get.ensures.lookup.3).0, onward)

pub loop-w-preserved : goal.loop-w-preserved
loop-w-preserved c =
    let s = c.args in
    let word : c.in-Some.field-0.now ≡ get_or c.args.right.now c.loop-w.at 0 = (rw c.in-Some.is at c.get.ensures.lookup.3).1 0 in
    let v = c.in_ok-v.field-0.now in
    let there : v ≡ get_or s.bodies.now (start_of s.lengths.now (ident_of (get_or s.right.now c.loop-w.at 0))) 0 =
    c.in_ok-v.ensures.lookup.3.1 0 ∙ ap (λ (n : ℕ). get_or s.bodies.now n 0) (c.start_of.ensures ∙ ap (start_of s.lengths.now) (c.id_of-x.ensures ∙ ap ident_of word)) in
    let three = ap kind_of (sym word) ∙ sym c.kind_of.ensures ∙ c.if-kind_of-ne-PATTERN.false in
    let two = sym c.kind_of-in-Some.ensures ∙ c.if-kind_of-ne-VARIABLE.false in
    λ r told.
    c.loop-w.invariant r (root_child s.right.now c.loop-w.at s.bodies.now s.lengths.now three v there two (λ z. c.if-j-eq0.false (c.id_of-j.ensures ∙ z)) (omega (arith, c.if-count_of-j.false, c.count_of.ensures, ap count_of word, c.id_of-j.ensures)) _
    (c.child_at-at.ensures ∙ rw c.id_of-j.ensures) r told)

pub returns : goal.returns
returns c = let s = c.args in c.loop-w.invariant _ (root_ended s.right.now c.loop-w.at s.bodies.now s.lengths.now (rw c.in_default.is at c.get.ensures.lookup.3) _)
