-- The root tells whether the arguments are taken, and then they are put behind what is written.
use Rattle.std.proofs.Common.{ℕ, ◌-◌, arith, refl, ap}
use Rattle.steps.proofs.Refusals.{refused_as}
use Rattle.steps.proofs.AsideWords.{aside_lies, aside_words}
use Rattle.steps.proofs.AsideWrites.{front_other, front_full, front_over, front_attached}
use Rattle.steps.proofs.aside.write_aside.Goals as goal

pub returns-in_err-w : goal.returns-in_err-w
returns-in_err-w c =
    let s = c.args in
    rw (refused_as _ _ _ c.from_residual.result c.in_err-w.ensures.value c.from_residual.ensures.1)
    (front_other s.right.now s.b s.part.now c.requires.0 c.requires.1 s.bodies.now s.lengths.now _ (ap (λ (n : ℕ). n - s.b) c.count_of.ensures) c.requires.2 (rw c.in_err-w.ensures.ok_part at c.written_root.ensures) _)

pub returns-then-count_of-more-gt-SYMBOL_COUNT : goal.returns-then-count_of-more-gt-SYMBOL_COUNT
returns-then-count_of-more-gt-SYMBOL_COUNT c =
    let s = c.args in
    front_full s.right.now s.b s.part.now c.requires.0 c.requires.1 s.bodies.now s.lengths.now _ (ap (λ (n : ℕ). n - s.b) c.count_of.ensures) c.requires.2 _ (rw c.in_ok-w.ensures.ok_part at c.written_root.ensures)
    (omega (arith, c.if-count_of-more-gt-SYMBOL_COUNT.true, c.count_of-2.ensures)) _

pub returns-in_err-n : goal.returns-in_err-n
returns-in_err-n c =
    let s = c.args in
    rw (refused_as _ _ _ c.from_residual-in_err-n.result c.in_err-n.ensures.value c.from_residual-in_err-n.ensures.1)
    (front_over s.right.now s.b s.part.now c.requires.0 c.requires.1 s.bodies.now s.lengths.now _ (ap (λ (n : ℕ). n - s.b) c.count_of.ensures) c.requires.2 _ (rw c.in_ok-w.ensures.ok_part at c.written_root.ensures)
    (omega (arith, c.if-count_of-more-gt-SYMBOL_COUNT.false, c.count_of-2.ensures)) _ _ (rw c.in_err-n.ensures.ok_part at c.write_right.ensures))

-- the arguments lie within the part
pub slice_bounds-attach-count : goal.slice_bounds-attach-count
slice_bounds-attach-count c = let lies = aside_lies c.args.part.now c.requires.0 c.requires.1 c.args.b (omega arith) in omega (arith, c.child_at-from.ensures, c.part_end-end.ensures)

pub offset_bounds-part-from : goal.offset_bounds-part-from
offset_bounds-part-from c = let lies = aside_lies c.args.part.now c.requires.0 c.requires.1 c.args.b (omega arith) in omega (arith, c.requires.0.short, c.child_at-from.ensures, c.part_end-end.ensures)

pub slice_bounds-attach-start : goal.slice_bounds-attach-start
slice_bounds-attach-start c = let lies = aside_lies c.args.part.now c.requires.0 c.requires.1 c.args.b (omega arith) in omega (arith, c.child_at-from.ensures, c.part_end-end.ensures)

pub slice_bounds-attach-end : goal.slice_bounds-attach-end
slice_bounds-attach-end c = let lies = aside_lies c.args.part.now c.requires.0 c.requires.1 c.args.b (omega arith) in omega (arith, c.part_end-end.ensures)

pub returns : goal.returns
returns c =
    let s = c.args in
    rw c.ok_or-3.ensures.value
    (front_attached s.right.now s.b s.part.now c.requires.0 c.requires.1 s.bodies.now s.lengths.now _ (ap (λ (n : ℕ). n - s.b) c.count_of.ensures) c.requires.2 _ (rw c.in_ok-w.ensures.ok_part at c.written_root.ensures)
    (omega (arith, c.if-count_of-more-gt-SYMBOL_COUNT.false, c.count_of-2.ensures)) s.out.now _ c.told-out _ (rw c.in_ok-n.ensures.ok_part at c.write_right.ensures) _
    (aside_words s.part.now c.requires.0 c.requires.1 s.b (omega arith) _ _ c.child_at-from.ensures c.part_end-end.ensures) _ refl _ c.attach.result c.attach.ensures)
