-- The first tree that is left is appended, within the words and the places.
use Rattle.std.proofs.Common.{arith, ◌≡◌, refl, ap, ◌∙◌, length, ◌+◌, ◌-◌, ◌<◌}
use Rattle.term.specs.Part.{part_end}
use Rattle.term.proofs.Laws.{suffix}
use Rattle.walk.proofs.Entering.{entering_count, entering_from, entering_past, entering_more, entering_start, entering_told}
use Rattle.walk.proofs.state.Walk.enter.Goals as goal
use Rattle.walk.proofs.state.Walk.enter.Goals.{In-loop}

-- where the next child begins, and the number of its place
next_from : (c : In-loop) → c.loop.from < length c.args.term.now
next_from c = entering_from _ _ _ _ _ _ _ _ _ c.requires.0 c.loop.invariant.0 (λ z. omega arith)

next_place : (c : In-loop) → c.loop.count < 4096
next_place c = omega (arith, entering_count _ _ _ _ _ _ _ _ _ c.requires.0 c.loop.invariant.0)

pub loop-init : goal.loop-init
loop-init c =
    let s = c.args in
    let z : c.count_of-more.result - 0 ≡ c.count_of-more.result = omega arith in
    (rw z (entering_start s.term.now s.self c.requires.0 c.requires.1 s.n c.requires.2 c.requires.3 _ c.inside_word-inner.ensures _ c.count_of-more.ensures), refl, refl)

pub overflow_cast-self-in-loop : goal.overflow_cast-self-in-loop
overflow_cast-self-in-loop c = omega (arith, next_from (goal.at.overflow_cast-self-in-loop c).In-loop, c.requires.0.short)

pub offset_bounds-self-count : goal.offset_bounds-self-count
offset_bounds-self-count c = omega (arith, next_place (goal.at.offset_bounds-self-count c).In-loop)

pub bounds-self-count : goal.bounds-self-count
bounds-self-count c = next_place (goal.at.bounds-self-count c).In-loop

pub bounds-self-count-in-loop : goal.bounds-self-count-in-loop
bounds-self-count-in-loop c = next_place (goal.at.bounds-self-count-in-loop c).In-loop

pub bounds-self-count-in-loop-2 : goal.bounds-self-count-in-loop-2
bounds-self-count-in-loop-2 c = next_place (goal.at.bounds-self-count-in-loop-2 c).In-loop

pub offset_bounds-term-from : goal.offset_bounds-term-from
offset_bounds-term-from c = omega (arith, next_from (goal.at.offset_bounds-term-from c).In-loop, c.requires.0.short)

pub slice_bounds-part_end-count : goal.slice_bounds-part_end-count
slice_bounds-part_end-count c = omega (arith, next_from (goal.at.slice_bounds-part_end-count c).In-loop)

pub slice_bounds-part_end-start : goal.slice_bounds-part_end-start
slice_bounds-part_end-start c = omega (arith, next_from (goal.at.slice_bounds-part_end-start c).In-loop)

pub overflow_add-from-in-loop : goal.overflow_add-from-in-loop
overflow_add-from-in-loop c =
    omega (arith, entering_past _ _ _ _ _ _ _ _ _ c.requires.0 c.loop.invariant.0 (λ z. omega arith), c.requires.0.short, c.part_end-from.ensures ∙ ap part_end (suffix c.loop.from c.args.term.now))

pub overflow_add-count : goal.overflow_add-count
overflow_add-count c = omega (arith, next_place (goal.at.overflow_add-count c).In-loop)

pub loop-preserved : goal.loop-preserved
loop-preserved c =
    let q = c.loop in
    let z : c.count_of-more.result - (q.counter + 1) ≡ c.count_of-more.result - q.counter - 1 = omega arith in (
      rw z (entering_more _ _ _ _ _ _ _ _ _ c.requires.0 q.invariant.0 (λ z. omega arith) _ (c.part_end-from.ensures ∙ ap part_end (suffix q.from c.args.term.now))),
      q.invariant.1,
      q.invariant.2,
    )

pub returns : goal.returns
returns c =
    let s = c.args in
    entering_told s.term.now s.self c.requires.0 c.requires.1 s.n c.requires.2 _ _ _ _ _ _ _ c.loop.invariant.0 (omega arith) s.to _ _ c.loop.invariant.1 c.loop.invariant.2
