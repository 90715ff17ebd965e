-- The term is copied into the work area, and each step made leaves a run of one step less.
use Rattle.std.proofs.Common.{◌≡◌, ℕ, length, arith, refl, ap, ◌∙◌}
use Rattle.std.specs.Prelude.{Option, Some, None, Ok}
use Rattle.fit.specs.Match.{tree_of}
use Rattle.steps.proofs.Runs.{search_short, run_more, run_rests, run_refused, run_used}
use Rattle.steps.proofs.simplify.run.Goals as goal
use Rattle.steps.proofs.simplify.run.Goals.{in-Ok-None, in-Err}

pub overflow_add-visits : goal.overflow_add-visits
overflow_add-visits c =
    let s = c.args in
    let q = c.loop-left in
    let few = search_short s.book.now c.requires.0 s.tree.now s.budget (tree_of s.term.now) q.area q.size q.left q.visits q.invariant.running _ c.one_step-stepped.ensures.2 in
    omega (arith, q.invariant.running.visited, c.ranges.budget)

pub loop-left-preserved : goal.loop-left-preserved
loop-left-preserved c =
    let s = c.args in
    let q = c.loop-left in
    let stepped = c.one_step-stepped in
    let same : length stepped.new.area ≡ length q.area = omega (arith, stepped.array_long, q.invariant.running.long) in
    let came : stepped.result.came ≡ Ok (Some c.in-Ok-Some.n) = c.in-Ok-Some.is ∙ ap (λ (r : Option ℕ). Ok r) (rw c.in-Ok-Some.is at c.in-Ok-Some.field-0-is) in
    record {
      running = run_more s.book.now c.requires.0 s.tree.now s.budget (tree_of s.term.now) q.area q.size q.left q.visits q.invariant.running _ stepped.ensures.2 c.loop-left-test.true _ same _ (rw came at stepped.ensures.0);
      cleared = stepped.ensures.1;
    }

pub returns-in-loop-left : goal.returns-in-loop-left
returns-in-loop-left c =
    let s = c.args in
    let q = c.loop-left in
    let stepped = c.one_step-stepped in
    let same : length stepped.new.area ≡ length q.area = omega (arith, stepped.array_long, q.invariant.running.long) in
    elim c.match-stepped.branch [
      | in-Ok-None w ↦
          let came : stepped.result.came ≡ Ok None = w.in-Ok-None.is ∙ ap (λ (r : Option ℕ). Ok r) (rw w.in-Ok-None.is at w.in-Ok-None.field-0-is) in
          rw w.answer-is
          (run_rests s.book.now c.requires.0 s.tree.now s.budget (tree_of s.term.now) q.area q.size q.left q.visits q.invariant.running _ stepped.ensures.2 c.loop-left-test.true _ same _ refl refl (rw came at stepped.ensures.0) refl refl)
      | in-Err w ↦ rw w.answer-is
          (run_refused s.book.now c.requires.0 s.tree.now s.budget (tree_of s.term.now) q.area q.size q.left q.visits q.invariant.running _ stepped.ensures.2 c.loop-left-test.true _ same _ refl refl (rw w.in-Err.is at stepped.ensures.0) refl)
    ]

pub returns : goal.returns
returns c =
    let s = c.args in
    let q = c.loop-left in
    run_used s.book.now c.requires.0 s.tree.now s.budget (tree_of s.term.now) q.area q.size q.left q.visits q.invariant.running c.loop-left-test.false _ c.last_look.ensures
