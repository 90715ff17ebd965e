-- `input::judge_terms` meets its contract: the terms so far, before those of the lines left, are the terms at every turn.
use Rattle.std.proofs.Common.{arith, [], ◌∷◌, ◌++◌}
use Rattle.std.proofs.lemmas.Result.{err_from_is_err_and}
use Rattle.text.proofs.Laws.{some_asked, none_asked}
use Rattle.simplify.proofs.Lines.{begun, text_ends, line_bad, line_next}
use Rattle.simplify.proofs.input.judge_terms.Goals as goal

pub loop-a-init : goal.loop-a-init
loop-a-init c = record { inside = c.requires.0; early = omega arith; terms = []; left = begun c.args.due c.args.text.now c.args.at }

pub returns-in_err-next : goal.returns-in_err-next
returns-in_err-next c =
    let q = c.loop-a in
    let p = err_from_is_err_and c.from_residual.result c.from_residual.ensures.1 in
    let n = none_asked _ _ _ c.in_err-next.ensures.value in
    rw (p.1, p.2, n.1)
    (line_bad c.args.due c.args.text.now c.args.at q.invariant.terms q.line q.a q.invariant.left c.loop-a-test.true (rw n.0 at c.read_term_line.ensures), omega (arith, q.invariant.inside, q.invariant.early))

pub overflow_add-line : goal.overflow_add-line
overflow_add-line c = omega (arith, c.loop-a.invariant.inside, c.loop-a.invariant.early, c.requires)

pub loop-a-smaller : goal.loop-a-smaller
loop-a-smaller c = let t = rw (some_asked _ _ _ c.in_ok-next.ensures.value) at c.read_term_line.ensures in omega (arith, t.4, t.5, c.loop-a-test.true)

pub loop-a-preserved : goal.loop-a-preserved
loop-a-preserved c =
    let q = c.loop-a in
    let t = rw (some_asked _ _ _ c.in_ok-next.ensures.value) at c.read_term_line.ensures in
    record {
      inside = t.5;
      early = omega (arith, q.invariant.early, t.4);
      terms = q.invariant.terms ++ (t.0 ∷ []);
      left = line_next c.args.due c.args.text.now c.args.at q.invariant.terms q.line q.a q.invariant.left t.0 c.in_ok-next.next c.loop-a-test.true t.1;
    }

pub returns : goal.returns
returns c = let q = c.loop-a in (q.invariant.terms, text_ends c.args.due c.args.text.now c.args.at q.invariant.terms q.line q.a q.invariant.left c.loop-a-test.false)
