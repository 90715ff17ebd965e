-- `kept::keep_rules` meets its contract: what was read and what is left are the rules present, at every turn.
use Rattle.std.proofs.Common.{arith, sym, ◌∙◌}
use Rattle.std.proofs.lemmas.Result.{err_from_is_err_and}
use Rattle.mend.proofs.Keeping.{begun, reading_bad, reading_end, forward, rule_dropped, rule_stayed}
use Rattle.mend.proofs.kept.keep_rules.Goals as goal
use Rattle.mend.proofs.kept.keep_rules.Goals.{then-rule_stays, else-rule_stays}

pub loop-a-init : goal.loop-a-init
loop-a-init c =
    record { room = omega arith; places = omega arith; reading = rw c.put.ensures (begun c.args.text.now c.args.at c.args.book.now c.args.olds.now c.requires.0 (omega arith)) }

pub returns-in_err-n : goal.returns-in_err-n
returns-in_err-n c =
    let q = c.loop-a in
    let p = err_from_is_err_and c.from_residual.result c.from_residual.ensures.1 in
    rw (p.1, p.2) (reading_bad c.args.text.now c.args.at q.book q.olds q.a q.old q.new q.to q.invariant.reading _ c.loop-a-test.true c.in_err-n.ensures)

pub slice_bounds-rule_stays-end : goal.slice_bounds-rule_stays-end
slice_bounds-rule_stays-end c =
    let i = c.loop-a.invariant.reading in omega (arith, i.short, i.many, c.in_ok-n.ensures.5, c.read_any_rule.auto.out)

pub loop-a-smaller : goal.loop-a-smaller
loop-a-smaller c =
    let q = c.loop-a in
    let t = c.in_ok-n.ensures in
    omega (arith, t.4, forward c.args.text.now c.args.at q.book q.olds q.a q.old q.new q.to q.invariant.reading c.loop-a-test.true t.0 _ _ t.1 t.2 t.5 t.4 (omega arith) _ t.3)

pub loop-a-preserved : goal.loop-a-preserved
loop-a-preserved c =
    let q = c.loop-a in
    let t = c.in_ok-n.ensures in
    record {
      room = omega (arith, c.read_any_rule.auto.out, q.invariant.room);
      places =
          elim c.if-rule_stays.branch [
            | then-rule_stays w ↦ rw w.olds-is (omega (arith, w.put-then-rule_stays.auto.out, q.invariant.places))
            | else-rule_stays w ↦ rw w.olds-is q.invariant.places
          ];
      reading =
          elim c.if-rule_stays.branch [
            | then-rule_stays w ↦
                rw (w.olds-is, w.new-is, w.to-is)
                (rule_stayed c.args.text.now c.args.at q.book q.olds q.a q.old q.new q.to q.invariant.reading c.loop-a-test.true t.0 _ _ t.1 t.2 t.5 t.4 (omega arith) _ t.3 (sym c.rule_stays.ensures ∙ w.if-rule_stays.true) q.invariant.places _ w.put-then-rule_stays.ensures)
            | else-rule_stays w ↦
                rw (w.olds-is, w.new-is, w.to-is)
                (rule_dropped c.args.text.now c.args.at q.book q.olds q.a q.old q.new q.to q.invariant.reading c.loop-a-test.true t.0 _ _ t.1 t.2 t.5 t.4 (omega arith) _ t.3 (sym c.rule_stays.ensures ∙ w.if-rule_stays.false))
          ];
    }

pub returns : goal.returns
returns c =
    let q = c.loop-a in reading_end c.args.text.now c.args.at q.book q.olds q.a q.old q.new q.to q.invariant.reading c.requires.1 c.loop-a-test.false (omega arith)
