-- `rule_text::read_rules` meets its contract: the words so far, before those of the rules left, are the rules at every turn.
use Rattle.std.proofs.Common.{arith, refl, [], ◌++◌, length-append}
use Rattle.std.proofs.lemmas.Result.{err_from_is_err_and}
use Rattle.text.proofs.RuleSteps.{begun, rules_end, rule_bad, rule_next, words_after}
use Rattle.text.proofs.rule_text.read_rules.Goals as goal

pub loop-number-init : goal.loop-number-init
loop-number-init c = record { inside = c.requires.0; few = omega arith; ws = []; count = refl; lie = refl; left = begun c.args.count c.args.text.now c.args.at }

pub returns-in_err-m : goal.returns-in_err-m
returns-in_err-m c =
    let q = c.loop-number in
    let p = err_from_is_err_and c.from_residual.result c.from_residual.ensures.1 in
    rw (p.1, p.2) (rule_bad c.args.count c.args.text.now c.args.at q.invariant.ws q.number q.a q.invariant.left c.loop-number-test.true _ c.in_err-m.ensures)

pub loop-number-preserved : goal.loop-number-preserved
loop-number-preserved c =
    let q = c.loop-number in
    let t = c.in_ok-m.ensures in record {
      inside = t.4;
      few = omega (arith, t.5, q.invariant.few);
      ws = q.invariant.ws ++ t.0;
      count = rw (length-append q.invariant.ws t.0) (omega (arith, q.invariant.count, t.2));
      lie = words_after q.invariant.ws t.0 c.args.out.now q.out _ q.n q.invariant.count q.invariant.lie t.3;
      left = rule_next c.args.count c.args.text.now c.args.at q.invariant.ws q.number q.a q.invariant.left c.loop-number-test.true t.0 c.in_ok-m.next t.1;
    }

pub returns : goal.returns
returns c =
    let q = c.loop-number in
    (q.invariant.ws, rules_end c.args.count c.args.text.now c.args.at q.invariant.ws q.number q.a q.invariant.left c.loop-number-test.false, q.invariant.count, q.invariant.lie, q.invariant.inside, omega (arith, q.invariant.few, c.requires))
