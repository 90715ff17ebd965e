-- `line::read_line` meets its contract: the words so far, ahead of what is left, are the line at every turn.
use Rattle.std.proofs.Common.{arith, refl, [], ◌∷◌, ◌++◌, length-append, ◌∙◌}
use Rattle.text.proofs.Calls.{byte_there, byte_past}
use Rattle.text.proofs.Turns.{begun, spent, no_token, runs_out, line_ends, bad_byte, goes_on}
use Rattle.text.proofs.Wrote.{word_after}
use Rattle.text.proofs.line.read_line.Goals as goal

pub loop-n-init : goal.loop-n-init
loop-n-init c = record { ws = []; count = refl; lie = refl; left = begun c.args.most c.args.text.now c.args.at }

pub returns-in_err-w : goal.returns-in_err-w
returns-in_err-w c =
    let q = c.loop-n in rw c.from_residual.ensures (no_token c.args.most c.args.text.now c.args.at q.invariant.ws q.n q.i q.invariant.left c.loop-n-test.true c.in_err-w.ensures)

pub returns-in_err-get : goal.returns-in_err-get
returns-in_err-get c =
    let q = c.loop-n in
    rw c.from_residual-in_err-get.ensures (runs_out c.args.most c.args.text.now c.args.at q.invariant.ws q.n q.i q.invariant.left c.loop-n-test.true c.in_ok-w.w c.in_ok-w.end c.in_ok-w.ensures (byte_past _ _ c.in_err-get.ensures.lookup.0))

pub returns-in-10 : goal.returns-in-10
returns-in-10 c =
    let q = c.loop-n in
    let g = byte_there c.args.text.now c.in_ok-w.end c.in_ok-get.field-0.now c.in_ok-get.ensures.lookup.0 c.in_ok-get.ensures.lookup.1 in (
      q.invariant.ws ++ (c.in_ok-w.w ∷ []),
      line_ends c.args.most c.args.text.now c.args.at q.invariant.ws q.n q.i q.invariant.left c.loop-n-test.true c.in_ok-w.w c.in_ok-w.end c.in_ok-w.ensures g.0 (g.1 ∙ c.in-10.is),
      rw length-append (omega (arith, q.invariant.count)),
      word_after q.invariant.ws c.args.out.now q.out _ c.args.to q.n _ q.invariant.count q.invariant.lie c.put.ensures,
      omega (arith, g.0),
    )

pub returns-in_default : goal.returns-in_default
returns-in_default c =
    let q = c.loop-n in
    let g = byte_there c.args.text.now c.in_ok-w.end c.in_ok-get.field-0.now c.in_ok-get.ensures.lookup.0 c.in_ok-get.ensures.lookup.1 in
    bad_byte c.args.most c.args.text.now c.args.at q.invariant.ws q.n q.i q.invariant.left c.loop-n-test.true c.in_ok-w.w c.in_ok-w.end c.in_ok-w.ensures g.0 (λ e. omega (arith, e, g.1)) (λ e. omega (arith, e, g.1))

pub loop-n-preserved : goal.loop-n-preserved
loop-n-preserved c =
    let q = c.loop-n in
    let g = byte_there c.args.text.now c.in_ok-w.end c.in_ok-get.field-0.now c.in_ok-get.ensures.lookup.0 c.in_ok-get.ensures.lookup.1 in record {
      ws = q.invariant.ws ++ (c.in_ok-w.w ∷ []);
      count = rw length-append (omega (arith, q.invariant.count));
      lie = word_after q.invariant.ws c.args.out.now q.out _ c.args.to q.n _ q.invariant.count q.invariant.lie c.put.ensures;
      left = goes_on c.args.most c.args.text.now c.args.at q.invariant.ws q.n q.i q.invariant.left c.loop-n-test.true c.in_ok-w.w c.in_ok-w.end c.in_ok-w.ensures g.0 (λ e. omega (arith, e, g.1)) (g.1 ∙ c.in-32.is);
    }

pub returns : goal.returns
returns c = let q = c.loop-n in spent c.args.most c.args.text.now c.args.at q.invariant.ws q.n q.i q.invariant.left c.loop-n-test.false
