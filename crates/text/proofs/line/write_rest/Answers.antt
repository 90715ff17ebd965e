-- `line::write_rest` meets its contract: what was written and what is left are the rest of the line, at every turn.
use Rattle.std.proofs.Common.{arith, refl, [], ◌∷◌, ◌++◌, get_or}
use Rattle.text.specs.Token.{word_text}
use Rattle.text.proofs.KindTexts.{word_short}
use Rattle.text.proofs.TermTexts.{rest_next, rest_ends}
use Rattle.text.proofs.Wrote.{wrote_nothing, wrote_then, wrote_first, wrote_byte}
use Rattle.text.proofs.line.write_rest.Goals as goal

pub loop-word-init : goal.loop-word-init
loop-word-init c = record { near = omega arith; bs = []; wrote = wrote_nothing c.args.out.now c.args.at; rest = refl }

pub loop-word-preserved : goal.loop-word-preserved
loop-word-preserved c =
    let q = c.loop-word in
    let w = get_or c.args.words.now q.word-index 0 in record {
      near = omega (arith, c.write_token-to.ensures.0, word_short w, q.invariant.near);
      bs = q.invariant.bs ++ (32 ∷ word_text w);
      wrote = wrote_then c.args.out.now c.args.at q.to _ q.out _ q.invariant.bs (32 ∷ word_text w) q.invariant.wrote (wrote_first q.out q.to 32 _ c.put.new.out _ (word_text w) c.put.ensures c.write_token-to.ensures);
      rest = rest_next c.args.words.now q.word-index q.invariant.bs q.invariant.rest c.loop-word-test.true;
    }

pub returns : goal.returns
returns c =
    let q = c.loop-word in
    rw (rest_ends c.args.words.now q.word-index q.invariant.bs q.invariant.rest c.loop-word-test.false)
    (wrote_then c.args.out.now c.args.at q.to _ q.out _ q.invariant.bs (10 ∷ []) q.invariant.wrote (wrote_byte q.out q.to 10 _ c.put-2.ensures))
