-- `line::write_line` meets its contract: the first token, and then the rest of the line.
use Rattle.std.proofs.Common.{arith, sym, get_or, drop, length-drop}
use borrow.Author.Tests.{eqb-true, eqb-false}
use Rattle.term.proofs.Laws.{suffix}
use Rattle.text.specs.Token.{word_text}
use Rattle.text.specs.Line.{rest_text}
use Rattle.text.proofs.KindTexts.{word_short}
use Rattle.text.proofs.TermTexts.{first_rest, no_words}
use Rattle.text.proofs.Wrote.{wrote_then, wrote_byte}
use Rattle.text.proofs.line.write_line.Goals as goal

pub returns-then-is_empty : goal.returns-then-is_empty
returns-then-is_empty c = rw (no_words c.args.words.now (eqb-true _ 0 (sym c.if-is_empty.ensures))) (wrote_byte c.args.out.now c.args.at 10 _ c.put.ensures)

pub write_rest-requires : goal.write_rest-requires
write_rest-requires c =
    (rw (suffix 1 c.args.words.now, length-drop 1 c.args.words.now) (omega (arith, c.requires)), omega (arith, c.write_token-to.ensures.0, word_short (get_or c.args.words.now 0 0), c.requires))

pub returns : goal.returns
returns c =
    rw (first_rest c.args.words.now (omega (arith, eqb-false _ 0 (sym c.if-is_empty.ensures))))
    (wrote_then c.args.out.now c.args.at _ _ c.write_token-to.new.out _ (word_text (get_or c.args.words.now 0 0)) (rest_text (drop 1 c.args.words.now)) c.write_token-to.ensures (rw (suffix 1 c.args.words.now) at c.write_rest.ensures))
