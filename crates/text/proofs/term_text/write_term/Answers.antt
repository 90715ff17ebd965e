-- `term_text::write_term` meets its contract: a term's line is written into the cleared slice, which is cleared again where there is no room.
use native.Mathlib.Omega.{arith}
use mathlib.Core.Path.{◌≡◌, sym, ◌∙◌}
use lib.ListN.{length}
use Rattle.term.specs.declared.answer.Answer.TheVariants.{Done, Short}
use Rattle.term.specs.Check.{term_limits}
use Rattle.term.proofs.Laws.{good_tree, cleared}
use Rattle.text.specs.Line.{line_text}
use Rattle.text.proofs.Givens.{given_short, given_done, given_bad, sound_term}
use Rattle.text.proofs.TermTexts.{write_given}
use Rattle.text.proofs.term_text.write_term.Goals as goal

pub write_line-end-requires : goal.write_line-end-requires
write_line-end-requires c =
    ((good_tree term_limits (omega arith) c.args.term.now (sound_term _ (sym c.accept_term.ensures ∙ c.in_default.is))).short, omega arith)

pub returns : goal.returns
returns c =
    let s = c.args in
    write_given (length s.out.now) s.term.now Done _
    (given_done (length s.out.now) (line_text s.term.now) _ c.clear_bytes.new.out _ (sym c.accept_term.ensures ∙ c.in_default.is)
    (omega (arith, c.if-out-end.false, c.write_line-end.ensures.0, c.write_line-end.auto.out, c.clear_bytes.auto.out)) c.clear_bytes.ensures c.write_line-end.ensures.1)

pub returns-then-out-end : goal.returns-then-out-end
returns-then-out-end c =
    let s = c.args in
    let k : length c.write_line-end.new.out ≡ length s.out.now = c.write_line-end.auto.out ∙ c.clear_bytes.auto.out in
    write_given (length s.out.now) s.term.now Short _
    (given_short (length s.out.now) (line_text s.term.now) _ _ (sym c.accept_term.ensures ∙ c.in_default.is)
    (omega (arith, c.if-out-end.true, c.write_line-end.ensures.0, k)) (cleared _ _ _ k c.clear_bytes-then-out-end.ensures))

pub returns-in-Err : goal.returns-in-Err
returns-in-Err c =
    let s = c.args in
    write_given (length s.out.now) s.term.now _ _
    (given_bad (length s.out.now) (line_text s.term.now) _ _ _ (sym c.accept_term.ensures ∙ c.in-Err.is) c.clear_bytes.ensures)
