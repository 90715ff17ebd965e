-- `term_text::read_term` meets its contract: the line that was read is all that the text says.
use Rattle.std.proofs.Common.{arith, sym, length, take}
use lib.Seq.{length-take-le}
use Rattle.text.proofs.TermTexts.{too_long, no_line, line_after, line_alone, answer_bad, read_given, first_words, few_words}
use Rattle.text.proofs.term_text.read_term.Goals as goal

pub returns-then-text-gt-MOST_BYTES : goal.returns-then-text-gt-MOST_BYTES
returns-then-text-gt-MOST_BYTES c = answer_bad _ c.args.text.now 0 _ (too_long c.args.text.now c.if-text-gt-MOST_BYTES.true) c.clear.ensures

pub returns-in_default : goal.returns-in_default
returns-in_default c = answer_bad _ c.args.text.now 1 _ (no_line c.args.text.now c.if-text-gt-MOST_BYTES.false c.in_default.ensures) c.clear.ensures

pub returns-then-next-text : goal.returns-then-next-text
returns-then-next-text c =
    let t = c.in-Some.ensures in
    answer_bad _ c.args.text.now 2 _ (line_after c.args.text.now c.if-text-gt-MOST_BYTES.false t.0 c.in-Some.next t.1 c.if-next-text.true) c.clear.ensures

pub slice_bounds-work-end : goal.slice_bounds-work-end
slice_bounds-work-end c = let t = c.in-Some.ensures in omega (arith, few_words c.args.text.now t.0 c.in-Some.next _ t.1 t.2, c.read_line.auto.out)

pub slice_bounds-term-end : goal.slice_bounds-term-end
slice_bounds-term-end c =
    let t = c.in-Some.ensures in
    sym (length-take-le _ c.read_line.new.out (omega (arith, few_words c.args.text.now t.0 c.in-Some.next _ t.1 t.2, c.read_line.auto.out)))

pub returns : goal.returns
returns c =
    let t = c.in-Some.ensures in
    read_given (length c.args.out.now) c.args.text.now t.0 (take c.in-Some.n c.read_line.new.out) _ _
    (line_alone c.args.text.now c.if-text-gt-MOST_BYTES.false t.0 c.in-Some.next t.1 c.if-next-text.false)
    (first_words _ t.0 _ _ t.3 t.2 (omega (arith, few_words c.args.text.now t.0 c.in-Some.next _ t.1 t.2))) (rw (c.accept_term.ensures, c.clear.auto.out) at c.give.ensures)
