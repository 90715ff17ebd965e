-- `book_text::read_book` meets its contract: the lines that were read are all that the text says.
use Rattle.std.proofs.Common.{arith, sym, ap, length, take, ◌∙◌}
use Rattle.text.specs.TermText.{bad_line}
use Rattle.text.specs.BookText.{due_after}
use Rattle.text.proofs.Above.{book_counted}
use Rattle.text.proofs.BookAnswers.{too_long, bad_line_lem, more_lines, no_more, answer_bad, read_given}
use Rattle.text.proofs.TermTexts.{first_words}
use Rattle.text.proofs.book_text.read_book.Goals as goal

pub returns-then-text-gt-MOST_BYTES : goal.returns-then-text-gt-MOST_BYTES
returns-then-text-gt-MOST_BYTES c = answer_bad _ c.args.text.now 0 _ (too_long c.args.text.now c.if-text-gt-MOST_BYTES.true) c.clear.ensures

pub line_after-requires : goal.line_after-requires
line_after-requires c =
    let t = c.in-Ok.ensures in
    let w = first_words _ t.0 _ _ t.3 t.2 (omega (arith, t.5)) in
    let b = book_counted _ _ _ t.1 in
    rw w b

pub returns-then-next-text : goal.returns-then-next-text
returns-then-next-text c =
    let t = c.in-Ok.ensures in
    let w = first_words _ t.0 _ _ t.3 t.2 (omega (arith, t.5)) in
    answer_bad _ c.args.text.now _ _ (more_lines c.args.text.now c.if-text-gt-MOST_BYTES.false t.0 c.in-Ok.next t.1 c.if-next-text.true ∙ ap bad_line (sym (c.line_after.ensures ∙ ap due_after w))) c.clear.ensures

pub returns-else-next-text : goal.returns-else-next-text
returns-else-next-text c =
    let t = c.in-Ok.ensures in
    let w = first_words _ t.0 _ _ t.3 t.2 (omega (arith, t.5)) in
    read_given (length c.args.out.now) c.args.text.now t.0 (take c.in-Ok.n c.read_lines.new.out) _ _ (no_more c.args.text.now c.if-text-gt-MOST_BYTES.false t.0 c.in-Ok.next t.1 c.if-next-text.false) w (rw (c.accept_book.ensures, c.clear.auto.out) at c.give.ensures)

pub returns-in-Err : goal.returns-in-Err
returns-in-Err c = answer_bad _ c.args.text.now c.in-Err.line _ (bad_line_lem c.args.text.now c.if-text-gt-MOST_BYTES.false _ c.in-Err.ensures) c.clear.ensures
