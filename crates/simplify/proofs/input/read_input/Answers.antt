-- `input::read_input` meets its contract: the lines of the book, and then those of the terms, tell what the file says.
use Rattle.std.proofs.Common.{arith}
use Rattle.std.proofs.lemmas.Result.{err_from_is_err_and}
use Rattle.simplify.proofs.Inputs.{too_long, no_book_lem, book_there, due_small, no_terms, all_there}
use Rattle.simplify.proofs.input.read_input.Goals as goal

pub returns-then-text-gt-MOST_BYTES : goal.returns-then-text-gt-MOST_BYTES
returns-then-text-gt-MOST_BYTES c = too_long c.args.text.now c.if-text-gt-MOST_BYTES.true

pub returns-in_err-n : goal.returns-in_err-n
returns-in_err-n c =
    let p = err_from_is_err_and c.from_residual.result c.from_residual.ensures.1 in
    rw (p.1, p.2) (no_book_lem c.args.text.now c.if-text-gt-MOST_BYTES.false _ c.in_err-n.ensures)

pub line_after-due-requires : goal.line_after-due-requires
line_after-due-requires c = book_there c.args.text.now c.if-text-gt-MOST_BYTES.false c.args.book.now _ _ _ (omega arith) c.in_ok-n.ensures

pub judge_terms-requires : goal.judge_terms-requires
judge_terms-requires c =
    let t = c.in_ok-n.ensures in
    (t.4, c.if-text-gt-MOST_BYTES.false, omega (arith, due_small c.args.text.now c.if-text-gt-MOST_BYTES.false c.args.book.now _ _ _ (omega arith) t c.line_after-due.result c.line_after-due.ensures))

pub returns-in_err-judge_terms : goal.returns-in_err-judge_terms
returns-in_err-judge_terms c =
    let p = err_from_is_err_and c.from_residual-in_err-judge_terms.result c.from_residual-in_err-judge_terms.ensures.1 in
    rw (p.1, p.2) (no_terms c.args.text.now c.if-text-gt-MOST_BYTES.false c.args.book.now _ _ _ (omega arith) c.in_ok-n.ensures c.line_after-due.result c.line_after-due.ensures _ c.in_err-judge_terms.ensures)

pub returns : goal.returns
returns c = all_there c.args.text.now c.if-text-gt-MOST_BYTES.false c.args.book.now _ _ _ (omega arith) c.in_ok-n.ensures c.line_after-due.result c.line_after-due.ensures c.in_ok-judge_terms.ensures
