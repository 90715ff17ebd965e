-- `write_book::write_book` meets its contract: an accepted book's text is written into the cleared slice, which is cleared again where it is too long.
use Rattle.std.proofs.Common.{◌≡◌, arith, sym, length, ◌∙◌}
use Rattle.term.specs.declared.answer.Answer.TheVariants.{Done, Short}
use Rattle.term.proofs.Laws.{cleared}
use Rattle.book.proofs.Laws.{accepted_good}
use Rattle.text.specs.BookText.{book_text}
use Rattle.text.proofs.BookWrites.{text_over, text_short, text_done, text_bad, write_given}
use Rattle.text.proofs.write_book.write_book.Goals as goal
use Rattle.text.proofs.write_book.write_book.Goals.{then-end-gt-MOST_BYTES-via-then-end-gt-MOST_BYTES, then-end-gt-MOST_BYTES-via-else-end-gt-MOST_BYTES+then-out-end}

pub write_good-end-requires : goal.write_good-end-requires
write_good-end-requires c = accepted_good _ (sym c.accept_book.ensures ∙ c.in_default.is)

pub returns-then-end-gt-MOST_BYTES : goal.returns-then-end-gt-MOST_BYTES
returns-then-end-gt-MOST_BYTES c =
    let k : length c.write_good-end.new.out ≡ length c.args.out.now = c.write_good-end.auto.out ∙ c.clear_bytes.auto.out in
    let z = cleared _ _ _ k c.clear_bytes-then-end-gt-MOST_BYTES.ensures in
    let s = sym c.accept_book.ensures ∙ c.in_default.is in
    write_given (length c.args.out.now) c.args.book.now Short _
    (elim c.then-end-gt-MOST_BYTES.branch [
      | then-end-gt-MOST_BYTES-via-then-end-gt-MOST_BYTES w ↦ text_over (length c.args.out.now) (book_text c.args.book.now) _ _ s (omega (arith, w.if-end-gt-MOST_BYTES.true, c.write_good-end.ensures.0)) z
      | then-end-gt-MOST_BYTES-via-else-end-gt-MOST_BYTES+then-out-end w ↦
          text_short (length c.args.out.now) (book_text c.args.book.now) _ _ s (omega (arith, w.if-end-gt-MOST_BYTES.false, c.write_good-end.ensures.0)) (omega (arith, w.if-out-end.true, c.write_good-end.ensures.0, k)) z
    ])

pub returns : goal.returns
returns c =
    let k : length c.write_good-end.new.out ≡ length c.args.out.now = c.write_good-end.auto.out ∙ c.clear_bytes.auto.out in
    write_given (length c.args.out.now) c.args.book.now Done _
    (text_done (length c.args.out.now) (book_text c.args.book.now) _ c.clear_bytes.new.out _ (sym c.accept_book.ensures ∙ c.in_default.is)
    (omega (arith, c.if-end-gt-MOST_BYTES.false, c.write_good-end.ensures.0)) (omega (arith, c.if-out-end.false, c.write_good-end.ensures.0, k)) c.clear_bytes.ensures c.write_good-end.ensures.1)

pub returns-in-Err : goal.returns-in-Err
returns-in-Err c =
    write_given (length c.args.out.now) c.args.book.now _ _
    (text_bad (length c.args.out.now) (book_text c.args.book.now) _ _ _ (sym c.accept_book.ensures ∙ c.in-Err.is) c.clear_bytes.ensures)
