-- `write_book::write_good` meets its contract: the first two lines, and then the rules.
use Rattle.std.proofs.Common.{arith, [], ◌++◌, get_or, drop}
use Rattle.text.specs.BookText.{book_line, rules_key, number_text, rules_text}
use Rattle.text.proofs.BookWrites.{number_line_short, book_judged, book_parts}
use Rattle.text.proofs.Wrote.{wrote_then}
use Rattle.text.proofs.write_book.write_good.Goals as goal

pub bounds-book-0 : goal.bounds-book-0
bounds-book-0 c = omega (arith, (book_judged c.args.book.now c.requires).0)

pub write_number_line-rules_at-requires : goal.write_number_line-rules_at-requires
write_number_line-rules_at-requires c = (omega (arith, c.put_key-count_at.ensures.0), omega arith, omega (arith, (book_judged c.args.book.now c.requires).1))

pub write_rules-requires : goal.write_rules-requires
write_rules-requires c =
    let j = book_judged c.args.book.now c.requires in
    (omega (arith, c.write_number_line-rules_at.ensures.0, c.put_key-count_at.ensures.0, number_line_short rules_key (get_or c.args.book.now 0 0) (omega (arith, j.1))), c.requires)

pub returns : goal.returns
returns c =
    let b = c.args.book.now in
    let n = get_or b 0 0 in
    rw (book_parts b (book_judged b c.requires).0)
    (wrote_then c.args.out.now 0 _ _ c.put_key-count_at.new.out _ book_line (number_text rules_key n [] ++ rules_text 0 n (drop 1 b)) c.put_key-count_at.ensures
    (wrote_then c.put_key-count_at.new.out _ _ _ c.write_number_line-rules_at.new.out _ (number_text rules_key n []) (rules_text 0 n (drop 1 b)) c.write_number_line-rules_at.ensures c.write_rules.ensures))
