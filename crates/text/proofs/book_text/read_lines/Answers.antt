-- `book_text::read_lines` meets its contract: each line tells what the book is from there on.
use Rattle.std.proofs.lemmas.Result.{err_from_is_err_and}
use Rattle.text.proofs.BookAnswers.{no_book_lem, no_count, no_rules, all_rules}
use Rattle.text.proofs.Calls.{some_asked, none_asked}
use Rattle.text.proofs.book_text.read_lines.Goals as goal

pub returns-in_err-count_at : goal.returns-in_err-count_at
returns-in_err-count_at c =
    let p = err_from_is_err_and c.from_residual.result c.from_residual.ensures.1 in
    let n = none_asked _ _ _ c.in_err-count_at.ensures.value in
    rw (p.1, p.2, n.1) (no_book_lem c.args.text.now c.args.at (rw n.0 at c.read_key.ensures))

pub returns-in_err-count : goal.returns-in_err-count
returns-in_err-count c =
    let p = err_from_is_err_and c.from_residual-in_err-count.result c.from_residual-in_err-count.ensures.1 in
    let n = none_asked _ _ _ c.in_err-count.ensures.value in
    let k = rw (some_asked _ _ _ c.in_ok-count_at.ensures.value) at c.read_key.ensures in
    rw (p.1, p.2, n.1) (no_count c.args.text.now c.args.at c.in_ok-count_at.count_at k.0 (rw n.0 at c.read_number_line.ensures))

pub returns-in_err-n : goal.returns-in_err-n
returns-in_err-n c =
    let p = err_from_is_err_and c.from_residual-in_err-n.result c.from_residual-in_err-n.ensures.1 in
    let k = rw (some_asked _ _ _ c.in_ok-count_at.ensures.value) at c.read_key.ensures in
    let q = rw (some_asked _ _ _ c.in_ok-count.ensures.value) at c.read_number_line.ensures in
    rw (p.1, p.2) (no_rules c.args.text.now c.args.at c.in_ok-count_at.count_at k.0 c.in_ok-count.count c.in_ok-count.rules_at q.0 _ c.in_err-n.ensures)

pub returns : goal.returns
returns c =
    let k = rw (some_asked _ _ _ c.in_ok-count_at.ensures.value) at c.read_key.ensures in
    let q = rw (some_asked _ _ _ c.in_ok-count.ensures.value) at c.read_number_line.ensures in
    all_rules c.args.text.now c.args.at c.in_ok-count_at.count_at k.0 c.in_ok-count.count c.in_ok-count.rules_at q.0 c.args.out.now c.put.new.out _ c.in_ok-n.n c.in_ok-n.next c.put.ensures c.in_ok-n.ensures
