-- `mail::read_mail` meets its contract: each line tells what is left, and the rules that stay are the new book once their number is put before them.
use Rattle.std.proofs.Common.{◌∙◌}
use Rattle.std.proofs.lemmas.Result.{err_from_is_err_and}
use Rattle.text.proofs.Laws.{mail_long, mail_no_book, mail_no_count, mail_stating, some_asked, none_asked}
use Rattle.mend.proofs.Repairing.{mail_came}
use Rattle.mend.proofs.mail.read_mail.Goals as goal

pub returns-then-text-gt-MOST_BYTES : goal.returns-then-text-gt-MOST_BYTES
returns-then-text-gt-MOST_BYTES c = mail_long c.args.text.now c.if-text-gt-MOST_BYTES.true

pub returns-in_err-count_at : goal.returns-in_err-count_at
returns-in_err-count_at c =
    let p = err_from_is_err_and c.from_residual.result c.from_residual.ensures.1 in
    let n = none_asked _ _ _ c.in_err-count_at.ensures.value in
    rw (p.1, p.2, n.1) (mail_no_book c.args.text.now c.if-text-gt-MOST_BYTES.false (rw n.0 at c.read_key.ensures))

pub returns-in_err-stated : goal.returns-in_err-stated
returns-in_err-stated c =
    let p = err_from_is_err_and c.from_residual-in_err-stated.result c.from_residual-in_err-stated.ensures.1 in
    let n = none_asked _ _ _ c.in_err-stated.ensures.value in
    let k = rw (some_asked _ _ _ c.in_ok-count_at.ensures.value) at c.read_key.ensures in
    rw (p.1, p.2, n.1) (mail_no_count c.args.text.now c.if-text-gt-MOST_BYTES.false _ k.0 (rw n.0 at c.read_number_line.ensures))

pub returns-in_err-kept : goal.returns-in_err-kept
returns-in_err-kept c =
    let p = err_from_is_err_and c.from_residual-in_err-kept.result c.from_residual-in_err-kept.ensures.1 in
    let k = rw (some_asked _ _ _ c.in_ok-count_at.ensures.value) at c.read_key.ensures in
    let t = rw (some_asked _ _ _ c.in_ok-stated.ensures.value) at c.read_number_line.ensures in
    rw (p.1, p.2) (mail_stating c.args.text.now c.if-text-gt-MOST_BYTES.false _ k.0 _ _ t.0 ∙ rw c.in_err-kept.ensures)

pub returns : goal.returns
returns c =
    let k = rw (some_asked _ _ _ c.in_ok-count_at.ensures.value) at c.read_key.ensures in
    let t = rw (some_asked _ _ _ c.in_ok-stated.ensures.value) at c.read_number_line.ensures in
    mail_came c.args.text.now _ _ _ c.keep_rules.new.book _ _ _ c.if-text-gt-MOST_BYTES.false k.0 t.0 t.1 c.in_ok-kept.ensures c.put.ensures
