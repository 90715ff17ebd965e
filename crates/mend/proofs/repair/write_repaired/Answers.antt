-- `repair::write_repaired` meets its contract: book, lines and number are written one after the other, and cleared where they are too long.
use Rattle.std.proofs.Common.{arith, length, ◌++◌, ◌∙◌}
use Rattle.term.proofs.Laws.{cleared}
use Rattle.text.specs.BookText.{book_text}
use Rattle.text.proofs.Laws.{wrote_then}
use Rattle.mend.specs.Repair.{notes_text, was_text}
use Rattle.mend.specs.Told.Told.{notes_by}
use Rattle.mend.proofs.Repairing.{written_short, written_done}
use Rattle.mend.proofs.repair.write_repaired.Goals as goal

pub returns-then-out-end : goal.returns-then-out-end
returns-then-out-end c =
    let s = c.args in
    let b = c.write_good-notes_at in
    let n = c.write_notes-was_at in
    let u = c.write_was-end in
    let notes = notes_text (notes_by 0 0 s.present s.olds.now) in
    let p = wrote_then b.new.out b.result n.result u.result n.new.out u.new.out notes (was_text s.stated s.present) (n.ensures.0, n.ensures.1) u.ensures in
    let q = wrote_then s.out.now 0 b.result u.result b.new.out u.new.out (book_text s.book.now) (notes ++ was_text s.stated s.present) b.ensures p in
    written_short s.book.now s.stated s.present s.olds.now (length s.out.now) _
    (omega (arith, c.if-notes_at-gt-MOST_BYTES.false, b.ensures.0)) (omega (arith, c.if-out-end.true, q.0, u.auto.out, n.auto.out, b.auto.out)) (cleared _ _ _ (u.auto.out ∙ n.auto.out ∙ b.auto.out) c.clear_bytes-then-out-end.ensures)

pub returns : goal.returns
returns c =
    let s = c.args in
    let b = c.write_good-notes_at in
    let n = c.write_notes-was_at in
    let u = c.write_was-end in
    let notes = notes_text (notes_by 0 0 s.present s.olds.now) in
    let p = wrote_then b.new.out b.result n.result u.result n.new.out u.new.out notes (was_text s.stated s.present) (n.ensures.0, n.ensures.1) u.ensures in
    let q = wrote_then s.out.now 0 b.result u.result b.new.out u.new.out (book_text s.book.now) (notes ++ was_text s.stated s.present) b.ensures p in
    written_done s.book.now s.stated s.present s.olds.now (length s.out.now) _ s.out.now _
    (omega (arith, c.if-notes_at-gt-MOST_BYTES.false, b.ensures.0)) (omega (arith, q.0)) (omega (arith, c.if-out-end.false, q.0, u.auto.out, n.auto.out, b.auto.out)) c.requires.3 q.1
