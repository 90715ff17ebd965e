-- `build::write_part` meets its contract: the walk from a body to a term writes it, in the part of the slice from the offset on.
use Rattle.std.proofs.Common.{arith}
use Rattle.term.proofs.Laws.{suffix}
use Rattle.fit.proofs.BuildBody.{put_back, part_beyond, part_wrote, part_long, part_over}
use Rattle.fit.proofs.build.write_part.Goals as goal

pub returns-then-to-gt-MOST_WORDS : goal.returns-then-to-gt-MOST_WORDS
returns-then-to-gt-MOST_WORDS c = let s = c.args in part_beyond s.d s.list.now s.levels s.body.now s.out.now s.to _ c.if-to-gt-MOST_WORDS.true

pub returns-then-to-n : goal.returns-then-to-n
returns-then-to-n c =
    let s = c.args in
    part_long s.d s.list.now s.levels s.body.now s.out.now s.to _ (omega arith) c.if-to-gt-MOST_WORDS.false _ c.in_ok-n.n
    (rw (suffix c.min-from.result s.out.now, c.in_ok-n.was) at c.write_below.ensures) c.if-to-n.true _

pub returns : goal.returns
returns c =
    let s = c.args in
    rw (put_back s.out.now c.write_below.new.out c.min-from.result)
    (part_wrote s.d s.list.now s.levels s.body.now s.out.now s.to _ (omega arith) c.if-to-gt-MOST_WORDS.false _ c.in_ok-n.n
    (rw (suffix c.min-from.result s.out.now, c.in_ok-n.was) at c.write_below.ensures) c.if-to-n.false)

pub returns-in_err-n : goal.returns-in_err-n
returns-in_err-n c =
    let s = c.args in
    rw c.from_residual.ensures
    (part_over s.d s.list.now s.levels s.body.now s.out.now s.to _ (omega arith) c.if-to-gt-MOST_WORDS.false _
    (rw (suffix c.min-from.result s.out.now, c.in_err-n.was) at c.write_below.ensures) _)
