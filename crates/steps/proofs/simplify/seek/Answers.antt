-- Each turn is the walk over the part at its offset: it ends the search, or what is left to seek is sought from the next offset on.
use Rattle.std.proofs.Common.{◌<◌, arith, length}
use Rattle.term.proofs.Laws.{suffix}
use Rattle.walk.proofs.Laws.{tail_parted}
use Rattle.steps.proofs.Seeks.{seek_start, seek_end, end_visits, seek_more, seek_found, found_visits, walk_few, some_left}
use Rattle.steps.proofs.simplify.seek.Goals as goal

pub loop-at-init : goal.loop-at-init
loop-at-init c = let s = c.args in record { cleared = c.requires.2; seeking = seek_start s.book.now s.tree.now s.term.now c.requires.1 }

pub rewrite_at-part-requires : goal.rewrite_at-part-requires
rewrite_at-part-requires c =
    let s = c.args in
    let at = c.loop-at.at in
    let l : at < length s.term.now = c.loop-at-test.true in
    (c.requires.0, rw (suffix at s.term.now) (tail_parted s.term.now c.requires.1 at), rw (suffix at s.term.now) (some_left s.term.now at l), c.loop-at.invariant.cleared)

pub overflow_add-visits : goal.overflow_add-visits
overflow_add-visits c = let few = walk_few c.args.tree.now _ _ c.rewrite_at-part.ensures.2 in omega (arith, c.loop-at.invariant.seeking.few, c.requires.1.short)

pub returns-in-Some : goal.returns-in-Some
returns-in-Some c =
    let s = c.args in
    let at = c.loop-at.at in
    let part = c.rewrite_at-part in
    let told = rw c.in-Some.is at part.ensures.0 in (
      seek_found s.book.now s.tree.now s.term.now c.requires.1 at c.loop-at.visits c.loop-at-test.true c.loop-at.invariant.seeking _ (suffix at s.term.now) _ _ part.ensures.2 _ told,
      part.ensures.1,
      found_visits s.book.now s.tree.now s.term.now c.requires.1 at c.loop-at.visits c.loop-at-test.true c.loop-at.invariant.seeking _ (suffix at s.term.now) _ _ part.ensures.2 _ told,
    )

pub loop-at-preserved : goal.loop-at-preserved
loop-at-preserved c =
    let s = c.args in
    let at = c.loop-at.at in
    let part = c.rewrite_at-part in
    record {
      cleared = part.ensures.1;
      seeking = seek_more s.book.now s.tree.now s.term.now c.requires.1 at c.loop-at.visits c.loop-at-test.true c.loop-at.invariant.seeking _ (suffix at s.term.now) _ _ part.ensures.2 (rw c.in_default.is at part.ensures.0);
    }

pub returns : goal.returns
returns c =
    let s = c.args in
    (seek_end s.book.now s.tree.now s.term.now c.requires.1 c.loop-at.at c.loop-at.visits c.loop-at-test.false _ c.loop-at.invariant.seeking, c.loop-at.invariant.cleared, end_visits s.book.now s.tree.now s.term.now c.requires.1 c.loop-at.at c.loop-at.visits c.loop-at-test.false c.loop-at.new c.loop-at.invariant.seeking)
