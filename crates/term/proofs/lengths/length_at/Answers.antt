-- `lengths::length_at` meets its contract: what is left to pass gives where the part ends, at every turn.
use Rattle.std.proofs.Common.{◌≡◌, ◌+◌, ◌-◌, get_or, arith}
use Rattle.term.specs.Word.{count_of}
use Rattle.term.proofs.Measures.{ends_first, ends_none, ends_out, ends_within, ends_next}
use Rattle.term.proofs.lengths.length_at.Goals as goal
use Rattle.term.proofs.lengths.length_at.Goals.{else-loop-test, then-loop-test+then-words-next}

pub loop-init : goal.loop-init
loop-init c =
    let all : c.count_of-end.result - 0 ≡ count_of (get_or c.args.words.now c.args.at 0) = omega (arith, c.count_of-end.ensures) in
    record { after = omega arith; within = omega (arith, c.requires.0); ends = rw all (ends_first c.args.words.now c.args.at c.requires.0) }

pub loop-preserved : goal.loop-preserved
loop-preserved c =
    let q = c.loop in
    let entry = c.requires.3 q.next (omega (arith, q.invariant.after)) c.if-words-next.false in
    let within = ends_within c.args.words.now c.args.at q.next _ q.invariant.ends q.invariant.within in
    let left : c.count_of-end.result - q.counter - 1 ≡ c.count_of-end.result - (q.counter + 1) = omega arith in
    record {
      after = omega (arith, q.invariant.after);
      within = omega (arith, entry, within);
      ends = rw left at (ends_next _ _ q.next _ q.invariant.ends (omega (arith, c.loop-test.true)) _ entry);
    }

pub returns : goal.returns
returns c =
    let q = c.loop in
    elim c.loop-test.branch [
      | else-loop-test w ↦ ends_none _ _ q.next _ q.invariant.ends (omega (arith, w.loop-test.false))
      | then-loop-test+then-words-next w ↦ ends_out _ _ q.next _ q.invariant.ends w.if-words-next.true
    ]
