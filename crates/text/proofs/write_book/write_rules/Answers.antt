-- `write_book::write_rules` meets its contract: what was written and what is left are the rules, at every turn.
use Rattle.std.proofs.Common.{arith, [], ◌-◌, ◌++◌, get_or, drop}
use Rattle.text.specs.BookText.{rule_text}
use Rattle.text.proofs.BookTurns.{turn, begun_judged, begun_text, turn_judged, turn_text, turn_wrote, turn_short}
use Rattle.text.proofs.BookWrites.{book_judged, rules_done}
use Rattle.text.proofs.Wrote.{wrote_nothing, wrote_then}
use Rattle.text.proofs.write_book.write_rules.Goals as goal

pub bounds-book-0 : goal.bounds-book-0
bounds-book-0 c = omega (arith, (book_judged c.args.book.now c.requires.1).0)

pub loop-number-init : goal.loop-number-init
loop-number-init c =
    let b = c.args.book.now in record {
      near = omega arith;
      inside = omega arith;
      good = begun_judged (get_or b 0 0) (drop 1 b) (book_judged b c.requires.1).2;
      bs = [];
      wrote = wrote_nothing c.args.out.now c.args.at;
      rest = begun_text (get_or b 0 0) (drop 1 b);
    }

pub bounds-book-a : goal.bounds-book-a
bounds-book-a c =
    let t = turn c.args.book.now (get_or c.args.book.now 0 0) c.loop-number.number c.loop-number.a c.loop-number-test.true c.loop-number.invariant.good in omega (arith, t.fits, t.left_few, t.right_few)

pub bounds-book-a-in-loop-number : goal.bounds-book-a-in-loop-number
bounds-book-a-in-loop-number c =
    let t = turn c.args.book.now (get_or c.args.book.now 0 0) c.loop-number.number c.loop-number.a c.loop-number-test.true c.loop-number.invariant.good in omega (arith, t.fits, t.left_few, t.right_few)

pub bounds-book-a-in-loop-number-2 : goal.bounds-book-a-in-loop-number-2
bounds-book-a-in-loop-number-2 c =
    let t = turn c.args.book.now (get_or c.args.book.now 0 0) c.loop-number.number c.loop-number.a c.loop-number-test.true c.loop-number.invariant.good in omega (arith, t.fits, t.left_few, t.right_few)

pub slice_bounds-write_rule-end : goal.slice_bounds-write_rule-end
slice_bounds-write_rule-end c =
    let t = turn c.args.book.now (get_or c.args.book.now 0 0) c.loop-number.number c.loop-number.a c.loop-number-test.true c.loop-number.invariant.good in omega (arith, t.fits, t.left_few, t.right_few)

pub slice_bounds-write_rule-end-in-loop-number : goal.slice_bounds-write_rule-end-in-loop-number
slice_bounds-write_rule-end-in-loop-number c =
    let t = turn c.args.book.now (get_or c.args.book.now 0 0) c.loop-number.number c.loop-number.a c.loop-number-test.true c.loop-number.invariant.good in omega (arith, t.fits, t.left_few, t.right_few)

pub write_rule-to-requires : goal.write_rule-to-requires
write_rule-to-requires c =
    let t = turn c.args.book.now (get_or c.args.book.now 0 0) c.loop-number.number c.loop-number.a c.loop-number-test.true c.loop-number.invariant.good in
    let j = book_judged c.args.book.now c.requires.1 in
    (omega (arith, j.1, c.loop-number.invariant.near, c.requires.0), omega (arith, j.1), t.vars_few, rw t.left_here t.next.left_few, rw t.right_here t.next.right_few)

pub loop-number-preserved : goal.loop-number-preserved
loop-number-preserved c =
    let q = c.loop-number in
    let b = c.args.book.now in
    let n = get_or b 0 0 in
    let t = turn b n q.number q.a c.loop-number-test.true q.invariant.good in
    let j = book_judged b c.requires.1 in
    let w = turn_wrote b n q.number q.a t q.out _ q.to _ c.write_rule-to.ensures in record {
      near = omega (arith, w.0, turn_short b n q.number q.a t (omega (arith, j.1, q.invariant.inside)), q.invariant.near);
      inside = omega (arith, t.left_few, t.right_few, q.invariant.inside);
      good = turn_judged b n q.number q.a t;
      bs = q.invariant.bs ++ rule_text q.number t.next.rule [];
      wrote = wrote_then c.args.out.now c.args.at q.to _ q.out _ q.invariant.bs (rule_text q.number t.next.rule []) q.invariant.wrote w;
      rest = turn_text b n q.number q.a t q.invariant.bs _ c.loop-number-test.true q.invariant.rest;
    }

pub returns : goal.returns
returns c =
    let q = c.loop-number in
    let b = c.args.book.now in
    rw (rules_done q.number (get_or b 0 0 - q.number) (drop q.a b) q.invariant.bs _ (omega (arith, c.loop-number-test.false)) q.invariant.rest) q.invariant.wrote
