-- `check::check_tree` meets its contract: what is left to scan gives the answer, at every turn.
use Rattle.std.proofs.Common.{refl, sym, ◌∙◌, length-set, arith}
use Rattle.term.proofs.Scan.{start, pop, whole, more, run_out, refused, entered, depth_within}
use Rattle.term.proofs.check.check_tree.Goals as goal
use Rattle.term.proofs.check.check_tree.Goals.{then-at-words-via-then-at-words, then-at-words-via-else-at-words+then-not-may_stand}

pub loop-depth-init : goal.loop-depth-init
loop-depth-init c = record { levels = refl; deep = omega arith; within = omega arith; rest = start _ _ _ }

pub loop-depth-preserved-then-k-eq0 : goal.loop-depth-preserved-then-k-eq0
loop-depth-preserved-then-k-eq0 c =
    let q = c.loop-depth in
    record {
      levels = q.invariant.levels;
      deep = omega arith;
      within = q.invariant.within;
      rest = q.invariant.rest ∙ rw (pop q.depth q.left c.loop-depth-test.true c.if-k-eq0.true);
    }

pub returns-then-at-words : goal.returns-then-at-words
returns-then-at-words c =
    let q = c.loop-depth in
    elim c.then-at-words.branch [
      | then-at-words-via-then-at-words w ↦ run_out _ _ _ _ _ q.invariant.rest c.loop-depth-test.true c.if-k-eq0.false w.if-at-words.true
      | then-at-words-via-else-at-words+then-not-may_stand w ↦
          refused _ _ _ _ _ q.invariant.rest c.loop-depth-test.true c.if-k-eq0.false (omega (arith, q.invariant.within, w.if-at-words.false))
          (sym w.may_stand.ensures ∙ w.if-not-may_stand.true)
    ]

pub bounds-left-depth-in-loop-depth-2 : goal.bounds-left-depth-in-loop-depth-2
bounds-left-depth-in-loop-depth-2 c = omega (arith, depth_within _ _ _ _ (sym c.may_stand.ensures ∙ c.if-not-may_stand.false), c.requires)

pub loop-depth-preserved : goal.loop-depth-preserved
loop-depth-preserved c =
    let q = c.loop-depth in
    let stood = sym c.may_stand.ensures ∙ c.if-not-may_stand.false in
    let deep = depth_within _ _ _ _ stood in
    record {
      levels = simp length-set q.invariant.levels;
      deep = omega (arith, deep, c.requires);
      within = omega (arith, q.invariant.within, c.if-at-words.false);
      rest = rw c.count_of.ensures
          (entered _ c.args.words.now q.at q.depth q.left q.invariant.rest c.loop-depth-test.true c.if-k-eq0.false
          (omega (arith, q.invariant.within, c.if-at-words.false)) stood (omega (arith, deep, c.requires, q.invariant.levels)));
    }

pub returns-then-at-words-2 : goal.returns-then-at-words-2
returns-then-at-words-2 c = let q = c.loop-depth in more _ _ q.at q.depth q.left q.invariant.rest c.loop-depth-test.false c.if-at-words-2.true

pub returns : goal.returns
returns c = let q = c.loop-depth in whole _ _ q.at q.depth q.left q.invariant.rest c.loop-depth-test.false (omega arith)
