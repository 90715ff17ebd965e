-- `lengths::measure` meets its contract: the entries from `at` on are written, at every turn.
use Rattle.std.proofs.Common.{◌≡◌, ◌+◌, ◌-◌, arith}
use Rattle.term.proofs.Measures.{written_first, written_measured, written_next}
use Rattle.term.proofs.lengths.measure.Goals as goal

pub loop-at-init : goal.loop-at-init
loop-at-init c = written_first c.args.words.now _

pub length_at-requires : goal.length_at-requires
length_at-requires c =
    let q = c.loop-at in
    let p : q.at - 1 + 1 ≡ q.at = omega arith in (
      omega arith,
      c.requires.0,
      omega (arith, c.requires.1),
      rw p (written_measured c.args.words.now c.args.out.now c.requires.1 q.at q.out q.auto.at q.invariant),
    )

pub loop-at-preserved : goal.loop-at-preserved
loop-at-preserved c = let q = c.loop-at in written_next _ _ q.at _ q.out (omega arith) q.auto.at q.invariant c.length_at.ensures

pub returns : goal.returns
returns c = let q = c.loop-at in let z : q.at ≡ 0 = omega arith in rw z at q.invariant
