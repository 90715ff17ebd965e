-- `bodies::write_bodies` meets its contract: the bodies of the variables so far stand one behind the other, and zeros after them.
use Rattle.std.proofs.Common.{◌-◌, length, length-drop, drop, refl, ap, ◌∙◌, arith, rules}
use Rattle.std.proofs.Math.ListN.{drop_of_length-le}
use Rattle.term.proofs.Laws.{cleared, suffix}
use Rattle.fit.proofs.BodyLoop.{bodies_start, bodies_short, bodies_done, bodies_more, written_within}
use Rattle.fit.proofs.bodies.write_bodies.Goals as goal

pub loop-x-init : goal.loop-x-init
loop-x-init c = let s = c.args in let p = c.requires in bodies_start s.pair.now.vars s.pair.now.left.now s.pair.now.term.now s.table.now _ s.pair.now.few _ _ refl p.0 p.1

pub returns-in_default : goal.returns-in_default
returns-in_default c =
    let s = c.args in let q = c.loop-x in
    bodies_short s.pair.now.vars s.pair.now.left.now s.pair.now.term.now s.table.now (length s.bodies.now) s.pair.now.few q.bodies q.lengths q.at q.x q.invariant c.loop-x-test.true _ _
    (ap length (suffix q.at q.bodies) ∙ length-drop q.at q.bodies ∙ omega (arith, q.invariant.long)) c.in_default.ensures _ _
    (cleared _ _ _ (search rules) c.clear.ensures) (cleared _ _ _ q.invariant.sixteen c.clear-in_default.ensures)

pub overflow_cast-lengths : goal.overflow_cast-lengths
overflow_cast-lengths c = omega (arith, written_within _ _ _ _ _ _ _ c.in-Some.ensures)

pub overflow_add-at : goal.overflow_add-at
overflow_add-at c = omega (arith, written_within _ _ _ _ _ _ _ c.in-Some.ensures)

pub loop-x-preserved : goal.loop-x-preserved
loop-x-preserved c =
    let s = c.args in let q = c.loop-x in
    bodies_more s.pair.now.vars s.pair.now.left.now s.pair.now.term.now s.table.now (length s.bodies.now) s.pair.now.few q.bodies q.lengths q.at q.x q.invariant c.loop-x-test.true _ _ _ _
    (ap length (suffix q.at q.bodies) ∙ length-drop q.at q.bodies ∙ omega (arith, q.invariant.long))
    c.write_first.auto.out (drop_of_length-le (drop q.at q.bodies) {i = length q.bodies - q.at} (omega (arith, length-drop q.at q.bodies))) c.in-Some.ensures

pub returns : goal.returns
returns c = bodies_done _ _ _ _ _ c.args.pair.now.few _ _ _ _ c.loop-x.invariant c.loop-x-test.false
