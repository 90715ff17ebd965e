-- `lent::put_all` meets its contract: what was passed lies there, at every turn, and there is no room for what was not.
use Rattle.std.proofs.Common.{arith, rules, sym, length, ◌-◌}
use borrow.Author.Tests.{ltb-true}
use Rattle.text.proofs.Wrote.{item_next, items_end}
use Rattle.text.proofs.lent.put_all.Goals as goal

pub loop-to-preserved : goal.loop-to-preserved
loop-to-preserved g c =
    let s = c.args in
    let q = c.loop-to in
    (search rules, item_next s.from.now s.out.now q.out s.at q.to (omega arith) q.invariant.1 c.in-Some.x.now (ltb-true (q.to - s.at) (length s.from.now) (sym c.in-Some.ensures.lookup.0)) c.in-Some.ensures.lookup.1)

pub returns : goal.returns
returns g c = let q = c.loop-to in items_end c.args.from.now c.args.out.now q.out c.args.at q.to (omega arith) q.invariant.1 (omega (arith, q.invariant.0, c.loop-to-test.false))
