-- `rule_text::read_sides` meets its contract: the sides are read behind the place of the header, which is put once their lengths are known.
use Rattle.std.proofs.Common.{arith}
use Rattle.text.proofs.Calls.{some_asked}
use Rattle.text.proofs.RuleSteps.{left_few, right_few, sides_there}
use Rattle.text.proofs.rule_text.read_sides.Goals as goal

pub overflow_add-to-3 : goal.overflow_add-to-3
overflow_add-to-3 c =
    let t = rw (some_asked _ _ _ c.in_ok-left.ensures.value) at c.read_side.ensures in
    omega (arith, left_few c.args.number c.args.vars c.args.text.now c.args.at c.args.to c.args.out.now _ _ _ t)

pub read_side-requires-2 : goal.read_side-requires-2
read_side-requires-2 c =
    let t = rw (some_asked _ _ _ c.in_ok-left.ensures.value) at c.read_side.ensures in
    (t.4, omega (arith, left_few c.args.number c.args.vars c.args.text.now c.args.at c.args.to c.args.out.now _ _ _ t))

pub put_header-requires : goal.put_header-requires
put_header-requires c =
    let t = rw (some_asked _ _ _ c.in_ok-left.ensures.value) at c.read_side.ensures in
    let u = rw (some_asked _ _ _ c.in_ok-right.ensures.value) at c.read_side-2.ensures in
    (c.requires.2, left_few c.args.number c.args.vars c.args.text.now c.args.at c.args.to c.args.out.now _ _ _ t, right_few c.args.number c.args.vars c.args.text.now c.args.at c.args.to c.args.out.now _ _ _ t _ _ _ u)

pub overflow_add-result : goal.overflow_add-result
overflow_add-result c =
    let t = rw (some_asked _ _ _ c.in_ok-left.ensures.value) at c.read_side.ensures in
    omega (arith, left_few c.args.number c.args.vars c.args.text.now c.args.at c.args.to c.args.out.now _ _ _ t)

pub overflow_add-result-2 : goal.overflow_add-result-2
overflow_add-result-2 c =
    let t = rw (some_asked _ _ _ c.in_ok-left.ensures.value) at c.read_side.ensures in
    let u = rw (some_asked _ _ _ c.in_ok-right.ensures.value) at c.read_side-2.ensures in
    omega (arith, left_few c.args.number c.args.vars c.args.text.now c.args.at c.args.to c.args.out.now _ _ _ t, right_few c.args.number c.args.vars c.args.text.now c.args.at c.args.to c.args.out.now _ _ _ t _ _ _ u)

pub returns : goal.returns
returns c =
    let t = rw (some_asked _ _ _ c.in_ok-left.ensures.value) at c.read_side.ensures in
    let u = rw (some_asked _ _ _ c.in_ok-right.ensures.value) at c.read_side-2.ensures in
    sides_there c.args.number c.args.vars c.args.text.now c.args.at c.args.to c.args.out.now _ _ _ t _ _ _ u _ c.put_header.ensures
