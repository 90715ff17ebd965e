-- `number::read_digits` meets its contract: what is left of the digits gives the number, at every turn.
use Rattle.std.proofs.Common.{◌≡◌, ◌+◌, length, arith}
use Rattle.text.proofs.Digits.{part_byte, part_digit, part_within, part_over, run_out, other, over, next}
use Rattle.text.proofs.number.read_digits.Goals as goal

pub returns-then-not-is_ascii_digit : goal.returns-then-not-is_ascii_digit
returns-then-not-is_ascii_digit c =
    let w = part_within _ _ _ c.requires.0 c.loop-i-test.true in
    let d = part_digit c.args.text.now c.args.at c.loop-i.i c.requires.0 _ _ c.is_ascii_digit.ensures.value c.if-not-is_ascii_digit.true in
    (other _ _ _ _ _ c.loop-i.invariant.rest w d, c.loop-i.invariant.few, omega arith, omega (arith, w))

pub returns-then-most-n : goal.returns-then-most-n
returns-then-most-n c =
    let b = part_byte c.args.text.now c.args.at c.loop-i.i c.requires.0 in
    let d = part_digit c.args.text.now c.args.at c.loop-i.i c.requires.0 _ _ c.is_ascii_digit.ensures.value c.if-not-is_ascii_digit.false in
    over _ _ _ _ _ c.loop-i.invariant.rest (part_within _ _ _ c.requires.0 c.loop-i-test.true) d (rw b at c.if-most-n.true)

pub loop-i-preserved : goal.loop-i-preserved
loop-i-preserved c =
    let b = part_byte c.args.text.now c.args.at c.loop-i.i c.requires.0 in
    let d = part_digit c.args.text.now c.args.at c.loop-i.i c.requires.0 _ _ c.is_ascii_digit.ensures.value c.if-not-is_ascii_digit.false in
    let m = rw b at c.if-most-n.false in
    let e : c.args.at + (c.loop-i.i + 1) ≡ c.args.at + c.loop-i.i + 1 = omega arith in
    rw (b, e) (record { few = m; rest = next _ _ _ _ _ c.loop-i.invariant.rest (part_within _ _ _ c.requires.0 c.loop-i-test.true) d m })

pub returns : goal.returns
returns c =
    let q = c.loop-i in
    let h = part_over _ _ _ c.requires.0 c.loop-i-test.false in
    let e : c.args.at + q.i ≡ length c.args.text.now = omega (arith, h, q.auto) in
    (rw (← e) (run_out c.args.most c.args.text.now c.args.at q.n _ q.invariant.rest h), q.invariant.few, c.requires.0, omega arith)
