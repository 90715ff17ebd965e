-- Numbering the children left gives the answer, and past the left side no child is left.
use Rattle.std.proofs.Common.{◌≡◌, ◌+◌, ◌*◌, ◌-◌, ◌/◌, get_or, arith}
use Rattle.compiler.proofs.NumberLaws.{numbered_stop, numbered_end, numbered_next}
use Rattle.term.specs.Word.{count_of}
use Rattle.compiler.proofs.numbers.number_children.Goals as goal

pub loop-j-init : goal.loop-j-init
loop-j-init c = let z : c.args.first + 1 + 0 ≡ c.args.first + 1 = omega arith in let y : count_of (get_or c.args.fixed.now c.args.k 0) - 0 ≡ count_of (get_or c.args.fixed.now c.args.k 0) = omega arith in rw (z, y)

pub returns-then-to-child : goal.returns-then-to-child
returns-then-to-child c = numbered_stop _ _ _ _ _ _ _ c.loop-j.invariant c.if-to-child.true

pub loop-j-preserved : goal.loop-j-preserved
loop-j-preserved c = let q = c.loop-j in numbered_next c.args.fixed.now (c.args.k / 64 * 64 + 64) c.args.first q.j q.child _ q.nums _ (omega (arith, c.count_of-more.ensures)) c.if-to-child.false q.invariant _ c.next_child-child.ensures

pub returns : goal.returns
returns c = numbered_end _ _ _ _ _ _ _ c.loop-j.invariant (omega (arith, c.count_of-more.ensures))
