-- Numbering the children left gives the answer.
use Rattle.std.proofs.Common.{◌≡◌, ◌+◌, ◌*◌, ◌-◌, ◌/◌, get_or}
use Rattle.compiler.specs.Told.Tables.{children_numbered, spot_numbered}
use Rattle.term.specs.Word.{count_of}
use Rattle.compiler.proofs.numbers.number_children.Given as goal

abbrev pub invariant-loop-j : goal.invariant-loop-j
invariant-loop-j l = spot_numbered l.fixed l.k l.first l.fn.nums ≡ children_numbered l.fixed (l.k / 64 * 64 + 64) (l.first + 1 + l.j) l.child (count_of (get_or l.fixed l.k 0) - l.j) l.nums
