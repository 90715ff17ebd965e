-- `same::left_open` meets its contract: what is left of both passes gives the answer, at every turn; and in a turn neither list has, before the
-- place j, the id that is sought in it.
use mathlib.Core.Path.{◌≡◌}
use Prim.Native.Nat.{◌+◌, ◌-◌, ◌*◌, ◌≤◌}
use lib.ListN.{length}
use Rattle.term.specs.Word.{ident_of}
use Rattle.term.proofs.Lists.{Sought}
use Rattle.term.proofs.Compare.{Rest, Low}
use Rattle.term.proofs.same.left_open.Given as goal

abbrev pub invariant-loop-j : goal.invariant-loop-j
invariant-loop-j l = (l.j ≤ length l.list) × Sought (ident_of l.w - l.e) l.list l.j × Sought (ident_of l.x - l.e) l.ids l.j

abbrev pub decreases-loop-j : goal.decreases-loop-j
decreases-loop-j l = length l.list - l.j

abbrev pub invariant-pass : goal.invariant-pass
invariant-pass l = (length l.left ≡ 65) × (length l.under ≡ 65) × (l.depth ≤ 65) × (l.at ≤ length l.words) × Low l.depth l.under × Rest l.d l.list l.words l.c l.ids l.others l.at l.depth l.left l.under

abbrev pub decreases-pass : goal.decreases-pass
decreases-pass l = 2 * (length l.words - l.at) + l.depth
