-- `check::check_tree` meets its contract: what is left to scan gives the answer, at every turn.
use Rattle.std.proofs.Common.{◌≡◌, ◌+◌, ◌-◌, ◌*◌, ◌≤◌, length}
use Rattle.term.proofs.Scan.{Rest}
use Rattle.term.proofs.check.check_tree.Given as goal

abbrev pub invariant-loop-depth : goal.invariant-loop-depth
invariant-loop-depth l = record {
  levels : length l.left ≡ 65;
  deep : l.depth ≤ 65;
  within : l.at ≤ length l.words;
  rest : Rest (record { ranks = l.ranks; length = l.most; nesting = l.nesting }) l.words l.at l.depth l.left;
}

abbrev pub decreases-loop-depth : goal.decreases-loop-depth
decreases-loop-depth l = 2 * (length l.words - l.at) + l.depth
