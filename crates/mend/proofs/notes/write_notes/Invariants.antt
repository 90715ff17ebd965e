use Rattle.std.proofs.Common.{ℕ, ◌+◌, ◌*◌, ◌≤◌, List}
use Rattle.text.proofs.Laws.{Wrote}
use Rattle.mend.specs.Repair.{notes_text}
use Rattle.mend.specs.Told.Told.{notes_by}
use Rattle.mend.proofs.Noting.{Lines}
use Rattle.mend.proofs.notes.write_notes.Given as goal

-- what was written and what is left are the lines
abbrev pub invariant-loop-old : goal.invariant-loop-old
invariant-loop-old l = record {
  earlier : l.new ≤ l.old;
  near : l.to ≤ l.at + 17 * l.old;
  bs : List ℕ;
  wrote : Wrote l.initial.out l.at l.to l.out bs;
  lines : Lines l.present l.olds (notes_text (notes_by 0 0 l.present l.olds)) bs l.old l.new;
}
