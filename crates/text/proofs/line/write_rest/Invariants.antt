use Rattle.std.proofs.Common.{◌≡◌, ℕ, ◌+◌, ◌*◌, ◌≤◌, List, ◌++◌, drop}
use Rattle.text.specs.Line.{rest_text}
use Rattle.text.proofs.Wrote.{Wrote}
use Rattle.text.proofs.line.write_rest.Given as goal

-- what was written and what is left are the rest of the line
abbrev pub invariant-loop-word : goal.invariant-loop-word
invariant-loop-word l = record {
  near : l.to ≤ l.at + 13 * l.word-index;
  bs : List ℕ;
  wrote : Wrote l.initial.out l.at l.to l.out bs;
  rest : rest_text l.words ≡ bs ++ rest_text (drop l.word-index l.words);
}
