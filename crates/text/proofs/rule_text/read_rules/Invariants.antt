use Rattle.std.proofs.Common.{◌≡◌, ℕ, ◌*◌, ◌≤◌, List, length}
use Rattle.std.proofs.lemmas.List.Edits.{sets}
use Rattle.text.proofs.RuleSteps.{Left}
use Rattle.text.proofs.rule_text.read_rules.Given as goal

-- the words so far, before those of the rules left, are the rules
abbrev pub invariant-loop-number : goal.invariant-loop-number
invariant-loop-number l = record {
  inside : l.a ≤ length l.text;
  few : l.n ≤ 131 * l.number;
  ws : List ℕ;
  count : length ws ≡ l.n;
  lie : l.out ≡ sets l.initial.out 1 ws;
  left : Left l.count l.text l.at ws l.number l.a;
}
