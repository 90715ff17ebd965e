use Rattle.std.proofs.Common.{◌≡◌, ℕ, List, length}
use Rattle.std.proofs.lemmas.List.Edits.{sets}
use Rattle.text.proofs.Turns.{Left}
use Rattle.text.proofs.line.read_line.Given as goal

-- the words so far, ahead of what is left, are the line
abbrev pub invariant-loop-n : goal.invariant-loop-n
invariant-loop-n l = record { ws : List ℕ; count : length ws ≡ l.n; lie : l.out ≡ sets l.initial.out l.to ws; left : Left l.most l.text l.at ws l.n l.i }
