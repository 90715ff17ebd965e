-- Writing the ids left gives the answer.
use Rattle.std.proofs.Common.{◌≡◌, ◌+◌, ◌-◌}
use Rattle.compiler.specs.Told.Tables.{size_at, ids_at, ids_from}
use Rattle.std.proofs.lemmas.List.Edits.{sets}
use Rattle.compiler.proofs.words.put_list.Given as goal

abbrev pub invariant-loop-j : goal.invariant-loop-j
invariant-loop-j l = sets l.fn.out l.at (ids_at l.fixed l.k) ≡ sets l.out (l.at + l.j) (ids_from l.fixed l.k l.j (size_at l.fixed l.k - l.j))
