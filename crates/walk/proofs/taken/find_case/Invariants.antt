-- What the cases left tell is told of all.
use Rattle.std.proofs.Common.{ℕ, ◌≡◌, ◌/◌, length, drop}
use Rattle.std.specs.Prelude.{Option}
use Rattle.std.specs.Slice.Iter.{chunks_exact_rest, chunks_exact_size}
use Rattle.walk.specs.Told.Taken.{CaseTold}
use Rattle.walk.proofs.taken.find_case.Given as goal

abbrev pub invariant-loop-case : goal.invariant-loop-case
invariant-loop-case l =
    let rest = chunks_exact_rest l.case-iterator in
    record {
      pairs : chunks_exact_size l.case-iterator ≡ 2;
      told : (r : Option ℕ) → CaseTold l.word (length rest / 2) rest r → CaseTold l.word l.cases (drop l.from l.tree) r;
    }
