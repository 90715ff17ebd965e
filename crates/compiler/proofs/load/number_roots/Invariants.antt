-- The spots passed are numbered, and the others are as they came.
use Rattle.compiler.specs.Told.Loaded.{root_numbered}
use Rattle.compiler.proofs.Sweeps.{Sweeping}
use Rattle.compiler.proofs.load.number_roots.Given as goal

abbrev pub invariant-loop-k : goal.invariant-loop-k
invariant-loop-k l = Sweeping root_numbered l.initial.nums l.nums l.k
