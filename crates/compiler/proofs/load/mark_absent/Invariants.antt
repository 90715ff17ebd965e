-- The rows passed are marked, and the other marks are as they came.
use Rattle.compiler.specs.Told.Loaded.{absent_marked}
use Rattle.compiler.proofs.Sweeps.{Sweeping}
use Rattle.compiler.proofs.load.mark_absent.Given as goal

abbrev pub invariant-loop-r : goal.invariant-loop-r
invariant-loop-r l = Sweeping (absent_marked l.book) l.initial.rows l.rows l.r
