-- The rules passed stand at their spots.
use Rattle.compiler.specs.Told.Loaded.{RulesAt}
use Rattle.compiler.proofs.load.load_rules.Given as goal

abbrev pub invariant-loop-r : goal.invariant-loop-r
invariant-loop-r l = RulesAt l.book l.fixed l.r
