-- What is told of the cases left tells of all.
use Rattle.compiler.proofs.RootLoops.{RootSoFar}
use Rattle.compiler.proofs.root.root_cases.Given as goal

abbrev pub invariant-loop-k : goal.invariant-loop-k
invariant-loop-k l = RootSoFar l.fixed l.fn.nums l.fn.marks l.limit l.slot l.at l.fn.out l.nums l.marks l.out l.to l.a l.k
