-- The cases that have a head are counted.
use Rattle.std.proofs.Common.{◌∙◌, arith, refl, rules}
use Rattle.std.proofs.lemmas.Iterator.{YieldsList-from_range}
use Rattle.std.proofs.lemmas.Iterator.Consumers.{YieldsList-from_filter, YieldsList-at, count_from_yields_List}
use Rattle.compiler.proofs.Searches.{many_range}
use Rattle.compiler.proofs.TableLaws.{there}
use Rattle.compiler.proofs.RootTables.{root_here, roots_are}
use Rattle.compiler.proofs.root.count_roots.Goals as goal

pub returns : goal.returns
returns c =
    roots_are c.args.fixed.now c.args.marks.now _
    (count_from_yields_List c.filter.result _ c.count.ensures.ran (YieldsList-from_filter _ (root_here c.args.fixed.now c.args.marks.now) (YieldsList-at c.filter.ensures.source (YieldsList-from_range 0 _ 1024 refl (omega arith))) c.filter.ensures.closure (λ x b q k. search (rules, there)))
    ∙ many_range (root_here c.args.fixed.now c.args.marks.now) 1024 0)
