-- The abstractions that have the offset below them are counted.
use Rattle.std.proofs.Common.{refl, ◌∙◌, arith}
use Rattle.std.proofs.Common.{rules}
use Rattle.std.proofs.lemmas.Iterator.{YieldsList-from_range}
use Rattle.std.proofs.lemmas.Iterator.Consumers.{YieldsList-from_filter, YieldsList-at, count_from_yields_List}
use Rattle.compiler.proofs.Searches.{many_range}
use Rattle.compiler.specs.Told.Loaded.{reaches_to}
use Rattle.compiler.proofs.LoadLaws.{depth_is}
use Rattle.compiler.proofs.load.depth_of.Goals as goal

pub returns : goal.returns
returns c =
    depth_is c.args.left.now c.args.o _
    (count_from_yields_List c.filter.result _ c.count.ensures.ran
    (YieldsList-from_filter _ (reaches_to c.args.left.now c.args.o) (YieldsList-at c.filter.ensures.source (YieldsList-from_range 0 _ c.args.o refl (omega arith))) c.filter.ensures.closure (λ x b q k. search rules))
    ∙ many_range (reaches_to c.args.left.now c.args.o) c.args.o 0)
