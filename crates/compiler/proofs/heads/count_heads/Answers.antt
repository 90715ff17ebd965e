-- The rows in which a head first appears are counted.
use Rattle.std.proofs.Common.{refl, ◌∙◌, arith}
use Rattle.std.proofs.Common.{rules}
use Rattle.std.proofs.lemmas.Iterator.{YieldsList-from_range}
use Rattle.std.proofs.lemmas.Iterator.Consumers.{YieldsList-from_filter, YieldsList-at, count_from_yields_List}
use Rattle.compiler.proofs.Searches.{many_range}
use Rattle.compiler.proofs.TableLaws.{new_here, heads_are, there}
use Rattle.compiler.proofs.heads.count_heads.Goals as goal

pub returns : goal.returns
returns c =
    heads_are c.args.fixed.now c.args.nums.now c.args.marks.now c.args.n _
    (count_from_yields_List c.filter.result _ c.count.ensures.ran
    (YieldsList-from_filter _ (new_here c.args.fixed.now c.args.nums.now c.args.marks.now c.args.n) (YieldsList-at c.filter.ensures.source (YieldsList-from_range 0 _ 64 refl (omega arith))) c.filter.ensures.closure (λ x b q k. search (rules, there)))
    ∙ many_range (new_here c.args.fixed.now c.args.nums.now c.args.marks.now c.args.n) 64 0)
