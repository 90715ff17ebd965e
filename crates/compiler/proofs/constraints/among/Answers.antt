-- Each word of the one list is asked for in the other.
use Rattle.std.proofs.Common.{◌∙◌, arith, rules}
use Rattle.std.proofs.lemmas.Iterator.{YieldsList-from_slice}
use Rattle.std.proofs.lemmas.Iterator.Search.{all_from_yields_List}
use Rattle.compiler.specs.Told.Tables.{in_list}
use Rattle.compiler.proofs.Searches.{among_is}
use Rattle.compiler.proofs.constraints.among.Goals as goal

pub returns : goal.returns
returns c =
    all_from_yields_List (λ w. in_list c.args.fixed.now w c.args.b) _ _ _ c.all.ensures.ran (YieldsList-from_slice _ (c.iter.ensures.rest ∙ c.list_at.ensures)) (λ x b q k. search rules)
    ∙ among_is c.args.fixed.now c.args.a c.args.b (omega arith)
