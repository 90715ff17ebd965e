-- No row before has the symbol, where the search finds none.
use Rattle.std.proofs.Common.{◌∙◌, ap, arith, refl, rules}
use mathlib.Core.Bool.{not}
use Rattle.std.proofs.lemmas.Iterator.{YieldsList-from_range}
use Rattle.std.proofs.lemmas.Iterator.Search.{any_from_yields_List}
use Rattle.compiler.specs.Told.Tables.{has_symbol}
use Rattle.compiler.proofs.Searches.{none_before}
use Rattle.compiler.proofs.root.is_first.Goals as goal

pub returns : goal.returns
returns c =
    ap not (any_from_yields_List (has_symbol c.args.fixed.now c.args.marks.now c.args.i) _ _ _ c.any.ensures.ran (YieldsList-from_range 0 _ c.args.r refl (omega arith)) (λ x b q k. search rules))
    ∙ none_before (has_symbol c.args.fixed.now c.args.marks.now c.args.i) c.args.r
