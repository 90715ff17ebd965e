-- No row before has the head, where the search finds none.
use Rattle.std.proofs.Common.{refl, ap, ◌∙◌, arith}
use Rattle.std.proofs.Common.{rules}
use mathlib.Core.Bool.{not}
use Rattle.std.proofs.lemmas.Iterator.{YieldsList-from_range}
use Rattle.std.proofs.lemmas.Iterator.Search.{any_from_yields_List}
use Rattle.compiler.proofs.Searches.{none_before}
use Rattle.compiler.specs.Told.Tables.{has_head}
use Rattle.compiler.proofs.heads.is_new.Goals as goal

pub returns : goal.returns
returns c =
    let p = has_head c.args.fixed.now c.args.nums.now c.args.marks.now c.args.n c.args.w in
    ap not (any_from_yields_List p _ _ _ c.any.ensures.ran (YieldsList-from_range 0 _ c.args.r refl (omega arith)) (λ x b q k. search rules)) ∙ none_before p c.args.r
