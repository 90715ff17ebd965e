-- The search goes over the rule's spots.
use Rattle.std.proofs.Common.{◌≡◌, ◌*◌, refl, ◌∙◌, arith}
use Rattle.std.proofs.Common.{rules}
use Rattle.std.specs.Option.{option_map}
use Rattle.std.specs.List.{find, range_with_len}
use Rattle.std.proofs.lemmas.Iterator.{YieldsList-from_range}
use Rattle.std.proofs.lemmas.Iterator.Search.{find_from_yields_List}
use Rattle.compiler.proofs.Searches.{same_option}
use Rattle.compiler.proofs.Finds.{has_number, spot_first}
use Rattle.compiler.proofs.heads.spot_at.Goals as goal

pub returns : goal.returns
returns c =
    let q = has_number c.args.nums.now c.args.n in
    let e : option_map (λ x. x) c.find.result ≡ find q (range_with_len (c.args.r * 64) 64) =
    find_from_yields_List q _ _ c.find.result c.find.ensures.ran (YieldsList-from_range (c.args.r * 64) _ 64 refl (omega arith)) (λ x b q k. search rules) in
    same_option c.find.result ∙ e ∙ spot_first c.args.nums.now c.args.r c.args.n c.requires.0
