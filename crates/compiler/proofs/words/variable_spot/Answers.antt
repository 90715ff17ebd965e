-- The search goes over the row's spots.
use Rattle.std.proofs.Common.{◌≡◌, ◌*◌, refl, ap, ◌∙◌, arith}
use Rattle.std.proofs.Common.{rules}
use Rattle.std.specs.Option.{option_map, unwrap_or}
use Rattle.std.specs.List.{find, range_with_len}
use Rattle.std.proofs.lemmas.Iterator.{YieldsList-from_range}
use Rattle.std.proofs.lemmas.Iterator.Search.{find_from_yields_List}
use Rattle.compiler.proofs.Searches.{same_option}
use Rattle.compiler.proofs.Finds.{variable_first}
use Rattle.compiler.specs.Told.Tables.{is_variable}
use Rattle.compiler.proofs.words.variable_spot.Goals as goal

pub returns : goal.returns
returns c =
    let q = is_variable c.args.fixed.now c.args.x in
    let e : option_map (λ x. x) c.find.result ≡ find q (range_with_len (c.args.r * 64) 64) =
    find_from_yields_List q _ _ c.find.result c.find.ensures.ran (YieldsList-from_range (c.args.r * 64) _ 64 refl (omega arith)) (λ x b q k. search rules) in
    c.unwrap_or.ensures ∙ ap (λ o. unwrap_or o (c.args.r * 64)) (same_option c.find.result ∙ e) ∙ variable_first c.args.fixed.now c.args.r c.args.x
