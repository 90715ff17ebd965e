-- The search goes over the rule's spots before.
use Rattle.std.proofs.Common.{◌≡◌, ◌∙◌, ◌*◌, ◌/◌, ◌%◌, ap, arith, refl, rules, get_or}
use Rattle.std.specs.Option.{option_map, unwrap_or}
use Rattle.std.specs.List.{find, range_with_len}
use Rattle.std.proofs.lemmas.Iterator.{YieldsList-from_range}
use Rattle.std.proofs.lemmas.Iterator.Search.{find_from_yields_List}
use Rattle.term.specs.Word.{ident_of}
use Rattle.compiler.specs.Told.Tables.{is_variable}
use Rattle.compiler.proofs.Searches.{first_spot_found, same_option}
use Rattle.compiler.proofs.constraints.first_spot.Goals as goal

pub returns : goal.returns
returns c =
    let e : option_map (λ x. x) c.find.result ≡ find (is_variable c.args.fixed.now (ident_of (get_or c.args.fixed.now c.args.k 0))) (range_with_len (c.args.k / 64 * 64) (c.args.k % 64)) =
    find_from_yields_List (is_variable c.args.fixed.now (ident_of (get_or c.args.fixed.now c.args.k 0))) _ _ c.find.result c.find.ensures.ran
    (YieldsList-from_range (c.args.k / 64 * 64) _ (c.args.k % 64) refl (omega arith)) (λ x b q k. search rules) in
    c.unwrap_or.ensures ∙ ap (λ o. unwrap_or o c.args.k) (same_option c.find.result ∙ e) ∙ first_spot_found c.args.fixed.now c.args.k
