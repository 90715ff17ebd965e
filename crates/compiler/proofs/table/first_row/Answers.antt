-- The search goes over the rows.
use Rattle.std.proofs.Common.{◌≡◌, refl, ◌∙◌, arith}
use Rattle.std.proofs.Common.{rules}
use Rattle.std.specs.Option.{option_map}
use Rattle.std.specs.List.{find, range_with_len}
use Rattle.std.proofs.lemmas.Iterator.{YieldsList-from_range}
use Rattle.std.proofs.lemmas.Iterator.Search.{find_from_yields_List}
use Rattle.compiler.proofs.Searches.{same_option}
use Rattle.compiler.proofs.Finds.{row_first}
use Rattle.compiler.specs.Told.Tables.{is_free}
use Rattle.compiler.proofs.table.first_row.Goals as goal

pub returns : goal.returns
returns c =
    let q = is_free c.args.marks.now in
    let e : option_map (λ x. x) c.find.result ≡ find q (range_with_len 0 64) =
    find_from_yields_List q _ _ c.find.result c.find.ensures.ran (YieldsList-from_range 0 _ 64 refl (omega arith)) (λ x b q k. search rules) in
    same_option c.find.result ∙ e ∙ row_first c.args.marks.now
