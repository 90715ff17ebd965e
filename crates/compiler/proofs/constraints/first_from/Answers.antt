-- The search goes over the spots of the row.
use Rattle.std.proofs.Common.{◌≡◌, ◌∙◌, ◌+◌, ◌*◌, arith, refl, rules}
use Rattle.std.specs.Option.{option_map}
use Rattle.std.proofs.lemmas.Iterator.{YieldsList-from_range}
use Rattle.std.proofs.lemmas.Iterator.Search.{find_from_yields_List}
use Rattle.compiler.specs.Told.Tables.{unless, first_from, marks_of, is_left}
use Rattle.compiler.proofs.Searches.{same_option}
use Rattle.compiler.proofs.KindLaws.{first_in_spots, first_low}
use Rattle.compiler.proofs.constraints.first_from.Goals as goal
use Rattle.compiler.proofs.constraints.first_from.Goals.{After-find}

found : (c : After-find) → option_map (λ k. marks_of c.args.kind + k) c.find.result ≡ unless 0 (first_from c.args.fixed.now c.args.marks.now (marks_of c.args.kind) c.args.r)
found c =
    first_in_spots c.args.fixed.now c.args.marks.now c.args.kind c.args.r c.find.result
    (same_option c.find.result
    ∙ find_from_yields_List (λ k. is_left c.args.fixed.now c.args.marks.now (marks_of c.args.kind + k)) _ _ c.find.result c.find.ensures.ran
    (YieldsList-from_range (c.args.r * 64) _ 64 refl (omega arith)) (λ x b q k. search rules))

pub returns-in_err-spot : goal.returns-in_err-spot
returns-in_err-spot c = rw c.from_residual.ensures (rw c.in_err-spot.was at (found (goal.at.returns-in_err-spot c).After-find))

pub returns : goal.returns
returns c = rw c.in_ok-spot.was at (found (goal.at.returns c).After-find)

pub invariant_of-result : goal.invariant_of-result
invariant_of-result c =
    record { within = first_low c.args.fixed.now c.args.marks.now c.args.kind c.args.r c.in_ok-spot.spot c.requires (rw c.in_ok-spot.was at (found (goal.at.invariant_of-result c).After-find)) }
