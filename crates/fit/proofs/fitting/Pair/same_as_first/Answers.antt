-- `fitting::same_as_first` meets its contract: the part is compared with the first, which has the body that was found.
use Rattle.std.proofs.Common.{arith}
use Rattle.term.proofs.Laws.{suffix}
use Rattle.fit.specs.Told.Told.{FirstIs}
use Rattle.fit.proofs.First.{first_is_lem, first_compared, first_absent}
use Rattle.fit.proofs.fitting.Pair.same_as_first.Goals as goal
use Rattle.fit.proofs.fitting.Pair.same_as_first.Goals.{In-Some}

found_first : (c : In-Some) → FirstIs c.args.self.now.left.now c.args.self.now.term.now c.args.table.now c.args.x c.in-Some.first
found_first c = first_is_lem _ _ _ _ _ (c.in-Some.ensures)

pub returns-in_default : goal.returns-in_default
returns-in_default c = first_absent _ _ _ _ (c.in_default.ensures) _ _ _

pub shared_ref_as_front-list_of_first : goal.shared_ref_as_front-list_of_first
shared_ref_as_front-list_of_first c = let f = found_first (goal.at.shared_ref_as_front-list_of_first c).In-Some in omega (arith, f.four, f.few)

pub offset_bounds-self-first : goal.offset_bounds-self-first
offset_bounds-self-first c = let f = found_first (goal.at.offset_bounds-self-first c).In-Some in omega (arith, f.inside)

pub slice_bounds-same_body-count : goal.slice_bounds-same_body-count
slice_bounds-same_body-count c = (found_first (goal.at.slice_bounds-same_body-count c).In-Some).inside

pub slice_bounds-same_body-start : goal.slice_bounds-same_body-start
slice_bounds-same_body-start c = (found_first (goal.at.slice_bounds-same_body-start c).In-Some).inside

pub returns : goal.returns
returns c =
    let s = c.args in
    rw (c.same_body.ensures, suffix c.in-Some.first.at s.self.now.term.now, suffix s.to s.self.now.term.now)
    (first_compared s.self.now.left.now s.self.now.term.now s.table.now s.x c.requires.0 _ (found_first (goal.at.returns c).In-Some) s.d s.list.now s.to)
