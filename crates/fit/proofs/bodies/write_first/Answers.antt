-- `bodies::write_first` meets its contract: the first part has the body that was found.
use Rattle.std.proofs.Common.{arith}
use Rattle.term.proofs.Laws.{suffix}
use Rattle.fit.specs.Told.Told.{FirstIs}
use Rattle.fit.proofs.First.{first_is_lem, first_said, first_unwritten}
use Rattle.fit.proofs.bodies.write_first.Goals as goal
use Rattle.fit.proofs.bodies.write_first.Goals.{In_ok-first}

found_first : (c : In_ok-first) → FirstIs c.args.pair.now.left.now c.args.pair.now.term.now c.args.table.now c.args.x c.in_ok-first.first
found_first c = first_is_lem _ _ _ _ _ (rw c.in_ok-first.was at c.first_of.ensures)

pub returns-in_err-first : goal.returns-in_err-first
returns-in_err-first c = rw c.from_residual.ensures (first_unwritten _ _ _ _ (rw c.in_err-first.was at c.first_of.ensures) _ _)

pub shared_ref_as_front-list : goal.shared_ref_as_front-list
shared_ref_as_front-list c = let f = found_first (goal.at.shared_ref_as_front-list c).In_ok-first in omega (arith, f.four, f.few)

pub offset_bounds-pair-first : goal.offset_bounds-pair-first
offset_bounds-pair-first c = let f = found_first (goal.at.offset_bounds-pair-first c).In_ok-first in omega (arith, f.inside)

pub slice_bounds-write_body-count : goal.slice_bounds-write_body-count
slice_bounds-write_body-count c = (found_first (goal.at.slice_bounds-write_body-count c).In_ok-first).inside

pub slice_bounds-write_body-start : goal.slice_bounds-write_body-start
slice_bounds-write_body-start c = (found_first (goal.at.slice_bounds-write_body-start c).In_ok-first).inside

pub returns : goal.returns
returns c =
    let s = c.args in
    let w = rw (suffix c.in_ok-first.first.at s.pair.now.term.now) at c.write_body.ensures in
    rw c.ok.ensures.value (first_said s.pair.now.left.now s.pair.now.term.now s.table.now s.x c.requires _ (found_first (goal.at.returns c).In_ok-first) s.out.now _ _ w.0 w.1)
