-- `build::build_variable` meets its contract: the list is read and the body found, and what is written of the body is what is told.
use Rattle.std.proofs.Common.{sym, arith}
use Rattle.std.proofs.Math.Seq.{length-take-le}
use Rattle.book.proofs.Laws.{told_list, told_none}
use Rattle.fit.proofs.Lengths.{found_body, past_body}
use Rattle.fit.proofs.BuildBody.{few_taken, hole_no_list, hole_no_variable, hole_past, hole_wrote}
use Rattle.fit.proofs.build.build_variable.Goals as goal

pub returns-in_err-ids : goal.returns-in_err-ids
returns-in_err-ids c =
    let s = c.args in
    rw c.from_residual.ensures
    (hole_no_list s.w s.after.now s.d s.levels s.bodies.now.words.now s.bodies.now.lengths.now s.out.now s.to _
    (rw c.count_of-k.ensures at (told_none _ _ (rw c.in_err-ids.was at c.ids_of.ensures))))

pub returns-then-x-ge-MOST_VARS_LONG : goal.returns-then-x-ge-MOST_VARS_LONG
returns-then-x-ge-MOST_VARS_LONG c = let s = c.args in hole_no_variable s.w s.after.now s.d s.levels s.bodies.now.words.now s.bodies.now.lengths.now s.out.now s.to _ (omega arith)

pub returns-in_err-body : goal.returns-in_err-body
returns-in_err-body c =
    let s = c.args in
    rw c.from_residual-in_err-body.ensures
    (hole_past s.w s.after.now s.d s.levels s.bodies.now.words.now s.bodies.now.lengths.now s.out.now s.to _
    (rw c.id_of-x.ensures at (past_body _ _ _ (rw c.in_err-body.was at c.body.ensures))))

pub slice_bounds-ids-end : goal.slice_bounds-ids-end
slice_bounds-ids-end c = let t = told_list _ _ _ (rw c.in_ok-ids.was at c.ids_of.ensures) in omega (arith, t.1, t.2)

pub slice_bounds-write_part-end : goal.slice_bounds-write_part-end
slice_bounds-write_part-end c = let t = told_list _ _ _ (rw c.in_ok-ids.was at c.ids_of.ensures) in sym (length-take-le _ _ (omega (arith, t.1, t.2)))

pub write_part-requires : goal.write_part-requires
write_part-requires c = let t = told_list _ _ _ (rw c.in_ok-ids.was at c.ids_of.ensures) in (few_taken _ _ t.1 t.2, c.requires)

pub returns : goal.returns
returns c =
    let s = c.args in
    let t = told_list _ _ _ (rw c.in_ok-ids.was at c.ids_of.ensures) in
    hole_wrote s.w s.after.now s.d s.levels s.bodies.now.words.now s.bodies.now.lengths.now s.out.now s.to _ _ (rw c.count_of-k.ensures at t.0) _
    (rw (found_body _ _ _ _ (rw c.in_ok-body.was at c.body.ensures), c.id_of-x.ensures, c.count_of-k.ensures) at c.write_part.ensures)
