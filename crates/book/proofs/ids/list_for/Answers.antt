-- The ids that were read are judged as a list.
use Rattle.std.proofs.Common.{sym, ap, ◌∙◌, arith, length-take-le}
use Rattle.book.specs.Rule.{list_for}
use Rattle.book.proofs.IdLoop.{told_list, told_none}
use Rattle.book.proofs.ids.list_for.Goals as goal

pub slice_bounds-ids-end : goal.slice_bounds-ids-end
slice_bounds-ids-end c =
    let t = told_list _ _ _ (rw c.in-Some.is at c.ids_of.ensures) in omega (arith, t.1, t.2)

pub slice_bounds-good_list-end : goal.slice_bounds-good_list-end
slice_bounds-good_list-end c =
    let t = told_list _ _ _ (rw c.in-Some.is at c.ids_of.ensures) in sym (length-take-le _ _ (omega (arith, t.1, t.2)))

pub returns-in-Some : goal.returns-in-Some
returns-in-Some c =
    let t = told_list _ _ _ (rw c.in-Some.is at c.ids_of.ensures) in c.good_list.ensures ∙ sym (ap (list_for c.args.d) t.0)

pub returns-in-None : goal.returns-in-None
returns-in-None c = sym (ap (list_for _) (told_none _ _ (rw c.in-None.is at c.ids_of.ensures)))
