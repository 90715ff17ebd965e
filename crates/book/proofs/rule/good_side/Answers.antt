-- The walk tells the shape of the tree that the check found.
use Rattle.std.proofs.Common.{rules, sym, ◌∙◌}
use Rattle.book.proofs.Sides.{good_is, side_told}
use Rattle.book.proofs.rule.good_side.Goals as goal

pub returns-then-is_ok : goal.returns-then-is_ok
returns-then-is_ok c =
    let h = c.is_some.ensures in
    let k = c.is_ok.ensures in
    h ∙ side_told _ _ (sym c.check_tree.ensures ∙ good_is _ (search rules)) _ c.side_row.ensures
