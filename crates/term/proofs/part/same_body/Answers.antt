-- `part::same_body` meets its contract: the pass over both parts gives the answer, where both lists are lists.
use Rattle.std.proofs.Common.{sym, ◌∙◌}
use Rattle.term.proofs.Answers.{no_list, not_left, not_right}
use Rattle.term.proofs.part.same_body.Goals as goal
use Rattle.term.proofs.part.same_body.Goals.{then-good_list, else-good_list}

pub returns-else-good_list-2 : goal.returns-else-good_list-2
returns-else-good_list-2 c =
    c.if-good_list-2.false
    ∙ elim c.if-good_list.branch [
      | then-good_list w ↦ not_right _ _ _ _ _ _ (no_list _ _ _ (sym w.good_list-then-good_list.ensures ∙ sym w.value-is ∙ c.if-good_list-2.false))
      | else-good_list w ↦ not_left _ _ _ _ _ _ (no_list _ _ _ (sym c.good_list.ensures ∙ w.if-good_list.false))
    ]
