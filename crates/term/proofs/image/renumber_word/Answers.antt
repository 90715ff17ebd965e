-- `image::renumber_word` meets its contract: the rank picks the case of the word.
use Rattle.std.proofs.Common.{arith, sym, ap, ◌∙◌}
use Rattle.term.specs.Told.Walk.{image}
use Rattle.term.proofs.Words.{word_head}
use Rattle.term.proofs.Images.{image_none, image_other, image_variable, image_no_id, image_small}
use Rattle.term.proofs.image.renumber_word.Goals as goal

pub returns-then-r-gt-TERM_RANK : goal.returns-then-r-gt-TERM_RANK
returns-then-r-gt-TERM_RANK c = image_none _ _ _ (omega arith)

pub returns-then-r-ne-VARIABLE_RANK : goal.returns-then-r-ne-VARIABLE_RANK
returns-then-r-ne-VARIABLE_RANK c = image_other _ _ _ _ (word_head c.args.w) (omega arith) (λ e. c.if-r-ne-VARIABLE_RANK.true (c.table_rank-r.ensures ∙ e))

pub returns-then-i-eq-NO_ID : goal.returns-then-i-eq-NO_ID
returns-then-i-eq-NO_ID c =
    let a = c.args in
    image_no_id _ _ _ _ (word_head a.w) (sym c.table_rank-r.ensures ∙ c.if-r-ne-VARIABLE_RANK.false)
    (sym (c.renumber_id-i.ensures ∙ ap (image a.way a.d a.list.now a.e) c.id_of.ensures) ∙ c.if-i-eq-NO_ID.true)

pub overflow_add-result : goal.overflow_add-result
overflow_add-result c =
    let a = c.args in
    omega (arith, c.renumber_id-i.ensures, image_small a.way a.d a.list.now a.e c.id_of.result c.requires.0 c.requires.1 (omega (arith, c.id_of.ensures)))

pub returns : goal.returns
returns c =
    let a = c.args in
    image_variable _ _ _ _ (word_head a.w) (sym c.table_rank-r.ensures ∙ c.if-r-ne-VARIABLE_RANK.false)
    _ (c.renumber_id-i.ensures ∙ ap (image a.way a.d a.list.now a.e) c.id_of.ensures) c.if-i-eq-NO_ID.false
