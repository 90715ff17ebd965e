-- Each way through the loop has its lemma.
use Rattle.std.proofs.Common.{◌<◌, arith, sym, ◌∙◌}
use Rattle.book.proofs.IdLoop.{no_list, ids_start, ids_ended, ids_few, ids_other, ids_more, ids_many, ended_before, taken}
use Rattle.book.proofs.ids.ids_of.Goals as goal

pub returns-then-k-gt-MOST_IDS : goal.returns-then-k-gt-MOST_IDS
returns-then-k-gt-MOST_IDS c = no_list _ _ (ids_many _ _ c.if-k-gt-MOST_IDS.true)

pub returns-in_err-variables : goal.returns-in_err-variables
returns-in_err-variables c = c.from_residual.ensures ∙ no_list _ _ (ids_few _ _ (ended_before _ _ c.in_err-variables.ensures.lookup.0))

pub loop-j-init : goal.loop-j-init
loop-j-init c = (c.if-k-gt-MOST_IDS.false, ids_start _ _ c.if-k-gt-MOST_IDS.false)

pub returns-then-table_rank-ne-VARIABLE_RANK : goal.returns-then-table_rank-ne-VARIABLE_RANK
returns-then-table_rank-ne-VARIABLE_RANK c =
    let i = c.loop-j.invariant in
    let l = c.in_ok-variables.ensures.lookup.0 in
    let h : c.loop-j.j < c.args.k = omega (arith, c.loop-j-test.true, l.3) in
    no_list _ _ (ids_other _ _ i.0 _ _ i.1 h (omega (arith, l.1))
    (λ e. c.if-table_rank-ne-VARIABLE_RANK.true (rw (taken c.args.k c.args.words.now c.in_ok-variables.variables.now l.2 c.loop-j.j h) at c.table_rank.ensures ∙ e)))

pub loop-j-preserved : goal.loop-j-preserved
loop-j-preserved c =
    let i = c.loop-j.invariant in
    let l = c.in_ok-variables.ensures.lookup.0 in
    let h : c.loop-j.j < c.args.k = omega (arith, c.loop-j-test.true, l.3) in
    let t = taken c.args.k c.args.words.now c.in_ok-variables.variables.now l.2 c.loop-j.j h in (
      i.0,
      rw (c.id_of.ensures, t)
          (ids_more _ _ i.0 _ _ i.1 h (omega (arith, l.1))
          (sym (rw t at c.table_rank.ensures) ∙ c.if-table_rank-ne-VARIABLE_RANK.false)),
    )

pub returns : goal.returns
returns c =
    let i = c.loop-j.invariant in
    ids_ended _ _ i.0 _ _ i.1 (omega (arith, c.loop-j-test.false, c.in_ok-variables.ensures.lookup.0.3))
