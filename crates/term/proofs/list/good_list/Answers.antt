-- `list::good_list` meets its contract: what is left of the list gives the answer, at every turn.
use Rattle.std.proofs.Common.{◌+◌, sym, ◌∙◌}
use Rattle.term.proofs.Lists.{too_small, too_large, repeated, listed_next, all_listed, suffix}
use Rattle.term.proofs.list.good_list.Goals as goal
use Rattle.term.proofs.list.good_list.Goals.{then-y-lt1-via-then-y-lt1, then-y-lt1-via-else-y-lt1+then-d-y, then-y-lt1-via-else-y-lt1+else-d-y+then-position_of-ne0}

pub returns-then-y-lt1 : goal.returns-then-y-lt1
returns-then-y-lt1 c =
    let q = c.loop-j in
    let few = c.if-list-gt-MOST_IDS.false in
    let here = c.loop-j-test.true in
    elim c.then-y-lt1.branch [
      | then-y-lt1-via-then-y-lt1 w ↦ too_small _ _ q.j few q.invariant here w.if-y-lt1.true
      | then-y-lt1-via-else-y-lt1+then-d-y w ↦ too_large _ _ q.j few q.invariant here w.if-y-lt1.false w.if-d-y.true
      | then-y-lt1-via-else-y-lt1+else-d-y+then-position_of-ne0 w ↦
          repeated _ _ q.j few q.invariant here w.if-y-lt1.false w.if-d-y.false
          (λ z. w.if-position_of-ne0.true (rw (suffix (q.j + 1) c.args.list.now) at w.position_of.ensures ∙ z))
    ]

pub loop-j-preserved : goal.loop-j-preserved
loop-j-preserved c =
    let q = c.loop-j in
    listed_next _ _ q.j c.if-list-gt-MOST_IDS.false q.invariant c.loop-j-test.true c.if-y-lt1.false c.if-d-y.false
    (sym (rw (suffix (q.j + 1) c.args.list.now) at c.position_of.ensures) ∙ c.if-position_of-ne0.false)

pub returns : goal.returns
returns c = let q = c.loop-j in all_listed _ _ q.j c.if-list-gt-MOST_IDS.false q.invariant c.loop-j-test.false
