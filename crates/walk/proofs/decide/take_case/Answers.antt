-- The place was entered, or the address does not lead on, or the place is entered.
use Rattle.std.proofs.Common.{ap, ◌∙◌, not}
use Rattle.walk.proofs.Judged.{case_told}
use Rattle.walk.proofs.decide.take_case.Goals as goal
use Rattle.walk.proofs.decide.take_case.Goals.{then-not-entered, else-not-entered}

pub returns : goal.returns
returns c =
    let s = c.args in
    λ term w p h e i o.
    elim c.if-not-entered.branch [
      | then-not-entered x ↦ let k = x.if-not-entered.true in rw (c.then_some.ensures) (case_told s.tree.now term w p h s.n i s.to s.entered _ o (rw (e, k) (x.then_some-is ∙ x.leads_on.ensures)))
      | else-not-entered x ↦ let k = x.if-not-entered.false in rw (c.then_some.ensures) (case_told s.tree.now term w p h s.n i s.to s.entered _ o (rw k (x.then_some-is ∙ ap not k)))
    ]
