-- The first pair of entries that differ is the first wrong offset; where none do, the shorter table ends at it.
use Rattle.std.proofs.Common.{rules, tests, ◌≡◌, ◌∙◌, length, not, eqb}
use Rattle.std.proofs.lemmas.Iterator.{YieldsList-from_slice, YieldsList-from_zip}
use Rattle.std.proofs.lemmas.Iterator.Search.{position_from_yields_List}
use Rattle.term.specs.Lengths.{agreed}
use Rattle.term.proofs.TableAnswers.{told, agreed_found, none_same, none_other}
use Rattle.term.proofs.lengths.agree.Goals as goal
use Rattle.term.proofs.lengths.agree.Goals.{After-position}

judged : (c : After-position) → told c.position.result (length c.args.right.now) (length c.args.table.now) ≡ agreed 0 c.args.right.now c.args.table.now
judged c =
    agreed_found c.args.right.now c.args.table.now c.position.result
    (position_from_yields_List (λ p. not (eqb p.0 p.1)) c.position.new.self _ c.position.result c.position.ensures.ran
    (YieldsList-from_zip (YieldsList-from_slice c.args.right.now (cc)) (YieldsList-from_slice c.args.table.now (cc))) (λ x b q k. search (rules, tests)))

pub returns-in-Some : goal.returns-in-Some
returns-in-Some c = rw c.in-Some.is at (judged (goal.at.returns-in-Some c).After-position)

pub returns-in-None : goal.returns-in-None
returns-in-None c =
    let j = judged (goal.at.returns-in-None c).After-position in
    none_same _ _ c.if-right-table.true ∙ rw c.in-None.is at j

pub returns-in-None-2 : goal.returns-in-None-2
returns-in-None-2 c =
    let j = judged (goal.at.returns-in-None-2 c).After-position in
    rw c.min.ensures (none_other _ _ c.if-right-table.false ∙ rw c.in-None.is at j)
