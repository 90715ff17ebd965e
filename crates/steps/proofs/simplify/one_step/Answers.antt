-- One law for each way the search ended, whose visits are the step's. The new part is written into fresh words.
use Rattle.std.proofs.Common.{◌≡◌, ℕ, arith, refl, ap, ◌∙◌, take}
use Rattle.std.proofs.lemmas.List.{length-take-le}
use Rattle.std.specs.Prelude.{Some, Result, Ok, Err}
use Rattle.term.specs.declared.answer.Answer.{Answer}
use Rattle.steps.proofs.Moves.{move_rests, move_refused, move_inside, move_replaced}
use Rattle.steps.proofs.simplify.one_step.Goals as goal

pub replace-requires : goal.replace-requires
replace-requires c =
    let s = c.args in
    let sought = c.seek-sought in
    let ws = take s.size s.area.now in
    let came : sought.result.came ≡ Some (c.in-Some-default-Ok.at, Ok c.in-Some-default-Ok.n) =
    c.in-Some-default-Ok.is ∙ ap (λ (r : Result ℕ Answer). Some (c.in-Some-default-Ok.at, r)) (rw c.in-Some-default-Ok.is at c.in-Some-default-Ok.field-0-1-is) in
    let q = move_inside s.book.now c.requires.0 s.tree.now ws c.requires.2 sought.new.new s.area.now s.area.now _ _ (rw came at sought.ensures.0) in
    (c.requires.1, omega (arith, q.0, length-take-le s.size s.area.now (omega arith)), q.1)

pub returns-in-None : goal.returns-in-None
returns-in-None c =
    let s = c.args in
    let sought = c.seek-sought in
    let ws = take s.size s.area.now in
    (move_rests s.book.now c.requires.0 s.tree.now ws c.requires.2 _ _ _ (rw c.in-None.is at sought.ensures.0) refl, sought.ensures.1, sought.ensures.2)

pub returns-in-Some-default-Ok : goal.returns-in-Some-default-Ok
returns-in-Some-default-Ok c =
    let s = c.args in
    let sought = c.seek-sought in
    let ws = take s.size s.area.now in
    let came : sought.result.came ≡ Some (c.in-Some-default-Ok.at, Ok c.in-Some-default-Ok.n) =
    c.in-Some-default-Ok.is ∙ ap (λ (r : Result ℕ Answer). Some (c.in-Some-default-Ok.at, r)) (rw c.in-Some-default-Ok.is at c.in-Some-default-Ok.field-0-1-is) in
    (move_replaced s.book.now c.requires.0 s.tree.now ws c.requires.2 _ _ _ _ _ (rw came at sought.ensures.0) _ c.replace.ensures _ c.map.ensures.cases, sought.ensures.1, sought.ensures.2)

pub returns-in-Some-default-Err : goal.returns-in-Some-default-Err
returns-in-Some-default-Err c =
    let s = c.args in
    let sought = c.seek-sought in
    let ws = take s.size s.area.now in
    let came : sought.result.came ≡ Some (c.in-Some-default-Err.field-0-0, Err c.in-Some-default-Err.answer) =
    c.in-Some-default-Err.is ∙ ap (λ (r : Result ℕ Answer). Some (c.in-Some-default-Err.field-0-0, r)) (rw c.in-Some-default-Err.is at c.in-Some-default-Err.field-0-1-is) in
    (move_refused s.book.now c.requires.0 s.tree.now ws c.requires.2 _ _ _ _ _ (rw came at sought.ensures.0), sought.ensures.1, sought.ensures.2)
