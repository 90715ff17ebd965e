-- The book, the term, and then one law for each way the term is rewritten; the visits are the walk's.
use Rattle.std.proofs.Common.{◌≡◌, ℕ, arith, refl, sym, ap, ◌∙◌, length}
use Rattle.std.proofs.lemmas.List.{length-take-le}
use Rattle.std.specs.Prelude.{Some, Result, Ok, Err}
use Rattle.term.specs.declared.answer.Answer.{Answer}
use Rattle.walk.specs.Told.State.{part_from}
use Rattle.walk.specs.Told.WithBook.{book_walk}
use Rattle.steps.proofs.Asked.{good_book, is_term}
use Rattle.steps.proofs.Roots.{term_parted, term_some, root_none, root_refuses, root_few, root_wrote, root_refused, root_walked, refused_visits, walked_visits}
use Rattle.steps.proofs.Came.{rewrite_root_came_lem}
use Rattle.steps.proofs.rewrite.rewrite_root.Goals as goal

pub returns-in-Err : goal.returns-in-Err
returns-in-Err c =
    let s = c.args in
    let room = length s.out.now in
    let e = sym c.ask.ensures ∙ c.in-Err.is in
    rewrite_root_came_lem s.book.now s.tree.now s.term.now room _ _ _ (root_refused room s.book.now s.tree.now s.term.now _ c.clear.ensures _ e) (refused_visits room s.book.now s.tree.now s.term.now _ e)

pub rewrite_at-part-requires : goal.rewrite_at-part-requires
rewrite_at-part-requires c =
    let s = c.args in
    let e = sym c.ask.ensures ∙ c.in_default.is in
    let i = is_term s.book.now s.term.now e in
    (good_book s.book.now s.term.now e, term_parted s.term.now i, term_some s.term.now i, (refl, refl))

pub slice_bounds-area-end : goal.slice_bounds-area-end
slice_bounds-area-end c =
    let s = c.args in
    let part = c.rewrite_at-part in
    let came : part.result.came ≡ Some (Ok c.in-Some-Ok.n) = c.in-Some-Ok.is ∙ ap (λ (r : Result ℕ Answer). Some r) (rw c.in-Some-Ok.is at c.in-Some-Ok.field-0-is) in
    let few = root_few s.book.now (part_from s.term.now 0) 0 _ s.out.now (book_walk s.book.now s.tree.now s.term.now) c.in-Some-Ok.n (rw came at part.ensures.0) in
    omega arith

pub slice_bounds-give-end : goal.slice_bounds-give-end
slice_bounds-give-end c =
    let s = c.args in
    let part = c.rewrite_at-part in
    let came : part.result.came ≡ Some (Ok c.in-Some-Ok.n) = c.in-Some-Ok.is ∙ ap (λ (r : Result ℕ Answer). Some r) (rw c.in-Some-Ok.is at c.in-Some-Ok.field-0-is) in
    let few = root_few s.book.now (part_from s.term.now 0) 0 _ s.out.now (book_walk s.book.now s.tree.now s.term.now) c.in-Some-Ok.n (rw came at part.ensures.0) in
    sym (length-take-le _ _ (omega arith))

pub returns-in-None : goal.returns-in-None
returns-in-None c =
    let s = c.args in
    let room = length s.out.now in
    let part = c.rewrite_at-part in
    let e = sym c.ask.ensures ∙ c.in_default.is in
    rewrite_root_came_lem s.book.now s.tree.now s.term.now room _ _ _
    (root_walked room s.book.now s.tree.now s.term.now e _ _ (root_none s.book.now (part_from s.term.now 0) room _ _ c.clear.ensures (book_walk s.book.now s.tree.now s.term.now) (rw c.in-None.is at part.ensures.0)))
    (walked_visits room s.book.now s.tree.now s.term.now e _ part.ensures.2)

pub returns-in-Some-Ok : goal.returns-in-Some-Ok
returns-in-Some-Ok c =
    let s = c.args in
    let room = length s.out.now in
    let part = c.rewrite_at-part in
    let came : part.result.came ≡ Some (Ok c.in-Some-Ok.n) = c.in-Some-Ok.is ∙ ap (λ (r : Result ℕ Answer). Some r) (rw c.in-Some-Ok.is at c.in-Some-Ok.field-0-is) in
    let e = sym c.ask.ensures ∙ c.in_default.is in
    rewrite_root_came_lem s.book.now s.tree.now s.term.now room _ _ _
    (root_walked room s.book.now s.tree.now s.term.now e _ _
    (root_wrote s.book.now (part_from s.term.now 0) room _ _ (book_walk s.book.now s.tree.now s.term.now) c.in-Some-Ok.n (rw came at part.ensures.0) _ (rw c.clear.auto.out at c.give.ensures)))
    (walked_visits room s.book.now s.tree.now s.term.now e _ part.ensures.2)

pub returns-in-Some-Err : goal.returns-in-Some-Err
returns-in-Some-Err c =
    let s = c.args in
    let room = length s.out.now in
    let part = c.rewrite_at-part in
    let came : part.result.came ≡ Some (Err c.in-Some-Err.answer) = c.in-Some-Err.is ∙ ap (λ (r : Result ℕ Answer). Some r) (rw c.in-Some-Err.is at c.in-Some-Err.field-0-is) in
    let e = sym c.ask.ensures ∙ c.in_default.is in
    rewrite_root_came_lem s.book.now s.tree.now s.term.now room _ _ _
    (root_walked room s.book.now s.tree.now s.term.now e _ _
    (root_refuses s.book.now (part_from s.term.now 0) room _ _ c.clear.ensures (book_walk s.book.now s.tree.now s.term.now) c.in-Some-Err.answer (rw came at part.ensures.0)))
    (walked_visits room s.book.now s.tree.now s.term.now e _ part.ensures.2)
