-- How the walk ended, what the rule wrote, and that its bodies are cleared; the visits are the walk's.
use Rattle.std.proofs.Common.{arith, ◌≡◌, length, ◌∙◌}
use Rattle.std.specs.Prelude.{Ok, Some, None}
use Rattle.walk.specs.Told.State.{part_from}
use Rattle.walk.specs.Told.WithBook.{book_walk, BookWalked}
use Rattle.steps.proofs.Rewrites.{zeros_long, used_cleared, at_none, at_damaged, at_rule}
use Rattle.steps.proofs.rules.rewrite_at.Goals as goal
use Rattle.steps.proofs.rules.rewrite_at.Goals.{In-Ok-Some}

sixteen : (c : In-Ok-Some) → length c.walk_book-walk.new.lengths ≡ 16
sixteen c = omega arith

walked : (c : In-Ok-Some) → BookWalked (book_walk c.args.book.now c.args.tree.now c.args.part.now) (Ok (Some c.in-Ok-Some.number)) c.walk_book-walk.new.bodies c.walk_book-walk.new.lengths
walked c =
    let f : c.in-Ok-Some.field-0 ≡ Some c.in-Ok-Some.number = rw c.in-Ok-Some.is at c.in-Ok-Some.field-0-is in
    rw f at (rw c.in-Ok-Some.is at c.walk_book-walk.ensures.0)

pub clear_used-requires : goal.clear_used-requires
clear_used-requires c =
    let d = (goal.at.clear_used-requires c).In-Ok-Some in
    (used_cleared _ _ _ _ (walked d) (c.walk_book-walk.auto.bodies ∙ zeros_long _ 65536 c.requires.3.0) (sixteen d)).0

pub returns-in-Ok-None : goal.returns-in-Ok-None
returns-in-Ok-None c =
    let s = c.args in
    let f : c.in-Ok-None.field-0 ≡ None = rw c.in-Ok-None.is at c.in-Ok-None.field-0-is in
    let q = at_none s.book.now (part_from s.part.now 0) (book_walk s.book.now s.tree.now s.part.now) _ _ _ (rw f at (rw c.in-Ok-None.is at c.walk_book-walk.ensures.0)) in
    (q.0, q.1, c.walk_book-walk.ensures.1)

pub returns-in-Err : goal.returns-in-Err
returns-in-Err c =
    let s = c.args in
    let q = at_damaged s.book.now (part_from s.part.now 0) (book_walk s.book.now s.tree.now s.part.now) _ _ _ _ (rw c.in-Err.is at c.walk_book-walk.ensures.0) in
    (q.0, q.1, c.walk_book-walk.ensures.1)

pub returns-in-Ok-Some : goal.returns-in-Ok-Some
returns-in-Ok-Some c =
    let s = c.args in
    let d = (goal.at.returns-in-Ok-Some c).In-Ok-Some in
    let cleared = c.clear_used.ensures in (
      at_rule s.book.now c.requires.0 s.tree.now s.part.now c.requires.1 c.requires.2 _ _ _ (walked d) _ _ c.write_rule-wrote.ensures,
      (cleared.0 ∙ (used_cleared _ _ _ _ (walked d) (c.walk_book-walk.auto.bodies ∙ zeros_long _ 65536 c.requires.3.0) (sixteen d)).1, cleared.1),
      c.walk_book-walk.ensures.1,
    )
