-- What simplifying answers, by how it ended: a run that stopped is refused, and one that ended gives a term, for which 4,096 words have room.
use mathlib.Core.Path.{◌≡◌, refl}
use mathlib.Core.List.{List, [], ◌++◌}
use Prim.Native.Nat.{ℕ, ◌-◌, ◌≤◌, ◌<◌}
use native.Mathlib.Omega.{arith}
use lib.ListN.{length, replicate}
use borrow.Author.Tests.{le-leb}
use Rattle.std.specs.Prelude.{Result, Ok, Err}
use Rattle.term.specs.declared.answer.Answer.{Answer}
use Rattle.term.specs.Answer.{number_of}
use Rattle.term.specs.Row.{Row, words}
use Rattle.term.specs.Check.{IsTerm, check, term_limits}
use Rattle.term.proofs.Laws.{good_tree, padded_fits}
use Rattle.book.specs.Book.{check_book}
use Rattle.book.specs.Accept.{accept}
use Rattle.book.proofs.Laws.{good_accepted, bad_refused}
use Rattle.fit.proofs.Laws.{term_is_body, body_is_term, tree_of_lem}
use Rattle.steps.specs.Simplify.{Search, Run, Stopped, Ended, run_with_term, run_with_book, simplify_by, simplify, simplify_answer, simplify_words}
use Rattle.steps.proofs.Steps.{EndsAs, rests, used, StopsAs, broken, cannot, over, RunIs, run_is, steps_term}

abbrev pub RunGives : ℕ → Run → Type 0
RunGives room (Stopped trace last a) = (simplify_answer room (Stopped trace last a) ≡ a) × (10 ≤ number_of a)
RunGives room (Ended trace last a t) =
    (simplify_answer room (Ended trace last a t) ≡ a) × (number_of a < 10) × IsTerm (words t) × (simplify_words room (Ended trace last a t) ≡ words t ++ replicate (room - length (words t)) 0)

stopped_gives : (room : ℕ) (trace : List Search) (last : ℕ) (a : Answer) → 10 ≤ number_of a → RunGives room (Stopped trace last a)
unfolding simplify_answer
stopped_gives room trace last a h = (refl, h)

ended_gives : (room : ℕ) (trace : List Search) (last : ℕ) (a : Answer) (t : Row) → number_of a < 10 → IsTerm (words t) → length (words t) ≤ room → RunGives room (Ended trace last a t)
unfolding simplify_answer simplify_words
ended_gives room trace last a t h i l = (rw (le-leb (length (words t)) room l), h, i, padded_fits room (words t) l)

module _ (book table : List ℕ) where
  stops_refused : (budget n : ℕ) (v : Row) (a : Answer) → StopsAs book table budget n v a → 10 ≤ number_of a
  stops_refused budget n v a (broken address e q) = rw e (omega arith)
  stops_refused budget n v a (cannot at f e m q w) = rw e (omega arith)
  stops_refused budget n v a (over e m at f q u w z) = rw e (omega arith)

  ends_given : (budget n : ℕ) (v : Row) (a : Answer) → EndsAs book table budget n v a → number_of a < 10
  ends_given budget n v a (rests e q) = rw e (omega arith)
  ends_given budget n v a (used e m at f q) = rw e (omega arith)

  module _ (room : ℕ) (large : 4096 ≤ room) (accepted : check_book book ≡ Ok tt) (budget : ℕ) (ws : List ℕ) (i : IsTerm ws) where
    run_gives : (r : Run) → RunIs book table budget i.tree r → RunGives room r
    run_gives (Stopped trace last a) r = stopped_gives room trace last a (stops_refused budget (length trace) r.0 a r.3)
    run_gives (Ended trace last a v) r =
        let b = steps_term book table accepted trace i.tree v (term_is_body ws i) r.0 in
        ended_gives room trace last a v (ends_given budget (length trace) v a r.2) (body_is_term v b) (omega (arith, b.within.short))

  pub simplify_gives_lem : (room : ℕ) → 4096 ≤ room → (budget : ℕ) (ws : List ℕ) → RunGives room (simplify book table budget ws)
  unfolding simplify
  simplify_gives_lem room large budget ws = by_book_lem (check_book book) refl
    where
      by_term_lem : check_book book ≡ Ok tt → (c : Result (Unit {0}) ℕ) → check term_limits ws ≡ c → RunGives room (run_with_term book table budget ws c)
      by_term_lem g (Ok _) e =
          let i = good_tree term_limits (omega arith) ws e in
          rw (tree_of_lem term_limits ws i) (run_gives room large g budget ws i (simplify_by book table budget i.tree) (run_is book table budget i.tree))
      by_term_lem g (Err at) e = stopped_gives room [] 0 _ (omega arith)

      by_book_lem : (c : Result (Unit {0}) ℕ) → check_book book ≡ c → RunGives room (run_with_book book table budget ws (accept book))
      by_book_lem (Ok _) e = rw (good_accepted book e) (by_term_lem e (check term_limits ws) refl)
      by_book_lem (Err at) e = rw (bad_refused book at e) (stopped_gives room [] 0 _ (omega arith))
