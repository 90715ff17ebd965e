-- A book is accepted just where it is good, and else refused by 12 at its first bad rule.
use Prim.Native.Nat.{ℕ, ◌≤◌}
use native.Mathlib.Omega.{arith}
use mathlib.Core.Path.{◌≡◌, refl, sym, ap, ◌∙◌}
use mathlib.Core.List.{List}
use Rattle.std.specs.Prelude.{Result, Ok, Err, MatchResult, IsErrAnd}
use Rattle.term.specs.declared.answer.Answer.{Answer}
use Rattle.term.specs.declared.answer.Answer.TheVariants.{BadBook}
use Rattle.term.specs.Answer.{number_of, answered}
use Rattle.term.proofs.Laws.{never}
use Rattle.book.specs.Book.{check_book}
use Rattle.book.specs.Accept.{judged, accept, accept_answer, check_book_gives}

-- a check whose error goes through `map_err` is the check judged: good as it was, and each bad place made an answer
pub mapped : {E D : Type 0} (f : E → D) (r : Result (Unit {0}) E) (s : Result (Unit {0}) D) (F : E → D → Type 0)
    → MatchResult r (λ x. s ≡ Ok x) (λ e. IsErrAnd s (F e)) → ((e : E) (a : D) → F e a → a ≡ f e)
    → (judge : Result (Unit {0}) E → Result (Unit {0}) D) → judge (Ok tt) ≡ Ok tt → ((e : E) → judge (Err e) ≡ Err (f e)) → s ≡ judge r
mapped f (Ok _) s F h k judge good bad = h ∙ sym good
mapped f (Err e) (Ok x) F h k judge good bad = absurd h
mapped f (Err e) (Err a) F h k judge good bad = ap Err (k e a h) ∙ sym (bad e)

pub good_accepted : (book : List ℕ) → check_book book ≡ Ok tt → accept book ≡ Ok tt
unfolding accept
good_accepted book e = rw e

pub bad_refused : (book : List ℕ) (at : ℕ) → check_book book ≡ Err at → accept book ≡ Err (BadBook at)
unfolding accept
bad_refused book at e = rw e

pub accepted_good : (book : List ℕ) → accept book ≡ Ok tt → check_book book ≡ Ok tt
unfolding accept
accepted_good book e = go (check_book book) e
  where
    go : (c : Result (Unit {0}) ℕ) → judged c ≡ Ok tt → c ≡ Ok tt
    go (Ok _) z = refl
    go (Err at) z = cc

-- what refuses a book is a refusal
pub refusal_number : (book : List ℕ) (a : Answer) → accept book ≡ Err a → 10 ≤ number_of a
unfolding accept
refusal_number book a e = go (check_book book) e
  where
    go : (c : Result (Unit {0}) ℕ) → judged c ≡ Err a → 10 ≤ number_of a
    go (Ok _) z = never (cc)
    go (Err at) z = let q : BadBook at ≡ a = cc in rw (← q) (omega arith)

-- what checking a book gives is what accepting it answers
pub check_book_is : (book : List ℕ) → check_book_gives book ≡ answered (accept_answer (accept book))
unfolding check_book_gives
check_book_is book = refl
