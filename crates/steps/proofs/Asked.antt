-- The book and then the term were asked: both are sound, or one of them is refused.
use mathlib.Core.Path.{◌≡◌, refl}
use mathlib.Core.List.{List}
use Prim.Native.Nat.{ℕ}
use native.Mathlib.Omega.{arith}
use Rattle.std.specs.Prelude.{Result, Ok, Err}
use Rattle.term.specs.declared.answer.Answer.{Answer}
use Rattle.term.specs.Check.{IsTerm, check, term_limits}
use Rattle.term.proofs.Laws.{never, good_tree}
use Rattle.book.specs.Accept.{accept}
use Rattle.book.specs.Book.{check_book}
use Rattle.book.proofs.Laws.{accepted_good}
use Rattle.steps.specs.Told.Operations.{asked}

both_sound : (b : Result (Unit {0}) Answer) (c : Result (Unit {0}) ℕ) → asked b c ≡ Ok tt → (b ≡ Ok tt) × (c ≡ Ok tt)
both_sound (Ok _) (Ok _) e = (refl, refl)
both_sound (Ok _) (Err at) e = never (cc)
both_sound (Err a) c e = never (cc)

module _ (book ws : List ℕ) (e : asked (accept book) (check term_limits ws) ≡ Ok tt) where
  pub sound_book : accept book ≡ Ok tt
  sound_book = (both_sound (accept book) (check term_limits ws) e).0

  pub sound_term : check term_limits ws ≡ Ok tt
  sound_term = (both_sound (accept book) (check term_limits ws) e).1

  pub good_book : check_book book ≡ Ok tt
  good_book = accepted_good book sound_book

  pub is_term : IsTerm ws
  is_term = good_tree term_limits (omega arith) ws sound_term
