-- What is given, for each way through the code: into a cleared slice, where k says that it was accepted and there is room. A term is accepted just where it is good.
use mathlib.Core.Path.{◌≡◌, refl, ◌∙◌}
use mathlib.Core.List.{List}
use Prim.Native.Nat.{ℕ, ◌≤◌, ◌<◌}
use lib.ListN.{length, replicate}
use lib.Seq.{sets}
use borrow.Author.Tests.{le-leb, lt-leb}
use Rattle.term.specs.declared.answer.Answer.{Answer}
use Rattle.term.specs.declared.answer.Answer.TheVariants.{Done, BadTerm, Short}
use Rattle.std.specs.Prelude.{Result, Ok, Err}
use Rattle.term.specs.Check.{check, term_limits}
use Rattle.term.proofs.Laws.{wrote, no_room}
use Rattle.text.specs.Given.{given_answer, given_left}
use Rattle.text.specs.TermText.{judged_term, accept_term}

module _ (room : ℕ) (bs : List ℕ) (k : Result (Unit {0}) Answer) where
  pub given_short : (last : List ℕ) → k ≡ Ok tt → room < length bs → last ≡ replicate room 0 → (Short ≡ given_answer room bs k) × (last ≡ given_left room bs k)
  given_short last e h z = rw (e, lt-leb (length bs) room h) (refl, z ∙ (no_room room bs h).1)

  pub given_done : (zeros last : List ℕ) → k ≡ Ok tt → length bs ≤ room → zeros ≡ replicate room 0 → last ≡ sets zeros 0 bs
      → (Done ≡ given_answer room bs k) × (last ≡ given_left room bs k)
  given_done zeros last e h z s = rw (e, le-leb (length bs) room h) (refl, (wrote room bs last h (s ∙ rw z)).1)

  pub given_bad : (a : Answer) (last : List ℕ) → k ≡ Err a → last ≡ replicate room 0 → (a ≡ given_answer room bs k) × (last ≡ given_left room bs k)
  given_bad a last e z = rw e (refl, z)

-- ---- terms
module _ (ws : List ℕ) where
  pub good_term : check term_limits ws ≡ Ok tt → accept_term ws ≡ Ok tt
  unfolding accept_term
  good_term e = rw e

  pub bad_term_lem : (at : ℕ) → check term_limits ws ≡ Err at → accept_term ws ≡ Err (BadTerm at)
  unfolding accept_term
  bad_term_lem at e = rw e

  pub sound_term : accept_term ws ≡ Ok tt → check term_limits ws ≡ Ok tt
  unfolding accept_term
  sound_term e = go (check term_limits ws) e
    where
      go : (c : Result (Unit {0}) ℕ) → judged_term c ≡ Ok tt → c ≡ Ok tt
      go (Ok _) z = refl
      go (Err at) z = cc
