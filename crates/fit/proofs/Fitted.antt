-- What is answered and left of a match: its bodies and their lengths where they have room, zeros where they have none. By the two ways of the test for room.
use mathlib.Core.Path.{◌≡◌, refl}
use native.Mathlib.Omega.{arith}
use mathlib.Core.Bool.{Bool, false}
use mathlib.Core.List.{◌++◌}
use Prim.Native.Nat.{ℕ, zero, suc, ◌+◌, ◌-◌, ◌≤◌, ◌<◌}
use lib.Dec.{leb}
use lib.ListN.{length, replicate}
use borrow.Author.Tests.{le-leb, lt-leb}
use Rattle.term.specs.declared.answer.Answer.{Answer}
use Rattle.term.specs.declared.answer.Answer.TheVariants.{Done, Short}
use Rattle.term.specs.Word.{pick}
use Rattle.term.specs.Row.{Row}
use Rattle.term.proofs.Laws.{padded_fits}
use Rattle.fit.specs.Match.{body_list, length_list, refused, fitted, match_answer, match_aside, match_words, match_lengths}

pub refused_answer : (room : ℕ) (a : Answer) → match_answer room (refused a) ≡ a
unfolding match_answer
refused_answer room a = refl

pub refused_aside : (room : ℕ) (a : Answer) → match_aside room (refused a) ≡ 0
unfolding match_aside
refused_aside room a = refl

module _ (room vars n : ℕ) (b : ℕ → Row) where
  pub fitted_room : length (body_list b 0 vars) ≤ room
      → (match_answer room (fitted vars n b) ≡ Done) × (match_words room (fitted vars n b) ≡ body_list b 0 vars ++ replicate (room - length (body_list b 0 vars)) 0)
      × (match_lengths room (fitted vars n b) ≡ length_list b 0 vars ++ replicate (16 - vars) 0) × (match_aside room (fitted vars n b) ≡ n)
  unfolding match_answer match_aside match_words match_lengths
  fitted_room h = rw (le-leb (length (body_list b 0 vars)) room h) (refl, padded_fits room (body_list b 0 vars) h, refl, refl)

  pub fitted_short : room < length (body_list b 0 vars) → match_answer room (fitted vars n b) ≡ Short
  unfolding match_answer
  fitted_short h = rw (lt-leb (length (body_list b 0 vars)) room h)

  pub fitted_aside : (c : Bool) → leb (length (body_list b 0 vars)) room ≡ c → match_aside room (fitted vars n b) ≡ pick c n 0
  unfolding match_aside
  fitted_aside c e = rw e

  pub short_aside : room < length (body_list b 0 vars) → match_aside room (fitted vars n b) ≡ 0
  short_aside h = fitted_aside false (lt-leb (length (body_list b 0 vars)) room h)

-- bodies that are the same for each variable make the same lists
pub same_bodies : (b c : ℕ → Row) (more x : ℕ) → ((y : ℕ) → x ≤ y → y < x + more → b y ≡ c y) → (body_list b x more ≡ body_list c x more) × (length_list b x more ≡ length_list c x more)
unfolding body_list length_list
same_bodies b c zero x e = (refl, refl)
same_bodies b c (suc more) x e =
    let i = same_bodies b c more (suc x) (λ y l h. e y (omega arith) (omega arith)) in
    rw (e x (omega arith) (omega arith), i.0, i.1) (refl, refl)
