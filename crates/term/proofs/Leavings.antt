-- What is left in a lent slice, by its definition: the words and zeros after them where they fit, else zeros.
use mathlib.Core.Path.{◌≡◌, refl}
use mathlib.Core.Bool.{Bool, true, false}
use mathlib.Core.List.{List, ◌++◌}
use mathlib.Core.Option.{Option, none, some}
use Prim.Native.Nat.{ℕ, zero, suc, ◌-◌, ◌≤◌, ◌<◌}
use lib.Dec.{leb}
use lib.ListN.{length, get_or, replicate}
use borrow.Author.Tests.{le-leb, lt-leb, leb-true}
use Rattle.std.specs.Prelude.{Ok, Err}
use Rattle.term.specs.declared.part.Unwritten.TheVariants.{Short}
use Rattle.term.specs.Word.{pick}
use Rattle.term.specs.Row.{Row, words}
use Rattle.term.specs.Part.{written, padded, body_answer, body_words}
use Rattle.term.proofs.Words.{never}

-- zeros are 0 everywhere
pub zero_at : (n i : ℕ) → ◌≡◌ {A = ℕ} (get_or {A = ℕ} (replicate n 0) i 0) 0
zero_at zero i = refl
zero_at (suc n) zero = refl
zero_at (suc n) (suc i) = zero_at n i

pub written_fits : (room : ℕ) (ws : List ℕ) → length ws ≤ room → written room ws ≡ Ok (length ws)
unfolding written
written_fits room ws h = rw (le-leb (length ws) room h)

pub written_short : (room : ℕ) (ws : List ℕ) → room < length ws → written room ws ≡ Err Short
unfolding written
written_short room ws h = rw (lt-leb (length ws) room h)

pub padded_fits : (room : ℕ) (ws : List ℕ) → length ws ≤ room → padded room ws ≡ ws ++ replicate (room - length ws) 0
unfolding padded
padded_fits room ws h = rw (le-leb (length ws) room h)

pub padded_short : (room : ℕ) (ws : List ℕ) → room < length ws → padded room ws ≡ replicate room 0
unfolding padded
padded_short room ws h = rw (lt-leb (length ws) room h)

-- what is said to be written fits
pub fits_written : (room : ℕ) (ws : List ℕ) (n : ℕ) → written room ws ≡ Ok n → (n ≡ length ws) × (length ws ≤ room)
unfolding written
fits_written room ws n e = go (leb (length ws) room) refl e
  where
    go : (b : Bool) → leb (length ws) room ≡ b → pick b (Ok (length ws)) (Err Short) ≡ Ok n → (n ≡ length ws) × (length ws ≤ room)
    go true q z = (let k : Ok (length ws) ≡ Ok n = z in cc, leb-true (length ws) room q)
    go false q z = never (cc)

pub body_answer_lem : (room : ℕ) (b : Row) → body_answer room (some b) ≡ written room (words b)
unfolding body_answer
body_answer_lem room b = refl

pub body_words_lem : (room : ℕ) (b : Row) → body_words room (some b) ≡ padded room (words b)
unfolding body_words
body_words_lem room b = refl

-- so many words are said to be written only where there is a body, and room for it
pub answer_fits : (room : ℕ) (o : Option Row) (n : ℕ) → body_answer room o ≡ Ok n → (b : Row) × (o ≡ some b) × (n ≡ length (words b)) × (length (words b) ≤ room)
unfolding body_answer
answer_fits room none n e = never (cc)
answer_fits room (some b) n e = let f = fits_written room (words b) n e in (b, refl, f.0, f.1)
