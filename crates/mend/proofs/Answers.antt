-- What repairing answers and leaves, by what the text says: 0 just where every line is in form, the new book is not too long and there is room; every
-- other answer leaves zeros.
use mathlib.Core.Path.{◌≡◌, refl}
use mathlib.Core.Bool.{Bool, true, false}
use mathlib.Core.List.{List}
use Prim.Native.Nat.{ℕ, ◌≤◌}
use lib.Dec.{leb}
use lib.ListN.{length, replicate}
use borrow.Author.Tests.{leb-true, leb-false}
use Rattle.term.specs.declared.answer.Answer.TheVariants.{Done, Short, BadText}
use Rattle.term.specs.Word.{pick}
use Rattle.term.specs.Part.{padded}
use Rattle.term.proofs.Laws.{never, padded_fits, padded_short}
use Rattle.text.specs.BookText.{book_text}
use Rattle.text.specs.Mail.{Mail, mail_is, bad_mail}
use Rattle.text.proofs.Laws.{Are, filled}
use Rattle.mend.specs.Repair.{new_book, repaired_text, repair_answer, repair_bytes}

-- what an answer of 0 tells
pub record Written (room : ℕ) (mail : Mail) (out : List ℕ) : Type 0 where
  pub stated : ℕ
  pub rules : List (List ℕ)
  pub is : mail ≡ mail_is stated rules
  pub short : length (book_text (new_book rules)) ≤ 65536
  pub fits : length (repaired_text stated rules) ≤ room
  pub text : out ≡ filled room (repaired_text stated rules)

module _ (room : ℕ) where
  pub repair_bad_line : (at : ℕ) → Are (repair_answer room (bad_mail at)) (repair_bytes room (bad_mail at)) (BadText at) (replicate room 0)
  unfolding repair_answer repair_bytes
  repair_bad_line at = (refl, refl)

  module _ (stated : ℕ) (rules : List (List ℕ)) where
    abbrev book : List ℕ
    book = book_text (new_book rules)

    abbrev text : List ℕ
    text = repaired_text stated rules

    by_room : (c : Bool) → leb (length text) room ≡ c → length book ≤ 65536 → pick c Done Short ≡ Done → Written room (mail_is stated rules) (padded room text)
    by_room true e h d =
        let f = leb-true (length text) room e in record { stated = stated; rules = rules; is = refl; short = h; fits = f; text = padded_fits room text f }
    by_room false e h d = never (cc)

    by_size : (b : Bool) → leb (length book) 65536 ≡ b → pick b (pick (leb (length text) room) Done Short) Short ≡ Done
        → Written room (mail_is stated rules) (pick b (padded room text) (replicate room 0))
    by_size true e d = by_room (leb (length text) room) refl (leb-true (length book) 65536 e) d
    by_size false e d = never (cc)

    zeros_room : (c : Bool) → leb (length text) room ≡ c → (pick c Done Short ≡ Done → ⊥) → padded room text ≡ replicate room 0
    zeros_room true e n = absurd (n refl)
    zeros_room false e n = padded_short room text (leb-false (length text) room e)

    zeros_size : (b : Bool) → (pick b (pick (leb (length text) room) Done Short) Short ≡ Done → ⊥) → pick b (padded room text) (replicate room 0) ≡ replicate room 0
    zeros_size true n = zeros_room (leb (length text) room) refl n
    zeros_size false n = refl

  pub repair_done : (mail : Mail) → repair_answer room mail ≡ Done → Written room mail (repair_bytes room mail)
  unfolding repair_answer repair_bytes
  repair_done (mail_is stated rules) d = by_size stated rules (leb (length (book_text (new_book rules))) 65536) refl d
  repair_done (bad_mail at) d = never (cc)

  pub repair_zeros : (mail : Mail) → (repair_answer room mail ≡ Done → ⊥) → repair_bytes room mail ≡ replicate room 0
  unfolding repair_answer repair_bytes
  repair_zeros (mail_is stated rules) n = zeros_size stated rules (leb (length (book_text (new_book rules))) 65536) n
  repair_zeros (bad_mail at) n = refl
