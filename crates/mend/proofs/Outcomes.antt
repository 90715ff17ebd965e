-- What repairing answers and leaves, and the record of all that comes back, say the same, both ways: an answer is told by its number and place. Where there
-- is room for every repaired text, what came by mail alone decides which of them it is.
use mathlib.Core.Path.{◌≡◌, refl, sym, ap, ◌∙◌}
use mathlib.Core.Bool.{Bool, true, false}
use mathlib.Core.List.{List}
use Prim.Native.Nat.{ℕ, ◌≤◌}
use native.Mathlib.Omega.{arith}
use lib.Dec.{leb}
use lib.ListN.{length, replicate}
use borrow.Author.Tests.{leb-true, leb-false, le-leb}
use Rattle.std.specs.Prelude.{Result, Ok, Err}
use Rattle.term.specs.declared.answer.Answer.{Answer}
use Rattle.term.specs.declared.answer.Answer.TheVariants.{Done, Short, BadText}
use Rattle.term.specs.Answer.{answered}
use Rattle.term.specs.Word.{pick}
use Rattle.term.specs.Part.{padded}
use Rattle.term.proofs.Laws.{never, answered_same}
use Rattle.text.specs.BookText.{book_text}
use Rattle.text.specs.Mail.{Mail, mail_is, bad_mail, mail_said}
use Rattle.text.proofs.Laws.{mail_line, mail_long}
use Rattle.mend.specs.Repair.{new_book, repaired_text, repair_answer, repair_bytes, RepairBookOutcome, repair_book_came, repair_book_gives}
use Rattle.mend.specs.Told.Told.{answer_of, RepairTold}
use Rattle.mend.proofs.Sizes.{repaired_short}

module _ (text : List ℕ) (room : ℕ) where
  pub repair_gives : repair_book_gives text room ≡ repair_book_came (answered (repair_answer room (mail_said text))) (repair_bytes room (mail_said text))
  unfolding repair_book_gives
  repair_gives = refl

  pub repair_said : (a : Answer) → (repair_book_gives text room).said ≡ answered a → repair_answer room (mail_said text) ≡ a
  repair_said a e = answered_same (repair_answer room (mail_said text)) a (ap (λ (o : RepairBookOutcome). o.said) (sym repair_gives) ∙ e)

  module _ (r : Answer) (out : List ℕ) where
    pub repair_came : (r ≡ repair_answer room (mail_said text)) × (out ≡ repair_bytes room (mail_said text)) → repair_book_came (answered r) out ≡ repair_book_gives text room
    repair_came e = rw (repair_gives, e.0, e.1)

    pub repair_told : repair_book_came (answered r) out ≡ repair_book_gives text room → (r ≡ repair_answer room (mail_said text)) × (out ≡ repair_bytes room (mail_said text))
    repair_told e =
        let f = e ∙ repair_gives in
        (answered_same r (repair_answer room (mail_said text)) (ap (λ (o : RepairBookOutcome). o.said) f), ap (λ (o : RepairBookOutcome). o.out) f)

-- ---- where there is room for every repaired text
-- the repaired text stands in front, or the new book is over 65,536 bytes
abbrev pub Mended : Bool → (room : ℕ) (text done : List ℕ) → Result ℕ Answer → Type 0
Mended true room text done r = (r ≡ Ok (length text)) × (length text ≤ room) × (done ≡ padded room text)
Mended false room text done r = (r ≡ Err Short) × (done ≡ replicate room 0)

-- or a line is not in form
abbrev pub Mends : (room : ℕ) → Mail → (done : List ℕ) → Result ℕ Answer → Type 0
Mends room (mail_is stated rules) done r = Mended (leb (length (book_text (new_book rules))) 65536) room (repaired_text stated rules) done r
Mends room (bad_mail line) done r = (r ≡ Err (BadText line)) × (line ≤ 65542) × (done ≡ replicate room 0)

-- a line that is not in form is one of a text within its bytes
abbrev line_of : Mail → ℕ
line_of (mail_is stated rules) = 0
line_of (bad_mail at) = at

line_few : (bs : List ℕ) (line : ℕ) → mail_said bs ≡ bad_mail line → line ≤ 65542
line_few bs line e = go (leb (length bs) 65536) refl
  where
    go : (b : Bool) → leb (length bs) 65536 ≡ b → line ≤ 65542
    go true q = omega (arith, mail_line bs line e, leb-true (length bs) 65536 q)
    go false q = let z : line ≡ 0 = ap line_of (sym e ∙ mail_long bs (leb-false (length bs) 65536 q)) in omega arith

-- an answer other than 0 is a refusal
refusal_of : (r : Result ℕ Answer) (a : Answer) → answer_of r ≡ a → (a ≡ Done → ⊥) → r ≡ Err a
refusal_of (Ok n) a e d = absurd (d (sym e))
refusal_of (Err b) a e d = ap Err e

module _ (bs : List ℕ) (room : ℕ) (done : List ℕ) (r : Result ℕ Answer) (t : RepairTold bs room done r) (enough : 131088 ≤ room) where
  by_size : (stated : ℕ) (rules : List (List ℕ)) (b : Bool) → leb (length (book_text (new_book rules))) 65536 ≡ b → mail_said bs ≡ mail_is stated rules
      → answer_of r ≡ pick b (pick (leb (length (repaired_text stated rules)) room) Done Short) Short → done ≡ pick b (padded room (repaired_text stated rules)) (replicate room 0)
      → Mended b room (repaired_text stated rules) done r
  by_size stated rules true e m a d =
      let l = repaired_short bs stated rules m (leb-true (length (book_text (new_book rules))) 65536 e) in
      let f : length (repaired_text stated rules) ≤ room = omega arith in
      let k : answer_of r ≡ Done = a ∙ rw (le-leb (length (repaired_text stated rules)) room f) in
      (t.size k ∙ rw m, f, d)
  by_size stated rules false e m a d = (refusal_of r Short a (λ k. never (cc)), d)

  by_mail_lem : (m : Mail) → mail_said bs ≡ m → answer_of r ≡ repair_answer room m → done ≡ repair_bytes room m → Mends room m done r
  unfolding repair_answer repair_bytes
  by_mail_lem (mail_is stated rules) m a d = by_size stated rules (leb (length (book_text (new_book rules))) 65536) refl m a d
  by_mail_lem (bad_mail line) m a d = (refusal_of r (BadText line) a (λ k. never (cc)), line_few bs line m, d)

  pub repair_mends : Mends room (mail_said bs) done r
  repair_mends = let c = repair_told bs room (answer_of r) done t.came in by_mail_lem (mail_said bs) refl c.0 c.1
