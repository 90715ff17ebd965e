-- What the program prints is `printed`: with room for every repaired text, what came by mail alone decides whether a text came back or a refusal, and a
-- refusal is written over the zeros that it leaves.
use mathlib.Core.Path.{◌≡◌, refl, sym, ◌∙◌}
use mathlib.Core.Bool.{Bool, true, false}
use mathlib.Core.List.{List}
use Prim.Native.Nat.{ℕ, ◌≤◌}
use native.Mathlib.Omega.{arith}
use lib.Dec.{eqb}
use lib.ListN.{length, take, replicate}
use lib.Seq.{sets, take_at}
use borrow.Author.Tests.{eqb-true}
use Rattle.std.specs.Prelude.{Result, Ok, Err, ◌⊎◌}
use Rattle.term.specs.declared.answer.Answer.{Answer}
use Rattle.term.specs.declared.answer.Answer.TheVariants.{Done, Short, BadText}
use Rattle.term.specs.Answer.{number_of, answered}
use Rattle.term.specs.Part.{padded}
use Rattle.term.proofs.Laws.{never, wrote, padded_fits}
use Rattle.text.specs.Mail.{Mail, mail_said}
use Rattle.text.specs.Refusal.{refusal_block}
use Rattle.mend.specs.Repair.{repair_answer, RepairBookOutcome, repair_book_came, repair_book_gives}
use Rattle.mend.specs.Told.Told.{answer_of, length_of, RepairTold}
use Rattle.mend.proofs.Laws.{Mends, repair_mends, repair_gives}
use Rattle.repair.specs.Printed.{printed_of, printed}

-- ---- what comes back
-- a refusal over zeros, whose lines are what is printed
abbrev pub Refused : (room : ℕ) (text : List ℕ) → RepairBookOutcome → Answer → Type 0
Refused room text o a = (o ≡ repair_book_came (answered a) (replicate room 0)) × (text ≡ refusal_block a)

-- the text that is printed, or one of two refusals
abbrev pub Decided : (room : ℕ) (text : List ℕ) (n : ℕ) → RepairBookOutcome → Type 0
Decided room text n o =
    ((o ≡ repair_book_came (answered Done) (padded room text)) × (n ≡ length text) × (length text ≤ room))
    ⊎ (Refused room text o Short ⊎ ((line : ℕ) × (line ≤ 65542) × Refused room text o (BadText line)))

mends_decide : (room : ℕ) (o : RepairBookOutcome) (m : Mail) (done : List ℕ) (r : Result ℕ Answer) → repair_book_came (answered (answer_of r)) done ≡ o
    → Mends room m done r → Decided room (printed_of m) (length_of m) o
mends_decide room o m done r k w = grind arith

number_zero : (a : Answer) → number_of a ≡ 0 → a ≡ Done
number_zero a e = grind arith

module _ (bs : List ℕ) (room : ℕ) (enough : 131088 ≤ room) where
  module _ (done : List ℕ) (a : Answer) (k : repair_book_came (answered a) done ≡ repair_book_gives bs room) where
    told_decides : (r : Result ℕ Answer) → RepairTold bs room done r → Decided room (printed bs) (length_of (mail_said bs)) (repair_book_gives bs room)
    unfolding printed
    told_decides r t = mends_decide room (repair_book_gives bs room) (mail_said bs) done r t.came (repair_mends bs room done r t enough)

    -- an answer of 0 comes with the length of the text, another is the refusal itself
    by_number : (b : Bool) → eqb (number_of a) 0 ≡ b → Decided room (printed bs) (length_of (mail_said bs)) (repair_book_gives bs room)
    by_number true q =
        let z : a ≡ Done = number_zero a (eqb-true (number_of a) 0 q) in
        told_decides (Ok (length_of (mail_said bs))) (record { came = rw z at k; size = λ d. refl })
    by_number false q = told_decides (Err a) (record { came = k; size = λ d. never (let z = rw d at q in cc) })

  pub decided : Decided room (printed bs) (length_of (mail_said bs)) (repair_book_gives bs room)
  decided = by_number _ _ (sym (repair_gives bs room)) (eqb (number_of (repair_answer room (mail_said bs))) 0) refl

-- ---- what is written over zeros is followed by zeros
pub over_zeros : (room : ℕ) (ws : List ℕ) → length ws ≤ room → sets (replicate room 0) 0 ws ≡ padded room ws
over_zeros room ws h = (wrote room ws (sets (replicate room 0) 0 ws) h refl).1

-- ---- so many bytes are printed, and what stands in the output
abbrev pub Block : List ℕ → List ℕ → ℕ → Type 0
Block text done n = (n ≡ length text) × (n ≤ 131088) × (done ≡ padded 131088 text)

-- what is printed of the output is what is to be printed
pub block_printed : (bs done : List ℕ) (n : ℕ) → Block (printed bs) done n → take n done ≡ printed bs
block_printed bs done n b =
    let l : length (printed bs) ≤ 131088 = omega (arith, b.0, b.1) in
    rw (b.2 ∙ padded_fits 131088 (printed bs) l) (take_at (printed bs) _ n (sym b.0))
