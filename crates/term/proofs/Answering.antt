-- Document 01's numbers tell the answers apart: two answers that say the same number and place are the same. What a check gives is what it answers.
use Prim.Native.Nat.{ℕ}
use mathlib.Core.Path.{◌≡◌, refl, ap, sym, ◌∙◌}
use mathlib.Core.List.{List}
use lib.Dec.{eqb}
use Rattle.term.specs.declared.answer.Answer.{Answer}
use Rattle.term.specs.declared.answer.Answer.TheVariants.{Done, NoFit, BudgetUsed, BadText, BadTerm, BadBook, Short, Damaged, Over, NoRule, CannotTake, Disagree}
use Rattle.term.specs.Word.{pick}
use Rattle.term.specs.Answer.{number_of, place_of, Answered, answered}
use Rattle.term.specs.Check.{check, term_limits}
use Rattle.term.specs.Checked.{checked_term, check_term_gives}

-- the answer with a number and a place
abbrev answer_at : ℕ → ℕ → Answer
answer_at n at =
    pick (eqb n 0) Done (pick (eqb n 1) NoFit (pick (eqb n 2) BudgetUsed (pick (eqb n 10) (BadText at) (pick (eqb n 11) (BadTerm at)
    (pick (eqb n 12) (BadBook at) (pick (eqb n 13) Short (pick (eqb n 14) (Damaged at) (pick (eqb n 15) Over (pick (eqb n 16) (NoRule at)
    (pick (eqb n 18) (CannotTake at) (Disagree at)))))))))))

answer_at_lem : (a : Answer) → answer_at (number_of a) (place_of a) ≡ a
answer_at_lem Done = refl
answer_at_lem NoFit = refl
answer_at_lem BudgetUsed = refl
answer_at_lem (BadText at) = refl
answer_at_lem (BadTerm at) = refl
answer_at_lem (BadBook at) = refl
answer_at_lem Short = refl
answer_at_lem (Damaged at) = refl
answer_at_lem Over = refl
answer_at_lem (NoRule at) = refl
answer_at_lem (CannotTake at) = refl
answer_at_lem (Disagree at) = refl

pub answered_same : (a b : Answer) → answered a ≡ answered b → a ≡ b
answered_same a b e = sym (answer_at_lem a) ∙ ap (λ (s : Answered). answer_at s.number s.place) e ∙ answer_at_lem b

-- two numbers that are known and differ are not equal: so what says them is not the same
pub apart : (n m i j : ℕ) → n ≡ i → m ≡ j → (i ≡ j → ⊥) → n ≡ m → ⊥
apart n m i j p q d e = d (sym p ∙ e ∙ q)

pub check_term_is : (words : List ℕ) → check_term_gives words ≡ answered (checked_term (check term_limits words))
unfolding check_term_gives
check_term_is words = refl
