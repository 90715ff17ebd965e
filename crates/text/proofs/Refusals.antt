-- A refusal is its two lines one after the other, and each line is short, since the numbers of the answers are.
use mathlib.Core.Path.{◌≡◌, sym, ap, ◌∙◌}
use mathlib.Core.List.{List, [], ◌++◌}
use Prim.Native.Nat.{ℕ, ◌≤◌}
use native.Mathlib.Omega.{arith}
use lib.ListN.{length, length-append}
use lib.Seq.{sets}
use Rattle.term.specs.declared.answer.Answer.{Answer}
use Rattle.term.specs.declared.answer.Answer.TheVariants as answers
use Rattle.term.specs.Answer.{number_of, place_of}
use Rattle.text.specs.BookText.{number_text}
use Rattle.text.specs.Refusal.{answer_key, at_key, refusal_block}
use Rattle.text.proofs.Above.{number_text_before, number_text_short}
use Rattle.text.proofs.Wrote.{Wrote, wrote_then}

pub number_small : (a : Answer) → number_of a ≤ 19
number_small answers.Done = omega arith
number_small answers.NoFit = omega arith
number_small answers.BudgetUsed = omega arith
number_small (answers.BadText at) = omega arith
number_small (answers.BadTerm at) = omega arith
number_small (answers.BadBook at) = omega arith
number_small answers.Short = omega arith
number_small (answers.Damaged at) = omega arith
number_small answers.Over = omega arith
number_small (answers.NoRule at) = omega arith
number_small (answers.CannotTake at) = omega arith
number_small (answers.Disagree at) = omega arith

-- a block of few bytes
abbrev pub Brief : List ℕ → List ℕ → List ℕ → ℕ → Type 0
Brief block out done n = (n ≡ length block) × (done ≡ sets out 0 block) × (n ≤ 100)

pub as_block : (block text out done : List ℕ) (n : ℕ) → text ≡ block → length text ≤ 100 → Wrote out 0 n done text → Brief block out done n
as_block block text out done n e h w = (rw (sym e) (omega (arith, w.0)), w.1 ∙ ap (sets out 0) e, omega (arith, w.0))

module _ (a : Answer) where
  two_lines : number_text answer_key (number_of a) [] ++ number_text at_key (place_of a) [] ≡ refusal_block a
  unfolding refusal_block
  two_lines = number_text_before answer_key (number_of a) (number_text at_key (place_of a) [])

  pub refusal_wrote : (out mid done : List ℕ) (at end : ℕ) → place_of a ≤ 70000 → Wrote out 0 at mid (number_text answer_key (number_of a) [])
      → Wrote mid at end done (number_text at_key (place_of a) []) → Brief (refusal_block a) out done end
  refusal_wrote out mid done at end h p q =
      let k = number_small a in
      let l = number_text_short answer_key (number_of a) (omega arith) in
      let m = number_text_short at_key (place_of a) (omega arith) in
      as_block (refusal_block a) (number_text answer_key (number_of a) [] ++ number_text at_key (place_of a) []) out done end two_lines
      (rw length-append (omega (arith, k, l, m)))
      (wrote_then out 0 at end mid done (number_text answer_key (number_of a) []) (number_text at_key (place_of a) []) p q)
