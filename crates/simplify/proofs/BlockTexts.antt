-- The blocks are their lines one after the other, and each line is short.
use mathlib.Core.Path.{◌≡◌, sym, ap, ◌∙◌}
use mathlib.Core.List.{List, [], ◌++◌, append_assoc, append-nil}
use Prim.Native.Nat.{ℕ, ◌≤◌}
use native.Mathlib.Omega.{arith}
use lib.ListN.{length-append}
use Rattle.term.specs.declared.answer.Answer.{Answer}
use Rattle.term.specs.Answer.{number_of}
use Rattle.text.specs.BookText.{book_line, rules_key, number_text}
use Rattle.text.specs.Refusal.{answer_key}
use Rattle.text.proofs.Laws.{number_text_before, number_text_short, Wrote, wrote_then, number_small, Brief, as_block}
use Rattle.simplify.specs.File.{term_key}
use Rattle.simplify.specs.Printed.{tree_key, steps_key, result_key, head_text, answer_text}

pub head_wrote : (rules tree : ℕ) (out m1 m2 done : List ℕ) (a b end : ℕ) → rules ≤ 64 → tree ≤ 16384 → Wrote out 0 a m1 book_line → Wrote m1 a b m2 (number_text rules_key rules [])
    → Wrote m2 b end done (number_text tree_key tree []) → Brief (head_text rules tree) out done end
unfolding head_text
head_wrote rules tree out m1 m2 done a b end h k p q r =
    as_block (book_line ++ number_text rules_key rules (number_text tree_key tree [])) (book_line ++ (number_text rules_key rules [] ++ number_text tree_key tree [])) out done end
    (ap (λ (x : List ℕ). book_line ++ x) (number_text_before rules_key rules (number_text tree_key tree [])))
    (simp length-append (omega (arith, number_text_short rules_key rules (omega arith), number_text_short tree_key tree (omega arith))))
    (wrote_then out 0 a end m1 done book_line (number_text rules_key rules [] ++ number_text tree_key tree []) p
    (wrote_then m1 a b end m2 done (number_text rules_key rules []) (number_text tree_key tree []) q r))

-- the lines of a term before the text of its result
answer_lines : (term : ℕ) (a : Answer) (steps : ℕ) (rest : List ℕ)
    → number_text term_key term [] ++ (number_text answer_key (number_of a) [] ++ (number_text steps_key steps [] ++ (result_key ++ rest))) ≡ answer_text term a steps rest
unfolding answer_text
answer_lines term a steps rest =
    rw (number_text_before steps_key steps (result_key ++ rest), number_text_before answer_key (number_of a) (number_text steps_key steps (result_key ++ rest)))
    (number_text_before term_key term (number_text answer_key (number_of a) (number_text steps_key steps (result_key ++ rest))))

pub answer_before : (term : ℕ) (a : Answer) (steps : ℕ) (rest : List ℕ) → answer_text term a steps [] ++ rest ≡ answer_text term a steps rest
answer_before term a steps rest =
    ap (λ (x : List ℕ). x ++ rest) (sym (answer_lines term a steps [])) ∙ simp (append_assoc, append-nil) (answer_lines term a steps rest)

pub answer_wrote : (term : ℕ) (a : Answer) (steps : ℕ) (out m1 m2 m3 done : List ℕ) (x y z end : ℕ) → term ≤ 65536 → steps ≤ 65535 → Wrote out 0 x m1 (number_text term_key term [])
    → Wrote m1 x y m2 (number_text answer_key (number_of a) []) → Wrote m2 y z m3 (number_text steps_key steps []) → Wrote m3 z end done result_key → Brief (answer_text term a steps []) out done end
answer_wrote term a steps out m1 m2 m3 done x y z end h k p q r s =
    let last = result_key ++ [] in
    as_block (answer_text term a steps []) (number_text term_key term [] ++ (number_text answer_key (number_of a) [] ++ (number_text steps_key steps [] ++ (result_key ++ [])))) out done end
    (answer_lines term a steps [])
    (simp length-append (omega (arith, number_small a, number_text_short term_key term (omega arith), number_text_short answer_key (number_of a) (omega (arith, number_small a)), number_text_short steps_key steps (omega arith))))
    (wrote_then out 0 x end m1 done (number_text term_key term []) (number_text answer_key (number_of a) [] ++ (number_text steps_key steps [] ++ (result_key ++ []))) p
    (wrote_then m1 x y end m2 done (number_text answer_key (number_of a) []) (number_text steps_key steps [] ++ (result_key ++ [])) q
    (wrote_then m2 y z end m3 done (number_text steps_key steps []) (result_key ++ []) r s)))
