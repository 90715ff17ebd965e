-- The first bad rule of a book is one of at most 64, or the number just after the last: the book says how many rules there are, and at most 64.
use mathlib.Core.Path.{◌≡◌, refl}
use mathlib.Core.Bool.{Bool, true, false}
use mathlib.Core.List.{List, [], ◌∷◌}
use Prim.Native.Nat.{ℕ, zero, suc, ◌+◌, ◌≤◌}
use native.Mathlib.Omega.{arith}
use lib.Dec.{ltb}
use borrow.Author.Tests.{ltb-false}
use Rattle.std.specs.Prelude.{Result, Ok, Err}
use Rattle.term.specs.Word.{pick}
use Rattle.book.specs.Book.{rule_of, judged, good_next, after_next, judge, check_book}

-- a place of at most `most`
abbrev pub BadWithin : ℕ → Result (Unit {0}) ℕ → Type 0
BadWithin most (Ok _) = Unit {0}
BadWithin most (Err at) = at ≤ most

judged_within : (most number : ℕ) (b : Bool) (rest : Result (Unit {0}) ℕ) → number ≤ most → BadWithin most rest → BadWithin most (judged b rest number)
judged_within most number true rest h r = r
judged_within most number false rest h r = h

judge_within : (most number more : ℕ) (ws : List ℕ) → number + more ≤ most → BadWithin most (judge number more ws)
unfolding judge
judge_within most number zero [] h = tt
judge_within most number zero (w ∷ ws) h = omega arith
judge_within most number (suc more) ws h =
    judged_within most number (good_next (rule_of ws)) (judge (suc number) more (after_next (rule_of ws))) (omega arith)
    (judge_within most (suc number) more (after_next (rule_of ws)) (omega arith))

pub bad_within : (ws : List ℕ) → BadWithin 64 (check_book ws)
unfolding check_book
bad_within [] = omega arith
bad_within (n ∷ ws) = go (ltb 64 n) refl
  where
    go : (b : Bool) → ltb 64 n ≡ b → BadWithin 64 (pick b (Err 64) (judge 0 n ws))
    go true e = omega arith
    go false e = let l : n ≤ 64 = ltb-false 64 n e in judge_within 64 0 n ws (omega arith)
