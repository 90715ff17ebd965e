-- Document 01, "The book": the number of rules, then the rules, and nothing after; and the first bad rule.
use Rattle.std.specs.Prelude.{ℕ, zero, suc, ◌+◌, Bool, true, false, List, [], ◌∷◌, ◌++◌, length, take, drop, leb, ltb, Result, Ok, Err}
use Rattle.std.proofs.Math.Option.{Option, none, some}
use Rattle.term.specs.Word.{pick}
use Rattle.book.specs.Rule.{good_rule}

-- a rule as it lies in a book: vars, left length, right length, the left words, the right words
pub record Rule : Type 0 where
  pub vars : ℕ
  pub left : List ℕ
  pub right : List ℕ

-- the rule that the words begin with, and the words after it; none where it runs past them
unfoldable pub rule_of : List ℕ → Option (Rule × List ℕ)
rule_of [] = none
rule_of (v ∷ []) = none
rule_of (v ∷ l ∷ []) = none
rule_of (v ∷ l ∷ r ∷ ws) =
    pick (leb (l + r) (length ws)) (some (record { vars = v; left = take l ws; right = take r (drop l ws) }, drop (l + r) ws)) none

abbrev pub judged : Bool → Result (Unit {0}) ℕ → ℕ → Result (Unit {0}) ℕ
judged true rest number = rest
judged false rest number = Err number

-- so many rules from this number on, and nothing after them
abbrev pub good_next : Option (Rule × List ℕ) → Bool
good_next none = false
good_next (some p) = good_rule p.0.vars p.0.left p.0.right

abbrev pub after_next : Option (Rule × List ℕ) → List ℕ
after_next none = []
after_next (some p) = p.1

unfoldable pub judge : ℕ → ℕ → List ℕ → Result (Unit {0}) ℕ
judge number zero [] = Ok tt
judge number zero (w ∷ ws) = Err number
judge number (suc more) ws = judged (good_next (rule_of ws)) (judge (suc number) more (after_next (rule_of ws))) number

-- over 64 rules is bad at 64, judged first; the empty list is bad at 0
unfoldable pub check_book : List ℕ → Result (Unit {0}) ℕ
check_book [] = Err 0
check_book (n ∷ ws) = pick (ltb 64 n) (Err 64) (judge 0 n ws)

-- ---- a rule by its number
abbrev pub next_o : Option (Rule × List ℕ) → Option Rule
next_o none = none
next_o (some p) = some p.0

unfoldable pub nth_rule : ℕ → ℕ → List ℕ → Option Rule
nth_rule zero number ws = none
nth_rule (suc more) zero ws = next_o (rule_of ws)
nth_rule (suc more) (suc number) ws = nth_rule more number (after_next (rule_of ws))

-- the rule of this number; none where the book has none
unfoldable pub rule_at : List ℕ → ℕ → Option Rule
rule_at [] number = none
rule_at (n ∷ ws) number = nth_rule n number ws

-- ---- a book as a list of its rules, each in words
-- the words begin with a rule, and it keeps the book rules
unfoldable pub sound : List ℕ → Bool
sound ws = good_next (rule_of ws)

unfoldable pub together : List (List ℕ) → List ℕ
together [] = []
together (rule ∷ rules) = rule ++ together rules

unfoldable pub book_of : List (List ℕ) → List ℕ
book_of rules = length rules ∷ together rules
