-- A book word by word, for a crate that does not open the definitions: a rule lies as its three numbers say, both ways, and rules are judged one after the other.
use mathlib.Core.Path.{◌≡◌, refl}
use mathlib.Core.Bool.{Bool, true, false}
use mathlib.Core.List.{List, [], ◌∷◌, ◌++◌, append_assoc}
use mathlib.Core.Option.{Option, none, some}
use Prim.Native.Nat.{ℕ, zero, suc, ◌+◌}
use native.Mathlib.Omega.{arith}
use lib.Dec.{leb, ltb}
use lib.ListN.{length, take, drop, length-append, length-drop, take-append-drop}
use lib.Seq.{take_at, drop_at, drop-drop, length-take-le}
use borrow.Author.Tests.{leb-true, le-leb}
use Rattle.std.specs.Prelude.{Ok, Err}
use Rattle.term.specs.Word.{pick}
use Rattle.book.specs.Book.{Rule, rule_of, judged, good_next, after_next, judge, check_book}

-- ---- a rule in words, both ways
pub words_rule : (v : ℕ) (left right rest : List ℕ)
    → rule_of (v ∷ length left ∷ length right ∷ ((left ++ right) ++ rest)) ≡ some (record { vars = v; left = left; right = right }, rest)
unfolding rule_of
words_rule v left right rest =
    rw (
      append_assoc left right rest,
      length-append left (right ++ rest),
      length-append right rest,
      le-leb (length left + length right) (length left + (length right + length rest)) (omega arith),
      take_at left (right ++ rest) (length left) refl,
      drop_at left (right ++ rest) (length left) refl,
      take_at right rest (length right) refl,
      ← drop-drop (length right) (length left) (left ++ (right ++ rest)),
      drop_at left (right ++ rest) (length left) refl,
      drop_at right rest (length right) refl,
    )

abbrev RuleIs : List ℕ → Option (Rule × List ℕ) → Type 0
RuleIs ws none = Unit {0}
RuleIs ws (some p) = ws ≡ p.0.vars ∷ length p.0.left ∷ length p.0.right ∷ ((p.0.left ++ p.0.right) ++ p.1)

rule_are : (ws : List ℕ) → RuleIs ws (rule_of ws)
unfolding rule_of
rule_are [] = tt
rule_are (v ∷ []) = tt
rule_are (v ∷ l ∷ []) = tt
rule_are (v ∷ l ∷ r ∷ ws) = go (leb (l + r) (length ws)) refl
  where
    go : (b : Bool) → leb (l + r) (length ws) ≡ b
        → RuleIs (v ∷ l ∷ r ∷ ws) (pick b (some (record { vars = v; left = take l ws; right = take r (drop l ws) }, drop (l + r) ws)) none)
    go true e =
        let h = leb-true (l + r) (length ws) e in
        let p : length (take l ws) ≡ l = length-take-le l ws (omega arith) in
        let q : length (take r (drop l ws)) ≡ r = length-take-le r (drop l ws) (rw (length-drop l ws) (omega arith)) in
        rw (p, q, append_assoc (take l ws) (take r (drop l ws)) (drop (l + r) ws), ← drop-drop r l ws, take-append-drop r (drop l ws), take-append-drop l ws)
    go false e = tt

pub rule_words_lem : (ws : List ℕ) (rule : Rule) (rest : List ℕ) → rule_of ws ≡ some (rule, rest)
    → ws ≡ rule.vars ∷ length rule.left ∷ length rule.right ∷ ((rule.left ++ rule.right) ++ rest)
rule_words_lem ws rule rest e = rw e at (rule_are ws)

-- ---- judging, rule after rule
pub judge_end : (number : ℕ) → judge number zero [] ≡ Ok tt
unfolding judge
judge_end number = refl

pub judge_over : (number w : ℕ) (ws : List ℕ) → judge number zero (w ∷ ws) ≡ Err number
unfolding judge
judge_over number w ws = refl

pub judge_next : (number more : ℕ) (ws : List ℕ)
    → judge number (suc more) ws ≡ judged (good_next (rule_of ws)) (judge (suc number) more (after_next (rule_of ws))) number
unfolding judge
judge_next number more ws = refl

pub check_empty : check_book [] ≡ Err 0
unfolding check_book
check_empty = refl

pub check_counted : (n : ℕ) (ws : List ℕ) → check_book (n ∷ ws) ≡ pick (ltb 64 n) (Err 64) (judge 0 n ws)
unfolding check_book
check_counted n ws = refl
