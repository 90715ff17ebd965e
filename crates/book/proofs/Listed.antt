-- A book of rules that are sound is good, and one with a rule that is not is bad: each rule is found before the words after it, and judged alone.
use mathlib.Core.Path.{◌≡◌, refl, sym, ap, ◌∙◌}
use mathlib.Core.Bool.{Bool, true, false}
use mathlib.Core.List.{List, [], ◌∷◌, ◌++◌, append-nil}
use mathlib.Core.Option.{some}
use Prim.Native.Nat.{ℕ, suc, ◌+◌, ◌≤◌, ◌<◌}
use native.Mathlib.Omega.{arith}
use lib.Dec.{ltb}
use lib.ListN.{length}
use borrow.Author.Tests.{lt-ltb, le-ltb}
use Rattle.std.specs.Prelude.{Ok, Err}
use Rattle.term.specs.Word.{pick}
use Rattle.term.proofs.Laws.{never}
use Rattle.book.specs.Book.{Rule, rule_of, judged, judge, check_book, sound, together, book_of}
use Rattle.book.proofs.Above.{words_rule, rule_words_lem, judge_end, judge_next}

-- the words are one rule
abbrev pub Whole : List ℕ → Type 0
Whole ws = (rule : Rule) × (rule_of ws ≡ some (rule, []))

abbrev pub AllWhole : List (List ℕ) → Type 0
AllWhole [] = Unit {0}
AllWhole (rule ∷ rules) = Whole rule × AllWhole rules

abbrev pub AllSound : List (List ℕ) → Type 0
AllSound [] = Unit {0}
AllSound (rule ∷ rules) = Whole rule × (sound rule ≡ true) × AllSound rules

pub whole_words : (v : ℕ) (left right : List ℕ) → Whole (v ∷ length left ∷ length right ∷ (left ++ right))
whole_words v left right = (record { vars = v; left = left; right = right }, ap (λ (x : List ℕ). rule_of (v ∷ length left ∷ length right ∷ x)) (sym (append-nil (left ++ right))) ∙ words_rule v left right [])

-- ---- the words of rules, one after the other
pub together_nothing : together [] ≡ []
unfolding together
together_nothing = refl

pub together_rule : (rule : List ℕ) (rules : List (List ℕ)) → together (rule ∷ rules) ≡ rule ++ together rules
unfolding together
together_rule rule rules = refl

pub book_words : (rules : List (List ℕ)) → book_of rules ≡ length rules ∷ together rules
unfolding book_of
book_words rules = refl

-- ---- one rule before others
module _ (ws : List ℕ) (w : Whole ws) (rest : List ℕ) where
  before_rest : rule_of (ws ++ rest) ≡ some (w.0, rest)
  before_rest =
      ap (λ (x : List ℕ). rule_of (x ++ rest)) (rule_words_lem ws w.0 [] w.1)
      ∙ ap (λ (x : List ℕ). rule_of (w.0.vars ∷ length w.0.left ∷ length w.0.right ∷ (x ++ rest))) (append-nil (w.0.left ++ w.0.right))
      ∙ words_rule w.0.vars w.0.left w.0.right rest

  judged_so : (number more : ℕ) → judge number (suc more) (ws ++ rest) ≡ judged (sound ws) (judge (suc number) more rest) number
  unfolding sound
  judged_so number more = judge_next number more (ws ++ rest) ∙ rw (before_rest, w.1)

-- ---- all
judge_sound : (number : ℕ) (rules : List (List ℕ)) → AllSound rules → judge number (length rules) (together rules) ≡ Ok tt
unfolding together
judge_sound number [] s = judge_end number
judge_sound number (rule ∷ rules) s = judged_so rule s.0 (together rules) number (length rules) ∙ rw s.1 (judge_sound (suc number) rules s.2)

pub sound_book : (rules : List (List ℕ)) → AllSound rules → length rules ≤ 64 → check_book (book_of rules) ≡ Ok tt
unfolding book_of check_book
sound_book rules s h = rw (le-ltb 64 (length rules) h) (judge_sound 0 rules s)

pub many_refused : (rules : List (List ℕ)) → 64 < length rules → check_book (book_of rules) ≡ Err 64
unfolding book_of check_book
many_refused rules h = rw (lt-ltb 64 (length rules) h)

-- ---- one that is not sound, put among others
judge_unsound : (number : ℕ) (front : List (List ℕ)) (rule : List ℕ) (back : List (List ℕ)) → AllSound front → Whole rule → sound rule ≡ false
    → judge number (length (front ++ (rule ∷ back))) (together (front ++ (rule ∷ back))) ≡ Err (number + length front)
unfolding together
judge_unsound number [] rule back s w u = let z : number + 0 ≡ number = omega arith in judged_so rule w (together back) number (length back) ∙ rw (u, z)
judge_unsound number (r ∷ front) rule back s w u =
    let z : suc number + length front ≡ number + suc (length front) = omega arith in
    judged_so r s.0 (together (front ++ (rule ∷ back))) number (length (front ++ (rule ∷ back)))
    ∙ rw s.1 (judge_unsound (suc number) front rule back s.2 w u ∙ ap (λ (x : ℕ). Err x) z)

pub unsound_refused : (front : List (List ℕ)) (rule : List ℕ) (back : List (List ℕ)) → AllSound front → Whole rule → sound rule ≡ false
    → (at : ℕ) × (check_book (book_of (front ++ (rule ∷ back))) ≡ Err at)
unfolding book_of check_book
unsound_refused front rule back s w u = go (ltb 64 (length (front ++ (rule ∷ back))))
  where
    go : (b : Bool) → (at : ℕ) × (pick b (Err 64) (judge 0 (length (front ++ (rule ∷ back))) (together (front ++ (rule ∷ back)))) ≡ Err at)
    go true = (64, refl)
    go false = (0 + length front, judge_unsound 0 front rule back s w u)

-- ---- the rules of a good book are sound
rules_sound : (number : ℕ) (rules : List (List ℕ)) → AllWhole rules → judge number (length rules) (together rules) ≡ Ok tt → AllSound rules
unfolding together
rules_sound number [] w g = tt
rules_sound number (rule ∷ rules) w g = go (sound rule) refl (sym (judged_so rule w.0 (together rules) number (length rules)) ∙ g) (λ k. rules_sound (suc number) rules w.1 k)
  where
    go : (b : Bool) → sound rule ≡ b → judged b (judge (suc number) (length rules) (together rules)) number ≡ Ok tt
        → (judge (suc number) (length rules) (together rules) ≡ Ok tt → AllSound rules) → Whole rule × (sound rule ≡ true) × AllSound rules
    go true e k again = (w.0, e, again k)
    go false e k again = never (cc)

pub book_sound : (rules : List (List ℕ)) → AllWhole rules → check_book (book_of rules) ≡ Ok tt → AllSound rules
unfolding book_of check_book
book_sound rules w g = go (ltb 64 (length rules)) g
  where
    go : (b : Bool) → pick b (Err 64) (judge 0 (length rules) (together rules)) ≡ Ok tt → AllSound rules
    go true k = never (cc)
    go false k = rules_sound 0 rules w k
