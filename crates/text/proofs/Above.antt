-- What crates above cite of the lines of a book: a line's text before what follows it, how long it can be, and how far down a bad line of the rules can stand. Each is its definition's own line, or one induction on the rules.
use mathlib.Core.Path.{◌≡◌, refl}
use mathlib.Core.Bool.{Bool, true, false}
use mathlib.Core.List.{List, [], ◌∷◌, ◌++◌, append_assoc}
use mathlib.Core.Option.{Option, none, some}
use Prim.Native.Nat.{ℕ, zero, suc, ◌+◌, ◌*◌, ◌≤◌, ◌<◌}
use native.Mathlib.Omega.{arith}
use lib.Dec.{eqb}
use lib.ListN.{length, get_or, length-append}
use Rattle.term.specs.Word.{pick}
use Rattle.text.specs.Number.{Read}
use Rattle.text.specs.BookText.{book_line, rules_key, number_text, keyed, vars_key, left_key, right_key, rule_key, number_line, side_line, Rules, rules_are, bad_at, right_then, left_then, vars_then, rule_then, rule_read, behind, then_rules, rules_read, count_then, book_then, book_read}
use Rattle.text.proofs.BookLines.{number_line_is}
use Rattle.text.proofs.KindTexts.{decimal_short}

-- ---- a key and a number
pub number_text_before : (key : List ℕ) (n : ℕ) (rest : List ℕ) → number_text key n [] ++ rest ≡ number_text key n rest
unfolding number_text
number_text_before key n rest = simp append_assoc

pub number_text_short : (key : List ℕ) (n : ℕ) → n < 100000 → length (number_text key n []) ≤ length key + 6
unfolding number_text
number_text_short key n h = simp length-append (omega (arith, decimal_short n h))

-- ---- the line of the rules that is not in form
abbrev BadBy : ℕ → Rules → Type 0
BadBy last (rules_are ws rest) = Unit {0}
BadBy last (bad_at line) = line ≤ last

module _ (last number : ℕ) (h : 4 * number + 6 ≤ last) where
  right_by : (v : ℕ) (left : List ℕ) (o : Read (List ℕ)) → BadBy last (right_then number v left o)
  right_by v left none = omega arith
  right_by v left (some p) = tt

  left_by_lem : (v : ℕ) (o : Read (List ℕ)) → BadBy last (left_then number v o)
  left_by_lem v none = omega arith
  left_by_lem v (some p) = right_by v p.0 (side_line right_key p.1)

  vars_by : (o : Read ℕ) → BadBy last (vars_then number o)
  vars_by none = omega arith
  vars_by (some p) = left_by_lem p.0 (side_line left_key p.1)

  rule_by : (o : Read ℕ) → BadBy last (rule_then number o)
  rule_by none = omega arith
  rule_by (some p) = go (eqb p.0 number)
    where
      go : (b : Bool) → BadBy last (pick b (vars_then number (number_line vars_key 16 p.1)) (bad_at (4 * number + 3)))
      go true = vars_by (number_line vars_key 16 p.1)
      go false = omega arith

behind_by : (last : ℕ) (ws : List ℕ) (o : Rules) → BadBy last o → BadBy last (behind ws o)
behind_by last ws (rules_are vs rest) b = tt
behind_by last ws (bad_at line) b = b

then_by : (last : ℕ) (others : List ℕ → Rules) (o : Rules) → ((rest : List ℕ) → BadBy last (others rest)) → BadBy last o → BadBy last (then_rules others o)
then_by last others (rules_are ws rest) m b = behind_by last ws (others rest) (m rest)
then_by last others (bad_at line) m b = b

rules_by : (last more number : ℕ) (bs : List ℕ) → 4 * (number + more) + 2 ≤ last → BadBy last (rules_read number more bs)
unfolding rules_read rule_read
rules_by last zero number bs h = tt
rules_by last (suc more) number bs h =
    then_by last (rules_read (suc number) more) (rule_read number bs) (λ rest. rules_by last more (suc number) rest (omega arith))
    (rule_by last number (omega arith) (number_line rule_key 63 bs))

-- ---- the lines of a book: its number of rules is its first word, and two lines and four for each rule stand there
abbrev BookBy : Rules → Type 0
BookBy (rules_are ws rest) = (1 ≤ length ws) × (get_or ws 0 0 ≤ 64)
BookBy (bad_at line) = line ≤ 258

counted_by : (n : ℕ) → n ≤ 64 → (o : Rules) → BadBy (4 * n + 2) o → BookBy (behind (n ∷ []) o)
counted_by n h (rules_are ws rest) b = (omega arith, h)
counted_by n h (bad_at line) b = omega (arith, b)

count_by_lem : (bs : List ℕ) (o : Read ℕ) → number_line rules_key 64 bs ≡ o → BookBy (count_then o)
count_by_lem bs none e = omega arith
count_by_lem bs (some p) e =
    counted_by p.0 (number_line_is rules_key 64 bs p.0 p.1 e).1 (rules_read 0 p.0 p.1) (rules_by (4 * p.0 + 2) p.0 0 p.1 (omega arith))

line_by : (o : Option (List ℕ)) → BookBy (book_then o)
line_by none = omega arith
line_by (some bs) = count_by_lem bs (number_line rules_key 64 bs) refl

book_by : (bs : List ℕ) → BookBy (book_read bs)
unfolding book_read
book_by bs = line_by (keyed book_line bs)

pub book_counted : (bs ws rest : List ℕ) → book_read bs ≡ rules_are ws rest → (1 ≤ length ws) × (get_or ws 0 0 ≤ 64)
book_counted bs ws rest e = rw e at (book_by bs)

pub book_bad : (bs : List ℕ) (line : ℕ) → book_read bs ≡ bad_at line → line ≤ 258
book_bad bs line e = rw e at (book_by bs)
