-- Document 02, "E1": a book text that came by mail. Its lines are those of a book, but `rules=` and `rule=` may hold any number to 65,535, and the
-- rules are those present until the text ends, numbered by their positions.
use Rattle.std.specs.Prelude.{ℕ, zero, suc, ◌+◌, ◌*◌, List, [], ◌∷◌, leb, length}
use Rattle.std.proofs.Math.Option.{Option, none, some}
use Rattle.term.specs.Word.{pick}
use Rattle.text.specs.Number.{Read}
use Rattle.text.specs.BookText.{book_line, rules_key, rule_key, vars_key, keyed, number_line, Rules, rules_are, bad_at, vars_then}

-- the four lines of the rule at this position, whatever number it states
abbrev pub any_then : ℕ → Read ℕ → Rules
any_then position none = bad_at (4 * position + 3)
any_then position (some p) = vars_then position (number_line vars_key 16 p.1)

unfoldable pub any_rule_read : ℕ → List ℕ → Rules
any_rule_read position bs = any_then position (number_line rule_key 65535 bs)

-- the words of each rule present, or the first line that is not in form
pub data Present : Type 0 where
  rules_present : List (List ℕ) → Present
  bad_present : ℕ → Present

abbrev pub and_present : List ℕ → Present → Present
and_present ws (rules_present rules) = rules_present (ws ∷ rules)
and_present ws (bad_present at) = bad_present at

abbrev pub present_then : (List ℕ → Present) → Rules → Present
present_then others (rules_are ws rest) = and_present ws (others rest)
present_then others (bad_at at) = bad_present at

abbrev pub present_from : (List ℕ → Present) → ℕ → List ℕ → Present
present_from others position [] = rules_present []
present_from others position (b ∷ bs) = present_then others (any_rule_read position (b ∷ bs))

-- the rules until the text ends, from this position on; there are no more rules than bytes
unfoldable pub present_in : ℕ → ℕ → List ℕ → Present
present_in zero position bs = rules_present []
present_in (suc most) position bs = present_from (present_in most (suc position)) position bs

unfoldable pub present_read : ℕ → List ℕ → Present
present_read position bs = present_in (length bs) position bs

-- the number that `rules=` states and the words of each rule present, or the first line that is not in form
pub data Mail : Type 0 where
  mail_is : ℕ → List (List ℕ) → Mail
  bad_mail : ℕ → Mail

abbrev pub stating : ℕ → Present → Mail
stating stated (rules_present rules) = mail_is stated rules
stating stated (bad_present at) = bad_mail at

abbrev pub stated_then : Read ℕ → Mail
stated_then none = bad_mail 2
stated_then (some p) = stating p.0 (present_read 0 p.1)

abbrev pub mail_then : Option (List ℕ) → Mail
mail_then none = bad_mail 1
mail_then (some bs) = stated_then (number_line rules_key 65535 bs)

-- "0 if over 65,536 bytes"
unfoldable pub mail_said : List ℕ → Mail
mail_said bs = pick (leb (length bs) 65536) (mail_then (keyed book_line bs)) (bad_mail 0)
