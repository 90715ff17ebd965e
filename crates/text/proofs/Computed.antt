-- The definitions of text, computed: what some texts say, in form and not.
use mathlib.Core.Path.{◌≡◌, refl}
use mathlib.Core.List.{[], ◌∷◌}
use Rattle.term.specs.Word.{word, kind, count, ident, head_of, head_with}
use Rattle.text.specs.Bytes.{bytes}
use Rattle.text.specs.Number.{decimal, decimal_in, is_digit, digits, number}
use Rattle.text.specs.Token.{dotted, token_text, word_text, dotted_read, token}
use Rattle.text.specs.Line.{rest_text, line_text, line}
use Rattle.text.specs.TermText.{says, bad_line, term_said}
use Rattle.text.specs.BookText.{keyed, number_line, side_line, rule_read, rules_read, book_read, book_said}

pub two_tokens : term_said (bytes "l v12\n") ≡ says (16842752 ∷ 33554444 ∷ [])
unfolding term_said line token dotted_read number digits is_digit word kind count ident
two_tokens = refl

-- an id with a leading zero
pub leading_zero : term_said (bytes "s07.0\n") ≡ bad_line 1
unfolding term_said line token dotted_read number digits is_digit word kind count ident
leading_zero = refl

-- no end of the line
pub no_end : term_said (bytes "l") ≡ bad_line 1
unfolding term_said line token dotted_read number digits is_digit word kind count ident
no_end = refl

-- outside the table
pub no_variable_0 : term_said (bytes "v0\n") ≡ bad_line 1
unfolding term_said line token dotted_read number digits is_digit word kind count ident
no_variable_0 = refl

-- two blanks
pub two_blanks : term_said (bytes "l  l\n") ≡ bad_line 1
unfolding term_said line token dotted_read number digits is_digit word kind count ident
two_blanks = refl

-- a second line
pub second_line : term_said (bytes "l\nl\n") ≡ bad_line 2
unfolding term_said line token dotted_read number digits is_digit word kind count ident
second_line = refl

pub no_rules : book_said (bytes "book=1\nrules=0\n") ≡ says (0 ∷ [])
unfolding book_said book_read keyed number_line side_line rule_read rules_read number digits is_digit
no_rules = refl

-- too many rules
pub rules_65 : book_said (bytes "book=1\nrules=65\n") ≡ bad_line 2
unfolding book_said book_read keyed number_line side_line rule_read rules_read number digits is_digit
rules_65 = refl

-- the line `rule=0` was due
pub missing_rule : book_said (bytes "book=1\nrules=1\n") ≡ bad_line 3
unfolding book_said book_read keyed number_line side_line rule_read rules_read number digits is_digit
missing_rule = refl

-- a word and its token
pub longest_symbol : line_text (984063 ∷ []) ≡ bytes "s1023.15\n"
unfolding line_text rest_text word_text token_text dotted decimal decimal_in head_of head_with
longest_symbol = refl
