-- Where a rule lies in a book.
use Rattle.std.specs.Prelude.{ℕ, zero, suc, ◌+◌, List, [], ◌∷◌, length, ltb, Option as StdOption, Some, None}
use Rattle.std.proofs.Math.Option.{Option, none, some}
use Rattle.term.specs.Word.{pick}
use Rattle.book.specs.declared.book.Sides.{Sides}
use Rattle.book.specs.Book.{Rule, rule_of, after_next}

-- the places of a rule that begins at an offset: three words stand before its sides
abbrev pub sides_of : ℕ → Rule → Sides
sides_of at rule =
    record { vars = rule.vars; left = at + 3; right = at + 3 + length rule.left; end = at + 3 + length rule.left + length rule.right }

abbrev pub placed : ℕ → Option (Rule × List ℕ) → StdOption Sides
placed at none = None
placed at (some p) = Some (sides_of at p.0)

-- the offset after the rule that the words from `at` on begin with
abbrev pub end_next : ℕ → Option (Rule × List ℕ) → ℕ
end_next at none = at
end_next at (some p) = (sides_of at p.0).end

-- the rule after so many others, in the words from `at` on
unfoldable pub seek : ℕ → ℕ → List ℕ → StdOption Sides
seek at zero ws = placed at (rule_of ws)
seek at (suc number) ws = seek (end_next at (rule_of ws)) number (after_next (rule_of ws))

-- the places of the rule of this number; none where the book has none
unfoldable pub sides_at : List ℕ → ℕ → StdOption Sides
sides_at [] number = None
sides_at (n ∷ ws) number = pick (ltb number n) (seek 1 number ws) None
