-- `book::sound_rule` meets its contract: the sides lie where they were found, and what is asked of them is what is asked of the rule.
use native.Mathlib.Omega.{arith}
use mathlib.Core.Path.{sym, ◌∙◌}
use Rattle.book.proofs.Places.{Placed, rule_placed, unsound, sound_so}
use Rattle.book.proofs.book.sound_rule.Goals.{In-Some}
use Rattle.book.proofs.book.sound_rule.Goals as goal

-- where the sides lie
lies : (c : In-Some) → Placed c.args.words.now 0 c.in-Some.sides
lies c = rule_placed c.args.words.now 0 c.in-Some.sides (sym c.in-Some.is ∙ c.sides_from.ensures)

pub returns-in_default : goal.returns-in_default
returns-in_default c = unsound _ (sym c.in_default.is ∙ c.sides_from.ensures)

pub left-requires : goal.left-requires
left-requires c = let p = lies (goal.at.left-requires c).In-Some in (p.left_first, omega (arith, p.right_next, p.within))

pub right-requires : goal.right-requires
right-requires c = let p = lies (goal.at.right-requires c).In-Some in (p.right_next, p.within)

pub returns : goal.returns
returns c = sound_so _ _ _ (lies (goal.at.returns c).In-Some) (rw (c.left.ensures, c.right.ensures) at c.good_rule.ensures)
