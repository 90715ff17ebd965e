-- The book has a rule just where one is found.
use Rattle.std.proofs.Common.{sym, ◌∙◌}
use Rattle.compiler.proofs.LoadLaws.{mark_rule, mark_none}
use Rattle.compiler.proofs.load.row_mark.Goals as goal

pub returns-in-Some : goal.returns-in-Some
returns-in-Some c = mark_rule c.args.book.now c.args.r _ (sym c.find_rule.ensures ∙ c.in-Some.is)

pub returns-in-None : goal.returns-in-None
returns-in-None c = mark_none c.args.book.now c.args.r (sym c.find_rule.ensures ∙ c.in-None.is)
