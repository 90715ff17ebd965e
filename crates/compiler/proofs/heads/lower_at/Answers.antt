-- A spot without a head leaves the lowest as it was.
use Rattle.std.proofs.Common.{sym, ◌∙◌}
use Rattle.compiler.proofs.TableLaws.{lowest_head, lowest_other}
use Rattle.compiler.proofs.heads.lower_at.Goals as goal

pub returns-then-is_head : goal.returns-then-is_head
returns-then-is_head c = c.lower.ensures ∙ lowest_head c.args.fixed.now c.args.nums.now c.args.marks.now c.args.k c.args.best (sym c.is_head.ensures ∙ c.if-is_head.true)

pub returns-else-is_head : goal.returns-else-is_head
returns-else-is_head c = lowest_other c.args.fixed.now c.args.nums.now c.args.marks.now c.args.k c.args.best (sym c.is_head.ensures ∙ c.if-is_head.false)
