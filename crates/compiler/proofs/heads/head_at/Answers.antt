-- The word at the rule's spot is the head where it is a symbol or an abstraction.
use Rattle.std.proofs.Common.{sym, ◌∙◌}
use Rattle.compiler.proofs.TableLaws.{head_found, head_lacks, head_nowhere, none_is}
use Rattle.compiler.proofs.heads.head_at.Goals as goal

pub returns-in_err-k : goal.returns-in_err-k
returns-in_err-k c = c.from_residual.ensures ∙ none_is _ _ (head_nowhere c.args.fixed.now c.args.nums.now c.args.r c.args.n (sym c.in_err-k.was ∙ c.spot_at.ensures))

pub returns-then-is_head : goal.returns-then-is_head
returns-then-is_head c = head_found c.args.fixed.now c.args.nums.now c.args.r c.args.n c.in_ok-k.k (sym c.in_ok-k.was ∙ c.spot_at.ensures) (sym c.is_head.ensures ∙ c.if-is_head.true)

pub returns-else-is_head : goal.returns-else-is_head
returns-else-is_head c = none_is _ _ (head_lacks c.args.fixed.now c.args.nums.now c.args.r c.args.n c.in_ok-k.k (sym c.in_ok-k.was ∙ c.spot_at.ensures) (sym c.is_head.ensures ∙ c.if-is_head.false))
