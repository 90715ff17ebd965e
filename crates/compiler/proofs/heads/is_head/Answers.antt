-- A head is a symbol or an abstraction.
use Rattle.std.proofs.Common.{◌∙◌}
use Rattle.compiler.proofs.TableLaws.{head_symbol, head_abstraction}
use Rattle.std.proofs.Common.{eq-eqb}
use Rattle.compiler.proofs.heads.is_head.Goals as goal

pub returns-then-kind-eq-SYMBOL : goal.returns-then-kind-eq-SYMBOL
returns-then-kind-eq-SYMBOL c = eq-eqb _ 0 c.if-kind-eq-SYMBOL.true ∙ head_symbol _ _ c.kind_of-kind.ensures c.if-kind-eq-SYMBOL.true

pub returns-else-kind-eq-SYMBOL : goal.returns-else-kind-eq-SYMBOL
returns-else-kind-eq-SYMBOL c = head_abstraction _ _ c.kind_of-kind.ensures c.if-kind-eq-SYMBOL.false
