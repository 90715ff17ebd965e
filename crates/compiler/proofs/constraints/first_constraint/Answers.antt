-- Closedness comes before equality.
use Rattle.std.proofs.Common.{rules}
use Rattle.compiler.proofs.KindLaws.{first_of_kinds}
use Rattle.compiler.proofs.constraints.first_constraint.Goals as goal

pub returns : goal.returns
returns c = first_of_kinds c.args.fixed.now c.args.marks.now c.args.r c.or_else.result c.first_from.result c.first_from.ensures (search rules)
