-- The three tables are loaded one after the other, and what they have stands at the start of a path.
use Rattle.std.proofs.Common.{rules}
use Rattle.compiler.proofs.StartStands.{loaded}
use Rattle.compiler.proofs.load.load.Goals as goal

pub returns : goal.returns
returns c = let p = c.requires in loaded c.args.book.now _ c.args.nums.now _ c.args.marks.now _ p.0 c.load_rules.ensures (search rules) c.number_roots.ensures p.1 c.mark_absent.ensures
