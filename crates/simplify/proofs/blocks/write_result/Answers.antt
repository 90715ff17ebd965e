-- `blocks::write_result` meets its contract: the part that the words begin with is written as a line.
use Rattle.std.proofs.Common.{arith}
use Rattle.term.proofs.Laws.{part_short}
use Rattle.simplify.proofs.blocks.write_result.Goals as goal

pub shared_ref_as_front-write_line : goal.shared_ref_as_front-write_line
shared_ref_as_front-write_line c = omega (arith, c.part_end-end.ensures, part_short c.args.words.now)
