-- Where all its tests are passed, the root has no case for the word.
use Rattle.std.proofs.Common.{arith}
use Rattle.walk.proofs.BookEnds.{skips_told}
use Rattle.walk.proofs.with_book.skips.Goals as goal

pub returns-then-tree-default-eq-FAIL : goal.returns-then-tree-default-eq-FAIL
returns-then-tree-default-eq-FAIL c =
    skips_told c.args.tree.now c.args.word (omega arith) c.if-tree-ne-SWITCH.false c.if-tree-ne0.false (omega arith) c.if-default-eq0.false c.if-tree-default.false
    c.if-tree-default-eq-FAIL.true _ c.find_case.ensures _ c.is_none.ensures
