-- What is told of the tree at the start of the path, and whether it has room.
use lib.ListN.{length}
use Rattle.term.proofs.Laws.{cleared}
use Rattle.book.proofs.Laws.{accepted_good}
use Rattle.compiler.proofs.CompileLaws.{zeros_clear, compile_done, compile_over, compile_stuck}
use Rattle.compiler.proofs.compile.compile_good.Goals as goal
use Rattle.compiler.proofs.compile.compile_good.Goals.{in_default-via-in-Some+else-end-limit, in_default-via-in_default}

pub load-requires : goal.load-requires
load-requires c = (accepted_good _ c.requires.0, zeros_clear 12352 _ c.requires.1)

pub returns-in-Some : goal.returns-in-Some
returns-in-Some c = let s = c.args in let l = c.load.ensures in
    compile_done s.book.now _ _ _ l.0 l.1 (length s.out.now) _ c.limit_of-limit.ensures s.out.now _ c.requires.2 _ (rw c.in-Some.is at (c.root_tree.ensures s.book.now)) c.if-end-limit.true

pub returns-in_default : goal.returns-in_default
returns-in_default c = let s = c.args in let l = c.load.ensures in
    elim c.in_default.branch [
      | in_default-via-in-Some+else-end-limit w ↦
          compile_over s.book.now _ _ _ l.0 l.1 (length s.out.now) _ c.limit_of-limit.ensures s.out.now _ c.requires.2 _ (rw w.in-Some.is at (c.root_tree.ensures s.book.now)) w.if-end-limit.false _ (cleared _ _ _ c.root_tree.auto.out c.clear.ensures)
      | in_default-via-in_default w ↦
          compile_stuck s.book.now _ _ _ l.0 l.1 (length s.out.now) _ c.limit_of-limit.ensures s.out.now _ c.requires.2 (rw w.in_default.is at (c.root_tree.ensures s.book.now)) _ (cleared _ _ _ c.root_tree.auto.out c.clear.ensures)
    ]
