-- `first::first_block` meets its contract: what reading a file in form left, and what compiling its book made of it, is what is told of the file.
use native.Mathlib.Omega.{arith}
use Rattle.simplify.specs.Told.Told.{FileRead}
use Rattle.simplify.proofs.FirstBlocks.{read_first}
use Rattle.simplify.proofs.first.first_block.Goals as goal

pub returns-in-Ok : goal.returns-in-Ok
returns-in-Ok c =
    let f : FileRead c.args.text.now c.read_input.new.book c.in-Ok.n c.in-Ok.at = c.in-Ok.ensures in
    read_first _ _ _ _ _ c.in-Ok.n c.in-Ok.at _ (omega (arith, f.few)) f c.head_block.ensures
