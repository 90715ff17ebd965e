-- `blocks::write_head` meets its contract: its three lines are written one after the other.
use borrow.Author.Rules.{rules}
use native.Mathlib.Omega.{arith}
use Rattle.text.specs.BookText.{rules_key}
use Rattle.text.proofs.Laws.{number_text_short}
use Rattle.simplify.proofs.BlockTexts.{head_wrote}
use Rattle.simplify.proofs.blocks.write_head.Goals as goal

pub write_number_line-requires : goal.write_number_line-requires
write_number_line-requires c =
    let s = c.args in
    let l = number_text_short rules_key s.rules (omega (arith, c.requires)) in
    (omega (arith, c.put_key-rules_at.ensures.0, c.write_number_line-tree_at.ensures.0, l), search rules, omega (arith, c.requires))

pub returns : goal.returns
returns c =
    let s = c.args in
    head_wrote s.rules s.tree s.out.now c.put_key-rules_at.new.out c.write_number_line-tree_at.new.out _ c.put_key-rules_at.result c.write_number_line-tree_at.result _ c.requires.0 c.requires.1 c.put_key-rules_at.ensures c.write_number_line-tree_at.ensures c.write_number_line.ensures
