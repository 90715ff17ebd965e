-- The words from an offset on are what is left of the right side, so the offset after a tree is not past its end.
use Rattle.std.proofs.Common.{ℕ, ◌+◌, drop, arith, ap, ◌∙◌, length-drop}
use Rattle.term.specs.Part.{part_end}
use Rattle.term.proofs.Laws.{suffix, part_short}
use Rattle.steps.proofs.right.next_tree.Goals as goal

pub overflow_add-result : goal.overflow_add-result
overflow_add-result c =
    let s = c.args in
    omega (arith, c.part_end.ensures ∙ ap part_end (suffix s.at s.right.now), part_short (drop s.at s.right.now), length-drop s.at s.right.now)

pub returns : goal.returns
returns c = let s = c.args in ap (λ (n : ℕ). s.at + n) (c.part_end.ensures ∙ ap part_end (suffix s.at s.right.now))
