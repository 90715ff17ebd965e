-- The search goes over the spots of the row.
use Rattle.std.proofs.Common.{◌∙◌, ◌+◌, ◌*◌, arith, refl, rules}
use Rattle.std.proofs.lemmas.Iterator.{YieldsList-from_range}
use Rattle.std.proofs.lemmas.Iterator.Search.{any_from_yields_List}
use Rattle.compiler.specs.Told.Tables.{marks_of, mark_at, left_same}
use Rattle.compiler.proofs.KindLaws.{row_has_spots}
use Rattle.compiler.proofs.constraints.row_has.Goals as goal

pub returns : goal.returns
returns c =
    let s = c.args in
    any_from_yields_List (λ k. left_same s.fixed.now s.nums.now s.marks.now (mark_at s.own) (marks_of s.own.kind + k)) _ _ _ c.any.ensures.ran
    (YieldsList-from_range (s.r * 64) _ 64 refl (omega arith)) (λ x b q k. search rules)
    ∙ row_has_spots s.fixed.now s.nums.now s.marks.now s.own s.r
