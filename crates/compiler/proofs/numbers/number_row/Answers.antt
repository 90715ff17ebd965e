-- A row that is not struck has its children numbered where its word at the place is a head.
use Rattle.std.proofs.Common.{refl, sym, ◌∙◌}
use Rattle.compiler.proofs.NumberLaws.{row_struck, row_unheaded, row_numbered_lem}
use Rattle.compiler.proofs.TableLaws.{head_found, head_lacks, head_nowhere, some_gives}
use Rattle.compiler.proofs.numbers.number_row.Goals as goal

pub returns-then-marks-r-ne-FREE : goal.returns-then-marks-r-ne-FREE
returns-then-marks-r-ne-FREE c = row_struck c.args.fixed.now c.args.marks.now c.args.n c.args.first c.args.r c.args.nums.now c.if-marks-r-ne-FREE.true

pub returns-in_default : goal.returns-in_default
returns-in_default c = row_unheaded c.args.fixed.now c.args.marks.now c.args.n c.args.first c.args.r c.args.nums.now 33554432 (head_nowhere c.args.fixed.now c.args.nums.now c.args.r c.args.n (sym c.in_default.is ∙ c.spot_at.ensures)) refl

pub returns-then-is_head : goal.returns-then-is_head
returns-then-is_head c =
    let h = some_gives 33554432 _ _ (head_found c.args.fixed.now c.args.nums.now c.args.r c.args.n c.in-Some.k (sym c.in-Some.is ∙ c.spot_at.ensures) (sym c.is_head.ensures ∙ c.if-is_head.true)) in
    row_numbered_lem c.args.fixed.now c.args.marks.now c.args.n c.args.first c.args.r c.args.nums.now _ c.in-Some.k _ c.if-marks-r-ne-FREE.false h.0 h.1 (some_gives 4096 _ c.in-Some.k (sym c.in-Some.is ∙ c.spot_at.ensures)).0 c.number_children.ensures

pub returns-else-is_head : goal.returns-else-is_head
returns-else-is_head c = row_unheaded c.args.fixed.now c.args.marks.now c.args.n c.args.first c.args.r c.args.nums.now 33554432 (head_lacks c.args.fixed.now c.args.nums.now c.args.r c.args.n c.in-Some.k (sym c.in-Some.is ∙ c.spot_at.ensures) (sym c.is_head.ensures ∙ c.if-is_head.false)) refl
