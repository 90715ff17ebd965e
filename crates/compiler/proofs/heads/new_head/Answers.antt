-- Its tests are the definition's.
use Rattle.std.proofs.Common.{sym, ◌∙◌}
use Rattle.compiler.specs.Told.Tables.{head_word}
use Rattle.compiler.proofs.TableLaws.{new_struck, new_first_lem, new_seen, new_headless, some_is, none_is, some_gives, none_gives}
use Rattle.compiler.proofs.heads.new_head.Goals as goal

pub returns-then-marks-r-ne-FREE : goal.returns-then-marks-r-ne-FREE
returns-then-marks-r-ne-FREE c = none_is _ _ (new_struck c.args.fixed.now c.args.nums.now c.args.marks.now c.args.n c.args.r c.if-marks-r-ne-FREE.true)

pub returns-in_err-w : goal.returns-in_err-w
returns-in_err-w c = c.from_residual.ensures ∙ none_is _ _ (new_headless c.args.fixed.now c.args.nums.now c.args.marks.now c.args.n c.args.r (none_gives 33554432 _ (sym c.in_err-w.was ∙ c.head_at.ensures)))

pub returns-then-is_new : goal.returns-then-is_new
returns-then-is_new c =
    let p = (some_gives 33554432 (head_word c.args.fixed.now c.args.nums.now c.args.r c.args.n) c.in_ok-w.w (sym c.in_ok-w.was ∙ c.head_at.ensures)) in
    some_is _ _ _ (new_first_lem c.args.fixed.now c.args.nums.now c.args.marks.now c.args.n c.args.r c.in_ok-w.w c.if-marks-r-ne-FREE.false p.0 (sym c.is_new.ensures ∙ c.if-is_new.true)) p.1

pub returns-else-is_new : goal.returns-else-is_new
returns-else-is_new c = none_is _ _ (new_seen c.args.fixed.now c.args.nums.now c.args.marks.now c.args.n c.args.r c.in_ok-w.w c.if-marks-r-ne-FREE.false (some_gives 33554432 (head_word c.args.fixed.now c.args.nums.now c.args.r c.args.n) c.in_ok-w.w (sym c.in_ok-w.was ∙ c.head_at.ensures)).0 (sym c.is_new.ensures ∙ c.if-is_new.false))
