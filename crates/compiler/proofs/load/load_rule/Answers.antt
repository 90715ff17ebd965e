-- A rule that is found lies in the book, and loading its left side loads it.
use Rattle.std.proofs.Common.{sym, ◌∙◌, arith}
use Rattle.compiler.proofs.LoadLaws.{rule_absent, rule_lies, rule_loaded}
use Rattle.compiler.proofs.load.load_rule.Goals as goal

pub returns-in_default : goal.returns-in_default
returns-in_default c = rule_absent c.args.book.now c.args.r c.args.fixed.now (sym c.find_rule.ensures ∙ c.in_default.is)

pub offset_bounds-book-left : goal.offset_bounds-book-left
offset_bounds-book-left c = let l = rule_lies c.args.book.now c.args.r _ (sym c.find_rule.ensures ∙ c.in-Some.is) in omega (arith, l.0, l.1)

pub slice_bounds-load_row-count : goal.slice_bounds-load_row-count
slice_bounds-load_row-count c = (rule_lies c.args.book.now c.args.r _ (sym c.find_rule.ensures ∙ c.in-Some.is)).0

pub slice_bounds-load_row-start : goal.slice_bounds-load_row-start
slice_bounds-load_row-start c = (rule_lies c.args.book.now c.args.r _ (sym c.find_rule.ensures ∙ c.in-Some.is)).0

pub slice_bounds-load_row-end : goal.slice_bounds-load_row-end
slice_bounds-load_row-end c = (rule_lies c.args.book.now c.args.r _ (sym c.find_rule.ensures ∙ c.in-Some.is)).1

pub returns : goal.returns
returns c = rule_loaded c.args.book.now c.args.r _ (sym c.find_rule.ensures ∙ c.in-Some.is) c.args.fixed.now _ c.load_row.ensures
