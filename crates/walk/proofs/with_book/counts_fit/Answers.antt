-- A variable whose count is another makes the Leaf unfit, and after one whose count fits the variables left give the answer.
use Rattle.std.proofs.Common.{arith, sym, ◌∙◌, ◌-◌}
use borrow.Author.Tests.{not-true, not-false}
use Rattle.walk.proofs.BookLeaf.{counts_end, counts_cut, counts_past, counts_other, counts_next, same_count, other_count}
use Rattle.walk.proofs.with_book.counts_fit.Goals as goal

pub returns-then-tree-at-lt-VARIABLE_WORDS : goal.returns-then-tree-at-lt-VARIABLE_WORDS
returns-then-tree-at-lt-VARIABLE_WORDS c =
    let l = c.loop-x in counts_cut c.args.left.now c.args.tree.now l.at l.x c.args.n c.loop-x-test.true l.invariant.0 c.if-tree-at-lt-VARIABLE_WORDS.true ∙ sym l.invariant.1

pub returns-then-tree-list : goal.returns-then-tree-list
returns-then-tree-list c =
    let l = c.loop-x in counts_past c.args.left.now c.args.tree.now l.at l.x c.args.n c.loop-x-test.true (omega arith) c.if-tree-list.true ∙ sym l.invariant.1

pub returns-then-ne : goal.returns-then-ne
returns-then-ne c =
    let l = c.loop-x in
    counts_other c.args.left.now c.args.tree.now l.at l.x c.args.n c.loop-x-test.true (omega arith) (omega arith) _ c.counted_in.ensures
    (other_count _ _ _ c.checked_sub.ensures (not-true _ (sym c.ne.ensures ∙ c.if-ne.true)))
    ∙ sym l.invariant.1

pub loop-x-preserved : goal.loop-x-preserved
loop-x-preserved c =
    let l = c.loop-x in (
      omega arith,
      l.invariant.1
          ∙ counts_next c.args.left.now c.args.tree.now l.at l.x c.args.n c.loop-x-test.true (omega arith) (omega arith) _ c.counted_in.ensures
          (same_count _ _ _ c.checked_sub.ensures (not-false _ (sym c.ne.ensures ∙ c.if-ne.false))),
    )

pub returns : goal.returns
returns c = counts_end c.args.left.now c.loop-x.x (c.args.n - c.loop-x.x) _ (omega arith) ∙ sym c.loop-x.invariant.1
