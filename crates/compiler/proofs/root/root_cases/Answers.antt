-- What is told of the cases left tells of all.
use Rattle.compiler.proofs.RootLoops.{so_far_skip, root_case_needs, so_far_over, so_far_next, so_far_end}
use mathlib.Core.Path.{refl, sym, ◌∙◌}
use Rattle.compiler.proofs.TableLaws.{some_gives, none_gives}
use Rattle.compiler.proofs.root.root_cases.Goals as goal

pub loop-k-preserved-in_default : goal.loop-k-preserved-in_default
loop-k-preserved-in_default c = let s = c.args in let q = c.loop-k in
    so_far_skip s.fixed.now s.nums.now s.marks.now s.limit s.slot s.at s.out.now c.requires q.nums q.marks q.out q.to q.a q.k q.invariant c.loop-k-test.true 33554432 (none_gives _ _ (sym c.in_default.is ∙ c.root_word.ensures)) refl

pub root_case-requires : goal.root_case-requires
root_case-requires c = let s = c.args in let q = c.loop-k in
    root_case_needs s.fixed.now s.nums.now s.marks.now s.limit s.slot s.at s.out.now c.requires q.nums q.marks q.out q.to q.a q.k q.invariant c.loop-k-test.true _ (some_gives 33554432 _ _ (sym c.in-Some.is ∙ c.root_word.ensures)).0 (some_gives 33554432 _ _ (sym c.in-Some.is ∙ c.root_word.ensures)).1

pub returns-in_err-a : goal.returns-in_err-a
returns-in_err-a c = let s = c.args in let q = c.loop-k in
    rw c.from_residual.ensures (so_far_over s.fixed.now s.nums.now s.marks.now s.limit s.slot s.at s.out.now c.requires q.nums q.marks q.out q.to q.a q.k q.invariant c.loop-k-test.true _ (some_gives 33554432 _ _ (sym c.in-Some.is ∙ c.root_word.ensures)).0 (some_gives 33554432 _ _ (sym c.in-Some.is ∙ c.root_word.ensures)).1 _ _ _ _ _ c.root_case.ensures c.in_err-a.was, tt)

pub loop-k-preserved : goal.loop-k-preserved
loop-k-preserved c = let s = c.args in let q = c.loop-k in
    so_far_next s.fixed.now s.nums.now s.marks.now s.limit s.slot s.at s.out.now c.requires q.nums q.marks q.out q.to q.a q.k q.invariant c.loop-k-test.true _ (some_gives 33554432 _ _ (sym c.in-Some.is ∙ c.root_word.ensures)).0 (some_gives 33554432 _ _ (sym c.in-Some.is ∙ c.root_word.ensures)).1 _ _ _ _ _ c.root_case.ensures _ c.in_ok-a.was _ c.put.ensures c.put-in-loop-k.ensures
    (c.root_case.auto.out ∙ c.put-in-loop-k.auto.out ∙ c.put.auto.out)

pub returns : goal.returns
returns c = let s = c.args in let q = c.loop-k in
    so_far_end s.fixed.now s.nums.now s.marks.now s.limit s.slot s.at s.out.now c.requires q.nums q.marks q.out q.to q.a q.k q.invariant c.loop-k-test.false _ c.put-2.ensures
