-- The case here is the one that is taken, or the answer is that of the cases after it.
use Rattle.std.proofs.Common.{ap, ◌∙◌}
use Rattle.std.specs.Prelude.{Some, None}
use Rattle.std.specs.Slice.Iter.{chunks_exact_rest, chunks_exact_size}
use Rattle.walk.proofs.Addresses.{pairs_all, pairs_none, pair_here, pair_later}
use Rattle.walk.proofs.taken.find_case.Goals as goal

pub loop-case-init : goal.loop-case-init
loop-case-init c =
    let s = c.args in
    let e = c.into_iter-case-iterator.ensures.into_iter_gives in
    record {
      pairs = ap chunks_exact_size e ∙ c.chunks_exact-case-items.ensures.size;
      told = pairs_all s.word s.tree.now s.from s.cases c.requires _ (ap chunks_exact_rest e ∙ c.chunks_exact-case-items.ensures.rest);
    }

pub returns-then-case-word : goal.returns-then-case-word
returns-then-case-word c =
    let i = c.loop-case.invariant in
    let n = c.in-Some.ensures.steps in i.told (Some _) (pair_here _ _ _ _ n.1.0 (n.1.1 ∙ i.pairs) c.if-case-word.true)

pub loop-case-preserved : goal.loop-case-preserved
loop-case-preserved c =
    let i = c.loop-case.invariant in
    let n = c.in-Some.ensures.steps in
    record {
      pairs = n.0 ∙ i.pairs;
      told = λ r t. i.told r (pair_later _ _ _ _ n.1.0 (n.1.1 ∙ i.pairs) c.if-case-word.false r t);
    }

pub returns : goal.returns
returns c =
    let i = c.loop-case.invariant in
    let n = c.in-None.ensures.steps in
    i.told None (pairs_none _ _ (rw i.pairs at n.1.0))
