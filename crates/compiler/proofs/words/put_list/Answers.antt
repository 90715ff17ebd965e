-- Writing the ids left gives the answer.
use Rattle.std.proofs.Common.{◌≡◌, ◌+◌, ◌-◌, ◌<◌, ℕ, length, ap, arith}
use Rattle.compiler.specs.Told.Tables.{size_at}
use Rattle.compiler.proofs.WordLaws.{ids_next, ids_end, words_long, words_listed}
use Rattle.compiler.proofs.words.put_list.Goals as goal
use Rattle.compiler.proofs.words.put_list.Goals.{After-list_at-list}

long : (c : After-list_at-list) → length c.list_at-list.result.now ≡ size_at c.args.fixed.now c.args.k
long c = rw c.list_at-list.ensures (words_long c.args.fixed.now c.args.k (omega arith))

pub loop-j-init : goal.loop-j-init
loop-j-init c = let z : c.args.at + 0 ≡ c.args.at = omega arith in let y : size_at c.args.fixed.now c.args.k - 0 ≡ size_at c.args.fixed.now c.args.k = omega arith in rw (z, y)

pub loop-j-preserved : goal.loop-j-preserved
loop-j-preserved c =
    let q = c.loop-j in let s = c.args in
    let few : q.j < size_at s.fixed.now s.k = omega (arith, c.loop-j-test.true, long (goal.at.loop-j-preserved c).After-list_at-list) in
    ids_next s.fixed.now s.k s.at q.j _ q.out _ few q.invariant _ (rw (c.id_of.ensures, c.list_at-list.ensures, words_listed s.fixed.now s.k q.j few) at c.put.ensures)

pub returns : goal.returns
returns c =
    let e = long (goal.at.returns c).After-list_at-list in (ids_end _ _ _ _ _ _ _ c.loop-j.invariant (omega (arith, e, c.loop-j-test.false)), ap (λ (n : ℕ). c.args.at + n) e)
