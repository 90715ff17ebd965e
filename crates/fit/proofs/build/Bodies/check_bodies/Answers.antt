-- `build::check_bodies` meets its contract: each body is judged in its turn, and lies within the words where the lengths sum to them.
use Rattle.std.proofs.Common.{sym, ◌∙◌, arith, rules}
use Rattle.fit.proofs.Lengths.{Judged, judged_good, judged_bad, body_good, body_bad, bodies_end}
use Rattle.fit.proofs.build.Bodies.check_bodies.Goals as goal

pub returns-then-not-is_some_and : goal.returns-then-not-is_some_and
returns-then-not-is_some_and c sums =
    let s = c.args in
    let j : Judged c.body.result c.is_some_and.result = search rules in
    let b = judged_bad s.self.now.words.now s.self.now.lengths.now c.loop-x.x c.body.result c.is_some_and.result c.body.ensures j (search rules) (omega arith) sums in
    sym (c.loop-x.invariant ∙ body_bad s.self.now.words.now s.self.now.lengths.now s.vars c.loop-x.x c.loop-x-test.true b.0 b.1)

pub loop-x-preserved : goal.loop-x-preserved
loop-x-preserved c =
    let s = c.args in
    let j : Judged c.body.result c.is_some_and.result = search rules in
    c.loop-x.invariant ∙ body_good s.self.now.words.now s.self.now.lengths.now s.vars c.loop-x.x c.loop-x-test.true
    (judged_good s.self.now.words.now s.self.now.lengths.now c.loop-x.x c.body.result c.is_some_and.result c.body.ensures j (search rules))

pub returns : goal.returns
returns c sums = let s = c.args in sym (c.loop-x.invariant ∙ bodies_end s.self.now.words.now s.self.now.lengths.now s.vars c.loop-x.x c.loop-x-test.false)
