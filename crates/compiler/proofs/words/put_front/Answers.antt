-- The words are set one after the other.
use Rattle.compiler.proofs.KindLaws.{closed_front, same_front}
use Rattle.compiler.proofs.words.put_front.Goals as goal

pub returns-in-Closed : goal.returns-in-Closed
returns-in-Closed c =
    let s = c.args in
    rw c.in-Closed.is (closed_front s.fixed.now s.nums.now s.out.now s.at s.own.spot _ _ _ s.own.within c.put.ensures c.put_occurrence.ensures.0 c.put_occurrence.ensures.1)

pub returns-in-Same : goal.returns-in-Same
returns-in-Same c =
    let s = c.args in
    rw c.in-Same.is
    (same_front s.fixed.now s.nums.now s.out.now s.at s.own.spot _ _ _ _ _ _ _ _ _ _ _ c.first_spot-f.ensures c.number_at.ensures c.number_at-in-Same.ensures c.put-in-Same.ensures c.put-in-Same-2.ensures c.put-in-Same-3.ensures
    (rw c.count_of.ensures at c.put-in-Same-4.ensures) c.put_list-a.ensures.0 c.put_list-a.ensures.1 c.put_list.ensures.0 c.put_list.ensures.1)
