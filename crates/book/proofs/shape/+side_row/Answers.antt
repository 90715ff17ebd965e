-- What one tree tells and what is told of the trees left tell of the row: each way through the loop has its lemma.
use Rattle.std.proofs.Common.{◌≡◌, ◌-◌, ◌+◌, sym, ap, ◌∙◌, arith, get_or, drop, Some}
use Rattle.term.proofs.Laws.{suffix, inside_small, word_there, words_past}
use Rattle.book.proofs.SideLaws.{side_none, side_deep, side_ended, side_stuck, side_more, tree_past, tree_bad, tree_inside, past_small}
use Rattle.book.proofs.shape.+side_row.Goals as goal
use Rattle.book.proofs.shape.+side_row.Goals.{in-Past, in-Inside+in_ok-a-in-Inside}

pub loop-init : goal.loop-init
loop-init t c = let all : c.args.count - 0 ≡ c.args.count = omega arith in λ r told. rw all at told

pub returns-then-levels-eq0 : goal.returns-then-levels-eq0
returns-then-levels-eq0 t c = c.loop.invariant _ (side_deep _ _ _ _ _ _ (omega (arith, c.loop-test.true)) c.if-levels-eq0.true)

pub returns-in_err-w : goal.returns-in_err-w
returns-in_err-w t c =
    rw c.from_residual.ensures (c.loop.invariant _ (side_ended _ _ _ _ _ _ (omega (arith, c.loop-test.true)) (words_past _ _ c.in_err-w.ensures.lookup.0)))

pub returns-in_err-n : goal.returns-in_err-n
returns-in_err-n t c =
    let s = c.args in
    let q = c.loop in
    let g = word_there s.words.now q.a c.in_ok-w.field-0.now c.in_ok-w.ensures.lookup.0 c.in_ok-w.ensures.lookup.1 in
    rw c.from_residual-in_err-n.ensures (q.invariant _ (side_stuck s.side s.d s.levels (s.count - q.counter) s.words.now q.a (omega (arith, c.loop-test.true))
    (tree_bad s.side s.d s.levels s.words.now q.a g.0 (sym (rw (suffix (q.a + 1) s.words.now, g.1) at c.front_of.ensures) ∙ c.in_err-n.was))))

pub overflow_add-a : goal.overflow_add-a
overflow_add-a t c =
    let s = c.args in
    let q = c.loop in
    let g = word_there s.words.now q.a c.in_ok-w.field-0.now c.in_ok-w.ensures.lookup.0 c.in_ok-w.ensures.lookup.1 in
    omega (
      arith,
      past_small s.side s.d (get_or s.words.now q.a 0) (drop (q.a + 1) s.words.now) c.in-Past.n
          (sym (rw (suffix (q.a + 1) s.words.now, g.1) at c.front_of.ensures) ∙ c.in_ok-n.was ∙ ap Some c.in-Past.is),
    )

pub side_row-requires : goal.side_row-requires
side_row-requires t c = (
  omega arith,
  omega (arith, inside_small c.in_ok-w.field-0.now c.args.d),
)

pub returns-in_err-a-in-Inside : goal.returns-in_err-a-in-Inside
returns-in_err-a-in-Inside t c =
    let s = c.args in
    let q = c.loop in
    let g = word_there s.words.now q.a c.in_ok-w.field-0.now c.in_ok-w.ensures.lookup.0 c.in_ok-w.ensures.lookup.1 in
    rw c.from_residual-in_err-a-in-Inside.ensures (q.invariant _
    (side_stuck s.side s.d s.levels (s.count - q.counter) s.words.now q.a (omega (arith, c.loop-test.true))
    (tree_inside s.side s.d s.levels s.words.now q.a g.0
    (sym (rw (suffix (q.a + 1) s.words.now, g.1) at c.front_of.ensures) ∙ c.in_ok-n.was ∙ ap Some c.in-Inside.is) _
    (rw (c.count_of.ensures, c.inside_word-inner.ensures, c.in_err-a-in-Inside.was, g.1) at c.side_row.ensures))))

pub loop-preserved : goal.loop-preserved
loop-preserved t c =
    let s = c.args in
    let q = c.loop in
    let g = word_there s.words.now q.a c.in_ok-w.field-0.now c.in_ok-w.ensures.lookup.0 c.in_ok-w.ensures.lookup.1 in
    let fewer : s.count - (q.counter + 1) ≡ s.count - q.counter - 1 = omega arith in
    let f = sym (rw (suffix (q.a + 1) s.words.now, g.1) at c.front_of.ensures) ∙ c.in_ok-n.was in
    λ r told.
    q.invariant r (side_more s.side s.d s.levels (s.count - q.counter) s.words.now q.a (omega (arith, c.loop-test.true)) _
    (elim c.match-branch-3.branch [
      | in-Past w ↦ rw w.a-is (tree_past s.side s.d s.levels s.words.now q.a g.0 w.in-Past.n (f ∙ ap Some w.in-Past.is))
      | in-Inside+in_ok-a-in-Inside w ↦ tree_inside s.side s.d s.levels s.words.now q.a g.0 (f ∙ ap Some w.in-Inside.is) _
          (rw (w.count_of.ensures, w.inside_word-inner.ensures, w.in_ok-a-in-Inside.was, ← w.a-is, g.1) at w.side_row.ensures)
    ]) r (rw fewer at told))

pub returns : goal.returns
returns t c = c.loop.invariant _ (side_none _ _ _ _ _ _ (omega (arith, c.loop-test.false)))
