-- What one tree tells and what is told of the trees left tell of the row: each way through the loop has its lemma.
use Rattle.std.proofs.Common.{◌≡◌, ◌+◌, ◌-◌, sym, ◌∙◌, refl, arith}
use Rattle.term.specs.Told.Walk.{image}
use Rattle.term.proofs.Images.{inside_small}
use Rattle.term.proofs.Words.{word_there, words_past}
use Rattle.term.proofs.Walks.{row_done, row_deep, row_ended, row_no_image, row_stuck, row_more}
use Rattle.term.proofs.image.+renumber_row.Goals as goal

pub loop-init : goal.loop-init
loop-init t c =
    let all : c.args.count - 0 ≡ c.args.count = omega arith in
    record { same_length = refl; rest = λ last r told. rw all at told }

pub returns-then-levels-eq0 : goal.returns-then-levels-eq0
returns-then-levels-eq0 t c =
    c.loop.invariant.rest _ _ (row_deep _ _ _ _ _ _ _ (omega (arith, c.loop-test.true)) _ c.if-levels-eq0.true)

pub returns-in_err-w : goal.returns-in_err-w
returns-in_err-w t c =
    rw c.from_residual.ensures (c.loop.invariant.rest _ _ (row_ended _ _ _ _ _ _ _ (omega (arith, c.loop-test.true)) _ (words_past _ _ c.in_err-w.ensures.lookup.0)))

pub returns-in_err-v : goal.returns-in_err-v
returns-in_err-v t c =
    let s = c.args in
    let q = c.loop in
    let g = word_there s.words.now q.a c.in_ok-w.field-0.now c.in_ok-w.ensures.lookup.0 c.in_ok-w.ensures.lookup.1 in
    rw c.from_residual-in_err-v.ensures (q.invariant.rest _ _
    (row_no_image (image s.way s.d s.list.now) s.e s.levels (s.count - q.counter) s.words.now q.a q.out (omega (arith, c.loop-test.true)) q.out
    (rw g.1 at (sym c.renumber_word.ensures ∙ c.in_err-v.was))))

pub renumber_row-requires : goal.renumber_row-requires
renumber_row-requires t c = (
  omega arith,
  (c.requires.0, omega (arith, inside_small c.in_ok-w.field-0.now c.args.e)),
)

pub returns-in_err-a : goal.returns-in_err-a
returns-in_err-a t c =
    let s = c.args in
    let q = c.loop in
    let g = word_there s.words.now q.a c.in_ok-w.field-0.now c.in_ok-w.ensures.lookup.0 c.in_ok-w.ensures.lookup.1 in
    rw c.from_residual-in_err-a.ensures (q.invariant.rest _ _
    (row_stuck (image s.way s.d s.list.now) s.e s.levels (s.count - q.counter) s.words.now q.a q.out (omega (arith, c.loop-test.true))
    c.in_ok-v.v (rw g.1 at (sym c.renumber_word.ensures ∙ c.in_ok-v.was)) (omega arith) g.0 _
    (rw (c.count_of-below.ensures, c.inside_word-inner.ensures, c.put.ensures, c.in_err-a.was, g.1) at c.renumber_row.ensures)))

pub loop-preserved : goal.loop-preserved
loop-preserved t c =
    let s = c.args in
    let q = c.loop in
    let g = word_there s.words.now q.a c.in_ok-w.field-0.now c.in_ok-w.ensures.lookup.0 c.in_ok-w.ensures.lookup.1 in
    let fewer : s.count - (q.counter + 1) ≡ s.count - q.counter - 1 = omega arith in
    record {
      same_length = omega arith;
      rest = λ last r told. q.invariant.rest last r
          (row_more (image s.way s.d s.list.now) s.e s.levels (s.count - q.counter) s.words.now q.a q.out (omega (arith, c.loop-test.true))
          c.in_ok-v.v (rw g.1 at (sym c.renumber_word.ensures ∙ c.in_ok-v.was)) (omega arith) g.0 _ c.in_ok-a.a
          (rw (c.count_of-below.ensures, c.inside_word-inner.ensures, c.put.ensures, c.in_ok-a.was, g.1) at c.renumber_row.ensures) last r (rw fewer at told));
    }

pub returns : goal.returns
returns t c = c.loop.invariant.rest _ _ (row_done _ _ _ _ _ _ _ (omega (arith, c.loop-test.false)))
