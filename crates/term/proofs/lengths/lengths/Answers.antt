-- `lengths::lengths` meets its contract: the slice is cleared, and a table is written only where the words are a term and it has room.
use native.Mathlib.Omega.{arith}
use mathlib.Core.Path.{sym, ◌∙◌}
use lib.ListN.{length}
use Rattle.term.proofs.TableAnswers.{good_few, lengths_bad, lengths_short, lengths_done}
use Rattle.term.proofs.lengths.lengths.Goals as goal

pub returns-in-Err : goal.returns-in-Err
returns-in-Err c =
    let s = c.args in
    lengths_bad s.term.now (length s.out.now) _ c.clear.ensures _ (sym c.check_term.ensures ∙ c.in-Err.is)

pub returns-then-out-term : goal.returns-then-out-term
returns-then-out-term c =
    let s = c.args in
    lengths_short s.term.now (length s.out.now) _ c.clear.ensures (sym c.check_term.ensures ∙ c.in_default.is)
    (omega (arith, c.if-out-term.true, c.clear.auto.out))

pub measure-requires : goal.measure-requires
measure-requires c = (
  good_few c.args.term.now (sym c.check_term.ensures ∙ c.in_default.is),
  omega (arith, c.if-out-term.false),
)

pub returns : goal.returns
returns c =
    let s = c.args in
    lengths_done s.term.now (length s.out.now) _ c.clear.ensures (sym c.check_term.ensures ∙ c.in_default.is) _
    (omega (arith, c.if-out-term.false, c.clear.auto.out)) c.measure.ensures
