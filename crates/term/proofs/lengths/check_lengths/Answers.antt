-- `lengths::check_lengths` meets its contract: the table is held against the right one, which a term has.
use native.Mathlib.Omega.{arith}
use mathlib.Core.Path.{sym, ◌∙◌}
use Prim.Native.Nat.{◌≤◌}
use lib.ListN.{length}
use lib.Seq.{length-take-le}
use Rattle.term.proofs.TableAnswers.{good_few, check_lengths_bad, check_lengths_good}
use Rattle.term.proofs.lengths.check_lengths.Goals.{In_default}
use Rattle.term.proofs.lengths.check_lengths.Goals as goal

-- a term's words are at most as many as the array has
few : (c : In_default) → length c.args.term.now ≤ 4096
few c = good_few _ (sym c.check_term.ensures ∙ c.in_default.is)

pub returns-in-Err : goal.returns-in-Err
returns-in-Err c = check_lengths_bad _ _ _ (sym c.check_term.ensures ∙ c.in-Err.is)

pub measure-requires : goal.measure-requires
measure-requires c = (few (goal.at.measure-requires c).In_default, few (goal.at.measure-requires c).In_default)

pub slice_bounds-right-end : goal.slice_bounds-right-end
slice_bounds-right-end c = omega (arith, few (goal.at.slice_bounds-right-end c).In_default)

pub slice_bounds-agree-end : goal.slice_bounds-agree-end
slice_bounds-agree-end c = sym (length-take-le _ _ (omega (arith, few (goal.at.slice_bounds-agree-end c).In_default)))

pub returns : goal.returns
returns c =
    check_lengths_good _ _ _ _ (sym c.check_term.ensures ∙ c.in_default.is) c.measure.ensures c.agree.ensures
