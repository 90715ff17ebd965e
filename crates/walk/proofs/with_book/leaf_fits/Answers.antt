-- `with_book::leaf_fits` meets its contract: the rule, its variables, what is set aside, and then their counts.
use borrow.Author.Tests.{eqb-true}
use native.Mathlib.Omega.{arith}
use mathlib.Core.Path.{refl, sym, ◌∙◌}
use Rattle.walk.proofs.BookLeaf.{fits_absent, fits_sides, fits_other, fits_aside, fits_counts}
use Rattle.walk.proofs.with_book.leaf_fits.Goals as goal
use Rattle.walk.proofs.with_book.leaf_fits.Goals.{then-sides-n, else-sides-n}

pub returns-in_default : goal.returns-in_default
returns-in_default c =
    let s = c.args in
    fits_absent s.book.now s.arguments s.tree.now s.at (sym c.find_rule.ensures ∙ c.in_default.is)

pub offset_bounds-book-sides : goal.offset_bounds-book-sides
offset_bounds-book-sides c =
    let s = c.args in
    let l = fits_sides s.book.now s.arguments s.tree.now s.at _ (sym c.find_rule.ensures ∙ c.in-Some.is) in omega (arith, l.0, l.1)

pub slice_bounds-left-count : goal.slice_bounds-left-count
slice_bounds-left-count c =
    let s = c.args in
    (fits_sides s.book.now s.arguments s.tree.now s.at _ (sym c.find_rule.ensures ∙ c.in-Some.is)).0

pub slice_bounds-left-start : goal.slice_bounds-left-start
slice_bounds-left-start c =
    let s = c.args in
    (fits_sides s.book.now s.arguments s.tree.now s.at _ (sym c.find_rule.ensures ∙ c.in-Some.is)).0

pub slice_bounds-left-end : goal.slice_bounds-left-end
slice_bounds-left-end c =
    let s = c.args in
    (fits_sides s.book.now s.arguments s.tree.now s.at _ (sym c.find_rule.ensures ∙ c.in-Some.is)).1

pub returns-then-aside_fits : goal.returns-then-aside_fits
returns-then-aside_fits c =
    let s = c.args in
    let found = sym c.find_rule.ensures ∙ c.in-Some.is in
    elim c.if-sides-n.branch [
      | then-sides-n w ↦
          fits_counts s.book.now s.arguments s.tree.now s.at _ found w.if-sides-n.true _ refl _ w.aside_fits.ensures (sym w.value-is ∙ c.if-aside_fits.true) _ c.counts_fit.ensures
      | else-sides-n w ↦ absurd (w.if-sides-n.false (eqb-true _ _ (sym w.value-is ∙ c.if-aside_fits.true)))
    ]

pub returns-else-aside_fits : goal.returns-else-aside_fits
returns-else-aside_fits c =
    let s = c.args in
    let found = sym c.find_rule.ensures ∙ c.in-Some.is in
    c.if-aside_fits.false
    ∙ (elim c.if-sides-n.branch [
      | then-sides-n w ↦ fits_aside s.book.now s.arguments s.tree.now s.at _ found w.if-sides-n.true _ refl _ w.aside_fits.ensures (sym w.value-is ∙ c.if-aside_fits.false)
      | else-sides-n w ↦ fits_other s.book.now s.arguments s.tree.now s.at _ found w.if-sides-n.false
    ])
