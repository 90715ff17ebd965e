-- The arms of the code are the tests of the definition, in its order.
use Rattle.std.proofs.Common.{◌≡◌, sym, ◌∙◌, eq-eqb, ne_eqb, arith}
use Rattle.term.specs.Word.{kind_of}
use Rattle.book.specs.Told.Shape.{front_of}
use Rattle.book.proofs.shape.left_front.Goals as goal

pub returns-in-2 : goal.returns-in-2
unfolding front_of
returns-in-2 c = rw (eq-eqb _ _ (sym c.kind_of.ensures ∙ c.in-2.is))

pub returns-then-list_for : goal.returns-then-list_for
unfolding front_of
returns-then-list_for c =
    let k : kind_of c.args.w ≡ 3 = sym c.kind_of.ensures ∙ c.in-3.is in
    rw (k, ← c.count_of-k.ensures, ← c.list_for.ensures, c.if-list_for.true)

pub returns-else-list_for : goal.returns-else-list_for
unfolding front_of
returns-else-list_for c =
    let k : kind_of c.args.w ≡ 3 = sym c.kind_of.ensures ∙ c.in-3.is in
    rw (k, ← c.count_of-k.ensures, ← c.list_for.ensures, c.if-list_for.false)

pub returns-in_default : goal.returns-in_default
unfolding front_of
returns-in_default c =
    rw (ne_eqb (kind_of c.args.w) 2 (λ e. omega (arith, e, c.kind_of.ensures)), ne_eqb (kind_of c.args.w) 3 (λ e. omega (arith, e, c.kind_of.ensures)))
