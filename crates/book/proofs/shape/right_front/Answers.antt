-- The arms of the code are the tests of the definition, in its order.
use Rattle.std.proofs.Common.{sym, ◌∙◌, eq-eqb, ne_eqb, le-leb, arith}
use Rattle.std.proofs.lemmas.Bool.{lt-leb}
use Rattle.term.specs.Word.{kind_of}
use Rattle.book.specs.Told.Shape.{front_of}
use Rattle.book.proofs.shape.right_front.Goals as goal

pub returns-in-2 : goal.returns-in-2
unfolding front_of
returns-in-2 c = rw (eq-eqb _ _ (sym c.kind_of.ensures ∙ c.in-2.is), ← c.id_of.ensures, lt-leb _ _ c.if-d-id_of.true)

pub returns-in-2-2 : goal.returns-in-2-2
unfolding front_of
returns-in-2-2 c = rw (eq-eqb _ _ (sym c.kind_of.ensures ∙ c.in-2.is), ← c.id_of.ensures, le-leb _ _ c.if-d-id_of.false)

pub returns-in_default : goal.returns-in_default
unfolding front_of
returns-in_default c = rw (ne_eqb (kind_of c.args.w) 2 (λ e. omega (arith, e, c.kind_of.ensures)))
