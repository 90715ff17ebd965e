-- The right side of a rule of an accepted book is as writing needs it: the book asks for its shape, its counts and its variables.
use mathlib.Core.Path.{◌≡◌, sym, ◌∙◌}
use mathlib.Core.Bool.{true, ◌&&◌}
use mathlib.Core.List.{List}
use mathlib.Core.Option.{some}
use Prim.Native.Nat.{ℕ, suc, ◌-◌}
use native.Mathlib.Omega.{arith}
use lib.Dec.{leb}
use borrow.Author.Tests.{eqb-true, leb-true, ltb-true}
use Rattle.std.specs.Prelude.{Ok}
use Rattle.term.specs.Word.{Head, symbol, abstraction, variable, pattern, count}
use Rattle.term.specs.Row.{Row, nothing, node, width, Formed}
use Rattle.term.specs.Renumber.{inside}
use Rattle.term.proofs.Laws.{and_left, and_right, formed_node, inside_symbol, inside_abstraction, inside_pattern, count_variable}
use Rattle.book.specs.Rule.{counted, right_shape, side_limits}
use Rattle.book.specs.Told.Occurs.{below_head, below_vars, counts_head, counts_as}
use Rattle.book.specs.Book.{Rule, check_book, rule_at}
use Rattle.book.proofs.Laws.{right_nothing, right_symbol, right_abstraction, right_variable, right_pattern, below_node, counts_node, book_rule}
use Rattle.fit.specs.Match.{tree_of}
use Rattle.fit.proofs.Laws.{tree_of_lem}
use Rattle.steps.specs.Told.Told.{RightHead, RightRow}
use Rattle.steps.proofs.Replaced.{none_wide}

-- how many parameters a variable of a rule has
abbrev pub parameters_of : List ℕ → ℕ → ℕ
parameters_of left x = counted x left - 1

-- what a shape says of the trees of a row
record Shape (vars : ℕ) (left : List ℕ) (d : ℕ) (h : Head) (kids rest : Row) : Type 0 where
  here : RightHead vars (parameters_of left) d h
  below : right_shape (inside h d) kids ≡ true
  beside : right_shape d rest ≡ true

module _ (vars : ℕ) (left : List ℕ) where
  shape : (d : ℕ) (h : Head) (kids rest : Row) → right_shape d (node h kids rest) ≡ true → width kids ≡ count h → below_head vars h ≡ true → counts_head left h ≡ true → Shape vars left d h kids rest
  shape d (symbol i c) kids rest s w b n =
      let e = sym (right_symbol d i c kids rest) ∙ s in
      record { here = tt; below = rw (inside_symbol i c d) (and_left (right_shape d kids) (right_shape d rest) e); beside = and_right (right_shape d kids) (right_shape d rest) e }
  shape d abstraction kids rest s w b n =
      let e = sym (right_abstraction d kids rest) ∙ s in
      record { here = tt; below = rw (inside_abstraction d) (and_left (right_shape (suc d) kids) (right_shape d rest) e); beside = and_right (right_shape (suc d) kids) (right_shape d rest) e }
  shape d (variable i) kids rest s w b n =
      let e = sym (right_variable d i kids rest) ∙ s in
      record {
        here = leb-true i d (and_left (leb i d) (right_shape d rest) e);
        below = rw (none_wide kids (w ∙ count_variable i)) (right_nothing (inside (variable i) d));
        beside = and_right (leb i d) (right_shape d rest) e;
      }
  shape d (pattern x c) kids rest s w b n =
      let e = sym (right_pattern d x c kids rest) ∙ s in
      record {
        here = (ltb-true x vars b, omega (arith, eqb-true (counted x left) (suc c) n));
        below = rw (inside_pattern x c d) (and_left (right_shape d kids) (right_shape d rest) e);
        beside = and_right (right_shape d kids) (right_shape d rest) e;
      }

  pub right_row : (d : ℕ) (r : Row) → Formed r → right_shape d r ≡ true → below_vars vars r ≡ true → counts_as left r ≡ true → RightRow vars (parameters_of left) d r
  unfolding RightRow
  right_row d nothing f s b n = tt
  right_row d (node h kids rest) f s b n =
      let w = formed_node h kids rest f in
      let bs = sym (below_node vars h kids rest) ∙ b in
      let ns = sym (counts_node left h kids rest) ∙ n in
      let br = and_right (below_head vars h) (below_vars vars kids && below_vars vars rest) bs in
      let nr = and_right (counts_head left h) (counts_as left kids && counts_as left rest) ns in
      let p = shape d h kids rest s w.full (and_left (below_head vars h) (below_vars vars kids && below_vars vars rest) bs) (and_left (counts_head left h) (counts_as left kids && counts_as left rest) ns) in (
        w.table,
        w.full,
        p.here,
        right_row (inside h d) kids w.below p.below (and_left (below_vars vars kids) (below_vars vars rest) br) (and_left (counts_as left kids) (counts_as left rest) nr),
        right_row d rest w.beside p.beside (and_right (below_vars vars kids) (below_vars vars rest) br) (and_right (counts_as left kids) (counts_as left rest) nr),
      )

-- the right side of a rule of an accepted book
pub accepted_right : (book : List ℕ) → check_book book ≡ Ok tt → (number : ℕ) (rule : Rule) → rule_at book number ≡ some rule
    → RightRow rule.vars (parameters_of rule.left) 0 (tree_of rule.right) × (width (tree_of rule.right) ≡ 1)
accepted_right book accepted number rule found =
    let f = book_rule book number rule accepted found in
    let i = f.right_tree in
    rw (tree_of_lem side_limits rule.right f.right_tree)
    (right_row rule.vars rule.left 0 i.tree i.formed f.right_shape f.right_below f.right_counts, i.one)
