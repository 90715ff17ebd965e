-- Single trees, and heads with one word.
use mathlib.Core.Path.{◌≡◌, refl, sym, ap, ◌∙◌}
use native.Mathlib.Omega.{arith}
use mathlib.Core.Option.{some}
use Rattle.term.specs.Word.{Head, word, head_of, InTable}
use Rattle.term.specs.Row.{Row, nothing, node, width, ◌⧺◌}
use Rattle.term.proofs.Laws.{width_nothing, width_node, join_nothing_left, join_node, head_word_lem}

-- a row of width 0 is nothing, and one of width 1 is one tree
empty : (f : Row) → width f ≡ 0 → f ≡ nothing
empty nothing e = refl
empty (node h kids rest) e = absurd (omega (arith, width_node h kids rest, e))

pub record Single (f : Row) : Type 0 where
  pub head : Head
  pub children : Row
  pub is : f ≡ node head children nothing

pub single : (f : Row) → width f ≡ 1 → Single f
single nothing e = absurd (omega (arith, width_nothing, e))
single (node h kids rest) e =
    let r : width rest ≡ 0 = omega (arith, width_node h kids rest, e) in
    record { head = h; children = kids; is = ap (node h kids) (empty rest r) }

-- a tree before a row
pub tree_before : (h : Head) (kids rest : Row) → node h kids nothing ⧺ rest ≡ node h kids rest
tree_before h kids rest = join_node h kids nothing rest ∙ ap (node h kids) (join_nothing_left rest)

-- heads of the table with one word are one head
pub same_word : (h g : Head) → InTable h → InTable g → word h ≡ word g → h ≡ g
same_word h g s t e = let q : head_of (word h) ≡ head_of (word g) = ap head_of e in let r = head_word_lem h s in let u = head_word_lem g t in let z : some h ≡ some g = sym r ∙ q ∙ u in cc
