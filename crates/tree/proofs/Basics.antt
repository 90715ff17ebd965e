-- Tests, and heads with one word.
use mathlib.Core.Path.{◌≡◌, refl, sym, ap, ◌∙◌}
use mathlib.Core.Bool.{Bool, true, false, ◌&&◌, ◌||◌}
use mathlib.Core.List.{[], ◌∷◌}
use mathlib.Core.Option.{some}
use Prim.Native.Nat.{ℕ, zero, suc}
use lib.Dec.{eqb}
use borrow.Author.Tests.{eqb-true}
use Rattle.term.specs.Word.{Head, word, head_of, InTable}
use Rattle.term.specs.Row.{Row, nothing, node, Formed}
use Rattle.term.proofs.Laws.{never, head_word_lem, formed_node, formed_nothing, node_formed}
use Rattle.fit.specs.Constraint.{Place, tree, children_of, under, tree_at, is_head}
use Rattle.fit.proofs.Laws.{under_root, under_child, at_root_lem, at_child, tree_nothing, tree_first, tree_later, children_nothing, children_node, head_nothing, head_node}

pub and_false : (a : Bool) → a && false ≡ false
and_false true = refl
and_false false = refl

pub and_true : (a : Bool) → a && true ≡ a
and_true true = refl
and_true false = refl

pub and_assoc : (a b c : Bool) → (a && b) && c ≡ a && (b && c)
and_assoc true b c = refl
and_assoc false b c = refl

pub and_swap : (a b c : Bool) → a && (b && c) ≡ b && (a && c)
and_swap true b c = refl
and_swap false true c = refl
and_swap false false c = refl

pub or_true : (a : Bool) → a || true ≡ true
or_true true = refl
or_true false = refl

-- two tests that follow from each other are one
pub both_ways : (a b : Bool) → (a ≡ true → b ≡ true) → (b ≡ true → a ≡ true) → a ≡ b
both_ways true b f g = sym (f refl)
both_ways false true f g = g refl
both_ways false false f g = refl

-- heads of the table with one word are one head
pub same_head : (h g : Head) → InTable h → InTable g → word h ≡ word g → h ≡ g
same_head h g s t e =
    let q : head_of (word h) ≡ head_of (word g) = ap head_of e in
    let r = head_word_lem h s in
    let u = head_word_lem g t in
    let z : some h ≡ some g = sym r ∙ q ∙ u in
    cc

-- ---- the trees of a formed row are formed
formed_tree : (f : Row) (i : ℕ) → Formed f → Formed (tree f i)
formed_tree nothing i w = rw (tree_nothing i) w
formed_tree (node h kids rest) zero w =
    let n = formed_node h kids rest w in
    rw (tree_first h kids rest) (node_formed h kids nothing (record { table = n.table; full = n.full; below = n.below; beside = formed_nothing }))
formed_tree (node h kids rest) (suc i) w = rw (tree_later h kids rest i) (formed_tree rest i (formed_node h kids rest w).beside)

formed_children : (f : Row) → Formed f → Formed (children_of f)
formed_children nothing w = rw children_nothing w
formed_children (node h kids rest) w = rw (children_node h kids rest) (formed_node h kids rest w).below

pub formed_under : (t : Row) → Formed t → (p : Place) → Formed (under t p)
formed_under t w [] = rw (under_root t) w
formed_under t w (i ∷ p) = rw (under_child t i p) (formed_children (tree (under t p) i) (formed_tree (under t p) i (formed_under t w p)))

pub formed_at : (t : Row) → Formed t → (p : Place) → Formed (tree_at t p)
formed_at t w [] = rw (at_root_lem t) formed_nothing
formed_at t w (i ∷ p) = rw (at_child t i p) (formed_tree (under t p) i (formed_under t w p))

-- ---- the head at a place
pub record HeadIs (h : Head) (f : Row) : Type 0 where
  pub head : Head
  pub children : Row
  pub rest : Row
  pub is : f ≡ node head children rest
  pub same : word h ≡ word head

pub head_is_lem : (h : Head) (f : Row) → is_head h f ≡ true → HeadIs h f
head_is_lem h nothing e = never (let z = head_nothing h in cc)
head_is_lem h (node g kids rest) e =
    record { head = g; children = kids; rest = rest; is = refl; same = eqb-true (word h) (word g) (sym (head_node h g kids rest) ∙ e) }

-- the word of the term's node is that of the head
pub head_here_lem : (h : Head) (t : Row) (p : Place) → Formed t → InTable h → (x : HeadIs h (tree_at t p)) → h ≡ x.head
head_here_lem h t p w i x =
    let f : Formed (node x.head x.children x.rest) = rw x.is at (formed_at t w p) in
    same_head h x.head i (formed_node x.head x.children x.rest f).table x.same

-- another head that has this word stands there too, and one that has not does not
pub other_head : (g h : Head) (f : Row) → is_head h f ≡ true → is_head g f ≡ eqb (word g) (word h)
other_head g h f e =
    let x = head_is_lem h f e in
    rw (x.is, head_node g x.head x.children x.rest, x.same)
