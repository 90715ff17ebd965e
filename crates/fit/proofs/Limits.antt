-- The limits of what is built: its ids are within 65,535 just where it is formed, since the left side and the bodies are.
use mathlib.Core.Path.{◌≡◌, sym, ◌∙◌}
use mathlib.Core.Bool.{true, ◌&&◌}
use Prim.Native.Nat.{ℕ, ◌≤◌, ◌<◌, max}
use native.Mathlib.Omega.{arith}
use lib.Dec.{leb}
use lib.ListN.{length}
use borrow.Author.Tests.{leb-true, le-leb}
use Rattle.term.specs.Word.{Head, symbol, abstraction, variable, pattern, ident_of, word, InTable}
use Rattle.term.specs.Row.{Row, nothing, node, width, words, nesting, Formed, ◌⧺◌}
use Rattle.term.specs.Renumber.{GoodList, inside, to_term}
use Rattle.term.proofs.Laws.{and_left, and_right, and_both, ident_word, ident_variable, formed_nothing, formed_node, node_formed, formed_join, join_nothing_left, join_node, Every, every_nothing, every_node, small_formed, count_symbol, count_abstraction, abstraction_in_table, inside_symbol, inside_abstraction}
use Rattle.book.specs.Rule.{ids_of}
use Rattle.fit.specs.Left.{ids_or, left_of}
use Rattle.fit.specs.Fit.{build}
use Rattle.fit.specs.Told.Told.{LeftRow}
use Rattle.fit.specs.Build.{id_in, largest, within_limits}
use Rattle.fit.proofs.BuildRow.{wide_built}

-- ---- ids of formed rows
head_small : (h : Head) → InTable h → id_in h ≤ 65535
head_small (symbol i c) t = omega arith
head_small abstraction t = omega arith
head_small (variable i) t = let e : ident_of (word (variable i)) ≡ i = ident_word (variable i) t ∙ ident_variable i in omega (arith, e)
head_small (pattern i c) t = omega arith

formed_small : (t : Row) → Formed t → largest t ≤ 65535
unfolding largest
formed_small nothing f = omega arith
formed_small (node h kids rest) f =
    let n = formed_node h kids rest f in
    omega (arith, head_small h n.table, formed_small kids n.below, formed_small rest n.beside)

every_small : (t : Row) (e : ℕ) → largest t ≤ 65535 → Every (λ e i. i ≤ 65535) e t
unfolding largest
every_small nothing e l = every_nothing (λ e i. i ≤ 65535) e
every_small (node (symbol i c) kids rest) e l =
    every_node (λ e i. i ≤ 65535) e (symbol i c) kids rest tt (every_small kids (inside (symbol i c) e) (omega (arith, l))) (every_small rest e (omega (arith, l)))
every_small (node abstraction kids rest) e l =
    every_node (λ e i. i ≤ 65535) e abstraction kids rest tt (every_small kids (inside abstraction e) (omega (arith, l))) (every_small rest e (omega (arith, l)))
every_small (node (variable i) kids rest) e l =
    every_node (λ e i. i ≤ 65535) e (variable i) kids rest (omega (arith, l)) (every_small kids (inside (variable i) e) (omega (arith, l))) (every_small rest e (omega (arith, l)))
every_small (node (pattern i c) kids rest) e l =
    every_node (λ e i. i ≤ 65535) e (pattern i c) kids rest tt (every_small kids (inside (pattern i c) e) (omega (arith, l))) (every_small rest e (omega (arith, l)))

largest_join : (f g : Row) → largest (f ⧺ g) ≡ max (largest f) (largest g)
unfolding largest
largest_join nothing g = rw (join_nothing_left g) (omega arith)
largest_join (node h kids rest) g = rw (join_node h kids rest g) (omega (arith, largest_join rest g))

-- ---- what is built of formed bodies
module _ (vars : ℕ) (b : ℕ → Row) (one : (x : ℕ) → x < vars → width (b x) ≡ 1) (formed : (x : ℕ) → x < vars → Formed (b x)) where
  small_built : (d : ℕ) (p : Row) → LeftRow vars d p → largest (build b d (left_of p)) ≤ 65535 → Formed (build b d (left_of p))
  unfolding build left_of LeftRow largest
  small_built d nothing p l = formed_nothing
  small_built d (node (symbol i c) kids rest) p l =
      let q : LeftRow vars (inside (symbol i c) d) kids = rw (inside_symbol i c d) p.2 in
      node_formed (symbol i c) (build b (inside (symbol i c) d) (left_of kids)) (build b d (left_of rest))
      (record {
        table = p.0;
        full = wide_built vars b one (inside (symbol i c) d) kids q ∙ p.1 ∙ sym (count_symbol i c);
        below = small_built (inside (symbol i c) d) kids q (omega (arith, l));
        beside = small_built d rest p.3 (omega (arith, l));
      })
  small_built d (node abstraction kids rest) p l =
      let q : LeftRow vars (inside abstraction d) kids = rw (inside_abstraction d) p.1 in
      node_formed abstraction (build b (inside abstraction d) (left_of kids)) (build b d (left_of rest))
      (record {
        table = abstraction_in_table;
        full = wide_built vars b one (inside abstraction d) kids q ∙ p.0 ∙ sym count_abstraction;
        below = small_built (inside abstraction d) kids q (omega (arith, l));
        beside = small_built d rest p.2 (omega (arith, l));
      })
  small_built d (node (variable i) kids rest) p l = absurd p
  small_built d (node (pattern x c) kids rest) p l =
      let t = to_term d (ids_or (ids_of kids)) (b x) in
      let m = largest_join (to_term d (ids_or (ids_of kids)) (b x)) (build b d (left_of rest)) in
      let g : GoodList d (ids_or (ids_of kids)) = rw p.4.1 p.4.2 in
      formed_join t (build b d (left_of rest))
      (small_formed d (ids_or (ids_of kids)) g.listed (b x) (formed x p.1) (every_small t 0 (omega (arith, l, m))))
      (small_built d rest p.5 (omega (arith, l, m)))

  -- within the limits: formed, at most 64 levels and 4,096 words
  pub limits_within : (d : ℕ) (p : Row) → LeftRow vars d p → within_limits (build b d (left_of p)) ≡ true
      → Formed (build b d (left_of p)) × (nesting (build b d (left_of p)) ≤ 64) × (length (words (build b d (left_of p))) ≤ 4096)
  unfolding within_limits
  limits_within d p r e =
      let t = build b d (left_of p) in
      let x = leb (length (words (build b d (left_of p)))) 4096 in
      let y = leb (nesting (build b d (left_of p))) 64 in
      let z = leb (largest (build b d (left_of p))) 65535 in
      let q : y && z ≡ true = and_right x (y && z) e in (
        small_built d p r (leb-true (largest t) 65535 (and_right y z q)),
        leb-true (nesting t) 64 (and_left y z q),
        leb-true (length (words t)) 4096 (and_left x (y && z) e),
      )

pub within_limits_lem : (t : Row) → Formed t → nesting t ≤ 64 → length (words t) ≤ 4096 → within_limits t ≡ true
unfolding within_limits
within_limits_lem t f n l =
    and_both (leb (length (words t)) 4096) (leb (nesting t) 64 && leb (largest t) 65535) (le-leb (length (words t)) 4096 l)
    (and_both (leb (nesting t) 64) (leb (largest t) 65535) (le-leb (nesting t) 64 n) (le-leb (largest t) 65535 (formed_small t f)))
