-- Rows written one after the other: what was written of each is what was written of all, and one that is over makes all over.
use mathlib.Core.Path.{◌≡◌, sym, ap, ◌∙◌}
use mathlib.Core.List.{List, [], ◌∷◌, ◌++◌}
use Prim.Native.Nat.{ℕ, suc, ◌+◌, ◌-◌, ◌≤◌}
use native.Mathlib.Omega.{arith}
use native.Mathlib.Nat.{add-zero, add-suc, suc-add}
use native.Mathlib.Numerals.{add-one}
use lib.ListN.{length, set, length-append}
use lib.Seq.{sets}
use Rattle.std.specs.Prelude.{Option, Some, None}
use Rattle.term.specs.Word.{Head, word, count, InTable}
use Rattle.term.specs.Row.{Row, nothing, node, width, words, nesting, Formed, ◌⧺◌}
use Rattle.term.proofs.Laws.{words_nothing, nesting_nothing, nesting_node, formed_nothing, formed_node, node_formed, join_nothing_left, join_node, words_join, nesting_join, formed_join}
use Rattle.fit.specs.Told.BuildWalk.{RowBuilt}
use Rattle.fit.proofs.FitRow.{words_tree}

pub sets_append : (us vs l : List ℕ) (i : ℕ) → sets l i (us ++ vs) ≡ sets (sets l i us) (i + length us) vs
sets_append [] vs l i = rw add-zero
sets_append (u ∷ us) vs l i = rw (add-suc i (length us), ← suc-add i (length us)) (sets_append us vs (set l i u) (suc i))

-- rows side by side are formed only where both are
formed_both : (f g : Row) → Formed (f ⧺ g) → Formed f × Formed g
formed_both nothing g p = (formed_nothing, rw join_nothing_left at p)
formed_both (node h kids rest) g p =
    let n = formed_node h kids (rest ⧺ g) (rw (join_node h kids rest g) at p) in
    let r = formed_both rest g n.beside in
    (node_formed h kids rest (record { table = n.table; full = n.full; below = n.below; beside = r.0 }), r.1)

long_join : (f g : Row) → length (words (f ⧺ g)) ≡ length (words f) + length (words g)
long_join f g = ap length (words_join f g) ∙ length-append (words f) (words g)

module _ (levels : ℕ) (out : List ℕ) (to : ℕ) where
  pub row_none : to ≤ 4096 → RowBuilt levels out to out nothing (Some to)
  row_none h =
      let n : length (words nothing) ≡ 0 = ap length words_nothing in
      (formed_nothing, omega (arith, nesting_nothing), omega (arith, n), h, rw words_nothing)

  module _ (f g : Row) (mid : List ℕ) where
    pub row_first_over : (done : List ℕ) → RowBuilt levels out to mid f None → RowBuilt levels out to done (f ⧺ g) None
    row_first_over done over =
        λ p n l. over (formed_both f g p).0 (omega (arith, n, nesting_join f g)) (omega (arith, l, long_join f g))

    pub row_then_lem : (b : ℕ) → RowBuilt levels out to mid f (Some b) → (done : List ℕ) (r : Option ℕ) → RowBuilt levels mid b done g r → RowBuilt levels out to done (f ⧺ g) r
    row_then_lem b a done (Some c) r = (
      formed_join f g a.0 r.0,
      omega (arith, a.1, r.1, nesting_join f g),
      omega (arith, a.2, r.2, long_join f g),
      r.3,
      r.4 ∙ rw (a.4, a.2, words_join f g) (sym (sets_append (words f) (words g) out to)),
    )
    row_then_lem b a done None r =
        λ p n l. r (formed_both f g p).1 (omega (arith, n, nesting_join f g)) (omega (arith, l, long_join f g, a.2))

  module _ (h : Head) (kids : Row) where
    long_tree : length (words (node h kids nothing)) ≡ 1 + length (words kids)
    long_tree = ap length (words_tree h kids) ∙ omega arith

    deep_tree : nesting (node h kids nothing) ≡ 1 + nesting kids
    deep_tree = omega (arith, nesting_node h kids nothing, nesting_nothing)

    -- no word is left
    pub row_full : (done : List ℕ) → 4096 ≤ to → RowBuilt levels out to done (node h kids nothing) None
    row_full done h = λ p n l. omega (arith, h, l, long_tree)

    -- a word before its children
    pub row_node : InTable h → width kids ≡ count h → 1 ≤ levels → (done : List ℕ) (r : Option ℕ)
        → RowBuilt (levels - 1) (set out to (word h)) (to + 1) done kids r → RowBuilt levels out to done (node h kids nothing) r
    row_node t w l done (Some b) r = (
      node_formed h kids nothing (record { table = t; full = w; below = r.0; beside = formed_nothing }),
      omega (arith, r.1, l, deep_tree),
      omega (arith, r.2, long_tree),
      r.3,
      rw (words_tree h kids) (rw (add-one to) at r.4),
    )
    row_node t w l done None r =
        λ p n m. r (formed_node h kids nothing p).below (omega (arith, n, l, deep_tree)) (omega (arith, m, long_tree))
