-- Writing commutes with renumbering of what stands outside: what a body names outside itself and its parameters is named by what is written, and nothing else is.
use mathlib.Core.Path.{◌≡◌, sym, ap, ap₂, ◌∙◌}
use mathlib.Core.List.{[]}
use Prim.Native.Nat.{ℕ, zero, suc, ◌+◌, ◌-◌, ◌≤◌, ◌<◌}
use native.Mathlib.Omega.{arith}
use native.Mathlib.Nat.{add-zero}
use lib.Dec.{leb}
use borrow.Author.Tests.{le-leb, lt-leb}
use Rattle.term.specs.Word.{Head, symbol, abstraction, variable, pattern, count, pick}
use Rattle.term.specs.Row.{Row, nothing, node, width, ◌⧺◌}
use Rattle.term.specs.Renumber.{id_term, inside, renumber_head, renumber}
use Rattle.term.proofs.Laws.{inside_pattern, count_pattern, renumber_symbol, renumber_abstraction, renumber_variable, renumber_nothing, renumber_node, renumber_join, everywhere, agree, twice, term_own, term_outside}
use Rattle.fit.specs.Constraint.{tree}
use Rattle.fit.proofs.Laws.{tree_nothing, tree_first, tree_later}
use Rattle.steps.specs.Right.{shifted, single, replaced, in_body, written_tree, write}
use Rattle.steps.specs.Told.Told.{RightHead, RightRow}
use Rattle.steps.proofs.Replaced.{renumber_more, renumber_single, replaced_same, then_renumbered, after_renumbered}
use Rattle.steps.proofs.Writing.{write_nothing, write_node, shifted_is, in_own, in_inner, in_outside, IdCase, own, inner, outside, id_case}
use Rattle.steps.proofs.Shaped.{width_written, width_renumber}

-- the first n ids stay; n+j, which stands outside, becomes n + to j
unfoldable pub outside_id : (ℕ → ℕ) → ℕ → ℕ → ℕ
outside_id to n i = pick (leb i n) i (n + to (i - n))

-- renumbering under so many abstractions
pub at_depth : (n : ℕ → ℕ → ℕ) (d : ℕ) (r : Row) → renumber n d r ≡ renumber (λ f i. n (d + f) i) 0 r
at_depth n d r = ap (λ (e : ℕ). renumber n e r) (sym (add-zero d)) ∙ renumber_more n d 0 r

tree_renumber : (n : ℕ → ℕ → ℕ) (e : ℕ) (r : Row) (j : ℕ) → tree (renumber n e r) j ≡ renumber n e (tree r j)
tree_renumber n e nothing j = rw (renumber_nothing n e, tree_nothing j) (sym (renumber_nothing n e))
tree_renumber n e (node h kids rest) zero =
    ap (λ (r : Row). tree r 0) (renumber_node n e h kids rest)
    ∙ tree_first (renumber_head n e h) (renumber n (inside h e) kids) (renumber n e rest)
    ∙ ap (node (renumber_head n e h) (renumber n (inside h e) kids)) (sym (renumber_nothing n e))
    ∙ sym (renumber_node n e h kids nothing)
    ∙ ap (renumber n e) (sym (tree_first h kids rest))
tree_renumber n e (node h kids rest) (suc j) =
    ap (λ (r : Row). tree r (suc j)) (renumber_node n e h kids rest)
    ∙ tree_later (renumber_head n e h) (renumber n (inside h e) kids) (renumber n e rest) j
    ∙ tree_renumber n e rest j
    ∙ ap (renumber n e) (sym (tree_later h kids rest j))

module _ (to : ℕ → ℕ) (some_id : (j : ℕ) → 1 ≤ j → 1 ≤ to j) where
  abbrev pub moved : ℕ → ℕ → ℕ
  moved = outside_id to

  stays : (n i : ℕ) → i ≤ n → moved n i ≡ i
  unfolding outside_id
  stays n i h = rw (le-leb i n h)

  moves : (n i : ℕ) → n < i → moved n i ≡ n + to (i - n)
  unfolding outside_id
  moves n i h = rw (lt-leb i n h)

  -- ---- a tree under more abstractions
  shift_id : (d f e i : ℕ) → moved (d + f + e) (id_term f [] e i) ≡ id_term f [] e (moved (d + e) i)
  shift_id d f e i = go (id_case e d i)
    where
      go : IdCase e d i → moved (d + f + e) (id_term f [] e i) ≡ id_term f [] e (moved (d + e) i)
      go (own h) =
          ap (moved (d + f + e)) (term_own f [] e i h) ∙ stays (d + f + e) i (omega arith)
          ∙ sym (ap (id_term f [] e) (stays (d + e) i (omega arith)) ∙ term_own f [] e i h)
      go (inner h l) =
          ap (moved (d + f + e)) (term_outside f [] e i (omega arith)) ∙ stays (d + f + e) (i - 0 + f) (omega arith)
          ∙ sym (ap (id_term f [] e) (stays (d + e) i (omega arith)) ∙ term_outside f [] e i (omega arith))
      go (outside h) =
          let p : i - 0 + f - (d + f + e) ≡ i - (d + e) = omega arith in
          let q = some_id (i - (d + e)) (omega arith) in
          ap (moved (d + f + e)) (term_outside f [] e i (omega arith)) ∙ moves (d + f + e) (i - 0 + f) (omega arith)
          ∙ ap (λ (x : ℕ). d + f + e + to x) p
          ∙ sym (ap (id_term f [] e) (moves (d + e) i (omega arith)) ∙ term_outside f [] e (d + e + to (i - (d + e))) (omega (arith, q)) ∙ omega (arith, q))

  pub shifted_moved : (d f : ℕ) (t : Row) → renumber moved (d + f) (shifted f t) ≡ shifted f (renumber moved d t)
  shifted_moved d f t =
      ap (renumber moved (d + f)) (shifted_is f t)
      ∙ at_depth moved (d + f) (renumber (id_term f []) 0 t)
      ∙ twice (id_term f []) (λ e i. moved (d + f + e) i) 0 t
      ∙ agree (λ e i. moved (d + f + e) (id_term f [] e i)) (λ e i. id_term f [] e (moved (d + e) i)) 0 t
      (everywhere (λ e i. moved (d + f + e) (id_term f [] e i) ≡ id_term f [] e (moved (d + e) i)) (shift_id d f) 0 t)
      ∙ sym (twice (λ e i. moved (d + e) i) (id_term f []) 0 t)
      ∙ ap (renumber (id_term f []) 0) (sym (at_depth moved d t))
      ∙ sym (shifted_is f (renumber moved d t))

  -- ---- a variable of a body
  in_moved : (d k : ℕ) (children : Row) → width children ≡ k → (f i : ℕ)
      → renumber moved (d + f) (in_body d children f i) ≡ in_body d (renumber moved d children) f (moved (k + f) i)
  in_moved d k children w f i = go (id_case f k i)
    where
      v : width (renumber moved d children) ≡ k
      v = width_renumber moved d children ∙ w

      go : IdCase f k i → renumber moved (d + f) (in_body d children f i) ≡ in_body d (renumber moved d children) f (moved (k + f) i)
      go (own h) =
          ap (renumber moved (d + f)) (in_own d children f i h) ∙ renumber_single moved (d + f) i ∙ ap single (stays (d + f) i (omega arith))
          ∙ sym (ap (in_body d (renumber moved d children) f) (stays (k + f) i (omega arith)) ∙ in_own d (renumber moved d children) f i h)
      go (inner h l) =
          ap (renumber moved (d + f)) (in_inner d children f i h (omega (arith, w)))
          ∙ shifted_moved d f (tree children (i - f - 1))
          ∙ ap (shifted f) (sym (tree_renumber moved d children (i - f - 1)))
          ∙ sym (ap (in_body d (renumber moved d children) f) (stays (k + f) i (omega arith)) ∙ in_inner d (renumber moved d children) f i h (omega (arith, v)))
      go (outside h) =
          let p : i - width children + d - (d + f) ≡ i - (k + f) = omega (arith, w) in
          let q = some_id (i - (k + f)) (omega arith) in
          ap (renumber moved (d + f)) (in_outside d children f i (omega (arith, w)))
          ∙ renumber_single moved (d + f) (i - width children + d)
          ∙ ap single (moves (d + f) (i - width children + d) (omega (arith, w)) ∙ ap (λ (x : ℕ). d + f + to x) p)
          ∙ sym (ap (in_body d (renumber moved d children) f) (moves (k + f) i (omega arith))
          ∙ in_outside d (renumber moved d children) f (k + f + to (i - (k + f))) (omega (arith, v, q))
          ∙ ap single (omega (arith, v, q)))

  -- ---- a right side
  module _ (vars : ℕ) (k : ℕ → ℕ) (b : ℕ → Row) (one : (x : ℕ) → x < vars → width (b x) ≡ 1) where
    -- the bodies, with what stands outside them and their parameters renumbered
    abbrev pub moved_bodies : ℕ → Row
    moved_bodies x = renumber moved (k x) (b x)

    plain_moved : (d : ℕ) (h : Head) (kids : Row) → renumber_head moved d h ≡ h → renumber moved d (node h kids nothing) ≡ node h (renumber moved (inside h d) kids) nothing
    plain_moved d h kids s = renumber_node moved d h kids nothing ∙ rw (s, renumber_nothing moved d)

    tree_moved : (d : ℕ) (h : Head) (children : Row) → RightHead vars k d h → width children ≡ count h
        → renumber moved d (written_tree b d h children) ≡ written_tree moved_bodies d h (renumber moved (inside h d) children)
    tree_moved d (symbol i c) children r w = plain_moved d (symbol i c) children (renumber_symbol moved d i c)
    tree_moved d abstraction children r w = plain_moved d abstraction children (renumber_abstraction moved d)
    tree_moved d (variable i) children r w = plain_moved d (variable i) children (renumber_variable moved d i ∙ ap variable (stays d i r))
    tree_moved d (pattern x c) children r w =
        ap (λ (e : ℕ). renumber moved e (replaced (in_body d children) 0 (b x))) (sym (add-zero d))
        ∙ then_renumbered moved (in_body d children) d 0 (b x)
        ∙ replaced_same (λ f i. renumber moved (d + f) (in_body d children f i)) (λ f i. in_body d (renumber moved d children) f (moved (k x + f) i)) 0 (b x)
        (everywhere (λ f i. renumber moved (d + f) (in_body d children f i) ≡ in_body d (renumber moved d children) f (moved (k x + f) i))
        (in_moved d (k x) children (w ∙ count_pattern x c ∙ r.1)) 0 (b x))
        ∙ sym (after_renumbered (in_body d (renumber moved d children)) moved (k x) 0 (b x))
        ∙ ap₂ (λ (e : ℕ) (f : ℕ). replaced (in_body d (renumber moved f children)) 0 (renumber moved e (b x))) (add-zero (k x)) (sym (inside_pattern x c d))

    pub write_moved : (d : ℕ) (p : Row) → RightRow vars k d p → renumber moved d (write b d p) ≡ write moved_bodies d p
    unfolding RightRow
    write_moved d nothing r = ap (renumber moved d) (write_nothing b d) ∙ renumber_nothing moved d ∙ sym (write_nothing moved_bodies d)
    write_moved d (node h kids rest) r =
        ap (renumber moved d) (write_node b d h kids rest)
        ∙ renumber_join moved d (written_tree b d h (write b (inside h d) kids)) (write b d rest)
        ∙ ap₂ ◌⧺◌
        (tree_moved d h (write b (inside h d) kids) r.2 (width_written vars b one k (inside h d) kids r.3 ∙ r.1)
        ∙ ap (written_tree moved_bodies d h) (write_moved (inside h d) kids r.3))
        (write_moved d rest r.4)
        ∙ sym (write_node moved_bodies d h kids rest)
