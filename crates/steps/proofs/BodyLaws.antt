-- What each way through the walk over a body tells: a row by its first tree and the rest, a word before its children, and a variable by document 01's three cases of an id.
use mathlib.Core.Path.{◌≡◌, sym, ap, ap₂, ◌∙◌}
use mathlib.Core.List.{List, ◌++◌}
use Prim.Native.Nat.{ℕ, suc, ◌+◌, ◌-◌, ◌≤◌, ◌<◌}
use native.Mathlib.Omega.{arith}
use lib.ListN.{length, length-append}
use Rattle.term.specs.Word.{Head, symbol, abstraction, variable, pattern, rank, word, InTable, kind_of, ident_of}
use Rattle.term.specs.Row.{Row, nothing, node, width, words, ◌⧺◌}
use Rattle.term.specs.Renumber.{inside}
use Rattle.term.proofs.Laws.{words_nothing, words_join, width_nothing, width_node, join_nothing, kind_word, ident_word, kind_symbol, kind_abstraction, kind_variable, kind_pattern, rank_pattern, ident_variable}
use Rattle.fit.specs.Constraint.{tree}
use Rattle.fit.specs.Told.Told.{TermStands}
use Rattle.fit.specs.Told.BuildWalk.{RowBuilt}
use Rattle.fit.proofs.Laws.{row_none, row_first_over, row_then_lem, TermFirst, term_first}
use Rattle.std.specs.Prelude.{Option, Some, None}
use Rattle.steps.specs.Right.{single, replaced}
use Rattle.steps.specs.Told.Told.{RightRow, written_in, deeper, variable_in}
use Rattle.steps.specs.Told.Under.{Place, Around, deeper_by, ids_in}
use Rattle.steps.specs.Told.RightWalk.{child_at, RightTold, VariableTold, BothWritten, BodyTold}
use Rattle.steps.proofs.Replaced.{tree_before, none_wide, replaced_nothing, replaced_node, replaced_join}
use Rattle.steps.proofs.Writing.{IdCase, own, inner, outside, id_case}
use Rattle.steps.proofs.Shaped.{width_tree, width_replaced}
use Rattle.steps.proofs.OnePass.{length_deeper, body_own_in, body_inner_in, body_outside_in}
use Rattle.steps.proofs.Children.{right_tree}
use Rattle.steps.proofs.Depths.{in_deeper}
use Rattle.steps.proofs.RightTrees.{child_stands_at}
use Rattle.steps.proofs.RightLaws.{width_in_written}

-- ---- each variable of a body becomes one tree
module _ (vars : ℕ) (k : ℕ → ℕ) (b : ℕ → Row) (one : (x : ℕ) → x < vars → width (b x) ≡ 1) (depth : ℕ) (ids : List ℕ) (kids : Row) (r : RightRow vars k (length ids) kids) where
  width_single : (i : ℕ) → width (single i) ≡ 1
  width_single i = width_node (variable i) nothing nothing ∙ ap suc width_nothing

  width_variable_in : (e i : ℕ) → width (variable_in b depth ids kids e i) ≡ 1
  width_variable_in e i = go (id_case e (width kids) i)
    where
      go : IdCase e (width kids) i → width (variable_in b depth ids kids e i) ≡ 1
      go (own h) = ap width (body_own_in b depth ids kids e i h) ∙ width_single i
      go (inner h l) =
          let t : RightRow vars k (length (deeper e ids)) (tree kids (i - e - 1)) = rw (length_deeper e ids) (right_tree vars k (length ids) kids r (i - e - 1)) in
          ap width (body_inner_in b depth ids kids e i h l)
          ∙ width_in_written vars k b one (e + depth) (deeper e ids) (tree kids (i - e - 1)) t
          ∙ width_tree kids (i - e - 1) (omega (arith, h, l))
      go (outside h) = ap width (body_outside_in b depth ids kids e i h) ∙ width_single (i - width kids + depth)

  pub width_body : (e : ℕ) (q : Row) → width (replaced (variable_in b depth ids kids) e q) ≡ width q
  width_body e q = width_replaced (variable_in b depth ids kids) width_variable_in e q

-- ---- replaced, tree by tree
module _ (m : ℕ → ℕ → Row) (e : ℕ) where
  split_replaced : (h : Head) (kids rest : Row) → replaced m e (node h kids rest) ≡ replaced m e (node h kids nothing) ⧺ replaced m e rest
  split_replaced h kids rest = ap (replaced m e) (sym (tree_before h kids rest)) ∙ replaced_join m e (node h kids nothing) rest

  alone : (h : Head) (kids t : Row) → replaced m e (node h kids nothing) ≡ t ⧺ replaced m e nothing → replaced m e (node h kids nothing) ≡ t
  alone h kids t p = p ∙ ap (λ (r : Row). t ⧺ r) (replaced_nothing m e) ∙ join_nothing t

  pub variable_tree : (h : Head) (kids : Row) → InTable h → kind_of (word h) ≡ 2 → replaced m e (node h kids nothing) ≡ m e (ident_of (word h))
  variable_tree (symbol i c) kids t q = absurd (omega (arith, q, kind_word (symbol i c) t, kind_symbol i c))
  variable_tree abstraction kids t q = absurd (omega (arith, q, kind_word abstraction t, kind_abstraction))
  variable_tree (variable i) kids t q =
      let x : ident_of (word (variable i)) ≡ i = ident_word (variable i) t ∙ ident_variable i in
      alone (variable i) kids (m e i) (replaced_node m e (variable i) kids nothing) ∙ ap (m e) (sym x)
  variable_tree (pattern x c) kids t q = absurd (omega (arith, q, kind_word (pattern x c) t, kind_pattern x c))

  pub node_tree : (h : Head) (kids : Row) → InTable h → rank h ≤ 2 → (kind_of (word h) ≡ 2 → ⊥) → replaced m e (node h kids nothing) ≡ node h (replaced m (inside h e) kids) nothing
  node_tree (symbol i c) kids t l q = alone (symbol i c) kids (node (symbol i c) (replaced m (inside (symbol i c) e) kids) nothing) (replaced_node m e (symbol i c) kids nothing)
  node_tree abstraction kids t l q = alone abstraction kids (node abstraction (replaced m (inside abstraction e) kids) nothing) (replaced_node m e abstraction kids nothing)
  node_tree (variable i) kids t l q = absurd (q (kind_word (variable i) t ∙ kind_variable i))
  node_tree (pattern x c) kids t l q = absurd (omega (arith, l, rank_pattern x c))

-- ---- a variable of a body
module _ (u : Place) (e count levels i : ℕ) (right : List ℕ) (at : ℕ) (bodies lengths out : List ℕ) (to : ℕ) (done : List ℕ) (r : Option ℕ) where
  pub variable_own : i ≤ e → RowBuilt levels out to done (single i) r → VariableTold u e count levels i right at bodies lengths out to done r
  unfolding VariableTold
  variable_own h wrote vars k b kids after s g l = rw (body_own_in b u.depth (ids_in u) kids e i h) wrote

  pub variable_outside : e < i → count < i - e → RowBuilt levels out to done (single (i - count + u.depth)) r → VariableTold u e count levels i right at bodies lengths out to done r
  unfolding VariableTold
  variable_outside h n wrote vars k b kids after s g l =
      let t : variable_in b u.depth (ids_in u) kids e i ≡ single (i - count + u.depth) =
      body_outside_in b u.depth (ids_in u) kids e i (omega (arith, h, n, s.wide)) ∙ ap (λ (c : ℕ). single (i - c + u.depth)) s.wide in
      rw t wrote

  pub variable_inner : Around u → e < i → i - e ≤ count → RightTold (deeper_by e u) levels 1 right (child_at right at (i - e - 1)) bodies lengths out to done r
      → VariableTold u e count levels i right at bodies lengths out to done r
  unfolding VariableTold RightTold
  variable_inner a h n told vars k b kids after s g l =
      let c = child_stands_at vars k u.own right (i - e - 1) count at kids after s (omega (arith, h, n, s.wide)) in
      let d : e + u.depth ≡ u.depth + e = omega arith in
      let t : variable_in b u.depth (ids_in u) kids e i ≡ written_in b (u.depth + e) (ids_in (deeper_by e u)) (tree kids (i - e - 1)) =
      body_inner_in b u.depth (ids_in u) kids e i h (omega (arith, h, n, s.wide))
      ∙ ap₂ (λ (d : ℕ) (ids : List ℕ). written_in b d ids (tree kids (i - e - 1))) d (sym (in_deeper u a e)) in
      rw t (told vars k b (tree kids (i - e - 1)) c.0 c.1 g l)

-- ---- rows of a body by their first tree and the rest
both_first_over : (levels : ℕ) (out : List ℕ) (to : ℕ) (mid done : List ℕ) (f g : Row) (i j : ℕ) → BothWritten levels out to mid f i None → BothWritten levels out to done (f ⧺ g) j None
both_first_over levels out to mid done f g i j over = row_first_over levels out to f g mid done over

both_then : (levels : ℕ) (out : List ℕ) (to : ℕ) (mid done : List ℕ) (f g : Row) (i j a c : ℕ) → BothWritten levels out to mid f i (Some (a, c)) → (r : Option (ℕ × ℕ))
    → BothWritten levels mid c done g j r → BothWritten levels out to done (f ⧺ g) j r
both_then levels out to mid done f g i j a c x (Some (p, q)) y = (y.0, row_then_lem levels out to f g mid c x.1 done (Some q) y.1)
both_then levels out to mid done f g i j a c x None y = row_then_lem levels out to f g mid c x.1 done None y

long_split : (h : Head) (kids rest : Row) → length (words (node h kids rest)) ≡ length (words (node h kids nothing)) + length (words rest)
long_split h kids rest =
    ap (λ (t : Row). length (words t)) (sym (tree_before h kids rest)) ∙ ap length (words_join (node h kids nothing) rest) ∙ length-append (words (node h kids nothing)) (words rest)

module _ (u : Place) (e count levels trees : ℕ) (right : List ℕ) (at : ℕ) (bodies : List ℕ) (from : ℕ) (lengths out : List ℕ) (to : ℕ) where
  pub body_none : trees ≡ 0 → BodyTold u e count levels trees right at bodies from lengths out to out (Some (from, to))
  unfolding BodyTold
  body_none z vars k b kids after q beyond s g t l =
      let n : q ≡ nothing = none_wide q (t.wide ∙ z) in
      let w : length (words q) ≡ 0 = ap (λ (r : Row). length (words r)) n ∙ ap length words_nothing in
      let x : replaced (variable_in b u.depth (ids_in u) kids) e q ≡ nothing = ap (replaced (variable_in b u.depth (ids_in u) kids) e) n ∙ replaced_nothing (variable_in b u.depth (ids_in u) kids) e in
      (omega (arith, w), rw x (row_none levels out to l))

  module _ (z : trees ≡ 0 → ⊥) where
    pub body_ended : (done : List ℕ) → length bodies ≤ from → BodyTold u e count levels trees right at bodies from lengths out to done None
    unfolding BodyTold
    body_ended done h vars k b kids after q beyond s g t l = absurd (omega (arith, h, (term_first trees bodies from z q beyond t).within))

    pub body_stuck : (mid : List ℕ) → BodyTold u e count levels 1 right at bodies from lengths out to mid None → BodyTold u e count levels trees right at bodies from lengths out to mid None
    unfolding BodyTold
    body_stuck mid told vars k b kids after q beyond s g t l = shown (term_first trees bodies from z q beyond t)
      where
        shown : TermFirst trees bodies from q beyond → BothWritten levels out to mid (replaced (variable_in b u.depth (ids_in u) kids) e q) (from + length (words q)) None
        shown f =
            let m = variable_in b u.depth (ids_in u) kids in
            rw (f.is, split_replaced (variable_in b u.depth (ids_in u) kids) e f.head f.children f.right)
            (both_first_over levels out to mid mid (replaced m e (node f.head f.children nothing)) (replaced m e f.right) 0 0
            (told vars k b kids after (node f.head f.children nothing) (words f.right ++ beyond) s g f.alone l))

    pub body_more : (mid : List ℕ) (p c : ℕ) → BodyTold u e count levels 1 right at bodies from lengths out to mid (Some (p, c)) → (done : List ℕ) (r : Option (ℕ × ℕ))
        → BodyTold u e count levels (trees - 1) right at bodies p lengths mid c done r → BodyTold u e count levels trees right at bodies from lengths out to done r
    unfolding BodyTold
    body_more mid p c told done r rest vars k b kids after q beyond s g t l = shown (term_first trees bodies from z q beyond t)
      where
        shown : TermFirst trees bodies from q beyond → BothWritten levels out to done (replaced (variable_in b u.depth (ids_in u) kids) e q) (from + length (words q)) r
        shown f =
            let m = variable_in b u.depth (ids_in u) kids in
            let x = told vars k b kids after (node f.head f.children nothing) (words f.right ++ beyond) s g f.alone l in
            let beside : TermStands (trees - 1) bodies p f.right beyond = rw x.0 f.beside in
            let y = rest vars k b kids after f.right beyond s g beside x.1.3 in
            let n : p + length (words f.right) ≡ from + length (words (node f.head f.children f.right)) = omega (arith, x.0, long_split f.head f.children f.right) in
            rw (f.is, split_replaced (variable_in b u.depth (ids_in u) kids) e f.head f.children f.right)
            (both_then levels out to mid done (replaced m e (node f.head f.children nothing)) (replaced m e f.right)
            (from + length (words (node f.head f.children nothing))) (from + length (words (node f.head f.children f.right))) p c x r (rw n at y))
