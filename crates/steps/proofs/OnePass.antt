-- A right side is written in one pass: where a row is written, it is enough to know how many abstractions stand around it and which ids the right side's own abstractions have there.
use mathlib.Core.Path.{◌≡◌, refl, sym, ap, ap₂, ◌∙◌}
use mathlib.Core.List.{List, [], ◌∷◌}
use Prim.Native.Nat.{ℕ, zero, suc, ◌+◌, ◌-◌, ◌≤◌, ◌<◌}
use native.Mathlib.Omega.{arith}
use lib.ListN.{length, get_or}
use borrow.Author.Tests.{le-leb, lt-leb}
use Rattle.term.specs.Word.{Head, symbol, abstraction, variable, pattern}
use Rattle.term.specs.Row.{Row, nothing, node, width, ◌⧺◌}
use Rattle.term.specs.Renumber.{id_term, inside, renumber_head, renumber}
use Rattle.term.proofs.Laws.{inside_symbol, inside_abstraction, inside_pattern, renumber_symbol, renumber_abstraction, renumber_nothing, renumber_node, renumber_join, everywhere, agree, twice, unmoved, term_is, term_own, term_inner, term_outside, join_nothing, join_nothing_left, join_node, width_nothing, width_node}
use Rattle.fit.specs.Constraint.{tree}
use Rattle.fit.proofs.Laws.{tree_nothing, tree_first, tree_later}
use Rattle.steps.specs.Right.{shifted, single, replaced, in_body, written_tree, write}
use Rattle.steps.specs.Told.Told.{RightRow, written_in, deeper, variable_in}
use Rattle.steps.proofs.Replaced.{tree_before, none_wide, renumber_single, replaced_same, then_renumbered}
use Rattle.steps.proofs.Writing.{write_nothing, write_node, shifted_is, in_own, in_inner, in_outside, IdCase, own, inner, outside, id_case}
use Rattle.steps.proofs.Shaped.{width_written_tree, width_written}
use Rattle.steps.proofs.Outside.{at_depth}

-- ---- ids
pub length_deeper : (e : ℕ) (ids : List ℕ) → length (deeper e ids) ≡ length ids
unfolding deeper
length_deeper e [] = refl
length_deeper e (y ∷ ys) = ap suc (length_deeper e ys)

pub deeper_at : (e : ℕ) (ids : List ℕ) (j : ℕ) → j < length ids → get_or (deeper e ids) j 0 ≡ e + get_or ids j 0
unfolding deeper
deeper_at e [] j h = absurd (omega arith)
deeper_at e (y ∷ ys) zero h = refl
deeper_at e (y ∷ ys) (suc j) h = deeper_at e ys j (omega arith)

module _ (depth : ℕ) (ids : List ℕ) where
  -- inside an abstraction of the right side it has the id 1
  enter_id : (f i : ℕ) → id_term depth ids (1 + f) i ≡ id_term (1 + depth) (1 ∷ deeper 1 ids) f i
  enter_id f i = go (id_case f 1 i)
    where
      n : length (deeper 1 ids) ≡ length ids
      n = length_deeper 1 ids

      further : f + 1 < i → IdCase (1 + f) (length ids) i → id_term depth ids (1 + f) i ≡ id_term (1 + depth) (1 ∷ deeper 1 ids) f i
      further h (own l) = absurd (omega arith)
      further h (inner l u) =
          let q : i - f - 1 ≡ suc (i - f - 2) = omega arith in
          let p : i - (1 + f) - 1 ≡ i - f - 2 = omega arith in
          term_inner depth ids (1 + f) i l u
          ∙ ap (λ (k : ℕ). 1 + f + get_or ids k 0) p
          ∙ omega (arith, deeper_at 1 ids (i - f - 2) (omega arith))
          ∙ ap (λ (k : ℕ). f + get_or (1 ∷ deeper 1 ids) k 0) (sym q)
          ∙ sym (term_inner (1 + depth) (1 ∷ deeper 1 ids) f i (omega arith) (omega (arith, n)))
      further h (outside l) =
          term_outside depth ids (1 + f) i l ∙ omega (arith, n) ∙ sym (term_outside (1 + depth) (1 ∷ deeper 1 ids) f i (omega (arith, n)))

      go : IdCase f 1 i → id_term depth ids (1 + f) i ≡ id_term (1 + depth) (1 ∷ deeper 1 ids) f i
      go (own h) = term_own depth ids (1 + f) i (omega arith) ∙ sym (term_own (1 + depth) (1 ∷ deeper 1 ids) f i h)
      go (inner h l) =
          let z : i - f - 1 ≡ 0 = omega arith in
          term_own depth ids (1 + f) i (omega arith) ∙ omega arith
          ∙ ap (λ (k : ℕ). f + get_or (1 ∷ deeper 1 ids) k 0) (sym z)
          ∙ sym (term_inner (1 + depth) (1 ∷ deeper 1 ids) f i h (omega arith))
      go (outside h) = further h (id_case (1 + f) (length ids) i)

  -- under e abstractions of a body
  shift_id : (e f i : ℕ) → id_term depth ids (e + f) (id_term e [] f i) ≡ id_term (e + depth) (deeper e ids) f i
  shift_id e f i = go (id_case f (length ids) i)
    where
      n : length (deeper e ids) ≡ length ids
      n = length_deeper e ids

      go : IdCase f (length ids) i → id_term depth ids (e + f) (id_term e [] f i) ≡ id_term (e + depth) (deeper e ids) f i
      go (own h) =
          ap (id_term depth ids (e + f)) (term_own e [] f i h) ∙ term_own depth ids (e + f) i (omega arith)
          ∙ sym (term_own (e + depth) (deeper e ids) f i h)
      go (inner h l) =
          let p : i - 0 + e - (e + f) - 1 ≡ i - f - 1 = omega arith in
          ap (id_term depth ids (e + f)) (term_outside e [] f i (omega arith))
          ∙ term_inner depth ids (e + f) (i - 0 + e) (omega arith) (omega arith)
          ∙ ap (λ (k : ℕ). e + f + get_or ids k 0) p
          ∙ omega (arith, deeper_at e ids (i - f - 1) (omega arith))
          ∙ sym (term_inner (e + depth) (deeper e ids) f i h (omega (arith, n)))
      go (outside h) =
          ap (id_term depth ids (e + f)) (term_outside e [] f i (omega arith))
          ∙ term_outside depth ids (e + f) (i - 0 + e) (omega arith) ∙ omega (arith, n)
          ∙ sym (term_outside (e + depth) (deeper e ids) f i (omega (arith, n)))

-- ---- rows
seen_is : (b : ℕ → Row) (depth : ℕ) (ids : List ℕ) (p : Row) → written_in b depth ids p ≡ renumber (id_term depth ids) 0 (write b (length ids) p)
unfolding written_in
seen_is b depth ids p = term_is depth ids (write b (length ids) p)

-- at the root of a right side
pub written_root : (b : ℕ → Row) (p : Row) → written_in b 0 [] p ≡ write b 0 p
written_root b p = seen_is b 0 [] p ∙ unmoved (id_term 0 []) 0 (write b 0 p) (everywhere (λ e i. id_term 0 [] e i ≡ i) (λ e i. go e i (id_case e 0 i)) 0 (write b 0 p))
  where
    go : (e i : ℕ) → IdCase e 0 i → id_term 0 [] e i ≡ i
    go e i (own h) = term_own 0 [] e i h
    go e i (inner h l) = absurd (omega arith)
    go e i (outside h) = term_outside 0 [] e i h ∙ omega arith

module _ (b : ℕ → Row) (depth : ℕ) (ids : List ℕ) where
  abbrev seen : Row → Row
  seen r = renumber (id_term depth ids) 0 r

  pub in_nothing : written_in b depth ids nothing ≡ nothing
  in_nothing = seen_is b depth ids nothing ∙ ap seen (write_nothing b (length ids)) ∙ renumber_nothing (id_term depth ids) 0

  -- the first tree of a row, and the rest
  in_first : (h : Head) (kids rest : Row)
      → written_in b depth ids (node h kids rest) ≡ seen (written_tree b (length ids) h (write b (inside h (length ids)) kids)) ⧺ written_in b depth ids rest
  in_first h kids rest =
      seen_is b depth ids (node h kids rest)
      ∙ ap seen (write_node b (length ids) h kids rest)
      ∙ renumber_join (id_term depth ids) 0 (written_tree b (length ids) h (write b (inside h (length ids)) kids)) (write b (length ids) rest)
      ∙ ap (λ (r : Row). seen (written_tree b (length ids) h (write b (inside h (length ids)) kids)) ⧺ r) (sym (seen_is b depth ids rest))

  seen_node : (h g : Head) (r : Row) → renumber_head (id_term depth ids) 0 h ≡ g → seen (node h r nothing) ≡ node g (renumber (id_term depth ids) (inside h 0) r) nothing
  seen_node h g r e = renumber_node (id_term depth ids) 0 h r nothing ∙ ap₂ (λ (k : Head) (t : Row). node k (renumber (id_term depth ids) (inside h 0) r) t) e (renumber_nothing (id_term depth ids) 0)

  pub in_symbol : (i c : ℕ) (kids rest : Row) → written_in b depth ids (node (symbol i c) kids rest) ≡ node (symbol i c) (written_in b depth ids kids) (written_in b depth ids rest)
  in_symbol i c kids rest =
      in_first (symbol i c) kids rest
      ∙ ap (λ (r : Row). r ⧺ written_in b depth ids rest)
      (seen_node (symbol i c) (symbol i c) (write b (inside (symbol i c) (length ids)) kids) (renumber_symbol (id_term depth ids) 0 i c)
      ∙ ap₂ (λ (f : ℕ) (d : ℕ). node (symbol i c) (renumber (id_term depth ids) f (write b d kids)) nothing) (inside_symbol i c 0) (inside_symbol i c (length ids))
      ∙ ap (λ (r : Row). node (symbol i c) r nothing) (sym (seen_is b depth ids kids)))
      ∙ tree_before (symbol i c) (written_in b depth ids kids) (written_in b depth ids rest)

  -- an abstraction of the right side has the id 1 inside it
  pub in_abstraction : (kids rest : Row) → written_in b depth ids (node abstraction kids rest) ≡ node abstraction (written_in b (1 + depth) (1 ∷ deeper 1 ids) kids) (written_in b depth ids rest)
  in_abstraction kids rest =
      in_first abstraction kids rest
      ∙ ap (λ (r : Row). r ⧺ written_in b depth ids rest)
      (seen_node abstraction abstraction (write b (inside abstraction (length ids)) kids) (renumber_abstraction (id_term depth ids) 0)
      ∙ ap₂ (λ (f : ℕ) (d : ℕ). node abstraction (renumber (id_term depth ids) f (write b d kids)) nothing) (inside_abstraction 0) (inside_abstraction (length ids) ∙ ap suc (sym (length_deeper 1 ids)))
      ∙ ap (λ (r : Row). node abstraction r nothing) inner_row)
      ∙ tree_before abstraction (written_in b (1 + depth) (1 ∷ deeper 1 ids) kids) (written_in b depth ids rest)
    where
      inner_row : renumber (id_term depth ids) 1 (write b (suc (length (deeper 1 ids))) kids) ≡ written_in b (1 + depth) (1 ∷ deeper 1 ids) kids
      inner_row =
          at_depth (id_term depth ids) 1 (write b (suc (length (deeper 1 ids))) kids)
          ∙ agree (λ f i. id_term depth ids (1 + f) i) (id_term (1 + depth) (1 ∷ deeper 1 ids)) 0 (write b (suc (length (deeper 1 ids))) kids)
          (everywhere (λ f i. id_term depth ids (1 + f) i ≡ id_term (1 + depth) (1 ∷ deeper 1 ids) f i) (enter_id depth ids) 0 (write b (suc (length (deeper 1 ids))) kids))
          ∙ sym (seen_is b (1 + depth) (1 ∷ deeper 1 ids) kids)

  -- a variable of the right side has the id of its abstraction
  pub in_variable : (i : ℕ) (kids rest : Row) → width kids ≡ 0 → 1 ≤ i → i ≤ length ids → written_in b depth ids (node (variable i) kids rest) ≡ node (variable (get_or ids (i - 1) 0)) nothing (written_in b depth ids rest)
  in_variable i kids rest w h l =
      let q : i - 0 - 1 ≡ i - 1 = omega arith in
      in_first (variable i) kids rest
      ∙ ap (λ (r : Row). r ⧺ written_in b depth ids rest)
      (ap (λ (k : Row). seen (node (variable i) (write b (inside (variable i) (length ids)) k) nothing)) (none_wide kids w)
      ∙ ap (λ (k : Row). seen (node (variable i) k nothing)) (write_nothing b (inside (variable i) (length ids)))
      ∙ renumber_single (id_term depth ids) 0 i
      ∙ ap single (term_inner depth ids 0 i (omega arith) (omega arith)
      ∙ ap (λ (k : ℕ). 0 + get_or ids k 0) q ∙ omega arith))
      ∙ tree_before (variable (get_or ids (i - 1) 0)) nothing (written_in b depth ids rest)

  -- a row by its first tree and the rest
  pub in_split : (h : Head) (kids rest : Row) → written_in b depth ids (node h kids rest) ≡ written_in b depth ids (node h kids nothing) ⧺ written_in b depth ids rest
  in_split h kids rest =
      let t = seen (written_tree b (length ids) h (write b (inside h (length ids)) kids)) in
      in_first h kids rest
      ∙ ap (λ (r : Row). r ⧺ written_in b depth ids rest)
      (sym (in_first h kids nothing ∙ ap (λ (r : Row). seen (written_tree b (length ids) h (write b (inside h (length ids)) kids)) ⧺ r) in_nothing ∙ join_nothing t))

-- ---- the three cases of an id in a body
module _ (b : ℕ → Row) (depth : ℕ) (ids : List ℕ) (kids : Row) (e i : ℕ) where
  pub body_own_in : i ≤ e → variable_in b depth ids kids e i ≡ single i
  unfolding variable_in
  body_own_in h = rw (le-leb i e h)

  pub body_inner_in : e < i → i ≤ e + width kids → variable_in b depth ids kids e i ≡ written_in b (e + depth) (deeper e ids) (tree kids (i - e - 1))
  unfolding variable_in
  body_inner_in h l = rw (lt-leb i e h, le-leb i (e + width kids) l)

  pub body_outside_in : e + width kids < i → variable_in b depth ids kids e i ≡ single (i - width kids + depth)
  unfolding variable_in
  body_outside_in h = rw (lt-leb i e (omega arith), lt-leb i (e + width kids) h)

module _ (vars : ℕ) (k : ℕ → ℕ) (b : ℕ → Row) (one : (x : ℕ) → x < vars → width (b x) ≡ 1) where
  -- each child is written by itself
  single_first : (t r : Row) → width t ≡ 1 → tree (t ⧺ r) 0 ≡ t
  single_first nothing r w = absurd (omega (arith, width_nothing, w))
  single_first (node h kids rest) r w =
      ap (λ (f : Row). tree f 0) (join_node h kids rest r) ∙ tree_first h kids (rest ⧺ r)
      ∙ ap (node h kids) (sym (none_wide rest (omega (arith, w, width_node h kids rest))))

  single_later : (t r : Row) (j : ℕ) → width t ≡ 1 → tree (t ⧺ r) (suc j) ≡ tree r j
  single_later nothing r j w = absurd (omega (arith, width_nothing, w))
  single_later (node h kids rest) r j w =
      ap (λ (f : Row). tree f (suc j)) (join_node h kids rest r) ∙ tree_later h kids (rest ⧺ r) j
      ∙ ap (λ (f : Row). tree (f ⧺ r) j) (none_wide rest (omega (arith, w, width_node h kids rest)))
      ∙ ap (λ (f : Row). tree f j) (join_nothing_left r)

  pub tree_written : (d : ℕ) (p : Row) → RightRow vars k d p → (j : ℕ) → tree (write b d p) j ≡ write b d (tree p j)
  unfolding RightRow
  tree_written d nothing r j = rw (write_nothing b d, tree_nothing j) (sym (write_nothing b d))
  tree_written d (node h kids rest) r zero =
      ap (λ (f : Row). tree f 0) (write_node b d h kids rest)
      ∙ single_first (written_tree b d h (write b (inside h d) kids)) (write b d rest) (width_written_tree vars b one k d h (write b (inside h d) kids) r.2)
      ∙ sym (ap (write b d) (tree_first h kids rest) ∙ write_node b d h kids nothing
      ∙ ap (λ (f : Row). written_tree b d h (write b (inside h d) kids) ⧺ f) (write_nothing b d) ∙ join_nothing (written_tree b d h (write b (inside h d) kids)))
  tree_written d (node h kids rest) r (suc j) =
      ap (λ (f : Row). tree f (suc j)) (write_node b d h kids rest)
      ∙ single_later (written_tree b d h (write b (inside h d) kids)) (write b d rest) j (width_written_tree vars b one k d h (write b (inside h d) kids) r.2)
      ∙ tree_written d rest r.4 j
      ∙ ap (write b d) (sym (tree_later h kids rest j))

  module _ (depth : ℕ) (ids : List ℕ) where
    child_in : (kids : Row) → RightRow vars k (length ids) kids → (e i : ℕ)
        → renumber (id_term depth ids) (0 + e) (in_body (length ids) (write b (length ids) kids) e i) ≡ variable_in b depth ids kids e i
    child_in kids r e i = go (id_case e (width kids) i)
      where
        w : width (write b (length ids) kids) ≡ width kids
        w = width_written vars b one k (length ids) kids r

        z : 0 + e ≡ e
        z = omega arith

        child : (t : Row) → renumber (id_term depth ids) e (shifted e (write b (length ids) t)) ≡ written_in b (e + depth) (deeper e ids) t
        child t =
            ap (renumber (id_term depth ids) e) (shifted_is e (write b (length ids) t))
            ∙ at_depth (id_term depth ids) e (renumber (id_term e []) 0 (write b (length ids) t))
            ∙ twice (id_term e []) (λ f i. id_term depth ids (e + f) i) 0 (write b (length ids) t)
            ∙ agree (λ f i. id_term depth ids (e + f) (id_term e [] f i)) (id_term (e + depth) (deeper e ids)) 0 (write b (length ids) t)
            (everywhere (λ f i. id_term depth ids (e + f) (id_term e [] f i) ≡ id_term (e + depth) (deeper e ids) f i) (shift_id depth ids e) 0 (write b (length ids) t))
            ∙ ap (λ (d : ℕ). renumber (id_term (e + depth) (deeper e ids)) 0 (write b d t)) (sym (length_deeper e ids))
            ∙ sym (seen_is b (e + depth) (deeper e ids) t)

        go : IdCase e (width kids) i → renumber (id_term depth ids) (0 + e) (in_body (length ids) (write b (length ids) kids) e i) ≡ variable_in b depth ids kids e i
        go (own h) =
            ap₂ (λ (f : ℕ) (t : Row). renumber (id_term depth ids) f t) z (in_own (length ids) (write b (length ids) kids) e i h)
            ∙ renumber_single (id_term depth ids) e i ∙ ap single (term_own depth ids e i h)
            ∙ sym (body_own_in b depth ids kids e i h)
        go (inner h l) =
            ap₂ (λ (f : ℕ) (t : Row). renumber (id_term depth ids) f t) z
            (in_inner (length ids) (write b (length ids) kids) e i h (omega (arith, w)) ∙ ap (shifted e) (tree_written (length ids) kids r (i - e - 1)))
            ∙ child (tree kids (i - e - 1))
            ∙ sym (body_inner_in b depth ids kids e i h l)
        go (outside h) =
            ap₂ (λ (f : ℕ) (t : Row). renumber (id_term depth ids) f t) z (in_outside (length ids) (write b (length ids) kids) e i (omega (arith, w)))
            ∙ renumber_single (id_term depth ids) e (i - width (write b (length ids) kids) + length ids)
            ∙ ap single (term_outside depth ids e (i - width (write b (length ids) kids) + length ids) (omega (arith, w)) ∙ omega (arith, w))
            ∙ sym (body_outside_in b depth ids kids e i h)

    -- a pattern variable is its body there
    pub in_pattern : (x c : ℕ) (kids rest : Row) → RightRow vars k (length ids) kids
        → written_in b depth ids (node (pattern x c) kids rest) ≡ replaced (variable_in b depth ids kids) 0 (b x) ⧺ written_in b depth ids rest
    in_pattern x c kids rest r =
        in_first b depth ids (pattern x c) kids rest
        ∙ ap (λ (t : Row). t ⧺ written_in b depth ids rest)
        (ap (λ (d : ℕ). renumber (id_term depth ids) 0 (replaced (in_body (length ids) (write b d kids)) 0 (b x))) (inside_pattern x c (length ids))
        ∙ then_renumbered (id_term depth ids) (in_body (length ids) (write b (length ids) kids)) 0 0 (b x)
        ∙ replaced_same (λ e i. renumber (id_term depth ids) (0 + e) (in_body (length ids) (write b (length ids) kids) e i)) (variable_in b depth ids kids) 0 (b x)
        (everywhere (λ e i. renumber (id_term depth ids) (0 + e) (in_body (length ids) (write b (length ids) kids) e i) ≡ variable_in b depth ids kids e i) (child_in kids r) 0 (b x)))
