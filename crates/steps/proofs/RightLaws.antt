-- What each way through the walk over a right side tells: a row by its first tree and the rest, a word before its children, a variable by its id, a pattern variable by its body.
use mathlib.Core.Path.{◌≡◌, sym, ap, ap₂, ◌∙◌}
use mathlib.Core.List.{List, ◌∷◌, ◌++◌}
use Prim.Native.Nat.{ℕ, ◌+◌, ◌-◌, ◌≤◌, ◌<◌}
use native.Mathlib.Omega.{arith}
use lib.ListN.{length, get_or, set}
use Rattle.std.specs.Prelude.{Option, Some, None}
use Rattle.term.specs.Word
use Rattle.term.specs.Word.{Head, symbol, abstraction, variable, pattern, word, InTable, kind_of, count_of, ident_of}
use Rattle.term.specs.Row.{Row, nothing, node, width, words, ◌⧺◌}
use Rattle.term.specs.Renumber.{inside}
use Rattle.term.proofs.Laws.{nesting_node, join_nothing, kind_word, ident_word, kind_symbol, kind_abstraction, kind_variable, kind_pattern, count_variable, ident_variable, ident_pattern, inside_symbol, inside_abstraction, inside_pattern, variable_id, term_keeps}
use Rattle.fit.specs.Told.BuildWalk.{RowBuilt}
use Rattle.fit.proofs.Laws.{row_none, row_first_over, row_then_lem, row_full, row_node}
use Rattle.steps.specs.Right.{single, replaced, write}
use Rattle.steps.specs.Told.Told.{RightHead, RightRow, written_in, deeper, variable_in}
use Rattle.steps.specs.Told.Under.{Place, Around, lowered, entered, inside_right, ids_in}
use Rattle.steps.specs.Told.RightWalk.{next_tree, RightStands, RightTold, PatternTold}
use Rattle.steps.proofs.Replaced.{none_wide}
use Rattle.steps.proofs.Shaped.{width_written}
use Rattle.steps.proofs.OnePass.{in_nothing, in_split, in_symbol, in_abstraction, in_variable, in_pattern}
use Rattle.steps.proofs.Depths.{length_ids, in_entered, inside_abstraction_is, inside_other_is}
use Rattle.steps.proofs.RightTrees.{RightFirst, right_first, OneTree, one_tree}

-- as many trees are written as stand there
pub width_in_written : (vars : ℕ) (k : ℕ → ℕ) (b : ℕ → Row) → ((x : ℕ) → x < vars → width (b x) ≡ 1) → (depth : ℕ) (ids : List ℕ) (p : Row) → RightRow vars k (length ids) p
    → width (written_in b depth ids p) ≡ width p
unfolding written_in
width_in_written vars k b one depth ids p r = (term_keeps depth ids (write b (length ids) p)).wide ∙ width_written vars b one k (length ids) p r

-- ---- a row by its first tree and the rest
module _ (u : Place) (levels count : ℕ) (right : List ℕ) (at : ℕ) (bodies lengths out : List ℕ) (to : ℕ) where
  pub right_none : count ≡ 0 → RightTold u levels count right at bodies lengths out to out (Some to)
  unfolding RightTold
  right_none z vars k b p after s g l =
      let e : written_in b u.depth (ids_in u) p ≡ nothing = ap (written_in b u.depth (ids_in u)) (none_wide p (s.wide ∙ z)) ∙ in_nothing b u.depth (ids_in u) in
      rw e (row_none levels out to l)

  module _ (z : count ≡ 0 → ⊥) where
    pub right_stuck : (mid : List ℕ) → RightTold u levels 1 right at bodies lengths out to mid None → RightTold u levels count right at bodies lengths out to mid None
    unfolding RightTold
    right_stuck mid told vars k b p after s g l = shown (right_first vars k u.own right count at z p after s)
      where
        shown : RightFirst vars k u.own right count at p after → RowBuilt levels out to mid (written_in b u.depth (ids_in u) p) None
        shown f =
            rw (f.is, in_split b u.depth (ids_in u) f.head f.children f.rest)
            (row_first_over levels out to (written_in b u.depth (ids_in u) (node f.head f.children nothing)) (written_in b u.depth (ids_in u) f.rest) mid mid
            (told vars k b (node f.head f.children nothing) (words f.rest ++ after) f.alone g l))

    pub right_more : (mid : List ℕ) (c : ℕ) → RightTold u levels 1 right at bodies lengths out to mid (Some c) → (done : List ℕ) (r : Option ℕ)
        → RightTold u levels (count - 1) right (next_tree right at) bodies lengths mid c done r → RightTold u levels count right at bodies lengths out to done r
    unfolding RightTold
    right_more mid c told done r rest vars k b p after s g l = shown (right_first vars k u.own right count at z p after s)
      where
        shown : RightFirst vars k u.own right count at p after → RowBuilt levels out to done (written_in b u.depth (ids_in u) p) r
        shown f =
            let x = told vars k b (node f.head f.children nothing) (words f.rest ++ after) f.alone g l in
            rw (f.is, in_split b u.depth (ids_in u) f.head f.children f.rest)
            (row_then_lem levels out to (written_in b u.depth (ids_in u) (node f.head f.children nothing)) (written_in b u.depth (ids_in u) f.rest) mid c x done r
            (rest vars k b f.rest after f.beside g x.3))

    pub right_on : (mid : List ℕ) (c : ℕ) → RightTold u levels 1 right at bodies lengths out to mid (Some c) → (a : ℕ) → a ≡ next_tree right at → (done : List ℕ) (r : Option ℕ)
        → RightTold u levels (count - 1) right a bodies lengths mid c done r → RightTold u levels count right at bodies lengths out to done r
    right_on mid c told a e done r rest = right_more mid c told done r (rw e at rest)

-- ---- one tree, by the kind of its word
module _ (vars : ℕ) (k : ℕ → ℕ) (b : ℕ → Row) (u : Place) where
  record VariableRow (h : Head) (kids : Row) : Type 0 where
    some : 1 ≤ ident_of (word h)
    bound : ident_of (word h) ≤ u.own
    writes : written_in b u.depth (ids_in u) (node h kids nothing) ≡ single (get_or (ids_in u) (ident_of (word h) - 1) 0)

  variable_row : (h : Head) (kids : Row) → InTable h → width kids ≡ Word.count h → RightHead vars k u.own h → kind_of (word h) ≡ 2 → VariableRow h kids
  variable_row (symbol i c) kids t w r q = absurd (omega (arith, q, kind_word (symbol i c) t, kind_symbol i c))
  variable_row abstraction kids t w r q = absurd (omega (arith, q, kind_word abstraction t, kind_abstraction))
  variable_row (variable i) kids t w r q =
      let e : ident_of (word (variable i)) ≡ i = ident_word (variable i) t ∙ ident_variable i in
      let one : 1 ≤ i = (variable_id i t).0 in
      let in_ids : i ≤ length (ids_in u) = omega (arith, r, length_ids u.depth u.marks u.own) in
      record {
        some = omega (arith, e, one);
        bound = omega (arith, e, r);
        writes =
            in_variable b u.depth (ids_in u) i kids nothing (w ∙ count_variable i) one in_ids
            ∙ ap (node (variable (get_or (ids_in u) (i - 1) 0)) nothing) (in_nothing b u.depth (ids_in u))
            ∙ ap (λ (j : ℕ). single (get_or (ids_in u) (j - 1) 0)) (sym e);
      }
  variable_row (pattern x c) kids t w r q = absurd (omega (arith, q, kind_word (pattern x c) t, kind_pattern x c))

  record PatternRow (h : Head) (kids : Row) : Type 0 where
    known : ident_of (word h) < vars
    within : inside h u.own ≡ u.own
    writes : written_in b u.depth (ids_in u) (node h kids nothing) ≡ replaced (variable_in b u.depth (ids_in u) kids) 0 (b (ident_of (word h)))

  pattern_row : ((x : ℕ) → x < vars → width (b x) ≡ 1) → (h : Head) (kids : Row) → InTable h → RightHead vars k u.own h → RightRow vars k (inside h u.own) kids → kind_of (word h) ≡ 3 → PatternRow h kids
  pattern_row one (symbol i c) kids t r g q = absurd (omega (arith, q, kind_word (symbol i c) t, kind_symbol i c))
  pattern_row one abstraction kids t r g q = absurd (omega (arith, q, kind_word abstraction t, kind_abstraction))
  pattern_row one (variable i) kids t r g q = absurd (omega (arith, q, kind_word (variable i) t, kind_variable i))
  pattern_row one (pattern x c) kids t r g q =
      let e : ident_of (word (pattern x c)) ≡ x = ident_word (pattern x c) t ∙ ident_pattern x c in
      let n : u.own ≡ length (ids_in u) = sym (length_ids u.depth u.marks u.own) in
      let low : RightRow vars k (length (ids_in u)) kids = rw (← n) (rw (inside_pattern x c u.own) at g) in
      let m = variable_in b u.depth (ids_in u) kids in
      record {
        known = rw e r.0;
        within = inside_pattern x c u.own;
        writes =
            in_pattern vars k b one u.depth (ids_in u) x c kids nothing low
            ∙ ap (λ (t : Row). replaced (variable_in b u.depth (ids_in u) kids) 0 (b x) ⧺ t) (in_nothing b u.depth (ids_in u))
            ∙ join_nothing (replaced m 0 (b x))
            ∙ ap (λ (y : ℕ). replaced (variable_in b u.depth (ids_in u) kids) 0 (b y)) (sym e);
      }

  -- a symbol or abstraction
  record InnerRow (h : Head) (kids : Row) : Type 0 where
    own_is : (inside_right (word h) u).own ≡ inside h u.own
    writes : written_in b u.depth (ids_in u) (node h kids nothing) ≡ node h (written_in b (inside_right (word h) u).depth (ids_in (inside_right (word h) u)) kids) nothing

  inner_row : Around u → u.own < 16 → (h : Head) (kids : Row) → InTable h → (kind_of (word h) ≡ 2 → ⊥) → (kind_of (word h) ≡ 3 → ⊥) → InnerRow h kids
  inner_row a m (symbol i c) kids t v q =
      let z : kind_of (word (symbol i c)) ≡ 0 = kind_word (symbol i c) t ∙ kind_symbol i c in
      let e : inside_right (word (symbol i c)) u ≡ lowered u = inside_other_is u (word (symbol i c)) (λ o. omega (arith, o, z)) in
      record {
        own_is = ap (λ (v : Place). v.own) e ∙ sym (inside_symbol i c u.own);
        writes =
            in_symbol b u.depth (ids_in u) i c kids nothing
            ∙ ap (node (symbol i c) (written_in b u.depth (ids_in u) kids)) (in_nothing b u.depth (ids_in u))
            ∙ ap (λ (v : Place). node (symbol i c) (written_in b v.depth (ids_in v) kids) nothing) (sym e);
      }
  inner_row a m abstraction kids t v q =
      let z : kind_of (word abstraction) ≡ 1 = kind_word abstraction t ∙ kind_abstraction in
      let e : inside_right (word abstraction) u ≡ entered (lowered u) = inside_abstraction_is u (word abstraction) z in
      let d : 1 + u.depth ≡ u.depth + 1 = omega arith in
      record {
        own_is = ap (λ (v : Place). v.own) e ∙ omega (arith, inside_abstraction u.own);
        writes =
            in_abstraction b u.depth (ids_in u) kids nothing
            ∙ ap (node abstraction (written_in b (1 + u.depth) (1 ∷ deeper 1 (ids_in u)) kids)) (in_nothing b u.depth (ids_in u))
            ∙ ap₂ (λ (d : ℕ) (ids : List ℕ). node abstraction (written_in b d ids kids) nothing) d (sym (in_entered u a m))
            ∙ ap (λ (v : Place). node abstraction (written_in b v.depth (ids_in v) kids) nothing) (sym e);
      }
  inner_row a m (variable i) kids t v q = absurd (v (kind_word (variable i) t ∙ kind_variable i))
  inner_row a m (pattern x c) kids t v q = absurd (q (kind_word (pattern x c) t ∙ kind_pattern x c))

module _ (u : Place) (levels : ℕ) (right : List ℕ) (at : ℕ) (bodies lengths out : List ℕ) (to : ℕ) where
  pub right_ended : (done : List ℕ) → length right ≤ at → RightTold u levels 1 right at bodies lengths out to done None
  unfolding RightTold
  right_ended done e vars k b p after s g l = absurd (omega (arith, e, (right_first vars k u.own right 1 at (λ z. omega (arith, z)) p after s).within))

  pub right_low : (done : List ℕ) → 16 ≤ u.own → RightTold u levels 1 right at bodies lengths out to done None
  unfolding RightTold
  right_low done e vars k b p after s g l = absurd (omega (arith, e, (right_first vars k u.own right 1 at (λ z. omega (arith, z)) p after s).shallow))

  pub right_variable : kind_of (get_or right at 0) ≡ 2 → (i : ℕ) → (1 ≤ ident_of (get_or right at 0) → ident_of (get_or right at 0) ≤ u.own → i ≡ get_or (ids_in u) (ident_of (get_or right at 0) - 1) 0)
      → (done : List ℕ) (r : Option ℕ) → RowBuilt levels out to done (single i) r → RightTold u levels 1 right at bodies lengths out to done r
  unfolding RightTold
  right_variable two i own_is done r wrote vars k b p after s g l = shown (one_tree vars k u.own right at p after s)
    where
      shown : OneTree vars k u.own right at p after → RowBuilt levels out to done (written_in b u.depth (ids_in u) p) r
      shown x =
          let v = variable_row vars k b u x.head x.kids x.table x.full x.here (ap kind_of x.word_is ∙ two) in
          let e : ident_of (word x.head) ≡ ident_of (get_or right at 0) = ap ident_of x.word_is in
          let id : i ≡ get_or (ids_in u) (ident_of (get_or right at 0) - 1) 0 = own_is (omega (arith, v.some, e)) (omega (arith, v.bound, e)) in
          let t : written_in b u.depth (ids_in u) p ≡ single i = ap (written_in b u.depth (ids_in u)) x.is ∙ v.writes ∙ ap (λ (j : ℕ). single (get_or (ids_in u) (j - 1) 0)) e ∙ ap single (sym id) in
          rw t wrote

  pub right_pattern : kind_of (get_or right at 0) ≡ 3 → (done : List ℕ) (r : Option ℕ) → PatternTold u levels (get_or right at 0) right (at + 1) bodies lengths out to done r
      → RightTold u levels 1 right at bodies lengths out to done r
  unfolding RightTold PatternTold
  right_pattern three done r told vars k b p after s g l = shown (one_tree vars k u.own right at p after s)
    where
      shown : OneTree vars k u.own right at p after → RowBuilt levels out to done (written_in b u.depth (ids_in u) p) r
      shown x =
          let v = pattern_row vars k b u (λ y h. (g.body y h).one) x.head x.kids x.table x.here x.below.good (ap kind_of x.word_is ∙ three) in
          let e : ident_of (word x.head) ≡ ident_of (get_or right at 0) = ap ident_of x.word_is in
          let below : RightStands vars k u.own (count_of (get_or right at 0)) right (at + 1) x.kids after = rw v.within at x.below in
          let t : written_in b u.depth (ids_in u) p ≡ replaced (variable_in b u.depth (ids_in u) x.kids) 0 (b (ident_of (get_or right at 0))) =
          ap (written_in b u.depth (ids_in u)) x.is ∙ v.writes ∙ ap (λ (y : ℕ). replaced (variable_in b u.depth (ids_in u) x.kids) 0 (b y)) e in
          rw t (told vars k b x.kids after below g (omega (arith, v.known, e)) l)

  -- ---- a symbol or abstraction
  module _ (a : Around u) (m : u.own < 16) (no_variable : kind_of (get_or right at 0) ≡ 2 → ⊥) (no_pattern : kind_of (get_or right at 0) ≡ 3 → ⊥) where
    inner_is : (vars : ℕ) (k : ℕ → ℕ) (b : ℕ → Row) (p : Row) (after : List ℕ) (x : OneTree vars k u.own right at p after) → InnerRow vars k b u x.head x.kids
    inner_is vars k b p after x =
        inner_row vars k b u a m x.head x.kids x.table (λ e. no_variable (ap kind_of (sym x.word_is) ∙ e)) (λ e. no_pattern (ap kind_of (sym x.word_is) ∙ e))

    pub right_deep : (done : List ℕ) → levels ≡ 0 → RightTold u levels 1 right at bodies lengths out to done None
    unfolding RightTold
    right_deep done z vars k b p after s g l = shown (one_tree vars k u.own right at p after s)
      where
        shown : OneTree vars k u.own right at p after → RowBuilt levels out to done (written_in b u.depth (ids_in u) p) None
        shown x =
            let e = ap (written_in b u.depth (ids_in u)) x.is ∙ (inner_is vars k b p after x).writes in
            rw e (λ f n r. omega (arith, n, z, nesting_node x.head (written_in b (inside_right (word x.head) u).depth (ids_in (inside_right (word x.head) u)) x.kids) nothing))

    pub right_full : (done : List ℕ) → 4096 ≤ to → RightTold u levels 1 right at bodies lengths out to done None
    unfolding RightTold
    right_full done h vars k b p after s g l = shown (one_tree vars k u.own right at p after s)
      where
        shown : OneTree vars k u.own right at p after → RowBuilt levels out to done (written_in b u.depth (ids_in u) p) None
        shown x =
            let e = ap (written_in b u.depth (ids_in u)) x.is ∙ (inner_is vars k b p after x).writes in
            rw e (row_full levels out to x.head (written_in b (inside_right (word x.head) u).depth (ids_in (inside_right (word x.head) u)) x.kids) done h)

    pub right_inner : 1 ≤ levels → to < 4096 → (done : List ℕ) (r : Option ℕ)
        → RightTold (inside_right (get_or right at 0) u) (levels - 1) (count_of (get_or right at 0)) right (at + 1) bodies lengths (set out to (get_or right at 0)) (to + 1) done r
        → RightTold u levels 1 right at bodies lengths out to done r
    unfolding RightTold
    right_inner one room done r told vars k b p after s g l = shown (one_tree vars k u.own right at p after s)
      where
        shown : OneTree vars k u.own right at p after → RowBuilt levels out to done (written_in b u.depth (ids_in u) p) r
        shown x =
            let i = inner_is vars k b p after x in
            let inner = inside_right (word x.head) u in
            let own_is : (inside_right (word x.head) u).own ≡ inside x.head u.own = i.own_is in
            let own-here : (inside_right (get_or right at 0) u).own ≡ inside x.head u.own = rw x.word_is at own_is in
            let below : RightStands vars k (inside_right (get_or right at 0) u).own (count_of (get_or right at 0)) right (at + 1) x.kids after = rw own-here x.below in
            let n : length (ids_in (inside_right (word x.head) u)) ≡ inside x.head u.own = length_ids inner.depth inner.marks inner.own ∙ own_is in
            let w : width (written_in b (inside_right (word x.head) u).depth (ids_in (inside_right (word x.head) u)) x.kids) ≡ Word.count x.head =
            width_in_written vars k b (λ y h. (g.body y h).one) inner.depth (ids_in (inside_right (word x.head) u)) x.kids (rw n x.below.good) ∙ x.full in
            let e = ap (written_in b u.depth (ids_in u)) x.is ∙ i.writes in
            rw e
            (row_node levels out to x.head (written_in b (inside_right (word x.head) u).depth (ids_in (inside_right (word x.head) u)) x.kids) x.table w one done r
            (rw x.word_is (told vars k b x.kids after below g (omega (arith, room)))))
