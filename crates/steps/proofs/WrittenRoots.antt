-- The root of what a right side writes: renumbering keeps it, so it is the root of the right side, of a body, or of the child that the body's parameter stands for.
use mathlib.Core.Path.{◌≡◌, refl, sym, ap, ◌∙◌}
use mathlib.Core.List.{List, []}
use Prim.Native.Nat.{ℕ, ◌+◌, ◌-◌, ◌≤◌, ◌<◌}
use native.Mathlib.Omega.{arith}
use lib.ListN.{length, get_or}
use borrow.Author.Tests.{eq-eqb, ne_eqb}
use Rattle.term.specs.Word.{Head, symbol, abstraction, variable, pattern, word, InTable, kind_of, count_of, ident_of}
use Rattle.term.specs.Row.{Row, nothing, node, width, ◌⧺◌}
use Rattle.term.specs.Renumber.{inside, id_term, renumber, renumber_head}
use Rattle.term.proofs.Laws.{kind_word, ident_word, kind_symbol, kind_abstraction, kind_variable, kind_pattern, ident_pattern, inside_pattern, join_nothing, join_node, renumber_nothing, renumber_node, renumber_symbol, renumber_abstraction, renumber_variable, renumber_pattern}
use Rattle.fit.specs.Build.{start_of}
use Rattle.fit.specs.Constraint.{tree}
use Rattle.fit.proofs.Laws.{term_first}
use Rattle.std.specs.Prelude.{Option, None}
use Rattle.steps.specs.Right.{shifted, single, replaced, in_body, write}
use Rattle.steps.specs.Told.Told.{RightHead}
use Rattle.steps.specs.Told.RightWalk.{BodiesStand, child_at, RightStands}
use Rattle.steps.specs.Told.Aside.{root_head, root_is, root_of_word, RootTold}
use Rattle.steps.proofs.Shaped.{width_written}
use Rattle.steps.proofs.Writing.{write_nothing, write_node, write_pattern, shifted_is, in_own, in_inner, in_outside}
use Rattle.steps.proofs.OnePass.{tree_written}
use Rattle.steps.proofs.RightTrees.{right_first, one_tree, child_stands_at}
use Rattle.steps.proofs.BodyLaws.{variable_tree, node_tree}
use Rattle.steps.proofs.BodyTrees.{one_body, whole_body}

-- ---- roots
pub root_node : (h : Head) (kids rest : Row) → root_is (node h kids rest) ≡ root_head h
unfolding root_is
root_node h kids rest = refl

root_join : (h : Head) (kids rest g : Row) → root_is (node h kids rest ⧺ g) ≡ root_head h
root_join h kids rest g = ap root_is (join_node h kids rest g) ∙ root_node h kids (rest ⧺ g)

-- the root by its word
pub root_word_lem : (h : Head) → InTable h → root_head h ≡ root_of_word (word h)
root_word_lem (symbol i c) t = rw (eq-eqb (kind_of (word (symbol i c))) 0 (kind_word (symbol i c) t ∙ kind_symbol i c))
root_word_lem abstraction t = rw (ne_eqb (kind_of (word abstraction)) 0 (λ z. omega (arith, z, kind_word abstraction t, kind_abstraction)))
root_word_lem (variable i) t = rw (ne_eqb (kind_of (word (variable i))) 0 (λ z. omega (arith, z, kind_word (variable i) t, kind_variable i)))
root_word_lem (pattern x c) t = rw (ne_eqb (kind_of (word (pattern x c))) 0 (λ z. omega (arith, z, kind_word (pattern x c) t, kind_pattern x c)))

-- renumbering keeps it
root_renumbered : (m : ℕ → ℕ → ℕ) (e : ℕ) (h : Head) → root_head (renumber_head m e h) ≡ root_head h
root_renumbered m e (symbol i c) = ap root_head (renumber_symbol m e i c)
root_renumbered m e abstraction = ap root_head (renumber_abstraction m e)
root_renumbered m e (variable i) = ap root_head (renumber_variable m e i)
root_renumbered m e (pattern x c) = ap root_head (renumber_pattern m e x c)

root_shifted : (e : ℕ) (t : Row) → root_is (shifted e t) ≡ root_is t
root_shifted e nothing = ap root_is (shifted_is e nothing ∙ renumber_nothing (id_term e []) 0)
root_shifted e (node h kids rest) =
    ap root_is (shifted_is e (node h kids rest) ∙ renumber_node (id_term e []) 0 h kids rest)
    ∙ root_node (renumber_head (id_term e []) 0 h) (renumber (id_term e []) (inside h 0) kids) (renumber (id_term e []) 0 rest)
    ∙ root_renumbered (id_term e []) 0 h
    ∙ sym (root_node h kids rest)

root_single : (i : ℕ) → root_is (single i) ≡ None
root_single i = root_node (variable i) nothing nothing

-- ---- a symbol, abstraction or variable of a right side is written as it stands
plain_root : (b : ℕ → Row) (h : Head) (kids : Row) → InTable h → (kind_of (word h) ≡ 3 → ⊥) → root_is (write b 0 (node h kids nothing)) ≡ root_head h
plain_root b (symbol i c) kids t n = ap root_is (write_node b 0 (symbol i c) kids nothing) ∙ root_join (symbol i c) (write b (inside (symbol i c) 0) kids) nothing (write b 0 nothing)
plain_root b abstraction kids t n = ap root_is (write_node b 0 abstraction kids nothing) ∙ root_join abstraction (write b (inside abstraction 0) kids) nothing (write b 0 nothing)
plain_root b (variable i) kids t n = ap root_is (write_node b 0 (variable i) kids nothing) ∙ root_join (variable i) (write b (inside (variable i) 0) kids) nothing (write b 0 nothing)
plain_root b (pattern x c) kids t n = absurd (n (kind_word (pattern x c) t ∙ kind_pattern x c))

-- ---- a pattern variable is written as its body
record PatternHere (vars : ℕ) (k : ℕ → ℕ) (b : ℕ → Row) (h : Head) (kids : Row) : Type 0 where
  known : ident_of (word h) < vars
  within : inside h 0 ≡ 0
  writes : write b 0 (node h kids nothing) ≡ replaced (in_body 0 (write b 0 kids)) 0 (b (ident_of (word h)))

pattern_here : (vars : ℕ) (k : ℕ → ℕ) (b : ℕ → Row) (h : Head) (kids : Row) → InTable h → RightHead vars k 0 h → kind_of (word h) ≡ 3 → PatternHere vars k b h kids
pattern_here vars k b (symbol i c) kids t r q = absurd (omega (arith, q, kind_word (symbol i c) t, kind_symbol i c))
pattern_here vars k b abstraction kids t r q = absurd (omega (arith, q, kind_word abstraction t, kind_abstraction))
pattern_here vars k b (variable i) kids t r q = absurd (omega (arith, q, kind_word (variable i) t, kind_variable i))
pattern_here vars k b (pattern x c) kids t r q =
    let e : ident_of (word (pattern x c)) ≡ x = ident_word (pattern x c) t ∙ ident_pattern x c in
    record {
      known = rw e r.0;
      within = inside_pattern x c 0;
      writes =
          write_pattern b 0 x c kids nothing
          ∙ ap (λ (t : Row). replaced (in_body 0 (write b 0 kids)) 0 (b x) ⧺ t) (write_nothing b 0)
          ∙ join_nothing (replaced (in_body 0 (write b 0 kids)) 0 (b x))
          ∙ ap (λ (y : ℕ). replaced (in_body 0 (write b 0 kids)) 0 (b y)) (sym e);
    }

module _ (right : List ℕ) (at : ℕ) (bodies lengths : List ℕ) where
  pub root_ended : length right ≤ at → (r : Option ℕ) → RootTold right at bodies lengths r
  unfolding RootTold
  root_ended l r vars k b p after s g = absurd (omega (arith, l, (right_first vars k 0 right 1 at (λ z. omega (arith, z)) p after s).within))

  pub root_plain : (w : ℕ) → w ≡ get_or right at 0 → (kind_of w ≡ 3 → ⊥) → (r : Option ℕ) → r ≡ root_of_word w → RootTold right at bodies lengths r
  unfolding RootTold
  root_plain w e n r q vars k b p after s g =
      let x = one_tree vars k 0 right at p after s in
      let v : word x.head ≡ w = x.word_is ∙ sym e in
      q ∙ ap root_of_word (sym v) ∙ sym (root_word_lem x.head x.table) ∙ sym (ap (λ (t : Row). root_is (write b 0 t)) x.is ∙ plain_root b x.head x.kids x.table (λ z. n (ap kind_of (sym v) ∙ z)))

  -- ---- a pattern variable
  module _ (three : kind_of (get_or right at 0) ≡ 3) where
    abbrev x : ℕ
    x = ident_of (get_or right at 0)

    abbrev from : ℕ
    from = start_of lengths (ident_of (get_or right at 0))

    -- what stands there: the body of a variable of the rule, whose parameters are the children behind it
    record BodyHere (vars : ℕ) (k : ℕ → ℕ) (b : ℕ → Row) (p : Row) (after : List ℕ) : Type 0 where
      kids : Row
      known : x < vars
      writes : write b 0 p ≡ replaced (in_body 0 (write b 0 kids)) 0 (b x)
      below : RightStands vars k 0 (count_of (get_or right at 0)) right (at + 1) kids after

    body_here_lem : (vars : ℕ) (k : ℕ → ℕ) (b : ℕ → Row) (p : Row) (after : List ℕ) → RightStands vars k 0 1 right at p after → BodyHere vars k b p after
    body_here_lem vars k b p after s =
        let o = one_tree vars k 0 right at p after s in
        let h = pattern_here vars k b o.head o.kids o.table o.here (ap kind_of o.word_is ∙ three) in
        let e : ident_of (word o.head) ≡ ident_of (get_or right at 0) = ap ident_of o.word_is in
        record {
          kids = o.kids;
          known = omega (arith, h.known, e);
          writes = ap (write b 0) o.is ∙ h.writes ∙ ap (λ (y : ℕ). replaced (in_body 0 (write b 0 o.kids)) 0 (b y)) e;
          below = rw h.within at o.below;
        }

    pub root_strange : 16 ≤ ident_of (get_or right at 0) → (r : Option ℕ) → RootTold right at bodies lengths r
    unfolding RootTold
    root_strange l r vars k b p after s g = let h = body_here_lem vars k b p after s in absurd (omega (arith, l, h.known, g.few))

    pub root_none : length bodies ≤ start_of lengths (ident_of (get_or right at 0)) → (r : Option ℕ) → RootTold right at bodies lengths r
    unfolding RootTold
    root_none l r vars k b p after s g =
        let h = body_here_lem vars k b p after s in
        absurd (omega (arith, l, (term_first 1 bodies from (λ z. omega (arith, z)) (b x) _ (whole_body bodies lengths x vars b g h.known)).within))

    -- the first word of the body
    module _ (v : ℕ) (there : v ≡ get_or bodies (start_of lengths (ident_of (get_or right at 0))) 0) where
      pub root_body : (kind_of v ≡ 2 → ⊥) → (r : Option ℕ) → r ≡ root_of_word v → RootTold right at bodies lengths r
      unfolding RootTold
      root_body n r q vars k b p after s g =
          let h = body_here_lem vars k b p after s in
          let o = one_body bodies from (b x) _ (whole_body bodies lengths x vars b g h.known) in
          let w : word o.head ≡ v = o.word_is ∙ sym there in
          let m = in_body 0 (write b 0 h.kids) in
          q ∙ ap root_of_word (sym w) ∙ sym (root_word_lem o.head o.table)
          ∙ sym (root_node o.head (replaced m (inside o.head 0) o.kids) nothing)
          ∙ sym (ap root_is (h.writes ∙ ap (replaced m 0) o.is ∙ node_tree m 0 o.head o.kids o.table o.low (λ z. n (ap kind_of (sym w) ∙ z))))

      -- a variable of the body
      module _ (two : kind_of v ≡ 2) where
        stands_for : (vars : ℕ) (k : ℕ → ℕ) (b : ℕ → Row) (p : Row) (after : List ℕ) (h : BodyHere vars k b p after) → BodiesStand vars bodies lengths b
            → write b 0 p ≡ in_body 0 (write b 0 h.kids) 0 (ident_of v)
        stands_for vars k b p after h g =
            let o = one_body bodies from (b x) _ (whole_body bodies lengths x vars b g h.known) in
            let w : word o.head ≡ v = o.word_is ∙ sym there in
            let m = in_body 0 (write b 0 h.kids) in
            h.writes ∙ ap (replaced m 0) o.is ∙ variable_tree m 0 o.head o.kids o.table (ap kind_of w ∙ two) ∙ ap (λ (y : ℕ). in_body 0 (write b 0 h.kids) 0 (ident_of y)) w

        pub root_own : ident_of v ≡ 0 → RootTold right at bodies lengths None
        unfolding RootTold
        root_own z vars k b p after s g =
            let h = body_here_lem vars k b p after s in
            sym (ap root_is (stands_for vars k b p after h g ∙ in_own 0 (write b 0 h.kids) 0 (ident_of v) (omega (arith, z))) ∙ root_single (ident_of v))

        wide_here : (vars : ℕ) (k : ℕ → ℕ) (b : ℕ → Row) (p : Row) (after : List ℕ) (h : BodyHere vars k b p after) → BodiesStand vars bodies lengths b
            → width (write b 0 h.kids) ≡ count_of (get_or right at 0)
        wide_here vars k b p after h g = width_written vars b (λ y l. (g.body y l).one) k 0 h.kids h.below.good ∙ h.below.wide

        pub root_outside : count_of (get_or right at 0) < ident_of v → RootTold right at bodies lengths None
        unfolding RootTold
        root_outside l vars k b p after s g =
            let h = body_here_lem vars k b p after s in
            let w = wide_here vars k b p after h g in
            sym (ap root_is (stands_for vars k b p after h g ∙ in_outside 0 (write b 0 h.kids) 0 (ident_of v) (omega (arith, l, w)))
            ∙ root_single (ident_of v - width (write b 0 h.kids) + 0))

        pub root_child : (ident_of v ≡ 0 → ⊥) → ident_of v ≤ count_of (get_or right at 0) → (to : ℕ) → to ≡ child_at right (at + 1) (ident_of v - 1) → (r : Option ℕ) → RootTold right to bodies lengths r → RootTold right at bodies lengths r
        unfolding RootTold
        root_child z l to e r told vars k b p after s g =
            let h = body_here_lem vars k b p after s in
            let w = wide_here vars k b p after h g in
            let j : ident_of v - 0 - 1 ≡ ident_of v - 1 = omega arith in
            let c = child_stands_at vars k 0 right (ident_of v - 1) (count_of (get_or right at 0)) (at + 1) h.kids after h.below (omega (arith, z, l, h.below.wide)) in
            let t : write b 0 p ≡ shifted 0 (tree (write b 0 h.kids) (ident_of v - 1)) =
            stands_for vars k b p after h g ∙ in_inner 0 (write b 0 h.kids) 0 (ident_of v) (omega (arith, z)) (omega (arith, l, w)) ∙ ap (λ (n : ℕ). shifted 0 (tree (write b 0 h.kids) n)) j in
            told vars k b (tree h.kids (ident_of v - 1)) c.0 (rw e c.1) g
            ∙ sym (ap root_is t ∙ root_shifted 0 (tree (write b 0 h.kids) (ident_of v - 1)) ∙ ap root_is (tree_written vars k b (λ y l. (g.body y l).one) 0 h.kids h.below.good (ident_of v - 1)))
