-- What is written is a term but for its limits: each node is in the table, but that an id may be over 65,535. So it is formed just where no id is.
use mathlib.Core.Path.{◌≡◌, refl, sym, ap, ◌∙◌}
use mathlib.Core.Bool.{true, ◌&&◌}
use mathlib.Core.List.{[]}
use Prim.Native.Nat.{ℕ, zero, suc, ◌+◌, ◌-◌, ◌≤◌, ◌<◌}
use native.Mathlib.Omega.{arith}
use lib.Dec.{leb}
use lib.ListN.{length}
use borrow.Author.Tests.{leb-true}
use Rattle.term.specs.Word.{Head, symbol, abstraction, variable, pattern, rank, count, InTable}
use Rattle.term.specs.Row.{Row, nothing, node, width, words, nesting, ranks, Formed, ◌⧺◌}
use Rattle.term.specs.Renumber.{id_term, inside, renumber_head, renumber}
use Rattle.term.proofs.Laws.{and_left, and_right, rank_symbol, rank_abstraction, count_variable, join_nothing_left, join_node, words_node, width_join, width_node, width_nothing, ranks_join, ranks_node, ranks_nothing, rank_variable, formed_nothing, formed_node, node_formed, renumber_nothing, renumber_node, renumber_symbol, renumber_abstraction, renumber_variable, renumber_pattern, term_own, term_outside, term_keeps, variable_id, id_variable}
use Rattle.fit.specs.Constraint.{tree}
use Rattle.fit.specs.Build.{id_in, largest, within_limits}
use Rattle.fit.proofs.Laws.{tree_nothing, tree_first, tree_later, largest_node, within_limits_is}
use Rattle.steps.specs.Right.{shifted, single, replaced_tree, replaced, in_body, written_tree, write}
use Rattle.steps.specs.Told.Told.{RightHead, RightRow}
use Rattle.steps.proofs.Replaced.{replaced_nothing, replaced_node}
use Rattle.steps.proofs.Writing.{write_nothing, write_node, shifted_is, in_own, in_inner, in_outside, IdCase, own, inner, outside, id_case}

-- ---- widths
pub some_long : (t : Row) → width t ≡ 1 → 0 < length (words t)
some_long nothing e = let z : ◌≡◌ {A = ℕ} 0 1 = sym width_nothing ∙ e in absurd (omega (arith, z))
some_long (node h kids rest) e = rw (words_node h kids rest) (omega arith)

pub width_tree : (r : Row) (j : ℕ) → j < width r → width (tree r j) ≡ 1
width_tree nothing j h = absurd (omega (arith, width_nothing))
width_tree (node h kids rest) zero l = rw (tree_first h kids rest) (width_node h kids nothing ∙ ap suc width_nothing)
width_tree (node h kids rest) (suc j) l = rw (tree_later h kids rest j) (width_tree rest j (omega (arith, width_node h kids rest)))

width_single : (i : ℕ) → width (single i) ≡ 1
width_single i = width_node (variable i) nothing nothing ∙ ap suc width_nothing

pub width_shifted : (e : ℕ) (t : Row) → width (shifted e t) ≡ width t
unfolding shifted
width_shifted e t = (term_keeps e [] t).wide

pub width_in : (d : ℕ) (children : Row) (e i : ℕ) → width (in_body d children e i) ≡ 1
width_in d children e i = go (id_case e (width children) i)
  where
    go : IdCase e (width children) i → width (in_body d children e i) ≡ 1
    go (own h) = rw (in_own d children e i h) (width_single i)
    go (inner h l) = rw (in_inner d children e i h l) (width_shifted e (tree children (i - e - 1)) ∙ width_tree children (i - e - 1) (omega arith))
    go (outside h) = rw (in_outside d children e i h) (width_single (i - width children + d))

width_replaced_tree : (m : ℕ → Row) → ((i : ℕ) → width (m i) ≡ 1) → (h : Head) (kids : Row) → width (replaced_tree m h kids) ≡ 1
width_replaced_tree m w (symbol i c) kids = width_node (symbol i c) kids nothing ∙ ap suc width_nothing
width_replaced_tree m w abstraction kids = width_node abstraction kids nothing ∙ ap suc width_nothing
width_replaced_tree m w (variable i) kids = w i
width_replaced_tree m w (pattern x c) kids = width_node (pattern x c) kids nothing ∙ ap suc width_nothing

pub width_replaced : (m : ℕ → ℕ → Row) → ((e i : ℕ) → width (m e i) ≡ 1) → (e : ℕ) (t : Row) → width (replaced m e t) ≡ width t
width_replaced m w e nothing = ap width (replaced_nothing m e)
width_replaced m w e (node h kids rest) =
    ap width (replaced_node m e h kids rest)
    ∙ width_join (replaced_tree (m e) h (replaced m (inside h e) kids)) (replaced m e rest)
    ∙ omega (arith, width_replaced_tree (m e) (w e) h (replaced m (inside h e) kids), width_replaced m w e rest, width_node h kids rest)

-- ---- a term but for its limits
abbrev pub ShapedHead : Head → Type 0
ShapedHead (symbol i c) = InTable (symbol i c)
ShapedHead abstraction = InTable abstraction
ShapedHead (variable i) = 1 ≤ i
ShapedHead (pattern x c) = InTable (pattern x c)

unfoldable pub Shaped : Row → Type 0
Shaped nothing = Unit {0}
Shaped (node h kids rest) = ShapedHead h × (width kids ≡ count h) × Shaped kids × Shaped rest

table_shaped : (h : Head) → InTable h → ShapedHead h
table_shaped (symbol i c) t = t
table_shaped abstraction t = t
table_shaped (variable i) t = (variable_id i t).0
table_shaped (pattern x c) t = t

shaped_table : (h : Head) → ShapedHead h → id_in h ≤ 65535 → InTable h
shaped_table (symbol i c) t l = t
shaped_table abstraction t l = t
shaped_table (variable i) t l = id_variable i (t, l)
shaped_table (pattern x c) t l = t

pub formed_shaped : (t : Row) → Formed t → Shaped t
unfolding Shaped
formed_shaped nothing f = tt
formed_shaped (node h kids rest) f =
    let n = formed_node h kids rest f in
    (table_shaped h n.table, n.full, formed_shaped kids n.below, formed_shaped rest n.beside)

pub shaped_formed : (t : Row) → Shaped t → largest t ≤ 65535 → Formed t
unfolding Shaped
shaped_formed nothing s l = formed_nothing
shaped_formed (node h kids rest) s l =
    let m = largest_node h kids rest in
    node_formed h kids rest
    (record { table = shaped_table h s.0 (omega (arith, l, m)); full = s.1; below = shaped_formed kids s.2 (omega (arith, l, m)); beside = shaped_formed rest s.3 (omega (arith, l, m)) })

pub shaped_join : (f g : Row) → Shaped f → Shaped g → Shaped (f ⧺ g)
unfolding Shaped
shaped_join nothing g p q = rw (join_nothing_left g) q
shaped_join (node h kids rest) g p q = rw (join_node h kids rest g) (p.0, p.1, p.2, shaped_join rest g p.3 q)

shaped_single : (i : ℕ) → 1 ≤ i → Shaped (single i)
unfolding Shaped
shaped_single i h = (h, width_nothing ∙ sym (count_variable i), tt, tt)

shaped_tree : (r : Row) (j : ℕ) → Shaped r → Shaped (tree r j)
unfolding Shaped
shaped_tree nothing j s = rw (tree_nothing j) tt
shaped_tree (node h kids rest) zero s = rw (tree_first h kids rest) (s.0, s.1, s.2, tt)
shaped_tree (node h kids rest) (suc j) s = rw (tree_later h kids rest j) (shaped_tree rest j s.3)

shaped_head : (m : ℕ → ℕ → ℕ) → ((e i : ℕ) → 1 ≤ i → 1 ≤ m e i) → (e : ℕ) (h : Head) → ShapedHead h → ShapedHead (renumber_head m e h) × (count (renumber_head m e h) ≡ count h)
shaped_head m p e (symbol i c) s = rw (renumber_symbol m e i c) (s, refl)
shaped_head m p e abstraction s = rw (renumber_abstraction m e) (s, refl)
shaped_head m p e (variable i) s = rw (renumber_variable m e i) (p e i s, count_variable (m e i) ∙ sym (count_variable i))
shaped_head m p e (pattern x c) s = rw (renumber_pattern m e x c) (s, refl)

pub width_renumber : (m : ℕ → ℕ → ℕ) (e : ℕ) (t : Row) → width (renumber m e t) ≡ width t
width_renumber m e nothing = ap width (renumber_nothing m e)
width_renumber m e (node h kids rest) =
    ap width (renumber_node m e h kids rest)
    ∙ width_node (renumber_head m e h) (renumber m (inside h e) kids) (renumber m e rest)
    ∙ ap suc (width_renumber m e rest) ∙ sym (width_node h kids rest)

shaped_renumber : (m : ℕ → ℕ → ℕ) → ((e i : ℕ) → 1 ≤ i → 1 ≤ m e i) → (e : ℕ) (t : Row) → Shaped t → Shaped (renumber m e t)
unfolding Shaped
shaped_renumber m p e nothing s = rw (renumber_nothing m e) tt
shaped_renumber m p e (node h kids rest) s =
    let g = shaped_head m p e h s.0 in
    rw (renumber_node m e h kids rest)
    (g.0, width_renumber m (inside h e) kids ∙ s.1 ∙ sym g.1, shaped_renumber m p (inside h e) kids s.2, shaped_renumber m p e rest s.3)

shift_some : (e f i : ℕ) → 1 ≤ i → 1 ≤ id_term e [] f i
shift_some e f i h = go (id_case f 0 i)
  where
    go : IdCase f 0 i → 1 ≤ id_term e [] f i
    go (own a) = rw (term_own e [] f i a) h
    go (inner a b) = absurd (omega arith)
    go (outside a) = rw (term_outside e [] f i a) (omega arith)

pub shaped_shifted : (e : ℕ) (t : Row) → Shaped t → Shaped (shifted e t)
shaped_shifted e t s = rw (shifted_is e t) (shaped_renumber (id_term e []) (shift_some e) 0 t s)

pub shaped_in : (d : ℕ) (children : Row) → Shaped children → (e i : ℕ) → 1 ≤ i → Shaped (in_body d children e i)
shaped_in d children s e i one = go (id_case e (width children) i)
  where
    go : IdCase e (width children) i → Shaped (in_body d children e i)
    go (own h) = rw (in_own d children e i h) (shaped_single i one)
    go (inner h l) = rw (in_inner d children e i h l) (shaped_shifted e (tree children (i - e - 1)) (shaped_tree children (i - e - 1) s))
    go (outside h) = rw (in_outside d children e i h) (shaped_single (i - width children + d) (omega arith))

module _ (m : ℕ → ℕ → Row) (w : (e i : ℕ) → width (m e i) ≡ 1) where
  shaped_replaced_tree : (e : ℕ) (h : Head) (kids : Row) → ShapedHead h → width kids ≡ count h → ((i : ℕ) → 1 ≤ i → Shaped (m e i)) → Shaped kids → Shaped (replaced_tree (m e) h kids)
  unfolding Shaped
  shaped_replaced_tree e (symbol i c) kids t f s k = (t, f, k, tt)
  shaped_replaced_tree e abstraction kids t f s k = (t, f, k, tt)
  shaped_replaced_tree e (variable i) kids t f s k = s i t
  shaped_replaced_tree e (pattern x c) kids t f s k = (t, f, k, tt)

  pub shaped_replaced : ((e i : ℕ) → 1 ≤ i → Shaped (m e i)) → (e : ℕ) (t : Row) → Shaped t → Shaped (replaced m e t)
  unfolding Shaped
  shaped_replaced s e nothing p = rw (replaced_nothing m e) tt
  shaped_replaced s e (node h kids rest) p =
      rw (replaced_node m e h kids rest)
      (shaped_join (replaced_tree (m e) h (replaced m (inside h e) kids)) (replaced m e rest)
      (shaped_replaced_tree e h (replaced m (inside h e) kids) p.0 (width_replaced m w (inside h e) kids ∙ p.1) (s e) (shaped_replaced s (inside h e) kids p.2))
      (shaped_replaced s e rest p.3))

-- ---- ranks
few_shifted : (e : ℕ) (t : Row) → ranks t ≤ 2 → ranks (shifted e t) ≤ 2
unfolding shifted
few_shifted e t h = omega (arith, (term_keeps e [] t).rank)

few_tree : (r : Row) (j : ℕ) → ranks r ≤ 2 → ranks (tree r j) ≤ 2
few_tree nothing j h = rw (tree_nothing j) h
few_tree (node g kids rest) zero h = rw (tree_first g kids rest) (omega (arith, ranks_node g kids rest, ranks_node g kids nothing, ranks_nothing))
few_tree (node g kids rest) (suc j) h = rw (tree_later g kids rest j) (few_tree rest j (omega (arith, ranks_node g kids rest)))

few_single : (i : ℕ) → ranks (single i) ≤ 2
few_single i = omega (arith, ranks_node (variable i) nothing nothing, ranks_nothing, rank_variable i)

pub few_in : (d : ℕ) (children : Row) → ranks children ≤ 2 → (e i : ℕ) → ranks (in_body d children e i) ≤ 2
few_in d children k e i = go (id_case e (width children) i)
  where
    go : IdCase e (width children) i → ranks (in_body d children e i) ≤ 2
    go (own h) = rw (in_own d children e i h) (few_single i)
    go (inner h l) = rw (in_inner d children e i h l) (few_shifted e (tree children (i - e - 1)) (few_tree children (i - e - 1) k))
    go (outside h) = rw (in_outside d children e i h) (few_single (i - width children + d))

few_node : (h : Head) (kids : Row) → rank h ≤ 2 → ranks kids ≤ 2 → ranks (node h kids nothing) ≤ 2
few_node h kids a b = omega (arith, ranks_node h kids nothing, ranks_nothing)

few_replaced_tree : (m : ℕ → Row) → ((i : ℕ) → ranks (m i) ≤ 2) → (h : Head) (kids : Row) → rank h ≤ 2 → ranks kids ≤ 2 → ranks (replaced_tree m h kids) ≤ 2
few_replaced_tree m f (symbol i c) kids a b = few_node (symbol i c) kids a b
few_replaced_tree m f abstraction kids a b = few_node abstraction kids a b
few_replaced_tree m f (variable i) kids a b = f i
few_replaced_tree m f (pattern x c) kids a b = few_node (pattern x c) kids a b

pub few_replaced : (m : ℕ → ℕ → Row) → ((e i : ℕ) → ranks (m e i) ≤ 2) → (e : ℕ) (t : Row) → ranks t ≤ 2 → ranks (replaced m e t) ≤ 2
few_replaced m f e nothing k = rw (replaced_nothing m e) k
few_replaced m f e (node h kids rest) k =
    let n = ranks_node h kids rest in
    rw (replaced_node m e h kids rest)
    (omega (
      arith,
      ranks_join (replaced_tree (m e) h (replaced m (inside h e) kids)) (replaced m e rest),
      few_replaced_tree (m e) (f e) h (replaced m (inside h e) kids) (omega (arith, n)) (few_replaced m f (inside h e) kids (omega (arith, n))),
      few_replaced m f e rest (omega (arith, n)),
    ))

-- ---- what is written
module _ (vars : ℕ) (b : ℕ → Row) (one : (x : ℕ) → x < vars → width (b x) ≡ 1) (k : ℕ → ℕ) where
  pub width_written_tree : (d : ℕ) (h : Head) (children : Row) → RightHead vars k d h → width (written_tree b d h children) ≡ 1
  width_written_tree d (symbol i c) children r = width_node (symbol i c) children nothing ∙ ap suc width_nothing
  width_written_tree d abstraction children r = width_node abstraction children nothing ∙ ap suc width_nothing
  width_written_tree d (variable i) children r = width_node (variable i) children nothing ∙ ap suc width_nothing
  width_written_tree d (pattern x c) children r = width_replaced (in_body d children) (width_in d children) 0 (b x) ∙ one x r.0

  -- as many trees as the right side has
  pub width_written : (d : ℕ) (p : Row) → RightRow vars k d p → width (write b d p) ≡ width p
  unfolding RightRow
  width_written d nothing r = ap width (write_nothing b d)
  width_written d (node h kids rest) r =
      ap width (write_node b d h kids rest)
      ∙ width_join (written_tree b d h (write b (inside h d) kids)) (write b d rest)
      ∙ omega (arith, width_written_tree d h (write b (inside h d) kids) r.2, width_written d rest r.4, width_node h kids rest)

  few_written_tree : ((x : ℕ) → x < vars → ranks (b x) ≤ 2) → (d : ℕ) (h : Head) (children : Row) → RightHead vars k d h → ranks children ≤ 2 → ranks (written_tree b d h children) ≤ 2
  few_written_tree f d (symbol i c) children r s = few_node (symbol i c) children (omega (arith, rank_symbol i c)) s
  few_written_tree f d abstraction children r s = few_node abstraction children (omega (arith, rank_abstraction)) s
  few_written_tree f d (variable i) children r s = few_node (variable i) children (omega (arith, rank_variable i)) s
  few_written_tree f d (pattern x c) children r s = few_replaced (in_body d children) (few_in d children s) 0 (b x) (f x r.0)

  -- no pattern variable is left
  pub few_written : ((x : ℕ) → x < vars → ranks (b x) ≤ 2) → (d : ℕ) (p : Row) → RightRow vars k d p → ranks (write b d p) ≤ 2
  unfolding RightRow
  few_written f d nothing r = rw (write_nothing b d) (omega (arith, ranks_nothing))
  few_written f d (node h kids rest) r =
      rw (write_node b d h kids rest)
      (omega (
        arith,
        ranks_join (written_tree b d h (write b (inside h d) kids)) (write b d rest),
        few_written_tree f d h (write b (inside h d) kids) r.2 (few_written f (inside h d) kids r.3),
        few_written f d rest r.4,
      ))

  shaped_written_tree : ((x : ℕ) → x < vars → Formed (b x)) → (d : ℕ) (h : Head) (children : Row) → InTable h → width children ≡ count h → RightHead vars k d h → Shaped children → Shaped (written_tree b d h children)
  unfolding Shaped
  shaped_written_tree f d (symbol i c) children t w r s = (t, w, s, tt)
  shaped_written_tree f d abstraction children t w r s = (t, w, s, tt)
  shaped_written_tree f d (variable i) children t w r s = (table_shaped (variable i) t, w, s, tt)
  shaped_written_tree f d (pattern x c) children t w r s =
      shaped_replaced (in_body d children) (width_in d children) (shaped_in d children s) 0 (b x) (formed_shaped (b x) (f x r.0))

  pub shaped_written : ((x : ℕ) → x < vars → Formed (b x)) → (d : ℕ) (p : Row) → RightRow vars k d p → Shaped (write b d p)
  unfolding RightRow Shaped
  shaped_written f d nothing r = rw (write_nothing b d) tt
  shaped_written f d (node h kids rest) r =
      rw (write_node b d h kids rest)
      (shaped_join (written_tree b d h (write b (inside h d) kids)) (write b d rest)
      (shaped_written_tree f d h (write b (inside h d) kids) r.0 (width_written (inside h d) kids r.3 ∙ r.1) r.2 (shaped_written f (inside h d) kids r.3))
      (shaped_written f d rest r.4))

-- ---- the limits: within them a row that is a term but for its limits is one
pub limits_within : (t : Row) → Shaped t → within_limits t ≡ true → Formed t × (nesting t ≤ 64) × (length (words t) ≤ 4096)
limits_within t s e =
    let p : leb (length (words t)) 4096 && (leb (nesting t) 64 && leb (largest t) 65535) ≡ true = sym (within_limits_is t) ∙ e in
    let q : leb (nesting t) 64 && leb (largest t) 65535 ≡ true = and_right (leb (length (words t)) 4096) (leb (nesting t) 64 && leb (largest t) 65535) p in (
      shaped_formed t s (leb-true (largest t) 65535 (and_right (leb (nesting t) 64) (leb (largest t) 65535) q)),
      leb-true (nesting t) 64 (and_left (leb (nesting t) 64) (leb (largest t) 65535) q),
      leb-true (length (words t)) 4096 (and_left (leb (length (words t)) 4096) (leb (nesting t) 64 && leb (largest t) 65535) p),
    )
