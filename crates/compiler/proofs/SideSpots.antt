-- A loaded left side stands at its spots: its words one after the other, the abstractions passed, and at the root alone a number.
use mathlib.Core.Path.{◌≡◌, refl, sym, ap, ◌∙◌}
use mathlib.Core.Bool.{Bool, true, false}
use mathlib.Core.List.{List, [], ◌∷◌, ◌++◌, append-nil}
use mathlib.Core.Option.{Option, none, some}
use Prim.Native.Nat.{ℕ, suc, ◌+◌, ◌≤◌, ◌<◌}
use native.Mathlib.Omega.{arith}
use lib.ListN.{length, get_or, drop, length-append}
use Rattle.term.specs.Word.{Head, symbol, abstraction, variable, pattern, word, count, kind_of}
use Rattle.term.specs.Row.{Row, nothing, node, width, words, Formed}
use Rattle.term.specs.Renumber.{inside}
use Rattle.term.proofs.Laws.{never, and_left, and_right, words_nothing, words_node, width_nothing, width_node, formed_node, kind_word, kind_symbol, kind_abstraction, kind_pattern, count_variable, count_pattern, inside_symbol, inside_abstraction}
use Rattle.book.specs.Rule.{id_before, ids_of, list_for, left_shape, root_symbol}
use Rattle.book.proofs.Laws.{ids_nothing, ids_node, left_symbol, left_abstraction, left_variable, left_pattern, root_abstraction, root_variable, root_pattern, ids_counted}
use Rattle.fit.specs.Left.{Left, end, hole, part, ids_or, left_of}
use Rattle.fit.specs.Constraint.{Place}
use Rattle.fit.proofs.Laws.{left_of_nothing, left_of_symbol, left_of_abstraction, left_of_pattern}
use Rattle.tree.specs.Told.Covered.{numbered_as}
use Rattle.tree.specs.Path.{Uncovered, root}
use Rattle.compiler.specs.Told.Stands.{spread, ListAt, LeftAt, HeadKinds}
use Rattle.compiler.specs.Told.Tables.{many_at, head_kind}
use Rattle.compiler.specs.Told.Loaded.{reaches_to, depth_of}
use Rattle.tree.proofs.Laws.{root_numbered_lem, below_root}
use Rattle.compiler.proofs.SideDepths.{NodeAt, node_at_lem, below_symbol, below_abstraction, beside_word}
use Rattle.compiler.proofs.TableLaws.{head_symbol, head_abstraction, other_kind}

-- ---- clauses
list_none : (fixed nums : List ℕ) (k : ℕ) → ListAt fixed nums k []
unfolding ListAt
list_none fixed nums k = tt

list_more : (fixed nums : List ℕ) (k y : ℕ) (ys : List ℕ) → get_or fixed k 0 ≡ word (variable y) → get_or nums k 0 ≡ 0 → ListAt fixed nums (suc k) ys → ListAt fixed nums k (y ∷ ys)
unfolding ListAt
list_more fixed nums k y ys a b c = (a, b, c)

at_end_lem : (fixed nums : List ℕ) (us : List Uncovered) (k : ℕ) (p : Place) (i d : ℕ) → LeftAt fixed nums us k p i d end
unfolding LeftAt
at_end_lem fixed nums us k p i d = tt

at_hole : (fixed nums : List ℕ) (us : List Uncovered) (k : ℕ) (p : Place) (i d x : ℕ) (ys : List ℕ) (rest : Left)
    → get_or fixed k 0 ≡ word (pattern x (length ys)) → get_or fixed (4096 + k) 0 ≡ d → get_or nums k 0 ≡ numbered_as (i ∷ p) us
    → ListAt fixed nums (suc k) ys → LeftAt fixed nums us (k + 1 + length ys) p (suc i) d rest → LeftAt fixed nums us k p i d (hole x ys rest)
unfolding LeftAt
at_hole fixed nums us k p i d x ys rest a b c l r = (a, b, c, l, r)

at_part : (fixed nums : List ℕ) (us : List Uncovered) (k : ℕ) (p : Place) (i d : ℕ) (h : Head) (kids rest : Left)
    → get_or fixed k 0 ≡ word h → get_or nums k 0 ≡ numbered_as (i ∷ p) us
    → LeftAt fixed nums us (suc k) (i ∷ p) 0 (inside h d) kids → LeftAt fixed nums us (k + 1 + spread kids) p (suc i) d rest → LeftAt fixed nums us k p i d (part h kids rest)
unfolding LeftAt
at_part fixed nums us k p i d h kids rest a b l r = (a, b, l, r)

spread_none : spread end ≡ 0
unfolding spread
spread_none = refl

spread_of_hole : (x : ℕ) (ys : List ℕ) (rest : Left) → spread (hole x ys rest) ≡ 1 + length ys + spread rest
unfolding spread
spread_of_hole x ys rest = refl

spread_of_part : (h : Head) (kids rest : Left) → spread (part h kids rest) ≡ 1 + spread kids + spread rest
unfolding spread
spread_of_part h kids rest = refl

-- ---- a left side has as many words as its row
list_words : (d : ℕ) (kids : Row) → Formed kids → list_for d (ids_of kids) ≡ true → (ids_of kids ≡ some (ids_or (ids_of kids))) × (length (ids_or (ids_of kids)) ≡ length (words kids)) × (length (ids_or (ids_of kids)) ≡ width kids)
list_words d kids f e = go (ids_of kids) refl e
  where
    go : (o : Option (List ℕ)) → ids_of kids ≡ o → list_for d o ≡ true → (o ≡ some (ids_or o)) × (length (ids_or o) ≡ length (words kids)) × (length (ids_or o) ≡ width kids)
    go none q e = never (cc)
    go (some ys) q e = let c = ids_counted kids f ys q in (refl, c.0 ∙ sym c.1, c.0)

row_long : (h : Head) (kids rest : Row) → length (words (node h kids rest)) ≡ 1 + length (words kids) + length (words rest)
row_long h kids rest = ap length (words_node h kids rest) ∙ omega (arith, length-append (words kids) (words rest))

pub spread_left : (f : Row) → Formed f → (d : ℕ) → left_shape d f ≡ true → spread (left_of f) ≡ length (words f)
spread_left nothing f d s = ap spread left_of_nothing ∙ spread_none ∙ sym (ap length words_nothing)
spread_left (node (symbol i c) kids rest) f d s =
    let n = formed_node (symbol i c) kids rest f in
    let e = sym (left_symbol d i c kids rest) ∙ s in
    let a = spread_left kids n.below d (and_left (left_shape d kids) (left_shape d rest) e) in
    let b = spread_left rest n.beside d (and_right (left_shape d kids) (left_shape d rest) e) in
    ap spread (left_of_symbol i c kids rest) ∙ omega (arith, spread_of_part (symbol i c) (left_of kids) (left_of rest), row_long (symbol i c) kids rest, a, b)
spread_left (node abstraction kids rest) f d s =
    let n = formed_node abstraction kids rest f in
    let e = sym (left_abstraction d kids rest) ∙ s in
    let a = spread_left kids n.below (suc d) (and_left (left_shape (suc d) kids) (left_shape d rest) e) in
    let b = spread_left rest n.beside d (and_right (left_shape (suc d) kids) (left_shape d rest) e) in
    ap spread (left_of_abstraction kids rest) ∙ omega (arith, spread_of_part abstraction (left_of kids) (left_of rest), row_long abstraction kids rest, a, b)
spread_left (node (variable i) kids rest) f d s = never (let z = left_variable d i kids rest in cc)
spread_left (node (pattern x c) kids rest) f d s =
    let n = formed_node (pattern x c) kids rest f in
    let e = sym (left_pattern d x c kids rest) ∙ s in
    let a = list_words d kids n.below (and_left (list_for d (ids_of kids)) (left_shape d rest) e) in
    let b = spread_left rest n.beside d (and_right (list_for d (ids_of kids)) (left_shape d rest) e) in
    ap spread (left_of_pattern x c kids rest) ∙ omega (arith, spread_of_hole x (ids_or (ids_of kids)) (left_of rest), row_long (pattern x c) kids rest, a.1, b)

-- heads are symbols and abstractions, and pattern variables are neither
kinds_end : HeadKinds end
unfolding HeadKinds
kinds_end = tt

kinds_hole : (x : ℕ) (ys : List ℕ) (rest : Left) → head_kind (word (pattern x (length ys))) ≡ false → HeadKinds rest → HeadKinds (hole x ys rest)
unfolding HeadKinds
kinds_hole x ys rest a b = (a, b)

kinds_part : (h : Head) (kids rest : Left) → head_kind (word h) ≡ true → HeadKinds kids → HeadKinds rest → HeadKinds (part h kids rest)
unfolding HeadKinds
kinds_part h kids rest a b c = (a, b, c)

pub kinds_left : (f : Row) → Formed f → (d : ℕ) → left_shape d f ≡ true → HeadKinds (left_of f)
kinds_left nothing f d s = rw left_of_nothing kinds_end
kinds_left (node (symbol i c) kids rest) f d s =
    let n = formed_node (symbol i c) kids rest f in
    let e = sym (left_symbol d i c kids rest) ∙ s in
    rw (left_of_symbol i c kids rest)
    (kinds_part (symbol i c) (left_of kids) (left_of rest) (sym (head_symbol (word (symbol i c)) 0 (sym (kind_word (symbol i c) n.table ∙ kind_symbol i c)) refl))
    (kinds_left kids n.below d (and_left (left_shape d kids) (left_shape d rest) e))
    (kinds_left rest n.beside d (and_right (left_shape d kids) (left_shape d rest) e)))
kinds_left (node abstraction kids rest) f d s =
    let n = formed_node abstraction kids rest f in
    let e = sym (left_abstraction d kids rest) ∙ s in
    rw (left_of_abstraction kids rest)
    (kinds_part abstraction (left_of kids) (left_of rest) (sym (head_abstraction (word abstraction) 1 (sym (kind_word abstraction n.table ∙ kind_abstraction)) (λ x. omega (arith, x))))
    (kinds_left kids n.below (suc d) (and_left (left_shape (suc d) kids) (left_shape d rest) e))
    (kinds_left rest n.beside d (and_right (left_shape (suc d) kids) (left_shape d rest) e)))
kinds_left (node (variable i) kids rest) f d s = never (let z = left_variable d i kids rest in cc)
kinds_left (node (pattern x c) kids rest) f d s =
    let n = formed_node (pattern x c) kids rest f in
    let e = sym (left_pattern d x c kids rest) ∙ s in
    let a = list_words d kids n.below (and_left (list_for d (ids_of kids)) (left_shape d rest) e) in
    let z : c ≡ length (ids_or (ids_of kids)) = sym (count_pattern x c) ∙ sym n.full ∙ sym a.2 in
    let kind : kind_of (word (pattern x c)) ≡ 3 = kind_word (pattern x c) n.table ∙ kind_pattern x c in
    let w : head_kind (word (pattern x c)) ≡ false = other_kind (word (pattern x c)) (λ k. omega (arith, k, kind)) (λ k. omega (arith, k, kind)) in
    rw (left_of_pattern x c kids rest)
    (kinds_hole x (ids_or (ids_of kids)) (left_of rest) (rw z at w) (kinds_left rest n.beside d (and_right (list_for d (ids_of kids)) (left_shape d rest) e)))

none_wide : (f : Row) → width f ≡ 0 → f ≡ nothing
none_wide nothing e = refl
none_wide (node h kids rest) e = absurd (omega (arith, width_node h kids rest, e))

none_before : (p : ℕ → Bool) → many_at p 0 0 ≡ 0
unfolding many_at
none_before p = refl

-- ---- the tables have a left side's words from `base` on
module _ (fixed nums ws : List ℕ) (base : ℕ) (worded : (o : ℕ) → o < length ws → get_or fixed (base + o) 0 ≡ get_or ws o 0)
    (passed : (o : ℕ) → o < length ws → get_or fixed (4096 + (base + o)) 0 ≡ depth_of ws o) (unnumbered : (o : ℕ) → 0 < o → o < length ws → get_or nums (base + o) 0 ≡ 0) where
  word_at_lem : (k o : ℕ) (h : Head) (kids rest : Row) (after : List ℕ) → k ≡ base + o → NodeAt ws o h kids rest after → get_or fixed k 0 ≡ word h
  word_at_lem k o h kids rest after e t = rw e (worded o t.inside_words ∙ t.first)

  number_at : (k o : ℕ) (h : Head) (kids rest : Row) (after : List ℕ) → k ≡ base + o → 0 < o → NodeAt ws o h kids rest after → get_or nums k 0 ≡ 0
  number_at k o h kids rest after e l t = rw e (unnumbered o l t.inside_words)

  depth_at_lem : (k o : ℕ) (h : Head) (kids rest : Row) (after : List ℕ) → k ≡ base + o → NodeAt ws o h kids rest after → get_or fixed (4096 + k) 0 ≡ many_at (reaches_to ws o) 0 o
  unfolding depth_of
  depth_at_lem k o h kids rest after e t = rw e (passed o t.inside_words)

  list_at : (kids : Row) → Formed kids → (ys : List ℕ) → ids_of kids ≡ some ys → (k o : ℕ) (after : List ℕ) → k ≡ base + o → 0 < o → drop o ws ≡ words kids ++ after → ListAt fixed nums k ys
  list_at nothing f ys e k o after q l s =
      let z : ys ≡ [] = (let y = sym ids_nothing ∙ e in let x : some [] ≡ some ys = y in cc) in
      rw z (list_none fixed nums k)
  list_at (node h kids rest) f ys e k o after q l s =
      let n = formed_node h kids rest f in
      go h (ids_of rest) refl (sym (ids_node h kids rest) ∙ e) n.full (node_at_lem ws o h kids rest after f s) (λ zs k' o' a b c. list_at rest n.beside zs a k' o' after b (omega (arith, l, c)))
    where
      go : (g : Head) (o' : Option (List ℕ)) → ids_of rest ≡ o' → id_before g o' ≡ some ys → width kids ≡ count g → NodeAt ws o g kids rest after
          → ((zs : List ℕ) (k' o'' : ℕ) → ids_of rest ≡ some zs → k' ≡ base + o'' → o ≤ o'' → drop o'' ws ≡ words rest ++ after → ListAt fixed nums k' zs) → ListAt fixed nums k ys
      go (symbol i c) o' a b w t r = never (cc)
      go abstraction o' a b w t r = never (cc)
      go (pattern i c) o' a b w t r = never (cc)
      go (variable i) none a b w t r = never (cc)
      go (variable i) (some zs) a b w t r =
          let z : ys ≡ i ∷ zs = (let x : some (i ∷ zs) ≡ some ys = b in cc) in
          let y : length (words kids) ≡ 0 = ap (λ (u : Row). length (words u)) (none_wide kids (w ∙ count_variable i)) ∙ ap length words_nothing in
          rw z (list_more fixed nums k i zs (word_at_lem k o (variable i) kids rest after q t) (number_at k o (variable i) kids rest after q l t)
          (r zs (suc k) (o + 1 + length (words kids)) a (omega (arith, q, y)) (omega arith) t.beside))

  -- the trees i, i+1, .. below a place that is not the top
  left_at : (f : Row) → Formed f → (d : ℕ) → left_shape d f ≡ true → (k o i j : ℕ) (p : Place) (after : List ℕ) → k ≡ base + o → 0 < o → drop o ws ≡ words f ++ after
      → ((q : ℕ) → o ≤ q → q < o + length (words f) → many_at (reaches_to ws q) 0 o ≡ d) → LeftAt fixed nums (root ∷ []) k (j ∷ p) i d (left_of f)
  left_at nothing f d s k o i j p after e l w m = rw left_of_nothing (at_end_lem fixed nums (root ∷ []) k (j ∷ p) i d)
  left_at (node (symbol x c) kids rest) f d s k o i j p after e l w m =
      let h = symbol x c in
      let n = formed_node h kids rest f in
      let u = sym (left_symbol d x c kids rest) ∙ s in
      let a = and_left (left_shape d kids) (left_shape d rest) u in
      let b = and_right (left_shape d kids) (left_shape d rest) u in
      let t = node_at_lem ws o h kids rest after f w in
      rw (left_of_symbol x c kids rest)
      (at_part fixed nums (root ∷ []) k (j ∷ p) i d h (left_of kids) (left_of rest) (word_at_lem k o h kids rest after e t) (number_at k o h kids rest after e l t ∙ sym (below_root i j p))
      (rw (inside_symbol x c d) (left_at kids n.below d a (suc k) (o + 1) 0 i (j ∷ p) (words rest ++ after) (omega (arith, e)) (omega (arith, l)) t.below
      (λ q y z. below_symbol ws o h kids rest after f t q d (m q (omega (arith, y)) (omega (arith, z, t.long))) (kind_symbol x c))))
      (left_at rest n.beside d b (k + 1 + spread (left_of kids)) (o + 1 + length (words kids)) (suc i) j p after (omega (arith, e, spread_left kids n.below d a)) (omega (arith, l)) t.beside
      (λ q y z. beside_word ws o h kids rest after f t q d (m q (omega (arith, y)) (omega (arith, z, t.long))) y)))
  left_at (node abstraction kids rest) f d s k o i j p after e l w m =
      let h = abstraction in
      let n = formed_node h kids rest f in
      let u = sym (left_abstraction d kids rest) ∙ s in
      let a = and_left (left_shape (suc d) kids) (left_shape d rest) u in
      let b = and_right (left_shape (suc d) kids) (left_shape d rest) u in
      let t = node_at_lem ws o h kids rest after f w in
      rw (left_of_abstraction kids rest)
      (at_part fixed nums (root ∷ []) k (j ∷ p) i d h (left_of kids) (left_of rest) (word_at_lem k o h kids rest after e t) (number_at k o h kids rest after e l t ∙ sym (below_root i j p))
      (rw (inside_abstraction d) (left_at kids n.below (suc d) a (suc k) (o + 1) 0 i (j ∷ p) (words rest ++ after) (omega (arith, e)) (omega (arith, l)) t.below
      (λ q y z. below_abstraction ws o h kids rest after f t q d (m q (omega (arith, y)) (omega (arith, z, t.long))) kind_abstraction y z)))
      (left_at rest n.beside d b (k + 1 + spread (left_of kids)) (o + 1 + length (words kids)) (suc i) j p after (omega (arith, e, spread_left kids n.below (suc d) a)) (omega (arith, l)) t.beside
      (λ q y z. beside_word ws o h kids rest after f t q d (m q (omega (arith, y)) (omega (arith, z, t.long))) y)))
  left_at (node (variable x) kids rest) f d s k o i j p after e l w m = never (let z = left_variable d x kids rest in cc)
  left_at (node (pattern x c) kids rest) f d s k o i j p after e l w m =
      let h = pattern x c in
      let n = formed_node h kids rest f in
      let u = sym (left_pattern d x c kids rest) ∙ s in
      let a = list_words d kids n.below (and_left (list_for d (ids_of kids)) (left_shape d rest) u) in
      let b = and_right (list_for d (ids_of kids)) (left_shape d rest) u in
      let t = node_at_lem ws o h kids rest after f w in
      let z : c ≡ length (ids_or (ids_of kids)) = sym (count_pattern x c) ∙ sym n.full ∙ sym a.2 in
      rw (left_of_pattern x c kids rest)
      (at_hole fixed nums (root ∷ []) k (j ∷ p) i d x (ids_or (ids_of kids)) (left_of rest) (word_at_lem k o h kids rest after e t ∙ ap (λ (v : ℕ). word (pattern x v)) z)
      (depth_at_lem k o h kids rest after e t ∙ m o (omega arith) (omega (arith, t.long))) (number_at k o h kids rest after e l t ∙ sym (below_root i j p))
      (list_at kids n.below (ids_or (ids_of kids)) a.0 (suc k) (o + 1) (words rest ++ after) (omega (arith, e)) (omega arith) t.below)
      (left_at rest n.beside d b (k + 1 + length (ids_or (ids_of kids))) (o + 1 + length (words kids)) (suc i) j p after (omega (arith, e, a.1)) (omega (arith, l)) t.beside
      (λ q y z. beside_word ws o h kids rest after f t q d (m q (omega (arith, y)) (omega (arith, z, t.long))) y)))

  -- the whole left side: its root is a symbol, which has the number of the root
  pub side_at : (f : Row) → Formed f → width f ≡ 1 → root_symbol f ≡ true → left_shape 0 f ≡ true → ws ≡ words f → get_or nums base 0 ≡ 1 → LeftAt fixed nums (root ∷ []) base [] 0 0 (left_of f)
  side_at nothing f w r s e z = absurd (omega (arith, w, width_nothing))
  side_at (node (symbol x c) kids rest) f w r s e z =
      let h = symbol x c in
      let n = formed_node h kids rest f in
      let u = sym (left_symbol 0 x c kids rest) ∙ s in
      let a = and_left (left_shape 0 kids) (left_shape 0 rest) u in
      let t = node_at_lem ws 0 h kids rest [] f (e ∙ sym (append-nil (words (node h kids rest)))) in
      let g : rest ≡ nothing = none_wide rest (omega (arith, w, width_node h kids rest)) in
      let y : left_of rest ≡ end = ap left_of g ∙ left_of_nothing in
      rw (left_of_symbol x c kids rest, y)
      (at_part fixed nums (root ∷ []) base [] 0 0 h (left_of kids) end (word_at_lem base 0 h kids rest [] (omega arith) t) (z ∙ sym root_numbered_lem)
      (rw (inside_symbol x c 0) (left_at kids n.below 0 a (suc base) 1 0 0 [] (words rest ++ []) (omega arith) (omega arith) t.below
      (λ q v b. below_symbol ws 0 h kids rest [] f t q 0 (none_before (reaches_to ws q)) (kind_symbol x c))))
      (at_end_lem fixed nums (root ∷ []) (base + 1 + spread (left_of kids)) [] 1 0))
  side_at (node abstraction kids rest) f w r s e z = never (let y = root_abstraction kids rest in cc)
  side_at (node (variable x) kids rest) f w r s e z = never (let y = root_variable x kids rest in cc)
  side_at (node (pattern x c) kids rest) f w r s e z = never (let y = root_pattern x c kids rest in cc)
