-- The abstractions counted at an offset of a left side are those that its row has there: each word's part ends where its children do.
use mathlib.Core.Path.{◌≡◌, refl, sym, ap, ◌∙◌}
use mathlib.Core.Bool.{Bool, true, false}
use mathlib.Core.List.{List, [], ◌∷◌, ◌++◌, append_assoc, append-nil}
use Prim.Native.Nat.{ℕ, zero, suc, ◌+◌, ◌-◌, ◌≤◌, ◌<◌}
use native.Mathlib.Omega.{arith}
use native.Mathlib.Decide.{dec_le}
use lib.Dec.{eqb}
use lib.ListN.{length, get_or, drop, length-append, length-drop}
use lib.Seq.{drop-drop, drop_at, get_or-drop}
use borrow.Author.Tests.{eq-eqb, ne_eqb, lt-ltb, le-ltb}
use Rattle.term.specs.Word.{Head, word, kind, kind_of, pick}
use Rattle.term.specs.Row.{Row, nothing, node, width, words, Formed}
use Rattle.term.specs.Part.{past, part_end}
use Rattle.term.proofs.Laws.{words_nothing, words_node, width_nothing, width_node, FormedNode, formed_node, node_formed, formed_nothing, kind_word, past_words, passed_first}
use Rattle.compiler.specs.Told.Tables.{many_at}
use Rattle.compiler.specs.Told.Loaded.{reaches_to}

-- ---- counting
many_none : (p : ℕ → Bool) (i : ℕ) → many_at p i 0 ≡ 0
unfolding many_at
many_none p i = refl

many_yes : (p : ℕ → Bool) (i m : ℕ) → p i ≡ true → many_at p i (suc m) ≡ suc (many_at p (suc i) m)
unfolding many_at
many_yes p i m e = rw e (omega arith)

many_no : (p : ℕ → Bool) (i m : ℕ) → p i ≡ false → many_at p i (suc m) ≡ many_at p (suc i) m
unfolding many_at
many_no p i m e = rw e (omega arith)

many_step : (p : ℕ → Bool) (i m : ℕ) → many_at p i (suc m) ≡ pick (p i) 1 0 + many_at p (suc i) m
unfolding many_at
many_step p i m = refl

many_split : (p : ℕ → Bool) (m n i t j : ℕ) → t ≡ m + n → j ≡ i + m → many_at p i t ≡ many_at p i m + many_at p j n
many_split p zero n i t j e f =
    let a : t ≡ n = omega arith in
    let b : j ≡ i = omega arith in
    rw (a, b) (omega (arith, many_none p i))
many_split p (suc m) n i t j e f =
    let z : t ≡ suc (m + n) = omega arith in
    let h = many_split p m n (suc i) (m + n) j refl (omega arith) in
    rw z (omega (arith, many_step p i (m + n), many_step p i m, h))

many_zero : (p : ℕ → Bool) (m i : ℕ) → ((a : ℕ) → i ≤ a → a < i + m → p a ≡ false) → many_at p i m ≡ 0
many_zero p zero i h = many_none p i
many_zero p (suc m) i h = many_no p i m (h i (omega arith) (omega arith)) ∙ many_zero p m (suc i) (λ a l u. h a (omega arith) (omega arith))

-- ---- a node at an offset of the words
pub record NodeAt (ws : List ℕ) (o : ℕ) (h : Head) (kids rest : Row) (after : List ℕ) : Type 0 where
  pub inside_words : o < length ws
  pub first : get_or ws o 0 ≡ word h
  pub below : drop (o + 1) ws ≡ words kids ++ (words rest ++ after)
  pub beside : drop (o + 1 + length (words kids)) ws ≡ words rest ++ after
  pub ends : part_end (drop o ws) ≡ 1 + length (words kids)
  pub long : length (words (node h kids rest)) ≡ 1 + length (words kids) + length (words rest)

further : (at n : ℕ) (ws x y : List ℕ) → drop at ws ≡ x ++ y → length x ≡ n → drop (at + n) ws ≡ y
further at n ws x y e h = sym (drop-drop n at ws) ∙ rw e (drop_at x y n h)

words_tree : (h : Head) (kids : Row) → words (node h kids nothing) ≡ word h ∷ words kids
words_tree h kids = words_node h kids nothing ∙ rw words_nothing (ap (word h ∷◌) (append-nil (words kids)))

tree_ends : (h : Head) (kids : Row) → FormedNode h kids nothing → (after : List ℕ) → part_end (word h ∷ (words kids ++ after)) ≡ 1 + length (words kids)
tree_ends h kids n after =
    let w : width (node h kids nothing) ≡ 1 = width_node h kids nothing ∙ ap suc width_nothing in
    let p : past (width (node h kids nothing)) (words (node h kids nothing) ++ after) ≡ length (words (node h kids nothing)) = past_words (node h kids nothing) (node_formed h kids nothing n) after in
    let q : past 1 (word h ∷ (words kids ++ after)) ≡ suc (length (words kids)) = rw (w, words_tree h kids) at p in
    omega (arith, passed_first (word h ∷ (words kids ++ after)), q)

pub node_at_lem : (ws : List ℕ) (o : ℕ) (h : Head) (kids rest : Row) (after : List ℕ) → Formed (node h kids rest) → drop o ws ≡ words (node h kids rest) ++ after → NodeAt ws o h kids rest after
node_at_lem ws o h kids rest after f e =
    let n = formed_node h kids rest f in
    let a : drop o ws ≡ word h ∷ (words kids ++ (words rest ++ after)) = e ∙ rw (words_node h kids rest) (ap (word h ∷◌) (append_assoc (words kids) (words rest) after)) in
    let l : length (drop o ws) ≡ suc (length (words kids ++ (words rest ++ after))) = ap length a in
    let b : drop (o + 1) ws ≡ words kids ++ (words rest ++ after) = further o 1 ws (word h ∷ []) (words kids ++ (words rest ++ after)) a refl in
    let z : o + 0 ≡ o = omega arith in
    record {
      inside_words = omega (arith, l, length-drop o ws);
      first = ap (λ (k : ℕ). get_or ws k 0) (sym z) ∙ sym (get_or-drop o ws 0 0) ∙ ap (λ (v : List ℕ). get_or v 0 0) a;
      below = b;
      beside = further (o + 1) (length (words kids)) ws (words kids) (words rest ++ after) b refl;
      ends = ap part_end a ∙ tree_ends h kids (record { table = n.table; full = n.full; below = n.below; beside = formed_nothing }) (words rest ++ after);
      long = ap length (words_node h kids rest) ∙ omega (arith, length-append (words kids) (words rest));
    }

-- ---- the parts of a row end within it
pub ends_within : (ws : List ℕ) (f : Row) → Formed f → (o : ℕ) (after : List ℕ) → drop o ws ≡ words f ++ after → (a : ℕ) → o ≤ a → a < o + length (words f) → a + part_end (drop a ws) ≤ o + length (words f)
ends_within ws nothing f o after e a l u = absurd (omega (arith, u, l, ap length words_nothing))
ends_within ws (node h kids rest) f o after e a l u =
    let n = formed_node h kids rest f in
    let t = node_at_lem ws o h kids rest after f e in
    go t (ends_within ws kids n.below (o + 1) (words rest ++ after) t.below a) (ends_within ws rest n.beside (o + 1 + length (words kids)) after t.beside a) (dec_le (o + 1) a) (dec_le (o + 1 + length (words kids)) a)
  where
    go : NodeAt ws o h kids rest after → (o + 1 ≤ a → a < o + 1 + length (words kids) → a + part_end (drop a ws) ≤ o + 1 + length (words kids))
        → (o + 1 + length (words kids) ≤ a → a < o + 1 + length (words kids) + length (words rest) → a + part_end (drop a ws) ≤ o + 1 + length (words kids) + length (words rest))
        → Dec (o + 1 ≤ a) → Dec (o + 1 + length (words kids) ≤ a) → a + part_end (drop a ws) ≤ o + length (words (node h kids rest))
    go t r s (no p) d = let z : a ≡ o = omega (arith, p, l) in rw z (omega (arith, t.ends, t.long))
    go t r s (yes p) (no q) = omega (arith, r p (omega arith), t.long)
    go t r s (yes p) (yes q) = omega (arith, s q (omega (arith, u, t.long)), t.long)

-- ---- what reaches an offset
reach_symbol : (ws : List ℕ) (q a : ℕ) → (kind_of (get_or ws a 0) ≡ 1 → ⊥) → reaches_to ws q a ≡ false
reach_symbol ws q a e = rw (ne_eqb (kind_of (get_or ws a 0)) 1 e)

reach_below : (ws : List ℕ) (q a : ℕ) → kind_of (get_or ws a 0) ≡ 1 → q - a < part_end (drop a ws) → reaches_to ws q a ≡ true
reach_below ws q a e l = rw (eq-eqb (kind_of (get_or ws a 0)) 1 e) (lt-ltb (q - a) (part_end (drop a ws)) l)

reach_past : (ws : List ℕ) (q a : ℕ) → a + part_end (drop a ws) ≤ q → reaches_to ws q a ≡ false
reach_past ws q a l = rw (le-ltb (q - a) (part_end (drop a ws)) (omega arith)) (go (eqb (kind_of (get_or ws a 0)) 1))
  where
    go : (b : Bool) → pick b false false ≡ false
    go true = refl
    go false = refl

-- the children of a word have what the word has, and the word itself where it is an abstraction; what stands beside it has what the word has
module _ (ws : List ℕ) (o : ℕ) (h : Head) (kids rest : Row) (after : List ℕ) (f : Formed (node h kids rest)) (t : NodeAt ws o h kids rest after) (q d : ℕ)
    (here : many_at (reaches_to ws q) 0 o ≡ d) where
  one_more_lem : many_at (reaches_to ws q) 0 (o + 1) ≡ d + many_at (reaches_to ws q) o 1
  one_more_lem = many_split (reaches_to ws q) o 1 0 (o + 1) o refl (omega arith) ∙ omega (arith, here)

  kind_here : kind_of (get_or ws o 0) ≡ kind h
  kind_here = ap kind_of t.first ∙ kind_word h (formed_node h kids rest f).table

  pub below_symbol : (kind h ≡ 0) → many_at (reaches_to ws q) 0 (o + 1) ≡ d
  below_symbol k =
      let e = many_no (reaches_to ws q) o 0 (reach_symbol ws q o (λ x. omega (arith, x, kind_here, k))) in
      omega (arith, one_more_lem, e, many_none (reaches_to ws q) (suc o))

  pub below_abstraction : (kind h ≡ 1) → o + 1 ≤ q → q < o + 1 + length (words kids) → many_at (reaches_to ws q) 0 (o + 1) ≡ suc d
  below_abstraction k l u =
      let e = many_yes (reaches_to ws q) o 0 (reach_below ws q o (kind_here ∙ k) (omega (arith, l, u, t.ends))) in
      omega (arith, one_more_lem, e, many_none (reaches_to ws q) (suc o))

  pub beside_word : o + 1 + length (words kids) ≤ q → many_at (reaches_to ws q) 0 (o + 1 + length (words kids)) ≡ d
  beside_word l =
      let s = many_split (reaches_to ws q) o (1 + length (words kids)) 0 (o + 1 + length (words kids)) o (omega arith) (omega arith) in
      let z = many_zero (reaches_to ws q) (1 + length (words kids)) o (λ a x y. past_it a x y (dec_le (o + 1) a)) in
      omega (arith, s, z, here)
    where
      past_it : (a : ℕ) → o ≤ a → a < o + (1 + length (words kids)) → Dec (o + 1 ≤ a) → reaches_to ws q a ≡ false
      past_it a x y (no p) = let z : a ≡ o = omega (arith, p, x) in reach_past ws q a (rw z (omega (arith, t.ends, l)))
      past_it a x y (yes p) =
          reach_past ws q a (omega (arith, ends_within ws kids (formed_node h kids rest f).below (o + 1) (words rest ++ after) t.below a p (omega arith), l))
