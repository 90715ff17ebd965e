-- One symbol or abstraction of a left side, over one tree of the term.
use mathlib.Core.Path.{◌≡◌, refl, sym, ap, ◌∙◌}
use mathlib.Core.List.{List, ◌∷◌, ◌++◌}
use mathlib.Core.Option.{none, some}
use Prim.Native.Nat.{ℕ, suc, ◌+◌, ◌-◌, ◌≤◌, ◌<◌}
use native.Mathlib.Omega.{arith}
use native.Mathlib.Numerals.{add-one}
use lib.ListN.{length, drop, get_or}
use lib.Seq.{drop-cons}
use borrow.Author.Tests.{eq-eqb, ne_eqb}
use Rattle.term.specs.Word
use Rattle.term.specs.Word.{Head, symbol, abstraction, variable, pattern, kind, kind_of, count_of, word, InTable}
use Rattle.term.specs.Row.{Row, nothing, node, width, words, ranks, nesting, Formed}
use Rattle.term.specs.Renumber.{inside}
use Rattle.term.specs.Told.Walk.{inside_word}
use Rattle.term.proofs.Laws.{nesting_node, ranks_node, formed_node, count_word_lem, kind_word, inside_is, count_symbol, count_abstraction, kind_pattern, inside_symbol, inside_abstraction, abstraction_in_table}
use Rattle.std.specs.Prelude.{Some, None}
use Rattle.fit.specs.Left.{Left, end, part, left_of}
use Rattle.fit.specs.Fit.{Found, found}
use Rattle.fit.specs.Told.Told.{LeftRow, LeftStands, TermStands, Knows, agreed_from, FitTold, Offsets}
use Rattle.fit.proofs.Basics.{single, Single, same_word}
use Rattle.fit.proofs.FitRow.{words_tree, both_end}

-- a symbol or abstraction with its children
pub record InnerRow (vars d : ℕ) (h : Head) (kids : Row) : Type 0 where
  pub table : InTable h
  pub full : width kids ≡ Word.count h
  pub below : LeftRow vars (inside h d) kids
  pub is : left_of (node h kids nothing) ≡ part h (left_of kids) end

pub inner_row : (vars d : ℕ) (h : Head) (kids : Row) → (kind h ≡ 3 → ⊥) → LeftRow vars d (node h kids nothing) → InnerRow vars d h kids
unfolding LeftRow left_of
inner_row vars d (symbol i c) kids n p = record { table = p.0; full = p.1 ∙ sym (count_symbol i c); below = rw (inside_symbol i c d) p.2; is = refl }
inner_row vars d abstraction kids n p = record { table = abstraction_in_table; full = p.0 ∙ sym count_abstraction; below = rw (inside_abstraction d) p.1; is = refl }
inner_row vars d (variable i) kids n p = absurd p
inner_row vars d (pattern x c) kids n p = absurd (n (kind_pattern x c))

-- the head of a tree that stands, and the words of its children
pub head_at_lem : (at : ℕ) (ws : List ℕ) (h : Head) (kids : Row) (after : List ℕ) → at < length ws → drop at ws ≡ words (node h kids nothing) ++ after
    → (word h ≡ get_or ws at 0) × (drop (at + 1) ws ≡ words kids ++ after)
head_at_lem at ws h kids after l e =
    let c : drop at ws ≡ get_or ws at 0 ∷ drop (suc at) ws = drop-cons ws at 0 l in
    let q : drop at ws ≡ word h ∷ (words kids ++ after) = e ∙ ap (λ (x : List ℕ). x ++ after) (words_tree h kids) in
    (cc, rw add-one (cc))

pub found_inner : (d : ℕ) (h g : Head) (k : Left) (ts : Row) → word h ≡ word g → found d (part h k end) (node g ts nothing) ≡ found (inside h d) k ts
unfolding found
found_inner d h g k ts e = rw (eq-eqb (word h) (word g) e) (both_end (found (inside h d) k ts))

found_other : (d : ℕ) (h g : Head) (k : Left) (ts : Row) → (word h ≡ word g → ⊥) → found d (part h k end) (node g ts nothing) ≡ none
unfolding found
found_other d h g k ts n = rw (ne_eqb (word h) (word g) n)

module _ (vars d levels : ℕ) (left : List ℕ) (at : ℕ) (term : List ℕ) (to : ℕ) (table done : List ℕ) (la : at < length left) (lt : to < length term) (inner : kind_of (get_or left at 0) ≡ 3 → ⊥) where
  -- the trees and what is known of them
  record Trees (p : Row) (after : List ℕ) (t : Row) (beyond : List ℕ) : Type 0 where
    head : Head
    kids : Row
    other : Head
    parts : Row
    left_is : p ≡ node head kids nothing
    term_is : t ≡ node other parts nothing
    row : InnerRow vars d head kids
    left_word : word head ≡ get_or left at 0
    term_word : word other ≡ get_or term to 0
    left_rest : drop (at + 1) left ≡ words kids ++ after
    term_rest : drop (to + 1) term ≡ words parts ++ beyond

  table_left : (vars d : ℕ) (h : Head) (kids : Row) → LeftRow vars d (node h kids nothing) → InTable h
  unfolding LeftRow
  table_left vars d (symbol i c) kids p = p.0
  table_left vars d abstraction kids p = abstraction_in_table
  table_left vars d (variable i) kids p = absurd p
  table_left vars d (pattern x c) kids p = p.0

  trees : (p : Row) (after : List ℕ) (t : Row) (beyond : List ℕ) → LeftStands vars d levels 1 left at p after → TermStands 1 term to t beyond → Trees p after t beyond
  trees p after t beyond s u = made (single p s.wide) (single t u.wide)
    where
      made : Single p → Single t → Trees p after t beyond
      made x y =
          let a = head_at_lem at left x.head x.children after la (s.same ∙ ap (λ (r : Row). words r ++ after) x.is) in
          let b = head_at_lem to term y.head y.children beyond lt (u.same ∙ ap (λ (r : Row). words r ++ beyond) y.is) in
          let g : LeftRow vars d (node x.head x.children nothing) = rw x.is at s.good in
          record {
            head = x.head;
            kids = x.children;
            other = y.head;
            parts = y.children;
            left_is = x.is;
            term_is = y.is;
            row = inner_row vars d x.head x.children (λ e. inner (ap kind_of (sym a.0) ∙ kind_word x.head (table_left vars d x.head x.children g) ∙ e)) g;
            left_word = a.0;
            term_word = b.0;
            left_rest = a.1;
            term_rest = b.1;
          }

  pub inner_differ : (get_or left at 0 ≡ get_or term to 0 → ⊥) → FitTold vars d levels 1 left at term to table done None
  unfolding FitTold
  inner_differ n p after t beyond l s u k = shown (trees p after t beyond s u)
    where
      shown : Trees p after t beyond → agreed_from l (found d (left_of p) t) ≡ none
      shown x = rw (x.left_is, x.term_is, x.row.is, found_other d x.head x.other (left_of x.kids) x.parts (λ e. n (sym x.left_word ∙ e ∙ x.term_word)))

  module _ (same : get_or left at 0 ≡ get_or term to 0) where
    -- the children of the two trees, side by side
    module _ (p : Row) (after : List ℕ) (t : Row) (beyond : List ℕ) (s : LeftStands vars d levels 1 left at p after) (u : TermStands 1 term to t beyond) (x : Trees p after t beyond) where
      words_same : word x.head ≡ word x.other
      words_same = x.left_word ∙ same ∙ sym x.term_word

      formed_other : Formed (node x.other x.parts nothing)
      formed_other = rw x.term_is at u.formed

      heads_same : x.head ≡ x.other
      heads_same = same_word x.head x.other x.row.table (formed_node x.other x.parts nothing formed_other).table words_same

      counted : Word.count x.head ≡ count_of (get_or left at 0)
      counted = sym (count_word_lem x.head x.row.table) ∙ ap count_of x.left_word

      passed : inside x.head d ≡ inside_word (get_or left at 0) d
      passed = sym (inside_is x.head d x.row.table) ∙ ap (λ (w : ℕ). inside_word w d) x.left_word

      left_below : LeftStands vars (inside_word (get_or left at 0) d) (levels - 1) (count_of (get_or left at 0)) left (at + 1) x.kids after
      left_below =
          let n : nesting (node x.head x.kids nothing) ≤ levels = rw x.left_is at s.low in
          record {
            good = rw (← passed) x.row.below;
            low = omega (arith, n, nesting_node x.head x.kids nothing);
            wide = x.row.full ∙ counted;
            same = x.left_rest;
          }

      term_below_lem : TermStands (count_of (get_or left at 0)) term (to + 1) x.parts beyond
      term_below_lem =
          let f = formed_node x.other x.parts nothing formed_other in
          let k : ranks (node x.other x.parts nothing) ≤ 2 = rw x.term_is at u.few in
          let n : nesting (node x.other x.parts nothing) ≤ 64 = rw x.term_is at u.low in
          record {
            formed = f.below;
            few = omega (arith, k, ranks_node x.other x.parts nothing);
            low = omega (arith, n, nesting_node x.other x.parts nothing);
            wide = f.full ∙ sym (ap Word.count heads_same) ∙ counted;
            same = x.term_rest;
          }

      found_same : found d (left_of p) t ≡ found (inside_word (get_or left at 0) d) (left_of x.kids) x.parts
      found_same =
          rw (x.left_is, x.term_is, x.row.is, found_inner d x.head x.other (left_of x.kids) x.parts words_same, passed)

      long_left : length (words p) ≡ 1 + length (words x.kids)
      long_left = ap (λ (r : Row). length (words r)) x.left_is ∙ ap length (words_tree x.head x.kids) ∙ omega arith

      long_term : length (words t) ≡ 1 + length (words x.parts)
      long_term = ap (λ (r : Row). length (words r)) x.term_is ∙ ap length (words_tree x.other x.parts) ∙ omega arith

      inner_done : (a b : ℕ) (l : Found) → Knows left term table l
          → FitTold vars (inside_word (get_or left at 0) d) (levels - 1) (count_of (get_or left at 0)) left (at + 1) term (to + 1) table done (Some (a, b))
          → (m : Found) × (agreed_from l (found d (left_of p) t) ≡ some m) × Knows left term done (l ++ m) × (a ≡ at + length (words p)) × (b ≡ to + length (words t))
      unfolding FitTold
      inner_done a b l k told =
          let r = told x.kids after x.parts beyond l left_below term_below_lem k in
          (r.0, rw found_same r.1, r.2, omega (arith, r.3, long_left), omega (arith, r.4, long_term))

      inner_stuck : (l : Found) → Knows left term table l
          → FitTold vars (inside_word (get_or left at 0) d) (levels - 1) (count_of (get_or left at 0)) left (at + 1) term (to + 1) table done None
          → agreed_from l (found d (left_of p) t) ≡ none
      unfolding FitTold
      inner_stuck l k told = rw found_same (told x.kids after x.parts beyond l left_below term_below_lem k)

    -- what is told of the children is told of the trees
    pub inner_told : (r : Offsets) → FitTold vars (inside_word (get_or left at 0) d) (levels - 1) (count_of (get_or left at 0)) left (at + 1) term (to + 1) table done r
        → FitTold vars d levels 1 left at term to table done r
    unfolding FitTold
    inner_told (Some (a, b)) told = λ p after t beyond l s u k. inner_done p after t beyond s u (trees p after t beyond s u) a b l k told
    inner_told None told = λ p after t beyond l s u k. inner_stuck p after t beyond s u (trees p after t beyond s u) l k told
