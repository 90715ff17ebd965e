-- Replacing a part changes its own entries, moves those behind it, and changes an earlier one just where its part reaches past the offset: such a part
-- has the replaced one among its words, and every other ends before it.
use mathlib.Core.Path.{◌≡◌, refl, sym, ap, ap₂, ◌∙◌}
use mathlib.Core.Bool.{Bool, true, false}
use mathlib.Core.List.{List, [], ◌∷◌, ◌++◌, append_assoc}
use Prim.Native.Nat.{ℕ, zero, suc, ◌+◌, ◌-◌, ◌≤◌, ◌<◌}
use native.Mathlib.Omega.{arith}
use lib.Dec.{ltb}
use lib.ListN.{length, drop, get_or, length-append, get_or-append}
use lib.Seq.{drop_at, drop-append-le, drop-append-add, get_or-append-add, get_or-drop}
use borrow.Author.Tests.{ltb-true, ltb-false, lt-ltb, le-ltb}
use Rattle.term.specs.Word.{Head}
use Rattle.term.specs.Row.{Row, nothing, node, words}
use Rattle.term.specs.Lengths.{lengths_of}
use Rattle.term.proofs.Laws.{words_nothing, words_node, lengths_nothing, lengths_node, lengths_join, lengths_many}
use Rattle.steps.specs.Offset.{part_at, spliced}
use Rattle.steps.specs.Table.{resized, spliced_table}
use Rattle.steps.proofs.Offsets.{at_offset, split, part_first, part_below, part_beside, splice_first, splice_below, splice_beside}

-- ---- how long the part and the whole are
long_node : (h : Head) (kids rest : Row) → length (words (node h kids rest)) ≡ suc (length (words kids) + length (words rest))
long_node h kids rest = ap length (words_node h kids rest) ∙ ap suc (length-append (words kids) (words rest))

long_part : (h : Head) (kids rest : Row) → length (words (part_at (node h kids rest) 0)) ≡ suc (length (words kids))
long_part h kids rest =
    let z : length (words nothing) ≡ 0 = ap length words_nothing in
    ap (λ (t : Row). length (words t)) (part_first h kids rest) ∙ omega (arith, long_node h kids nothing, z)

long_three : (xs ys zs : List ℕ) → length (xs ++ (ys ++ zs)) ≡ length xs + (length ys + length zs)
long_three xs ys zs = length-append xs (ys ++ zs) ∙ ap (λ (n : ℕ). length xs + n) (length-append ys zs)

module _ (t : Row) (at : ℕ) (l : at < length (words t)) where
  pub part_inside : at + length (words (part_at t at)) ≤ length (words t)
  part_inside =
      let s = split t at l in
      let e = ap length s.whole ∙ long_three s.before (words (part_at t at)) s.after in omega (arith, e, s.long)

  pub spliced_long : (u : Row) → length (words (spliced t at u)) + length (words (part_at t at)) ≡ length (words t) + length (words u)
  spliced_long u =
      let s = split t at l in
      let e = ap length s.whole ∙ long_three s.before (words (part_at t at)) s.after in
      let f = ap length (s.new u) ∙ long_three s.before (words u) s.after in omega (arith, e, f)

-- ---- the entries before an offset
module _ (old new : ℕ) where
  resized_past : (at n : ℕ) (ns : List ℕ) → suc at < n → resized (suc at) old new (n ∷ ns) ≡ (n + new - old) ∷ resized at old new ns
  unfolding resized
  resized_past at n ns p = rw (lt-ltb (suc at) n p)

  resized_kept : (at n : ℕ) (ns : List ℕ) → n ≤ suc at → resized (suc at) old new (n ∷ ns) ≡ n ∷ resized at old new ns
  unfolding resized
  resized_kept at n ns p = rw (le-ltb (suc at) n p)

  pub resized_many : (at : ℕ) (table : List ℕ) → at ≤ length table → length (resized at old new table) ≡ at
  unfolding resized
  resized_many zero table p = refl
  resized_many (suc at) [] p = absurd (omega arith)
  resized_many (suc at) (n ∷ ns) p = ap suc (resized_many at ns (omega arith))

  -- an entry that reaches past the offset, and one that does not
  pub resized_ancestor : (at : ℕ) (table : List ℕ) (j : ℕ) → j < at → j < length table → at < j + get_or table j 0
      → get_or (resized at old new table) j 0 ≡ get_or table j 0 + new - old
  unfolding resized
  resized_ancestor zero table j p q r = absurd (omega arith)
  resized_ancestor (suc at) [] j p q r = absurd (omega arith)
  resized_ancestor (suc at) (n ∷ ns) zero p q r = rw (lt-ltb (suc at) n (omega arith))
  resized_ancestor (suc at) (n ∷ ns) (suc j) p q r = resized_ancestor at ns j (omega arith) (omega arith) (omega arith)

  pub resized_aside : (at : ℕ) (table : List ℕ) (j : ℕ) → j < at → j < length table → j + get_or table j 0 ≤ at → get_or (resized at old new table) j 0 ≡ get_or table j 0
  unfolding resized
  resized_aside zero table j p q r = absurd (omega arith)
  resized_aside (suc at) [] j p q r = absurd (omega arith)
  resized_aside (suc at) (n ∷ ns) zero p q r = rw (le-ltb (suc at) n (omega arith))
  resized_aside (suc at) (n ∷ ns) (suc j) p q r = resized_aside at ns j (omega arith) (omega arith) (omega arith)

  resized_front : (at : ℕ) (xs ys : List ℕ) → at ≤ length xs → resized at old new (xs ++ ys) ≡ resized at old new xs
  unfolding resized
  resized_front zero xs ys p = refl
  resized_front (suc at) [] ys p = absurd (omega arith)
  resized_front (suc at) (x ∷ xs) ys p = rw (resized_front at xs ys (omega arith))

  -- a row that ends before the offset keeps its entries
  resized_over : (f : Row) (ns : List ℕ) (at : ℕ) → length (words f) ≤ at
      → resized at old new (lengths_of f ++ ns) ≡ lengths_of f ++ resized (at - length (words f)) old new ns
  resized_over nothing ns at p =
      let z : length (words nothing) ≡ 0 = ap length words_nothing in
      rw lengths_nothing (ap (λ (k : ℕ). resized k old new ns) (omega (arith, z)))
  resized_over (node h kids rest) ns zero p = absurd (omega (arith, long_node h kids rest))
  resized_over (node h kids rest) ns (suc at) p =
      let e = long_node h kids rest in
      rw (lengths_node h kids rest)
      (resized_kept at (suc (length (words kids))) ((lengths_of kids ++ lengths_of rest) ++ ns) (omega (arith, e))
      ∙ ap (λ (ms : List ℕ). suc (length (words kids)) ∷ ms)
      (ap (resized at old new) (append_assoc (lengths_of kids) (lengths_of rest) ns)
      ∙ resized_over kids (lengths_of rest ++ ns) at (omega (arith, e))
      ∙ ap (λ (ms : List ℕ). lengths_of kids ++ ms) (resized_over rest ns (at - length (words kids)) (omega (arith, e)))
      ∙ sym (append_assoc (lengths_of kids) (lengths_of rest) (resized (at - length (words kids) - length (words rest)) old new ns))
      ∙ ap (λ (k : ℕ). (lengths_of kids ++ lengths_of rest) ++ resized k old new ns) (omega (arith, e))))

-- ---- the table equals one made afresh
abbrev Afresh : Row → ℕ → Type 0
Afresh t at = (u : Row) → lengths_of (spliced t at u) ≡ spliced_table (lengths_of t) at (length (words (part_at t at))) (lengths_of u)

table_first : (table : List ℕ) (old : ℕ) (new : List ℕ) → spliced_table table 0 old new ≡ new ++ drop old table
unfolding spliced_table resized
table_first table old new = let z : 0 + old ≡ old = omega arith in ap (λ (k : ℕ). new ++ drop k table) z

afresh_here : (h : Head) (kids rest : Row) → Afresh (node h kids rest) 0
afresh_here h kids rest u =
    ap lengths_of (splice_first h kids rest u) ∙ lengths_join u rest
    ∙ ap (λ (ns : List ℕ). lengths_of u ++ ns) (sym (drop_at (lengths_of kids) (lengths_of rest) (length (words kids)) (lengths_many kids)))
    ∙ sym (table_first (lengths_of (node h kids rest)) (length (words (part_at (node h kids rest) 0))) (lengths_of u)
    ∙ ap₂ (λ (k : ℕ) (ns : List ℕ). lengths_of u ++ drop k ns) (long_part h kids rest) (lengths_node h kids rest))

-- what stands to the right of the row goes along; its root is an ancestor
table_below : (n : ℕ) (xs ys : List ℕ) (at old : ℕ) (new : List ℕ) → at < n → n ≡ length xs → at + old ≤ n
    → spliced_table (suc n ∷ (xs ++ ys)) (suc at) old new ≡ (suc n + length new - old) ∷ (spliced_table xs at old new ++ ys)
unfolding spliced_table
table_below n xs ys at old new l e i =
    let a = resized_past old (length new) at (suc n) (xs ++ ys) (omega (arith, l)) in
    let b = resized_front old (length new) at xs ys (omega (arith, l, e)) in
    let d = drop-append-le (at + old) xs ys (omega (arith, e, i)) in
    let s : suc at + old ≡ suc (at + old) = omega arith in
    ap₂ (λ (ms : List ℕ) (k : ℕ). ms ++ (new ++ drop k (suc n ∷ (xs ++ ys)))) a s
    ∙ ap (λ (ms : List ℕ). (suc n + length new - old) ∷ ms)
    (ap₂ (λ (ms : List ℕ) (ns : List ℕ). ms ++ (new ++ ns)) b d
    ∙ ap (λ (ms : List ℕ). resized at old (length new) xs ++ ms) (sym (append_assoc new (drop (at + old) xs) ys))
    ∙ sym (append_assoc (resized at old (length new) xs) (new ++ drop (at + old) xs) ys))

afresh_below : (h : Head) (kids rest : Row) (at : ℕ) → at < length (words kids) → Afresh kids at → Afresh (node h kids rest) (suc at)
afresh_below h kids rest at l p u =
    let old = length (words (part_at kids at)) in
    ap lengths_of (splice_below h kids rest at l u) ∙ lengths_node h (spliced kids at u) rest
    ∙ ap₂ (λ (n : ℕ) (ns : List ℕ). n ∷ (ns ++ lengths_of rest)) (omega (arith, spliced_long kids at l u, lengths_many u)) (p u)
    ∙ sym (table_below (length (words kids)) (lengths_of kids) (lengths_of rest) at old (lengths_of u) l (sym (lengths_many kids)) (part_inside kids at l))
    ∙ ap₂ (λ (ns : List ℕ) (t : Row). spliced_table ns (suc at) (length (words t)) (lengths_of u)) (sym (lengths_node h kids rest)) (sym (part_below h kids rest at l))

-- a tree that ends before the offset keeps its entries
table_beside : (kids : Row) (ys : List ℕ) (at old : ℕ) (new : List ℕ) → length (words kids) ≤ at
    → spliced_table (suc (length (words kids)) ∷ (lengths_of kids ++ ys)) (suc at) old new
    ≡ suc (length (words kids)) ∷ (lengths_of kids ++ spliced_table ys (at - length (words kids)) old new)
unfolding spliced_table
table_beside kids ys at old new l =
    let n = length (words kids) in
    let a = resized_kept old (length new) at (suc n) (lengths_of kids ++ ys) (omega (arith, l)) in
    let s : suc at + old ≡ suc (length (lengths_of kids) + (at - n + old)) = omega (arith, l, lengths_many kids) in
    ap₂ (λ (ms : List ℕ) (k : ℕ). ms ++ (new ++ drop k (suc n ∷ (lengths_of kids ++ ys)))) a s
    ∙ ap (λ (ms : List ℕ). suc n ∷ ms)
    (ap₂ (λ (ms : List ℕ) (ns : List ℕ). ms ++ (new ++ ns)) (resized_over old (length new) kids ys at l) (drop-append-add (lengths_of kids) ys (at - n + old))
    ∙ append_assoc (lengths_of kids) (resized (at - n) old (length new) ys) (new ++ drop (at - n + old) ys))

afresh_beside : (h : Head) (kids rest : Row) (at : ℕ) → length (words kids) ≤ at → Afresh rest (at - length (words kids)) → Afresh (node h kids rest) (suc at)
afresh_beside h kids rest at l p u =
    let to = at - length (words kids) in
    ap lengths_of (splice_beside h kids rest at l u) ∙ lengths_node h kids (spliced rest to u)
    ∙ ap (λ (ns : List ℕ). suc (length (words kids)) ∷ (lengths_of kids ++ ns)) (p u)
    ∙ sym (table_beside kids (lengths_of rest) at (length (words (part_at rest to))) (lengths_of u) l)
    ∙ ap₂ (λ (ns : List ℕ) (t : Row). spliced_table ns (suc at) (length (words t)) (lengths_of u)) (sym (lengths_node h kids rest)) (sym (part_beside h kids rest at l))

pub spliced_lengths : (t : Row) (at : ℕ) → at < length (words t) → (u : Row)
    → lengths_of (spliced t at u) ≡ spliced_table (lengths_of t) at (length (words (part_at t at))) (lengths_of u)
spliced_lengths = at_offset Afresh afresh_here afresh_below afresh_beside

get_d_past : (xs ys : List ℕ) (n j : ℕ) → length xs ≡ n → n ≤ j → get_or (xs ++ ys) j 0 ≡ get_or ys (j - n) 0
get_d_past xs ys n j e l =
    let z : j ≡ length xs + (j - n) = omega (arith, e, l) in ap (λ (k : ℕ). get_or (xs ++ ys) k 0) z ∙ get_or-append-add xs ys (j - n) 0

-- ---- an entry of a node: its own, one of its children's, one of what stands to its right
module _ (h : Head) (kids rest : Row) where
  own_entry : get_or (lengths_of (node h kids rest)) 0 0 ≡ suc (length (words kids))
  own_entry = ap (λ (ns : List ℕ). get_or ns 0 0) (lengths_node h kids rest)

  below_entry : (j : ℕ) → j < length (words kids) → get_or (lengths_of (node h kids rest)) (suc j) 0 ≡ get_or (lengths_of kids) j 0
  below_entry j l =
      ap (λ (ns : List ℕ). get_or ns (suc j) 0) (lengths_node h kids rest)
      ∙ get_or-append (lengths_of kids) (lengths_of rest) 0 j (omega (arith, l, lengths_many kids))

  beside_entry : (j : ℕ) → length (words kids) ≤ j → get_or (lengths_of (node h kids rest)) (suc j) 0 ≡ get_or (lengths_of rest) (j - length (words kids)) 0
  beside_entry j l =
      ap (λ (ns : List ℕ). get_or ns (suc j) 0) (lengths_node h kids rest)
      ∙ get_d_past (lengths_of kids) (lengths_of rest) (length (words kids)) j (lengths_many kids) l

-- ---- every part ends within its row
abbrev Inside : Row → ℕ → Type 0
Inside f j = j + get_or (lengths_of f) j 0 ≤ length (words f)

pub lengths_inside : (f : Row) (j : ℕ) → j < length (words f) → j + get_or (lengths_of f) j 0 ≤ length (words f)
lengths_inside =
    at_offset Inside (λ h kids rest. omega (arith, own_entry h kids rest, long_node h kids rest))
    (λ h kids rest j l p. omega (arith, below_entry h kids rest j l, long_node h kids rest, p))
    (λ h kids rest j l p. omega (arith, beside_entry h kids rest j l, long_node h kids rest, p, l))

-- ---- an ancestor's part has the replaced one among its words
abbrev Holds : Row → ℕ → Type 0
Holds t at = (j : ℕ) → j < at → at < j + get_or (lengths_of t) j 0 → at + length (words (part_at t at)) ≤ j + get_or (lengths_of t) j 0

holds_here : (h : Head) (kids rest : Row) → Holds (node h kids rest) 0
holds_here h kids rest j p r = absurd (omega (arith, p))

holds_below : (h : Head) (kids rest : Row) (at : ℕ) → at < length (words kids) → Holds kids at → Holds (node h kids rest) (suc at)
holds_below h kids rest at l f zero p r = rw (part_below h kids rest at l) (omega (arith, own_entry h kids rest, part_inside kids at l))
holds_below h kids rest at l f (suc j) p r =
    let e = below_entry h kids rest j (omega (arith, p, l)) in
    rw (part_below h kids rest at l) (omega (arith, e, f j (omega (arith, p)) (omega (arith, r, e))))

holds_beside : (h : Head) (kids rest : Row) (at : ℕ) → length (words kids) ≤ at → Holds rest (at - length (words kids)) → Holds (node h kids rest) (suc at)
holds_beside h kids rest at l f zero p r = absurd (omega (arith, r, own_entry h kids rest, l))
holds_beside h kids rest at l f (suc j) p r = rw (part_beside h kids rest at l) (go (ltb j (length (words kids))) refl)
  where
    go : (b : Bool) → ltb j (length (words kids)) ≡ b
        → suc at + length (words (part_at rest (at - length (words kids)))) ≤ suc j + get_or (lengths_of (node h kids rest)) (suc j) 0
    go true q = let i = ltb-true j (length (words kids)) q in absurd (omega (arith, r, below_entry h kids rest j i, l, lengths_inside kids j i))
    go false q =
        let i = ltb-false j (length (words kids)) q in
        let e = beside_entry h kids rest j i in
        omega (arith, e, i, l, f (j - length (words kids)) (omega (arith, p, i)) (omega (arith, r, e, i, l)))

pub ancestor_holds : (t : Row) (at : ℕ) → at < length (words t) → (j : ℕ) → j < at → at < j + get_or (lengths_of t) j 0
    → at + length (words (part_at t at)) ≤ j + get_or (lengths_of t) j 0
ancestor_holds = at_offset Holds holds_here holds_below holds_beside

-- ---- entry by entry
module _ (table : List ℕ) (at old : ℕ) (new : List ℕ) (l : at ≤ length table) where
  table_before : (j : ℕ) → j < at → get_or (spliced_table table at old new) j 0 ≡ get_or (resized at old (length new) table) j 0
  unfolding spliced_table
  table_before j p =
      get_or-append (resized at old (length new) table) (new ++ drop (at + old) table) 0 j (omega (arith, p, resized_many old (length new) at table l))

  table_part : (j : ℕ) → at ≤ j → j < at + length new → get_or (spliced_table table at old new) j 0 ≡ get_or new (j - at) 0
  unfolding spliced_table
  table_part j p q =
      get_d_past (resized at old (length new) table) (new ++ drop (at + old) table) at j (resized_many old (length new) at table l) p
      ∙ get_or-append new (drop (at + old) table) 0 (j - at) (omega (arith, p, q))

  table_tail : (j : ℕ) → at + length new ≤ j → get_or (spliced_table table at old new) j 0 ≡ get_or table (j - length new + old) 0
  unfolding spliced_table
  table_tail j p =
      let z : at + old + (j - at - length new) ≡ j - length new + old = omega (arith, p) in
      get_d_past (resized at old (length new) table) (new ++ drop (at + old) table) at j (resized_many old (length new) at table l) (omega (arith, p))
      ∙ get_d_past new (drop (at + old) table) (length new) (j - at) refl (omega (arith, p))
      ∙ get_or-drop (at + old) table (j - at - length new) 0
      ∙ ap (λ (k : ℕ). get_or table k 0) z

module _ (t : Row) (at : ℕ) (l : at < length (words t)) (u : Row) (j : ℕ) where
  abbrev entry : ℕ
  entry = get_or (lengths_of t) j 0

  abbrev old_long : ℕ
  old_long = length (words (part_at t at))

  spliced_entry : get_or (lengths_of (spliced t at u)) j 0 ≡ get_or (spliced_table (lengths_of t) at old_long (lengths_of u)) j 0
  spliced_entry = ap (λ (ns : List ℕ). get_or ns j 0) (spliced_lengths t at l u)

  -- a part that ends at or before the offset
  pub entry_before : j < at → j + entry ≤ at → get_or (lengths_of (spliced t at u)) j 0 ≡ entry
  entry_before p r =
      spliced_entry ∙ table_before (lengths_of t) at old_long (lengths_of u) (omega (arith, l, lengths_many t)) j p
      ∙ resized_aside old_long (length (lengths_of u)) at (lengths_of t) j p (omega (arith, p, l, lengths_many t)) r

  -- an ancestor
  pub entry_ancestor : j < at → at < j + entry → get_or (lengths_of (spliced t at u)) j 0 ≡ entry + length (words u) - old_long
  entry_ancestor p r =
      spliced_entry ∙ table_before (lengths_of t) at old_long (lengths_of u) (omega (arith, l, lengths_many t)) j p
      ∙ resized_ancestor old_long (length (lengths_of u)) at (lengths_of t) j p (omega (arith, p, l, lengths_many t)) r
      ∙ ap (λ (n : ℕ). entry + n - old_long) (lengths_many u)

  pub ancestor_long : j < at → at < j + entry → old_long ≤ entry
  ancestor_long p r = omega (arith, p, ancestor_holds t at l j p r)

  -- the new part
  pub entry_new : at ≤ j → j < at + length (words u) → get_or (lengths_of (spliced t at u)) j 0 ≡ get_or (lengths_of u) (j - at) 0
  entry_new p q =
      spliced_entry ∙ table_part (lengths_of t) at old_long (lengths_of u) (omega (arith, l, lengths_many t)) j p (omega (arith, q, lengths_many u))

  -- the moved tail
  pub entry_tail : at + length (words u) ≤ j → get_or (lengths_of (spliced t at u)) j 0 ≡ get_or (lengths_of t) (j - length (words u) + old_long) 0
  entry_tail p =
      spliced_entry ∙ table_tail (lengths_of t) at old_long (lengths_of u) (omega (arith, l, lengths_many t)) j (omega (arith, p, lengths_many u))
      ∙ ap (λ (n : ℕ). get_or (lengths_of t) (j - n + old_long) 0) (lengths_many u)
