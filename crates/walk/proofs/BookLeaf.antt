-- A Leaf fits the book where the rule is there, has as many variables, just what the root has more is set aside, and each count is that of the left side:
-- the variables left give the answer.
use mathlib.Core.Path.{◌≡◌, refl, sym, ap, ◌∙◌}
use mathlib.Core.Bool.{Bool, true, false, ◌&&◌}
use mathlib.Core.List.{List, []}
use mathlib.Core.Option.{Option, none, some}
use Prim.Native.Nat.{ℕ, zero, suc, ◌+◌, ◌-◌, ◌≤◌, ◌<◌}
use native.Mathlib.Omega.{arith}
use lib.Dec.{eqb}
use lib.ListN.{length, get_or, take, drop, length-drop}
use lib.Seq.{length-take-le}
use borrow.Author.Tests.{eq-eqb, eqb-true, ne_eqb}
use Rattle.term.proofs.Laws.{never}
use Rattle.book.specs.declared.book.Sides.{Sides}
use Rattle.std.specs.Prelude as std
use Rattle.std.specs.Prelude.{Some, None}
use Rattle.std.specs.Option.{SomeIff, option_eq}
use Rattle.book.specs.Rule.{counted}
use Rattle.book.specs.Told.Found.{sides_at}
use Rattle.book.proofs.Laws.{sides_rule, sides_none}
use Rattle.tree.specs.Tree.{LeafVariable}
use Rattle.tree.specs.Find.{PartAt}
use Rattle.tree.proofs.Laws.{counts_none, counts_first}
use Rattle.walk.specs.Walk.{variable_then, variables_in, leaf_read, counts_fit, left_count, book_fits}
use Rattle.walk.specs.Told.State.{sound_leaf, variables_or}
use Rattle.walk.specs.Told.WithBook.{counts_in, read_fits, leaf_fits}
use Rattle.walk.proofs.Sound.{AsMany, as_many}
use Rattle.walk.proofs.Variables.{variables_cut, variables_past, variables_are}

-- ---- the counts
counts_then : (left : List ℕ) (x : ℕ) (v : LeafVariable) (o : Option (List LeafVariable))
    → counts_in left x (variable_then v o) ≡ eqb (counted x left) (suc (length v.list)) && counts_in left (suc x) o
unfolding counts_fit
counts_then left x v none = go (eqb (counted x left) (suc (length v.list)))
  where
    go : (b : Bool) → false ≡ b && false
    go true = refl
    go false = refl
counts_then left x v (some vs) = ap (counts_fit left x) (counts_first v vs)

pub counts_start : (left : List ℕ) (n : ℕ) (ws : List ℕ) → counts_in left 0 (variables_in n ws) ≡ counts_in left 0 (variables_in (n - 0) ws)
counts_start left n ws = let z : n ≡ n - 0 = omega arith in ap (λ (m : ℕ). counts_in left 0 (variables_in m ws)) z

pub counts_end : (left : List ℕ) (x n : ℕ) (ws : List ℕ) → n ≡ 0 → true ≡ counts_in left x (variables_in n ws)
unfolding variables_in counts_fit
counts_end left x zero ws z = sym (ap (counts_fit left x) counts_none)
counts_end left x (suc n) ws z = absurd (omega arith)

-- a count is one more than what it counts
pub same_count : (r : std.Option ℕ) (c k : ℕ) → SomeIff r (1 ≤ c) (c - 1) → option_eq eqb r (Some k) ≡ true → c ≡ suc k
same_count None c k s e = never (cc)
same_count (Some x) c k s e = let z = eqb-true x k e in omega (arith, s.0, s.1, z)

pub other_count : (r : std.Option ℕ) (c k : ℕ) → SomeIff r (1 ≤ c) (c - 1) → option_eq eqb r (Some k) ≡ false → c ≡ suc k → ⊥
other_count None c k s e z = s (omega arith)
other_count (Some x) c k s e z = let q : x ≡ k = omega (arith, s.1, z) in let w = eq-eqb x k q in never (cc)

module _ (left table : List ℕ) (at x n : ℕ) (some_left : x < n) where
  abbrev more : ℕ
  more = n - x

  left_over : more ≡ 0 → ⊥
  left_over z = omega (arith, z)

  pub counts_cut : at ≤ length table → length table - at < 2 → false ≡ counts_in left x (variables_in (n - x) (drop at table))
  counts_cut i l = rw (variables_cut [] more (drop at table) left_over (rw (length-drop at table) l))

  module _ (two : at + 2 ≤ length table) where
    abbrev count : ℕ
    count = get_or table (at + 1) 0

    pub counts_past : length table - (at + 2) < count → false ≡ counts_in left x (variables_in (n - x) (drop at table))
    counts_past l = rw (variables_past table at more left_over two l)

    module _ (inside : count ≤ length table - (at + 2)) where
      counts_are : counts_in left x (variables_in (n - x) (drop at table)) ≡ eqb (counted x left) (suc count) && counts_in left (suc x) (variables_in (n - x - 1) (drop (at + 2 + count) table))
      counts_are =
          let v : LeafVariable = record { at = get_or table at 0; list = take count (drop (at + 2) table) } in
          let l : length (take count (drop (at + 2) table)) ≡ count = length-take-le count (drop (at + 2) table) (rw (length-drop (at + 2) table) inside) in
          ap (counts_in left x) (variables_are table at more left_over two inside)
          ∙ counts_then left x v (variables_in (more - 1) (drop (at + 2 + count) table))
          ∙ ap (λ (k : ℕ). eqb (counted x left) (suc k) && counts_in left (suc x) (variables_in (n - x - 1) (drop (at + 2 + count) table))) l

      pub counts_other : (c : ℕ) → c ≡ counted x left → (c ≡ suc count → ⊥) → false ≡ counts_in left x (variables_in (n - x) (drop at table))
      counts_other c e d = sym (counts_are ∙ rw (ne_eqb (counted x left) (suc count) (λ z. d (e ∙ z))))

      pub counts_next : (c : ℕ) → c ≡ counted x left → c ≡ suc count
          → counts_in left x (variables_in (n - x) (drop at table)) ≡ counts_in left (x + 1) (variables_in (n - (x + 1)) (drop (at + 2 + count) table))
      counts_next c e d =
          let y : suc x ≡ x + 1 = omega arith in
          let z : n - x - 1 ≡ n - (x + 1) = omega arith in
          counts_are ∙ rw (eq-eqb (counted x left) (suc count) (sym e ∙ d), y, z)

-- ---- what is set aside, by the root's count
module _ (aside count a : ℕ) where
  pub aside_over : a < aside → false ≡ eqb (aside + count) a
  aside_over l = sym (ne_eqb (aside + count) a (λ z. omega arith))

  pub aside_other : aside ≤ a → (count ≡ a - aside → ⊥) → false ≡ eqb (aside + count) a
  aside_other l d = sym (ne_eqb (aside + count) a (λ z. d (omega arith)))

  pub aside_just : aside ≤ a → count ≡ a - aside → true ≡ eqb (aside + count) a
  aside_just l e = sym (eq-eqb (aside + count) a (omega arith))

-- ---- the rule
module _ (book : List ℕ) (a : ℕ) (table : List ℕ) (at : ℕ) where
  abbrev rule : ℕ
  rule = get_or table (at + 1) 0

  abbrev vars : ℕ
  vars = get_or table (at + 2) 0

  abbrev aside : ℕ
  aside = get_or table (at + 3) 0

  abbrev read : Option (List LeafVariable)
  read = variables_in vars (drop (at + 4) table)

  pub fits_absent : sides_at book rule ≡ None → false ≡ leaf_fits book a table at
  unfolding leaf_fits book_fits
  fits_absent e = go read
    where
      go : (o : Option (List LeafVariable)) → false ≡ read_fits book a (leaf_read rule aside o)
      go none = refl
      go (some vs) = rw (sides_none book rule e)

  module _ (s : Sides) (e : sides_at book rule ≡ Some s) where
    pub fits_sides : (s.left ≤ s.right) × (s.right ≤ length book)
    fits_sides = let q = (sides_rule book rule s e).2 in (q.left_first, omega (arith, q.right_next, q.within))

    pub fits_other : (s.vars ≡ vars → ⊥) → false ≡ leaf_fits book a table at
    unfolding leaf_fits book_fits
    fits_other d = go read (as_many vars (drop (at + 4) table))
      where
        go : (o : Option (List LeafVariable)) → AsMany vars o → false ≡ read_fits book a (leaf_read rule aside o)
        go none m = refl
        go (some vs) m =
            let q = sides_rule book rule s e in
            rw (q.1, ne_eqb (length vs) q.0.vars (λ z. d (q.2.vars_is ∙ sym z ∙ m)))

    -- the left side is lent, and whether just so many are set aside is told of it
    module _ (d : s.vars ≡ vars) (left : List ℕ) (l : left ≡ take (s.right - s.left) (drop s.left book)) (just : Bool) (j : just ≡ eqb (aside + left_count left) a) where
      read_is : (o : Option (List LeafVariable)) → AsMany vars o → read_fits book a (leaf_read rule aside o) ≡ just && counts_in left 0 o
      unfolding book_fits
      read_is none m = none_both just
        where
          none_both : (b : Bool) → false ≡ b && false
          none_both true = refl
          none_both false = refl
      read_is (some vs) m =
          let q = sides_rule book rule s e in
          rw (q.1, eq-eqb (length vs) q.0.vars (m ∙ sym d ∙ q.2.vars_is), j, l, q.2.left_is)

      pub fits_aside : just ≡ false → false ≡ leaf_fits book a table at
      unfolding leaf_fits
      fits_aside f = sym (read_is read (as_many vars (drop (at + 4) table)) ∙ rw f)

      pub fits_counts : just ≡ true → (r : Bool) → r ≡ counts_in left 0 read → r ≡ leaf_fits book a table at
      unfolding leaf_fits
      fits_counts f r c = c ∙ sym (read_is read (as_many vars (drop (at + 4) table)) ∙ rw f)

-- ---- what a sound Leaf is judged by
pub judged_by : (book : List ℕ) (a rule aside : ℕ) (ps : List PartAt) (o : Option (List LeafVariable)) → sound_leaf ps o ≡ true
    → book_fits book a (record { rule = rule; aside = aside; variables = variables_or o }) ≡ read_fits book a (leaf_read rule aside o)
judged_by book a rule aside ps none e = never (cc)
judged_by book a rule aside ps (some vs) e = refl
