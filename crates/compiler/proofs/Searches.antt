-- A search by index in the words of std's searches: over the words of a list, and over the numbers of a range.
use mathlib.Core.Path.{◌≡◌, refl, sym, ap, ◌∙◌}
use mathlib.Core.Bool.{Bool, true, false, ◌&&◌, ◌||◌, cond, not}
use mathlib.Core.List.{List, [], ◌∷◌}
use Prim.Native.Nat.{ℕ, zero, suc, ◌+◌, ◌*◌, ◌/◌, ◌%◌, ◌≤◌, ◌<◌}
use native.Mathlib.Omega.{arith}
use lib.Dec.{eqb, ltb}
use lib.ListN.{length, get_or, take, drop}
use lib.Seq.{drop-cons}
use lib.Pointwise.{pointwise}
use borrow.Author.Tests.{lt-ltb, le-ltb, eq-eqb, ne_eqb, eqb-true, eqb-false}
use Rattle.std.specs.Prelude.{Option, Some, None}
use Rattle.std.specs.Option.{option_map, unwrap_or, MatchOption}
use Rattle.std.specs.List.{list_any, list_all, find, range_with_len, filter}
use Rattle.std.proofs.lemmas.List.{length-take-le}
use Rattle.std.proofs.Common.{length-drop}
use Rattle.term.specs.Word.{pick, ident_of}
use Rattle.compiler.proofs.TableLaws.{some_is}
use Rattle.compiler.specs.Told.Tables.{first_at, many_at, is_variable, first_spot, is_left, first_from, unless, first_constraint, size_at, words_at, in_list, among_at, differ_at, same_list, kind_from, left_same, row_has}

-- the words of a list from a place on: the one there, and those after it
front : (xs : List ℕ) (a n i : ℕ) → a + i + suc n ≤ length xs → take (suc n) (drop (a + i) xs) ≡ get_or xs (a + i) 0 ∷ take n (drop (a + suc i) xs)
front xs a n i h =
    let z : a + suc i ≡ suc (a + i) = omega arith in
    let l : a + i < length xs = omega arith in
    rw (z, drop-cons xs (a + i) 0 l)

-- ---- over the words of a list
abbrev word_has : (ℕ → Bool) → List ℕ → ℕ → ℕ → Bool
word_has q xs a j = q (get_or xs (a + j) 0)

abbrev word_fails : (ℕ → Bool) → List ℕ → ℕ → ℕ → Bool
word_fails q xs a j = pick (q (get_or xs (a + j) 0)) false true

abbrev words_differ : List ℕ → ℕ → ℕ → ℕ → Bool
words_differ xs a b j = pick (eqb (get_or xs (a + j) 0) (get_or xs (b + j) 0)) false true

pub any_words : (q : ℕ → Bool) (xs : List ℕ) (a n i : ℕ) → a + i + n ≤ length xs → list_any q (take n (drop (a + i) xs)) ≡ ltb (first_at (word_has q xs a) i n) (i + n)
unfolding first_at
any_words q xs a zero i h = sym (le-ltb i (i + 0) (omega arith))
any_words q xs a (suc n) i h = rw (front xs a n i h) (go (q (get_or xs (a + i) 0)) (any_words q xs a n (suc i) (omega arith)))
  where
    go : (b : Bool) → list_any q (take n (drop (a + suc i) xs)) ≡ ltb (first_at (word_has q xs a) (suc i) n) (suc i + n)
        → b || list_any q (take n (drop (a + suc i) xs)) ≡ ltb (pick b i (first_at (word_has q xs a) (suc i) n)) (i + suc n)
    go true e = sym (lt-ltb i (i + suc n) (omega arith))
    go false e = let z : suc i + n ≡ i + suc n = omega arith in e ∙ ap (ltb (first_at (word_has q xs a) (suc i) n)) z

pub all_words : (q : ℕ → Bool) (xs : List ℕ) (a n i : ℕ) → a + i + n ≤ length xs → list_all q (take n (drop (a + i) xs)) ≡ eqb (first_at (word_fails q xs a) i n) (i + n)
unfolding first_at
all_words q xs a zero i h = sym (eq-eqb i (i + 0) (omega arith))
all_words q xs a (suc n) i h = rw (front xs a n i h) (go (q (get_or xs (a + i) 0)) (all_words q xs a n (suc i) (omega arith)))
  where
    go : (b : Bool) → list_all q (take n (drop (a + suc i) xs)) ≡ eqb (first_at (word_fails q xs a) (suc i) n) (suc i + n)
        → b && list_all q (take n (drop (a + suc i) xs)) ≡ eqb (pick (pick b false true) i (first_at (word_fails q xs a) (suc i) n)) (i + suc n)
    go true e = let z : suc i + n ≡ i + suc n = omega arith in e ∙ ap (eqb (first_at (word_fails q xs a) (suc i) n)) z
    go false e = sym (ne_eqb i (i + suc n) (omega arith))

pub equal_words : (xs : List ℕ) (a b n i : ℕ) → a + i + n ≤ length xs → b + i + n ≤ length xs
    → pointwise eqb (take n (drop (a + i) xs)) (take n (drop (b + i) xs)) ≡ eqb (first_at (words_differ xs a b) i n) (i + n)
unfolding first_at
equal_words xs a b zero i h l = sym (eq-eqb i (i + 0) (omega arith))
equal_words xs a b (suc n) i h l = rw (front xs a n i h, front xs b n i l) (go (eqb (get_or xs (a + i) 0) (get_or xs (b + i) 0)) (equal_words xs a b n (suc i) (omega arith) (omega arith)))
  where
    go : (t : Bool) → pointwise eqb (take n (drop (a + suc i) xs)) (take n (drop (b + suc i) xs)) ≡ eqb (first_at (words_differ xs a b) (suc i) n) (suc i + n) → t && pointwise eqb (take n (drop (a + suc i) xs)) (take n (drop (b + suc i) xs)) ≡ eqb (pick (pick t false true) i (first_at (words_differ xs a b) (suc i) n)) (i + suc n)
    go true e = let z : suc i + n ≡ i + suc n = omega arith in e ∙ ap (eqb (first_at (words_differ xs a b) (suc i) n)) z
    go false e = sym (ne_eqb i (i + suc n) (omega arith))

other_sizes : (xs ys : List ℕ) → (length xs ≡ length ys → ⊥) → pointwise eqb xs ys ≡ false
other_sizes [] [] n = absurd (n refl)
other_sizes [] (y ∷ ys) n = refl
other_sizes (x ∷ xs) [] n = refl
other_sizes (x ∷ xs) (y ∷ ys) n = rw (other_sizes xs ys (λ e. n (ap suc e))) (none (eqb x y))
  where
    none : (b : Bool) → b && false ≡ false
    none true = refl
    none false = refl

-- ---- over the numbers of a range
abbrev number_has : (ℕ → Bool) → ℕ → ℕ → Bool
number_has q a o = q (a + o)

pub any_range : (q : ℕ → Bool) (a n i : ℕ) → list_any q (range_with_len (a + i) n) ≡ ltb (first_at (number_has q a) i n) (i + n)
unfolding first_at
any_range q a zero i = sym (le-ltb i (i + 0) (omega arith))
any_range q a (suc n) i =
    let z : a + i + 1 ≡ a + suc i = omega arith in
    rw z (go (q (a + i)) (any_range q a n (suc i)))
  where
    go : (b : Bool) → list_any q (range_with_len (a + suc i) n) ≡ ltb (first_at (number_has q a) (suc i) n) (suc i + n) → b || list_any q (range_with_len (a + suc i) n) ≡ ltb (pick b i (first_at (number_has q a) (suc i) n)) (i + suc n)
    go true e = sym (lt-ltb i (i + suc n) (omega arith))
    go false e = let z : suc i + n ≡ i + suc n = omega arith in e ∙ ap (ltb (first_at (number_has q a) (suc i) n)) z

pub find_range : (q : ℕ → Bool) (a n i : ℕ) → 0 < a → find q (range_with_len (a + i) n) ≡ unless 0 (pick (ltb (first_at (number_has q a) i n) (i + n)) (a + first_at (number_has q a) i n) 0)
unfolding first_at
find_range q a zero i h = rw (le-ltb i (i + 0) (omega arith))
find_range q a (suc n) i h =
    let z : a + i + 1 ≡ a + suc i = omega arith in
    rw z (go (q (a + i)) (find_range q a n (suc i) h))
  where
    go : (b : Bool) → find q (range_with_len (a + suc i) n) ≡ unless 0 (pick (ltb (first_at (number_has q a) (suc i) n) (suc i + n)) (a + first_at (number_has q a) (suc i) n) 0)
        → cond b (Some (a + i)) (find q (range_with_len (a + suc i) n)) ≡ unless 0 (pick (ltb (pick b i (first_at (number_has q a) (suc i) n)) (i + suc n)) (a + pick b i (first_at (number_has q a) (suc i) n)) 0)
    go true e = rw (lt-ltb i (i + suc n) (omega arith)) (some_is 0 (a + i) (a + i) refl (λ z. omega (arith, z)))
    go false e = let z : suc i + n ≡ i + suc n = omega arith in rw (← z) e

-- ---- what they say of constraints
at_start : (k : ℕ) → k + 1 + 0 ≡ k + 1
at_start k = omega arith

from_none : (n : ℕ) → 0 + n ≡ n
from_none n = omega arith

pub in_list_is : (fixed : List ℕ) (w k : ℕ) → k + 1 + size_at fixed k ≤ length fixed → list_any (λ y. eqb y w) (words_at fixed k) ≡ in_list fixed w k
unfolding in_list
in_list_is fixed w k h = rw (at_start k, from_none (size_at fixed k)) at (any_words (λ y. eqb y w) fixed (k + 1) (size_at fixed k) 0 (omega arith))

pub among_is : (fixed : List ℕ) (a b : ℕ) → a + 1 + size_at fixed a ≤ length fixed → list_all (λ w. in_list fixed w b) (words_at fixed a) ≡ among_at fixed a b
unfolding among_at
among_is fixed a b h = rw (at_start a, from_none (size_at fixed a)) at (all_words (λ w. in_list fixed w b) fixed (a + 1) (size_at fixed a) 0 (omega arith))

pub same_list_is : (fixed : List ℕ) (a b : ℕ) → a + 1 + size_at fixed a ≤ length fixed → b + 1 + size_at fixed b ≤ length fixed → pointwise eqb (words_at fixed a) (words_at fixed b) ≡ same_list fixed a b
unfolding same_list
same_list_is fixed a b h l = go (eqb (size_at fixed a) (size_at fixed b)) refl
  where
    other : (size_at fixed a ≡ size_at fixed b → ⊥) → length (words_at fixed a) ≡ length (words_at fixed b) → ⊥
    other n e =
        let x : length (words_at fixed a) ≡ size_at fixed a = length-take-le (size_at fixed a) (drop (a + 1) fixed) (omega (arith, length-drop (a + 1) fixed)) in
        let y : length (words_at fixed b) ≡ size_at fixed b = length-take-le (size_at fixed b) (drop (b + 1) fixed) (omega (arith, length-drop (b + 1) fixed)) in
        n (sym x ∙ e ∙ y)

    go : (t : Bool) → eqb (size_at fixed a) (size_at fixed b) ≡ t → pointwise eqb (words_at fixed a) (words_at fixed b) ≡ t && eqb (first_at (differ_at fixed a b) 0 (size_at fixed a)) (size_at fixed a)
    go true q =
        let z : size_at fixed a ≡ size_at fixed b = eqb-true (size_at fixed a) (size_at fixed b) q in
        rw (← z) (rw (at_start a, at_start b, from_none (size_at fixed a)) at (equal_words fixed (a + 1) (b + 1) (size_at fixed a) 0 (omega arith) (omega arith)))
    go false q = other_sizes (words_at fixed a) (words_at fixed b) (other (eqb-false (size_at fixed a) (size_at fixed b) q))

pub row_has_is : (fixed nums marks : List ℕ) (id r : ℕ) → list_any (left_same fixed nums marks id) (range_with_len (kind_from id + r * 64) 64) ≡ row_has fixed nums marks id r
unfolding row_has
row_has_is fixed nums marks id r =
    let z : kind_from id + r * 64 + 0 ≡ kind_from id + r * 64 = omega arith in
    rw z at (any_range (left_same fixed nums marks id) (kind_from id + r * 64) 64 0)

pub first_from_is : (fixed marks : List ℕ) (from r : ℕ) → 0 < from → find (is_left fixed marks) (range_with_len (from + r * 64) 64) ≡ unless 0 (first_from fixed marks from r)
unfolding first_from
first_from_is fixed marks from r h =
    let z : from + r * 64 + 0 ≡ from + r * 64 = omega arith in
    rw z at (find_range (is_left fixed marks) (from + r * 64) 64 0 (omega arith))

pub same_option : (o : Option ℕ) → o ≡ option_map (λ x. x) o
same_option None = refl
same_option (Some x) = refl

-- closedness comes before equality
pub first_constraint_is : (fixed marks : List ℕ) (r : ℕ) (o a : Option ℕ) → a ≡ unless 0 (first_from fixed marks 4160 r)
    → MatchOption a (o ≡ unless 0 (first_from fixed marks 8256 r)) (λ x. o ≡ Some x) → o ≡ unless 0 (first_constraint fixed marks r)
unfolding first_constraint
first_constraint_is fixed marks r o a e m = go (first_from fixed marks 4160 r) (eqb (first_from fixed marks 4160 r) 0) refl (rw e at m)
  where
    go : (n : ℕ) (b : Bool) → eqb n 0 ≡ b → MatchOption (pick b None (Some n)) (o ≡ unless 0 (first_from fixed marks 8256 r)) (λ x. o ≡ Some x) → o ≡ unless 0 (pick b (first_from fixed marks 8256 r) n)
    go n true q m = m
    go n false q m = m ∙ some_is 0 n n refl (eqb-false n 0 q)

-- the first of a range for which a test holds, or its end
first_range : (q : ℕ → Bool) (n i : ℕ) → unwrap_or (find q (range_with_len i n)) (i + n) ≡ first_at q i n
unfolding first_at
first_range q zero i = let z : i + 0 ≡ i = omega arith in z
first_range q (suc n) i =
    let z : i + 1 ≡ suc i = omega arith in
    let y : i + suc n ≡ suc i + n = omega arith in
    rw (z, y) (go (q i) (first_range q n (suc i)))
  where
    go : (b : Bool) → unwrap_or (find q (range_with_len (suc i) n)) (suc i + n) ≡ first_at q (suc i) n
        → unwrap_or (cond b (Some i) (find q (range_with_len (suc i) n))) (suc i + n) ≡ pick b i (first_at q (suc i) n)
    go true e = refl
    go false e = e

pub first_spot_found : (fixed : List ℕ) (k : ℕ) → unwrap_or (find (is_variable fixed (ident_of (get_or fixed k 0))) (range_with_len (k / 64 * 64) (k % 64))) k ≡ first_spot fixed k
unfolding first_spot
first_spot_found fixed k =
    let z : k / 64 * 64 + k % 64 ≡ k = omega arith in
    rw z at (first_range (is_variable fixed (ident_of (get_or fixed k 0))) (k % 64) (k / 64 * 64))

-- no number below r has what is asked
none_range : (q : ℕ → Bool) (n i : ℕ) → not (list_any q (range_with_len i n)) ≡ eqb (first_at q i n) (i + n)
unfolding first_at
none_range q zero i = sym (eq-eqb i (i + 0) (omega arith))
none_range q (suc n) i =
    let z : i + 1 ≡ suc i = omega arith in
    rw z (go (q i) (none_range q n (suc i)))
  where
    go : (b : Bool) → not (list_any q (range_with_len (suc i) n)) ≡ eqb (first_at q (suc i) n) (suc i + n) → not (b || list_any q (range_with_len (suc i) n)) ≡ eqb (pick b i (first_at q (suc i) n)) (i + suc n)
    go true e = sym (ne_eqb i (i + suc n) (omega arith))
    go false e = let z : suc i + n ≡ i + suc n = omega arith in e ∙ ap (eqb (first_at q (suc i) n)) z

pub none_before : (q : ℕ → Bool) (r : ℕ) → not (list_any q (range_with_len 0 r)) ≡ eqb (first_at q 0 r) r
none_before q r = rw (from_none r) at (none_range q r 0)

-- how many numbers of a range have it
pub many_range : (q : ℕ → Bool) (n i : ℕ) → length (filter q (range_with_len i n)) ≡ many_at q i n
unfolding many_at
many_range q zero i = refl
many_range q (suc n) i =
    let z : i + 1 ≡ suc i = omega arith in
    rw z (go (q i) (many_range q n (suc i)))
  where
    go : (b : Bool) → length (filter q (range_with_len (suc i) n)) ≡ many_at q (suc i) n → length (cond b (i ∷ filter q (range_with_len (suc i) n)) (filter q (range_with_len (suc i) n))) ≡ pick b 1 0 + many_at q (suc i) n
    go true e = omega (arith, e)
    go false e = omega (arith, e)
