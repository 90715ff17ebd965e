-- A search over a range finds the first number for which the test holds, as the definitions by first_at say.
use mathlib.Core.Path.{◌≡◌, refl, sym, ap, ◌∙◌}
use mathlib.Core.Bool.{Bool, true, false, cond}
use mathlib.Core.List.{List}
use Prim.Native.Nat.{ℕ, zero, suc, ◌+◌, ◌*◌, ◌≤◌, ◌<◌}
use native.Mathlib.Omega.{arith}
use lib.Dec.{eqb, ltb}
use lib.ListN.{get_or}
use borrow.Author.Tests.{ltb-true, lt-ltb, le-ltb}
use Rattle.std.specs.Prelude.{Option, Some}
use Rattle.std.specs.Option.{unwrap_or}
use Rattle.std.specs.List.{find, range_with_len}
use Rattle.term.specs.Word.{pick}
use Rattle.compiler.specs.Told.Tables.{first_at, unless, is_free, first_row, spot_at, is_variable, variable_spot}
use Rattle.compiler.proofs.TableLaws.{some_is, none_is}

-- the number found, or the end of the range where there is none
first_of_range : (q : ℕ → Bool) (n i : ℕ) → find q (range_with_len i n) ≡ unless (i + n) (first_at q i n)
unfolding first_at
first_of_range q zero i = none_is (i + 0) i (omega arith)
first_of_range q (suc n) i =
    let z : i + 1 ≡ suc i = omega arith in
    rw z (go (q i) (first_of_range q n (suc i)))
  where
    go : (b : Bool) → find q (range_with_len (suc i) n) ≡ unless (suc i + n) (first_at q (suc i) n)
        → cond b (Some i) (find q (range_with_len (suc i) n)) ≡ unless (i + suc n) (pick b i (first_at q (suc i) n))
    go true e = some_is (i + suc n) i i refl (λ y. absurd (omega (arith, y)))
    go false e = let z : suc i + n ≡ i + suc n = omega arith in rw (← z) e

pub row_first : (marks : List ℕ) → find (is_free marks) (range_with_len 0 64) ≡ unless 64 (first_row marks)
unfolding first_row
row_first marks = first_of_range (is_free marks) 64 0

abbrev from_start : (ℕ → Bool) → ℕ → ℕ → Bool
from_start q a o = q (a + o)

-- the same where a range is told by the offsets from its start, and a number past it stands for none
offset_first : (q : ℕ → Bool) (a none n i : ℕ) → a + i + n ≤ none
    → find q (range_with_len (a + i) n) ≡ unless none (pick (ltb (first_at (from_start q a) i n) (i + n)) (a + first_at (from_start q a) i n) none)
unfolding first_at
offset_first q a none zero i h = rw (le-ltb i (i + 0) (omega arith)) (none_is none none refl)
offset_first q a none (suc n) i h =
    let z : a + i + 1 ≡ a + suc i = omega arith in
    rw z (go (q (a + i)) (offset_first q a none n (suc i) (omega arith)))
  where
    go : (b : Bool) → find q (range_with_len (a + suc i) n) ≡ unless none (pick (ltb (first_at (from_start q a) (suc i) n) (suc i + n)) (a + first_at (from_start q a) (suc i) n) none)
        → cond b (Some (a + i)) (find q (range_with_len (a + suc i) n)) ≡ unless none (pick (ltb (pick b i (first_at (from_start q a) (suc i) n)) (i + suc n)) (a + pick b i (first_at (from_start q a) (suc i) n)) none)
    go true e = rw (lt-ltb i (i + suc n) (omega arith)) (some_is none (a + i) (a + i) refl (λ y. absurd (omega (arith, y, h))))
    go false e = let z : suc i + n ≡ i + suc n = omega arith in rw (← z) e

abbrev pub has_number : List ℕ → ℕ → ℕ → Bool
has_number nums n k = eqb (get_or nums k 0) (n + 1)

pub spot_first : (nums : List ℕ) (r n : ℕ) → r < 64 → find (has_number nums n) (range_with_len (r * 64) 64) ≡ unless 4096 (spot_at nums r n)
unfolding spot_at
spot_first nums r n h =
    let z : r * 64 + 0 ≡ r * 64 = omega arith in
    rw z at (offset_first (has_number nums n) (r * 64) 4096 64 0 (omega arith))

or_start : (t : Bool) (none x y : ℕ) → (t ≡ true → x < none) → unwrap_or (unless none (pick t x none)) y ≡ pick t x y
or_start true none x y h = ap (λ (o : Option ℕ). unwrap_or o y) (sym (some_is none x x refl (λ z. absurd (omega (arith, h refl, z)))))
or_start false none x y h = ap (λ (o : Option ℕ). unwrap_or o y) (sym (none_is none none refl))

pub variable_first : (fixed : List ℕ) (r x : ℕ) → unwrap_or (find (is_variable fixed x) (range_with_len (r * 64) 64)) (r * 64) ≡ variable_spot fixed r x
unfolding variable_spot
variable_first fixed r x =
    let z : r * 64 + 0 ≡ r * 64 = omega arith in
    ap (λ (o : Option ℕ). unwrap_or o (r * 64)) (rw z at (offset_first (is_variable fixed x) (r * 64) (r * 64 + 64) 64 0 (omega arith)))
    ∙ or_start (ltb (first_at (from_start (is_variable fixed x) (r * 64)) 0 64) 64) (r * 64 + 64) (r * 64 + first_at (from_start (is_variable fixed x) (r * 64)) 0 64) (r * 64)
    (λ t. omega (arith, ltb-true (first_at (from_start (is_variable fixed x) (r * 64)) 0 64) 64 t))
