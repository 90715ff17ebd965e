-- One step of reading a number for each way through the code, from offsets of a text: what is left gives the number.
use mathlib.Core.Path.{◌≡◌, sym, ◌∙◌}
use mathlib.Core.Bool.{Bool, true, false}
use mathlib.Core.List.{List}
use mathlib.Core.Option.{none, some}
use Prim.Native.Nat.{ℕ, ◌+◌, ◌-◌, ◌*◌, ◌≤◌, ◌<◌}
use native.Mathlib.Numerals.{add-one}
use native.Mathlib.Omega.{arith}
use lib.ListN.{length, take, drop, get_or, length-drop, drop_of_length-le}
use lib.Seq.{drop-cons, get_or-drop, take_all}
use borrow.Author.Tests.{le-leb, lt-leb, eq-eqb, ne_eqb}
use Rattle.std.specs.Char.{is_ascii_digit}
use Rattle.std.specs.Prelude.{Option, Some, None}
use Rattle.text.specs.Number.{is_digit, digits, number}
use Rattle.text.specs.Told.Told.{DigitsTold, NumberTold}

-- std's test of a byte for a digit is the definition's
pub digit_told : (b : ℕ) (r v : Bool) → r ≡ is_ascii_digit b → r ≡ v → is_digit b ≡ v
unfolding is_digit
digit_told b r v e f = sym e ∙ f

-- the bytes from `at` on are the text's from there on
module _ (bs : List ℕ) (at i : ℕ) (h : at ≤ length bs) where
  abbrev part : List ℕ
  part = take (length bs - at) (drop at bs)

  part_is : part ≡ drop at bs
  part_is = take_all (length bs - at) (drop at bs) (omega (arith, length-drop at bs))

  pub part_byte : get_or part i 0 ≡ get_or bs (at + i) 0
  part_byte = rw part_is (get_or-drop at bs i 0)

  pub part_digit : (r v : Bool) → r ≡ is_ascii_digit (get_or part i 0) → r ≡ v → is_digit (get_or bs (at + i) 0) ≡ v
  part_digit r v e f = rw (← part_byte) (digit_told (get_or part i 0) r v e f)

  pub part_within : i < length part → at + i < length bs
  part_within l = let k : i < length (drop at bs) = rw part_is at l in omega (arith, k, length-drop at bs)

  pub part_over : length part ≤ i → length bs ≤ at + i
  part_over l = let k : length (drop at bs) ≤ i = rw part_is at l in omega (arith, k, length-drop at bs)

module _ (most : ℕ) (bs : List ℕ) where
  -- what is left of the digits that began at `at`
  abbrev pub Rest : ℕ → ℕ → ℕ → Type 0
  Rest at n i = digits most 0 (drop at bs) ≡ digits most n (drop i bs)

  module _ (at n i : ℕ) (rest : Rest at n i) where
    pub run_out : length bs ≤ i → digits most 0 (drop at bs) ≡ some (n, drop i bs)
    unfolding digits
    run_out h = rest ∙ rw (drop_of_length-le bs {i = i} h)

    module _ (h : i < length bs) where
      pub other : is_digit (get_or bs i 0) ≡ false → digits most 0 (drop at bs) ≡ some (n, drop i bs)
      unfolding digits
      other e = rest ∙ rw (drop-cons bs i 0 h, e)

      pub over : is_digit (get_or bs i 0) ≡ true → most < n * 10 + (get_or bs i 0 - 48) → digits most 0 (drop at bs) ≡ none
      unfolding digits
      over e m = rest ∙ rw (drop-cons bs i 0 h, e, lt-leb (n * 10 + (get_or bs i 0 - 48)) most m)

      pub next : is_digit (get_or bs i 0) ≡ true → n * 10 + (get_or bs i 0 - 48) ≤ most → Rest at (n * 10 + (get_or bs i 0 - 48)) (i + 1)
      unfolding digits
      next e m = rest ∙ rw (drop-cons bs i 0 h, e, le-leb (n * 10 + (get_or bs i 0 - 48)) most m, add-one i)

  module _ (at : ℕ) where
    pub nothing_there : length bs ≤ at → number most (drop at bs) ≡ none
    unfolding number
    nothing_there h = rw (drop_of_length-le bs {i = at} h)

    module _ (h : at < length bs) where
      pub no_digit : is_digit (get_or bs at 0) ≡ false → number most (drop at bs) ≡ none
      unfolding number
      no_digit e = rw (drop-cons bs at 0 h, e)

      pub zero_there : is_digit (get_or bs at 0) ≡ true → get_or bs at 0 ≡ 48 → number most (drop at bs) ≡ some (0, drop (at + 1) bs)
      unfolding number
      zero_there e z = rw (drop-cons bs at 0 h, e, eq-eqb (get_or bs at 0) 48 z, add-one at)

      pub digits_there : is_digit (get_or bs at 0) ≡ true → (get_or bs at 0 ≡ 48 → ⊥) → number most (drop at bs) ≡ digits most 0 (drop at bs)
      unfolding number
      digits_there e z = rw (drop-cons bs at 0 h, e, ne_eqb (get_or bs at 0) 48 z)

      pub number_told : (r : Option (ℕ × ℕ)) → is_digit (get_or bs at 0) ≡ true → (get_or bs at 0 ≡ 48 → ⊥) → DigitsTold most bs at r → NumberTold most bs at r
      number_told (Some (n, after)) e z t = (digits_there e z ∙ t.0, t.1, t.2, t.3)
      number_told None e z t = digits_there e z ∙ t
