-- A number is read back from its digits, and the digits that were read are those of the number: one digit more is ten times the number and the digit.
use mathlib.Core.Path.{◌≡◌, refl, ap, ◌∙◌}
use mathlib.Core.Bool.{Bool, true, false}
use mathlib.Core.List.{List, [], ◌∷◌, ◌++◌, append_assoc}
use mathlib.Core.Option.{none, some}
use Prim.Native.Nat.{ℕ, zero, suc, ◌+◌, ◌-◌, ◌*◌, ◌/◌, ◌%◌, ◌≤◌, ◌<◌}
use native.Mathlib.Omega.{arith}
use lib.Dec.{leb, ltb, eqb}
use lib.ListN.{length, length-append}
use borrow.Author.Tests.{ltb-true, ltb-false, leb-true, eqb-true, eqb-false, lt-ltb, le-ltb, le-leb, ne_eqb}
use Rattle.term.specs.Word.{pick}
use Rattle.term.proofs.Laws.{never, and_left, and_right}
use Rattle.text.specs.Number.{decimal_in, decimal, is_digit, Read, digits, number}

-- the text goes on with no digit
unfoldable pub ends : List ℕ → Bool
ends [] = true
ends (b ∷ bs) = pick (is_digit b) false true

-- ---- digits
pub digit_is : (b : ℕ) → is_digit b ≡ true → (48 ≤ b) × (b ≤ 57)
unfolding is_digit
digit_is b e = (leb-true 48 b (and_left (leb 48 b) (leb b 57) e), leb-true b 57 (and_right (leb 48 b) (leb b 57) e))

pub is_digit_lem : (b : ℕ) → 48 ≤ b → b ≤ 57 → is_digit b ≡ true
unfolding is_digit
is_digit_lem b h l = rw (le-leb 48 b h, le-leb b 57 l)

-- ---- the steps do not matter where they are enough
enough : (f g n : ℕ) → n ≤ f → n ≤ g → decimal_in f n ≡ decimal_in g n
unfolding decimal_in
enough zero zero n h l = refl
enough zero (suc g) n h l = rw (lt-ltb n 10 (omega arith))
enough (suc f) zero n h l = rw (lt-ltb n 10 (omega arith))
enough (suc f) (suc g) n h l = go (ltb n 10) refl (λ k. enough f g (n / 10) (omega arith) (omega arith))
  where
    go : (b : Bool) → ltb n 10 ≡ b → (10 ≤ n → decimal_in f (n / 10) ≡ decimal_in g (n / 10)) → decimal_in (suc f) n ≡ decimal_in (suc g) n
    go true e again = rw e
    go false e again = rw (e, again (ltb-false n 10 e))

pub decimal_one : (n : ℕ) → n < 10 → decimal n ≡ (48 + n) ∷ []
unfolding decimal decimal_in
decimal_one zero h = refl
decimal_one (suc n) h = rw (lt-ltb (suc n) 10 h)

pub decimal_more : (n : ℕ) → 10 ≤ n → decimal n ≡ decimal (n / 10) ++ ((48 + n % 10) ∷ [])
unfolding decimal decimal_in
decimal_more zero h = absurd (omega arith)
decimal_more (suc n) h = rw (le-ltb (suc n) 10 h, enough n (suc n / 10) (suc n / 10) (omega arith) (omega arith))

pub decimal_digit : (n b : ℕ) → 1 ≤ n → is_digit b ≡ true → decimal (n * 10 + (b - 48)) ≡ decimal n ++ (b ∷ [])
decimal_digit n b h d =
    let i = digit_is b d in
    let q : (n * 10 + (b - 48)) / 10 ≡ n = omega arith in
    let r : 48 + (n * 10 + (b - 48)) % 10 ≡ b = omega arith in
    decimal_more (n * 10 + (b - 48)) (omega arith) ∙ rw (q, r)

-- a number has at most as many digits as it counts, and one
few_in : (f n : ℕ) → length (decimal_in f n) ≤ suc f
unfolding decimal_in
few_in zero n = omega arith
few_in (suc f) n = go (ltb n 10) (few_in f (n / 10))
  where
    go : (b : Bool) → length (decimal_in f (n / 10)) ≤ suc f → length (pick b ((48 + n) ∷ []) (decimal_in f (n / 10) ++ ((48 + n % 10) ∷ []))) ≤ suc (suc f)
    go true h = omega arith
    go false h = rw length-append (omega arith)

pub decimal_few : (n : ℕ) → length (decimal n) ≤ suc n
unfolding decimal
decimal_few n = few_in n n

-- ---- what is written is read
pub ended : (most n : ℕ) (rest : List ℕ) → ends rest ≡ true → digits most n rest ≡ some (n, rest)
unfolding digits ends
ended most n [] e = refl
ended most n (b ∷ bs) e = go (is_digit b) e
  where
    go : (d : Bool) → pick d false true ≡ true → pick d (pick (leb (n * 10 + (b - 48)) most) (digits most (n * 10 + (b - 48)) bs) none) (some (n, b ∷ bs)) ≡ some (n, b ∷ bs)
    go true z = never (cc)
    go false z = refl

-- one digit is passed
pub passed : (most n b : ℕ) (bs : List ℕ) → is_digit b ≡ true → n * 10 + (b - 48) ≤ most → digits most n (b ∷ bs) ≡ digits most (n * 10 + (b - 48)) bs
unfolding digits
passed most n b bs d h = rw (d, le-leb (n * 10 + (b - 48)) most h)

pub first_passed : (most b : ℕ) (bs : List ℕ) → is_digit b ≡ true → (b ≡ 48 → ⊥) → number most (b ∷ bs) ≡ digits most 0 (b ∷ bs)
unfolding number
first_passed most b bs d z = rw (d, ne_eqb b 48 z)

number_in : (f n most : ℕ) (rest : List ℕ) → n ≤ f → 1 ≤ n → n ≤ most → number most (decimal n ++ rest) ≡ digits most n rest
number_in zero n most rest l h m = absurd (omega arith)
number_in (suc f) n most rest l h m = go (ltb n 10) refl (λ k. number_in f (n / 10) most ((48 + n % 10) ∷ rest) (omega arith) (omega arith) (omega arith))
  where
    go : (b : Bool) → ltb n 10 ≡ b → (10 ≤ n → number most (decimal (n / 10) ++ ((48 + n % 10) ∷ rest)) ≡ digits most (n / 10) ((48 + n % 10) ∷ rest))
        → number most (decimal n ++ rest) ≡ digits most n rest
    go true e again =
        let k = ltb-true n 10 e in
        let v : 0 * 10 + (48 + n - 48) ≡ n = omega arith in
        rw (decimal_one n k)
        (first_passed most (48 + n) rest (is_digit_lem (48 + n) (omega arith) (omega arith)) (λ z. omega arith)
        ∙ passed most 0 (48 + n) rest (is_digit_lem (48 + n) (omega arith) (omega arith)) (omega arith)
        ∙ ap (λ (x : ℕ). digits most x rest) v)
    go false e again =
        let k = ltb-false n 10 e in
        let v : n / 10 * 10 + (48 + n % 10 - 48) ≡ n = omega arith in
        rw (decimal_more n k, append_assoc)
        (again k
        ∙ passed most (n / 10) (48 + n % 10) rest (is_digit_lem (48 + n % 10) (omega arith) (omega arith)) (omega arith)
        ∙ ap (λ (x : ℕ). digits most x rest) v)

pub number_back : (most n : ℕ) (rest : List ℕ) → n ≤ most → ends rest ≡ true → number most (decimal n ++ rest) ≡ some (n, rest)
unfolding number
number_back most zero rest h e = rw (decimal_one 0 (omega arith), is_digit_lem 48 (omega arith) (omega arith))
number_back most (suc n) rest h e = number_in (suc n) (suc n) most rest (omega arith) (omega arith) h ∙ ended most (suc n) rest e

-- ---- what was read is what is written
abbrev DigitsAre : ℕ → List ℕ → Read ℕ → Type 0
DigitsAre most bs none = Unit {0}
DigitsAre most bs (some p) = (bs ≡ decimal p.0 ++ p.1) × (p.0 ≤ most)

digits_are : (most n : ℕ) (bs : List ℕ) → 1 ≤ n → n ≤ most → DigitsAre most (decimal n ++ bs) (digits most n bs)
unfolding digits
digits_are most n [] h m = (refl, m)
digits_are most n (b ∷ bs) h m =
    go (is_digit b) refl (leb (n * 10 + (b - 48)) most) refl (λ z. digits_are most (n * 10 + (b - 48)) bs (omega arith) z)
  where
    go : (d : Bool) → is_digit b ≡ d → (l : Bool) → leb (n * 10 + (b - 48)) most ≡ l
        → (n * 10 + (b - 48) ≤ most → DigitsAre most (decimal (n * 10 + (b - 48)) ++ bs) (digits most (n * 10 + (b - 48)) bs))
        → DigitsAre most (decimal n ++ (b ∷ bs)) (pick d (pick l (digits most (n * 10 + (b - 48)) bs) none) (some (n, b ∷ bs)))
    go true e true k again = rw (decimal_digit n b h e, append_assoc) at (again (leb-true _ most k))
    go true e false k again = tt
    go false e l k again = (refl, m)

number_are : (most : ℕ) (bs : List ℕ) → DigitsAre most bs (number most bs)
unfolding number digits
number_are most [] = tt
number_are most (b ∷ bs) = go (is_digit b) refl (eqb b 48) refl (leb (0 * 10 + (b - 48)) most) refl
  where
    go : (d : Bool) → is_digit b ≡ d → (z : Bool) → eqb b 48 ≡ z → (l : Bool) → leb (0 * 10 + (b - 48)) most ≡ l
        → DigitsAre most (b ∷ bs) (pick d (pick z (some (0, bs)) (pick d (pick l (digits most (0 * 10 + (b - 48)) bs) none) (some (0, b ∷ bs)))) none)
    go true e true q l k = let v = eqb-true b 48 q in (rw (decimal_one 0 (omega arith), v), omega arith)
    go true e false q true k =
        let i = digit_is b e in
        let v : 48 + (0 * 10 + (b - 48)) ≡ b = omega arith in
        rw (decimal_one (0 * 10 + (b - 48)) (omega arith), v) at (digits_are most (0 * 10 + (b - 48)) bs (omega (arith, eqb-false b 48 q)) (leb-true _ most k))
    go true e false q false k = tt
    go false e z q l k = tt

pub number_is : (most : ℕ) (bs : List ℕ) (n : ℕ) (rest : List ℕ) → number most bs ≡ some (n, rest) → (bs ≡ decimal n ++ rest) × (n ≤ most)
number_is most bs n rest e = rw e at (number_are most bs)
