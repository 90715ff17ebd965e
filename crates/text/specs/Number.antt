-- Document 01, "Text and program": numbers are decimal without leading zeros, within their ranges.
use Rattle.std.specs.Prelude.{ℕ, zero, suc, ◌+◌, ◌-◌, ◌*◌, ◌/◌, ◌%◌, Bool, ◌&&◌, List, [], ◌∷◌, ◌++◌, leb, ltb, eqb}
use Rattle.std.proofs.Math.Option.{Option, none, some}
use Rattle.term.specs.Word.{pick}
use Rattle.text.specs.Bytes.{byte}

-- the digits of n; n steps are enough
unfoldable pub decimal_in : ℕ → ℕ → List ℕ
decimal_in zero n = (byte "0" + n) ∷ []
decimal_in (suc steps) n = pick (ltb n 10) ((byte "0" + n) ∷ []) (decimal_in steps (n / 10) ++ ((byte "0" + n % 10) ∷ []))

unfoldable pub decimal : ℕ → List ℕ
decimal n = decimal_in n n

unfoldable pub is_digit : ℕ → Bool
is_digit b = leb (byte "0") b && leb b (byte "9")

-- what was read from the front of a text, and the bytes after it; none where it does not stand there
abbrev pub Read : Type 0 → Type 0
Read A = Option (A × List ℕ)

-- the number whose digits so far are those of n, at most `most`; its digits are as many as stand there
unfoldable pub digits : ℕ → ℕ → List ℕ → Read ℕ
digits most n [] = some (n, [])
digits most n (b ∷ bs) =
    pick (is_digit b) (pick (leb (n * 10 + (b - byte "0")) most) (digits most (n * 10 + (b - byte "0")) bs) none) (some (n, b ∷ bs))

-- a number from the front of a text, at most `most`; after a digit 0 in front no other is taken
unfoldable pub number : ℕ → List ℕ → Read ℕ
number most [] = none
number most (b ∷ bs) = pick (is_digit b) (pick (eqb b (byte "0")) (some (0, bs)) (digits most 0 (b ∷ bs))) none
