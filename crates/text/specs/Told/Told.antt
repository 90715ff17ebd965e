-- What reading from an offset of a text tells: what stands there and the offset after it, or that it does not stand there.
use Rattle.std.specs.Prelude.{ℕ, ◌+◌, ◌*◌, ◌≤◌, ◌≡◌, List, length, drop, Option, Some, None}
use Rattle.std.proofs.Math.Option.{none, some}
use Rattle.std.proofs.lemmas.List.Edits.{sets}
use Rattle.term.specs.Word.{Head, word}
use Rattle.text.specs.Number.{Read, digits, number}
use Rattle.text.specs.Token.{dotted_read, variable_read, token}
use Rattle.text.specs.Line.{line}

-- a number from the offset `at` of a text, as the reading o has it
abbrev pub NumberIs : (List ℕ → Read ℕ) → ℕ → List ℕ → ℕ → Option (ℕ × ℕ) → Type 0
NumberIs o most bs at (Some (n, next)) = (o (drop at bs) ≡ some (n, drop next bs)) × (n ≤ most) × (at ≤ next) × (next ≤ length bs)
NumberIs o most bs at None = o (drop at bs) ≡ none

abbrev pub DigitsTold : ℕ → List ℕ → ℕ → Option (ℕ × ℕ) → Type 0
DigitsTold most bs at r = NumberIs (digits most 0) most bs at r

abbrev pub NumberTold : ℕ → List ℕ → ℕ → Option (ℕ × ℕ) → Type 0
NumberTold most bs at r = NumberIs (number most) most bs at r

-- an id and a count in a word of this kind, whatever head they are for
abbrev pub DottedTold : ℕ → ℕ → ℕ → List ℕ → ℕ → Option (ℕ × ℕ) → Type 0
DottedTold kind ids counts bs at (Some (w, next)) =
    (i : ℕ) × (c : ℕ) × (w ≡ kind * 16777216 + c * 65536 + i)
    × ((head : ℕ → ℕ → Head) → dotted_read head ids counts (drop at bs) ≡ some (head i c, drop next bs)) × (at ≤ next) × (next ≤ length bs)
DottedTold kind ids counts bs at None = (head : ℕ → ℕ → Head) → dotted_read head ids counts (drop at bs) ≡ none

-- a token from the offset `at` of a text, as the reading o has it
abbrev pub HeadIs : (List ℕ → Read Head) → List ℕ → ℕ → Option (ℕ × ℕ) → Type 0
HeadIs o bs at (Some (w, next)) = (h : Head) × (w ≡ word h) × (o (drop at bs) ≡ some (h, drop next bs)) × (at ≤ next) × (next ≤ length bs)
HeadIs o bs at None = o (drop at bs) ≡ none

abbrev pub VariableTold : List ℕ → ℕ → Option (ℕ × ℕ) → Type 0
VariableTold bs at r = HeadIs (λ rest. variable_read (number 65535 rest)) bs at r

abbrev pub TokenTold : List ℕ → ℕ → Option (ℕ × ℕ) → Type 0
TokenTold bs at r = HeadIs token bs at r

-- a line of 1 to `most` tokens, whose words went into a slice from `to` on
abbrev pub LineTold : ℕ → List ℕ → ℕ → ℕ → List ℕ → List ℕ → Option (ℕ × ℕ) → Type 0
LineTold most bs at to out done (Some (n, next)) =
    (ws : List ℕ) × (line most (drop at bs) ≡ some (ws, drop next bs)) × (length ws ≡ n) × (done ≡ sets out to ws) × (next ≤ length bs)
LineTold most bs at to out done None = line most (drop at bs) ≡ none
