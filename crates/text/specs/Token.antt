-- Document 01, "Words": the token of each row of the table.
use Rattle.std.specs.Prelude.{ℕ, List, [], ◌∷◌, ◌++◌, leb, eqb}
use Rattle.std.proofs.Math.Option.{Option, none, some}
use Rattle.term.specs.Word.{Head, symbol, abstraction, variable, pattern, pick, head_of}
use Rattle.text.specs.Bytes.{byte}
use Rattle.text.specs.Number.{decimal, number, Read}

-- `<id>.<count>`
unfoldable pub dotted : ℕ → ℕ → List ℕ
dotted i c = decimal i ++ (byte "." ∷ decimal c)

-- `s<id>.<count>`, `l`, `v<id>`, `m<id>.<count>`
unfoldable pub token_text : Head → List ℕ
token_text (symbol i c) = byte "s" ∷ dotted i c
token_text abstraction = byte "l" ∷ []
token_text (variable i) = byte "v" ∷ decimal i
token_text (pattern i c) = byte "m" ∷ dotted i c

abbrev pub token_o : Option Head → List ℕ
token_o none = []
token_o (some h) = token_text h

-- the token of a word; nothing where the word breaks the table
unfoldable pub word_text : ℕ → List ℕ
word_text w = token_o (head_of w)

-- ---- reading
abbrev pub count_read : (ℕ → ℕ → Head) → ℕ → Read ℕ → Read Head
count_read head i none = none
count_read head i (some p) = some (head i p.0, p.1)

abbrev pub dot_read : (ℕ → ℕ → Head) → ℕ → ℕ → List ℕ → Read Head
dot_read head counts i [] = none
dot_read head counts i (b ∷ bs) = pick (eqb b (byte ".")) (count_read head i (number counts bs)) none

abbrev pub ident_read : (ℕ → ℕ → Head) → ℕ → Read ℕ → Read Head
ident_read head counts none = none
ident_read head counts (some p) = dot_read head counts p.0 p.1

-- an id of at most `ids`, a dot and a count of at most `counts`
unfoldable pub dotted_read : (ℕ → ℕ → Head) → ℕ → ℕ → List ℕ → Read Head
dotted_read head ids counts bs = ident_read head counts (number ids bs)

abbrev pub variable_read : Read ℕ → Read Head
variable_read none = none
variable_read (some p) = pick (leb 1 p.0) (some (variable p.0, p.1)) none

-- a token from the front of a text; the ranges of the table are part of its form
unfoldable pub token : List ℕ → Read Head
token [] = none
token (b ∷ bs) =
    pick (eqb b (byte "s")) (dotted_read symbol 1023 15 bs)
    (pick (eqb b (byte "l")) (some (abstraction, bs))
    (pick (eqb b (byte "v")) (variable_read (number 65535 bs))
    (pick (eqb b (byte "m")) (dotted_read pattern 15 4 bs)
    none)))
