-- Document 01, "Text and program": a line of tokens that part by one blank and end in byte 10.
use Rattle.std.specs.Prelude.{ℕ, zero, suc, List, [], ◌∷◌, ◌++◌, eqb}
use Rattle.std.proofs.Math.Option.{none, some}
use Rattle.term.specs.Word.{Head, word, pick}
use Rattle.text.specs.Bytes.{byte}
use Rattle.text.specs.Number.{Read}
use Rattle.text.specs.Token.{word_text, token}

-- the tokens after the first, each behind its blank, and the end of the line
unfoldable pub rest_text : List ℕ → List ℕ
rest_text [] = byte "\n" ∷ []
rest_text (w ∷ ws) = byte " " ∷ (word_text w ++ rest_text ws)

unfoldable pub line_text : List ℕ → List ℕ
line_text [] = byte "\n" ∷ []
line_text (w ∷ ws) = word_text w ++ rest_text ws

-- ---- reading
abbrev pub ahead : List ℕ → Read (List ℕ) → Read (List ℕ)
ahead ws none = none
ahead ws (some p) = some (ws ++ p.0, p.1)

-- after a token with the word w: the end of the line, or a blank and the other tokens
abbrev pub token_end : (List ℕ → Read (List ℕ)) → ℕ → List ℕ → Read (List ℕ)
token_end others w [] = none
token_end others w (b ∷ bs) = pick (eqb b (byte "\n")) (some (w ∷ [], bs)) (pick (eqb b (byte " ")) (ahead (w ∷ []) (others bs)) none)

abbrev pub token_then : (List ℕ → Read (List ℕ)) → Read Head → Read (List ℕ)
token_then others none = none
token_then others (some p) = token_end others (word p.0) p.1

-- the words of a line of 1 to `most` tokens, and the text after it
unfoldable pub line : ℕ → List ℕ → Read (List ℕ)
line zero bs = none
line (suc most) bs = token_then (line most) (token bs)
