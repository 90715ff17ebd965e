-- Document 01's tokens as words, and the books of its marked exercises.
use Rattle.std.specs.Prelude.{List, [], ◌∷◌, ℕ}
use Rattle.term.specs.Word.{symbol, abstraction, variable, pattern, word}

-- `s<id>.<count>`, `l`, `v<id>`, `m<id>.<count>`
unfoldable pub s : ℕ → ℕ → ℕ
s i c = word (symbol i c)

unfoldable pub l : ℕ
l = word abstraction

unfoldable pub v : ℕ → ℕ
v i = word (variable i)

unfoldable pub m : ℕ → ℕ → ℕ
m i c = word (pattern i c)

unfoldable pub book_a : List ℕ
book_a = 3
    ∷ 1 ∷ 3 ∷ 1 ∷ s 2 2 ∷ m 0 0 ∷ m 0 0 ∷ m 0 0
    ∷ 1 ∷ 3 ∷ 1 ∷ s 3 1 ∷ l ∷ m 0 0 ∷ m 0 0
    ∷ 1 ∷ 5 ∷ 5 ∷ s 3 1 ∷ l ∷ s 4 1 ∷ m 0 1 ∷ v 1 ∷ s 4 1 ∷ s 3 1 ∷ l ∷ m 0 1 ∷ v 1
    ∷ []

-- "one left side": its right side is of no account, and is s7.0 here
unfoldable pub book_b : List ℕ
book_b = 1 ∷ 1 ∷ 8 ∷ 1 ∷ s 6 2 ∷ l ∷ m 0 1 ∷ v 1 ∷ l ∷ l ∷ m 0 1 ∷ v 2 ∷ s 7 0 ∷ []
