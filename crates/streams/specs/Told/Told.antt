-- What reading from standard input tells.
use Rattle.std.specs.Prelude.{ℕ, ◌<◌, ◌≤◌, List, length, take, Result, IfOk}
use Rattle.std.specs.Io.KnownBytes.{Consumes, IsAtEnd}
use Rattle.std.specs.declared.option.Option.{Option}

-- at most so many bytes came in
abbrev pub Within : {E : Type 0} → ℕ → Result ℕ E → Type 0
Within most came = IfOk came (λ n. n ≤ most)

-- all reads: the input lost the bytes that the text begins with, and where there was room for more it is at its end
abbrev pub CameIn : {E : Type 0} → Option (List ℕ) → Option (List ℕ) → List ℕ → Result ℕ E → Type 0
CameIn old new text came = IfOk came (λ n. Consumes old new (take n text) × (n < length text → IsAtEnd new))
