-- A term in the work area with one of its parts replaced, in words.
use Rattle.std.specs.Prelude.{ℕ, ◌+◌, ◌≤◌, ◌<◌, ◌≡◌, List, ◌++◌, length, take, drop, Option, Some, None}
use Rattle.term.specs.Part.{part_end}

-- the words before the part that begins at an offset, the new words, and the words after the part
unfoldable pub spliced_words : List ℕ → ℕ → List ℕ → List ℕ
spliced_words ws at new = take at ws ++ (new ++ drop (at + part_end (drop at ws)) ws)

unfoldable pub SpliceTold : List ℕ → ℕ → List ℕ → List ℕ → Option ℕ → Type 0
SpliceTold ws at new area (Some size) = (size ≡ length (spliced_words ws at new)) × (size ≤ 4096) × (take size area ≡ spliced_words ws at new)
SpliceTold ws at new area None = 4096 < length (spliced_words ws at new)
