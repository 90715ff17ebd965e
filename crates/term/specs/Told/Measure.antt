-- What a table of lengths says from an offset on.
use Rattle.std.specs.Prelude.{ℕ, ◌≤◌, ◌<◌, ◌≡◌, List, length, drop, get_or}
use Rattle.term.specs.Part.{part_end}

-- each entry from here on is the length of the part at its offset
abbrev pub Measured : List ℕ → List ℕ → ℕ → Type 0
Measured words table from = (at : ℕ) → from ≤ at → at < length words → get_or table at 0 ≡ part_end (drop at words)
