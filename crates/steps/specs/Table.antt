-- Document 02, E3: "After each step only entries in the new part, those of its ancestors, and the moved tail may differ". No operation stands on it yet.
use Rattle.std.specs.Prelude.{ℕ, zero, suc, ◌+◌, ◌-◌, List, [], ◌∷◌, ◌++◌, ltb, length, drop}
use Rattle.term.specs.Word.{pick}

-- the entries before the part: an ancestor's, which reaches past the part's offset, changes by the difference of the lengths
unfoldable pub resized : (at old new : ℕ) → List ℕ → List ℕ
resized zero old new table = []
resized (suc at) old new [] = []
resized (suc at) old new (n ∷ ns) = pick (ltb (suc at) n) (n + new - old) n ∷ resized at old new ns

-- the table with the part at an offset replaced: the entries before it, those of the new part, the moved tail
unfoldable pub spliced_table : (table : List ℕ) (at old : ℕ) (new : List ℕ) → List ℕ
spliced_table table at old new = resized at old (length new) table ++ (new ++ drop (at + old) table)
