-- The list of a pattern variable, in words: the ids of the variables that follow it.
use Rattle.std.specs.Prelude.{ℕ, zero, suc, ◌-◌, List, [], ◌∷◌, ◌++◌, length, replicate, leb, Option as StdOption, Some, None}
use Rattle.std.proofs.Math.Option.{Option, none, some}
use Rattle.term.specs.Word.{Head, pick, head_of}
use Rattle.book.specs.Rule.{id_before}

abbrev pub id_before_o : Option Head → Option (List ℕ) → Option (List ℕ)
id_before_o none o = none
id_before_o (some h) o = id_before h o

-- the ids of the k variables that the words begin with; none where something else stands there
unfoldable pub variable_ids : ℕ → List ℕ → Option (List ℕ)
variable_ids zero ws = some []
variable_ids (suc k) [] = none
variable_ids (suc k) (w ∷ ws) = id_before_o (head_of w) (variable_ids k ws)

-- a list has at most 4 ids
unfoldable pub list_in : ℕ → List ℕ → Option (List ℕ)
list_in k ws = pick (leb k 4) (variable_ids k ws) none

-- four words: the ids and then zeros
unfoldable pub four_of : Option (List ℕ) → StdOption (List ℕ)
four_of none = None
four_of (some ys) = Some (ys ++ replicate (4 - length ys) 0)
