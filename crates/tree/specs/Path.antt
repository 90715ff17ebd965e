-- Document 01, "The tree": "Places number the subterms uncovered on one path: the root is 0, and entering a node appends its children in order with the next numbers."
use Rattle.std.specs.Prelude.{ℕ, zero, suc, Bool, true, false, List, [], ◌∷◌, ◌++◌}
use Rattle.term.specs.Word.{pick}
use Rattle.term.specs.Part.{same_words}
use Rattle.fit.specs.Constraint.{Place, Constraint}

-- a place that was uncovered, and whether its node was entered; the number of a place is where it stands in the list
pub record Uncovered : Type 0 where
  pub place : Place
  pub entered : Bool

abbrev pub root : Uncovered
root = record { place = 0 ∷ []; entered = false }

-- the place of a number
unfoldable pub place_numbered : ℕ → List Uncovered → Place
place_numbered n [] = []
place_numbered zero (u ∷ us) = u.place
place_numbered (suc n) (u ∷ us) = place_numbered n us

-- the number of a place
unfoldable pub number_in : Place → List Uncovered → ℕ
number_in p [] = 0
number_in p (u ∷ us) = pick (same_words u.place p) 0 (suc (number_in p us))

-- the children of a place, from number i on
unfoldable pub children_from : Place → ℕ → ℕ → List Uncovered
children_from p i zero = []
children_from p i (suc more) = record { place = i ∷ p; entered = false } ∷ children_from p (suc i) more

unfoldable pub marked : ℕ → List Uncovered → List Uncovered
marked n [] = []
marked zero (u ∷ us) = record { place = u.place; entered = true } ∷ us
marked (suc n) (u ∷ us) = u ∷ marked n us

-- the node of a number is entered: it has so many children
unfoldable pub enter : ℕ → ℕ → List Uncovered → List Uncovered
enter n c us = marked n us ++ children_from (place_numbered n us) 0 c

-- what a path says: the places uncovered on it, and the constraints that were tested and hold
pub record OnPath : Type 0 where
  pub uncovered : List Uncovered
  pub held : List Constraint

-- a path begins at the root
abbrev pub start : OnPath
start = record { uncovered = root ∷ []; held = [] }
