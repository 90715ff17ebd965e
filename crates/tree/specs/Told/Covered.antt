-- What a path has reached: the numbers of its places, which of them are open, and that a row's sub-patterns stand at uncovered places or below open ones.
use Rattle.std.specs.Prelude.{ℕ, zero, suc, ◌≡◌, Bool, false, not, List, [], ◌∷◌, ◌⊎◌}
use Rattle.term.specs.Word.{pick}
use Rattle.term.specs.Part.{same_words}
use Rattle.fit.specs.Left.{Left, end, hole, part}
use Rattle.fit.specs.Constraint.{Place}
use Rattle.tree.specs.Path.{Uncovered}

-- a place is uncovered
abbrev pub Within : Place → List Uncovered → Type 0
Within p [] = ⊥
Within p (u ∷ us) = (u.place ≡ p) ⊎ Within p us

-- a place is uncovered and not entered
abbrev pub Waiting : Place → List Uncovered → Type 0
Waiting p [] = ⊥
Waiting p (u ∷ us) = ((u.place ≡ p) × (u.entered ≡ false)) ⊎ Waiting p us

-- each pattern variable is uncovered, or below a place that waits
abbrev pub Covered : List Uncovered → Place → ℕ → Left → Type 0
Covered us p i end = Unit {0}
Covered us p i (hole x ys rest) = Within (i ∷ p) us × Covered us p (suc i) rest
Covered us p i (part h kids rest) = (Waiting (i ∷ p) us ⊎ Covered us (i ∷ p) 0 kids) × Covered us p (suc i) rest

-- one more than the number of a place, 0 where it is not uncovered
abbrev pub next_or : ℕ → ℕ
next_or zero = 0
next_or (suc n) = suc (suc n)

unfoldable pub numbered_as : Place → List Uncovered → ℕ
numbered_as p [] = 0
numbered_as p (u ∷ us) = pick (same_words u.place p) 1 (next_or (numbered_as p us))

-- the place of a number is uncovered and not entered
unfoldable pub is_open : ℕ → List Uncovered → Bool
is_open n [] = false
is_open zero (u ∷ us) = not u.entered
is_open (suc n) (u ∷ us) = is_open n us
