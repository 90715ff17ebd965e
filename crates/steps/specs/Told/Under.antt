-- What is known where a word of a right side or of a body is written: the abstractions around it, and the ids of the right side's own there.
use Rattle.std.specs.Prelude.{ℕ, zero, suc, ◌+◌, ◌-◌, ◌≤◌, ◌<◌, ◌≡◌, List, [], ◌∷◌, eqb, length, get_or, set, replicate}
use Rattle.term.specs.Word.{pick, kind_of}
use Rattle.term.specs.Told.Walk.{inside_word}
use Rattle.steps.specs.declared.under.Under.{Under}
use Rattle.steps.specs.declared.under.Within.{Within}

-- what is told of it
pub record Place : Type 0 where
  pub depth : ℕ
  pub own : ℕ
  pub marks : List ℕ
  pub levels : ℕ

abbrev pub place : Under → Place
place u = record { depth = u.depth; own = u.own; marks = u.marks; levels = u.levels }

-- each of the right side's own abstractions is one of those around
pub record Around (p : Place) : Type 0 where
  pub long : length p.marks ≡ 16
  pub few : p.own ≤ 16
  pub low : (j : ℕ) → j < p.own → get_or p.marks j 0 < p.depth

abbrev pub at_root : ℕ → Place
at_root levels = record { depth = 0; own = 0; marks = replicate 16 0; levels = levels }

abbrev pub deeper_by : ℕ → Place → Place
deeper_by e p = record { depth = p.depth + e; own = p.own; marks = p.marks; levels = p.levels }

-- one level down
abbrev pub lowered : Place → Place
lowered p = record { depth = p.depth; own = p.own; marks = p.marks; levels = p.levels - 1 }

-- inside an abstraction of the right side
abbrev pub entered : Place → Place
entered p = record { depth = p.depth + 1; own = p.own + 1; marks = set p.marks p.own p.depth; levels = p.levels }

abbrev pub inside_right : ℕ → Place → Place
inside_right w p = pick (eqb (kind_of w) 1) (entered (lowered p)) (lowered p)

-- inside a word of a body
pub record InsideBody (w : ℕ) (b inner : Within) : Type 0 where
  pub place : place inner.under ≡ lowered (place b.under)
  pub e : inner.e ≡ inside_word w b.e
  pub count : inner.count ≡ b.count
  pub at : inner.at ≡ b.at

-- the ids of the first n of them, the innermost first
unfoldable pub ids_from : ℕ → List ℕ → ℕ → List ℕ
ids_from depth marks zero = []
ids_from depth marks (suc n) = (depth - get_or marks n 0) ∷ ids_from depth marks n

abbrev pub ids_in : Place → List ℕ
ids_in p = ids_from p.depth p.marks p.own
