-- What reading the lines of a book from an offset of a text tells.
use Rattle.std.specs.Prelude.{ℕ, ◌≤◌, ◌≡◌, List, length, drop, Option, Some, None, Result, Ok, Err}
use Rattle.std.proofs.Math.Option.{none, some}
use Rattle.std.proofs.lemmas.List.Edits.{sets}
use Rattle.text.specs.Told.Told.{NumberIs}
use Rattle.text.specs.BookText.{vars_key, left_key, keyed, number_line, side_line, Rules, rules_are, bad_at, left_then, vars_then}

-- the key stands at the offset `at` of a text
abbrev pub KeyTold : List ℕ → List ℕ → ℕ → Option ℕ → Type 0
KeyTold key bs at (Some next) = (keyed key (drop at bs) ≡ some (drop next bs)) × (at ≤ next) × (next ≤ length bs)
KeyTold key bs at None = keyed key (drop at bs) ≡ none

abbrev pub NumberLineTold : List ℕ → ℕ → List ℕ → ℕ → Option (ℕ × ℕ) → Type 0
NumberLineTold key most bs at r = NumberIs (number_line key most) most bs at r

-- a line of tokens, whose words went into a slice from `to` on
abbrev pub SideTold : List ℕ → List ℕ → ℕ → ℕ → List ℕ → List ℕ → Option (ℕ × ℕ) → Type 0
SideTold key bs at to out done (Some (n, next)) =
    (ws : List ℕ) × (side_line key (drop at bs) ≡ some (ws, drop next bs)) × (length ws ≡ n) × (done ≡ sets out to ws) × (next ≤ length bs)
SideTold key bs at to out done None = side_line key (drop at bs) ≡ none

-- rules of at most `most` words, as the reading o has them, whose words went into a slice from `to` on
abbrev pub RulesTold : (List ℕ → Rules) → ℕ → List ℕ → ℕ → ℕ → List ℕ → List ℕ → Result (ℕ × ℕ) ℕ → Type 0
RulesTold o most bs at to out done (Ok (n, next)) =
    (ws : List ℕ) × (o (drop at bs) ≡ rules_are ws (drop next bs)) × (length ws ≡ n) × (done ≡ sets out to ws) × (next ≤ length bs) × (n ≤ most)
RulesTold o most bs at to out done (Err line) = o (drop at bs) ≡ bad_at line

-- the lines of a rule from `left=` on
abbrev pub sides_read : ℕ → ℕ → List ℕ → Rules
sides_read number v bs = left_then number v (side_line left_key bs)

-- the lines of a rule from `vars=` on
abbrev pub vars_read : ℕ → List ℕ → Rules
vars_read number bs = vars_then number (number_line vars_key 16 bs)

-- what the lines up to `vars=`, as the reading o has them, leave to read
abbrev pub VarsTold : (List ℕ → Rules) → ℕ → List ℕ → ℕ → Result (ℕ × ℕ) ℕ → Type 0
VarsTold o number bs at (Ok (v, next)) = (o (drop at bs) ≡ sides_read number v (drop next bs)) × (next ≤ length bs)
VarsTold o number bs at (Err line) = o (drop at bs) ≡ bad_at line
