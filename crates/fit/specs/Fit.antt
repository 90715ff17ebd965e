-- Document 01, "Fit": a rule fits a term when some bodies, one for each variable, turn its left side into that term, word for word.
use Rattle.std.specs.Prelude.{ℕ, ◌≤◌, ◌<◌, ◌≡◌, Bool, true, false, ◌&&◌, List, [], ◌∷◌, ◌++◌, eqb, length}
use Rattle.std.proofs.Math.Option.{Option, none, some}
use Rattle.term.specs.Word.{word, pick}
use Rattle.term.specs.Part.{same_words}
use Rattle.term.specs.Row.{Row, nothing, node, width, words, ranks, nesting, Formed, ◌⧺◌}
use Rattle.term.specs.Renumber.{inside, to_term, to_body}
use Rattle.fit.specs.Left.{Left, end, hole, part}

-- a left side built from bodies: all occurrences of a variable share one body
unfoldable pub build : (ℕ → Row) → ℕ → Left → Row
build b d end = nothing
build b d (hole x ys rest) = to_term d ys (b x) ⧺ build b d rest
build b d (part h kids rest) = node h (build b (inside h d) kids) (build b d rest)

-- what any row of a term keeps to, however many trees it has: "kinds 0 to 2", no more than 4,096 words, "nesting at most 64"
pub record WithinTerm (t : Row) : Type 0 where
  pub formed : Formed t
  pub few : ranks t ≤ 2
  pub low : nesting t ≤ 64
  pub short : length (words t) ≤ 4096

-- "a body, which is itself one term"
pub record IsBody (b : Row) : Type 0 where
  pub one : width b ≡ 1
  pub within : WithinTerm b

-- bodies for the variables 0..vars−1 that turn the left side into the term with these words
pub record Fits (vars : ℕ) (left : Left) (ws : List ℕ) (b : ℕ → Row) : Type 0 where
  pub bodies : (x : ℕ) → x < vars → IsBody (b x)
  pub same : words (build b 0 left) ≡ ws

-- ---- matching as a function: the body at each occurrence, in prefix order
abbrev pub Found : Type 0
Found = List (ℕ × Row)

abbrev pub body_then : ℕ → Option Row → Option Found → Option Found
body_then x none o = none
body_then x (some b) none = none
body_then x (some b) (some l) = some ((x, b) ∷ l)

abbrev pub both_found : Option Found → Option Found → Option Found
both_found none o = none
both_found (some l) none = none
both_found (some l) (some k) = some (l ++ k)

abbrev pub only_if : Bool → Option Found → Option Found
only_if true o = o
only_if false o = none

unfoldable pub found : ℕ → Left → Row → Option Found
found d end nothing = some []
found d end (node g ts rs) = none
found d (hole x ys rest) nothing = none
found d (hole x ys rest) (node g ts rs) = body_then x (to_body d ys (node g ts nothing)) (found d rest rs)
found d (part h kids rest) nothing = none
found d (part h kids rest) (node g ts rs) = only_if (eqb (word h) (word g)) (both_found (found (inside h d) kids ts) (found d rest rs))

-- the body at the first occurrence of a variable
abbrev pub body_b : Bool → Row → Row → Row
body_b true b c = b
body_b false b c = c

unfoldable pub body_in : Found → ℕ → Row
body_in [] x = nothing
body_in (p ∷ l) x = body_b (eqb x p.0) p.1 (body_in l x)

-- each body is that of the first occurrence of its variable
unfoldable pub all_same : Found → Found → Bool
all_same l [] = true
all_same l (p ∷ k) = same_words (words (body_in l p.0)) (words p.1) && all_same l k

abbrev pub agreed : Option Found → Option (ℕ → Row)
agreed none = none
agreed (some l) = pick (all_same l l) (some (body_in l)) none

-- the bodies with which the left side fits the term; none where it does not fit
unfoldable pub matching : Left → Row → Option (ℕ → Row)
matching left t = agreed (found 0 left t)
