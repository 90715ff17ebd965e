-- Document 01, "Words": when a list of words is one term, and the first bad place.
use Rattle.std.specs.Prelude.{ℕ, zero, suc, ◌+◌, ◌-◌, ◌≤◌, ◌≡◌, Bool, ◌&&◌, List, [], ◌∷◌, length, leb, ltb, Result, Ok, Err}
use Rattle.std.proofs.Math.Option.{Option, none, some}
use Rattle.term.specs.Word.{Head, pick, rank, term_rank, count_of, head_of}
use Rattle.term.specs.Row.{Row, width, words, nesting, ranks, Formed}

-- what is asked of one tree in words: its ranks are at most `ranks`, its words and its nesting at most so many
pub record Limits : Type 0 where
  pub ranks : ℕ
  pub length : ℕ
  pub nesting : ℕ

-- "A term has kinds 0 to 2, 1 to 4,096 words, nesting at most 64"
abbrev pub term_limits : Limits
term_limits = record { ranks = term_rank; length = 4096; nesting = 64 }

-- the words are those of one tree within the limits
pub record IsTree (limits : Limits) (ws : List ℕ) : Type 0 where
  pub tree : Row
  pub one : width tree ≡ 1
  pub formed : Formed tree
  pub few : ranks tree ≤ limits.ranks
  pub low : nesting tree ≤ limits.nesting
  pub short : length ws ≤ limits.length
  pub same : ws ≡ words tree

abbrev pub IsTerm : List ℕ → Type 0
IsTerm ws = IsTree term_limits ws

-- the rank of a head, or a number that is no rank
abbrev pub rank_or : ℕ → Option Head → ℕ
rank_or r none = r
rank_or r (some h) = rank h

-- a word may stand at an offset where so many levels are open
unfoldable pub may_stand : Limits → ℕ → ℕ → ℕ → Bool
may_stand limits at open-levels w =
    leb (rank_or 4 (head_of w)) limits.ranks && (leb open-levels limits.nesting && ltb at limits.length)

-- the open levels, the innermost first, each with the number of its trees that are still to begin; a level with none is closed
unfoldable pub settle : List ℕ → List ℕ
settle [] = []
settle (zero ∷ levels) = settle levels
settle (suc k ∷ levels) = suc k ∷ levels

-- the words from offset `at` on, where these levels are open
unfoldable pub scan : Limits → ℕ → List ℕ → List ℕ → Result (Unit {0}) ℕ
scan limits at [] [] = Ok tt
scan limits at [] (w ∷ ws) = Err at
scan limits at (k ∷ levels) [] = Err at
scan limits at (k ∷ levels) (w ∷ ws) =
    pick (may_stand limits at (length (k ∷ levels)) w)
    (scan limits (at + 1) (settle (count_of w ∷ (k - 1) ∷ levels)) ws)
    (Err at)

-- one tree is one to begin at the outermost level
unfoldable pub check : Limits → List ℕ → Result (Unit {0}) ℕ
check limits ws = scan limits 0 (1 ∷ []) ws
