-- What loading a book leaves in the compiler's tables: the rules at their spots, the root's number in every row, and a mark for each row that no rule is.
use Rattle.std.specs.Prelude.{ℕ, ◌+◌, ◌-◌, ◌*◌, ◌%◌, ◌<◌, ◌≡◌, Bool, false, List, eqb, ltb, length, get_or, drop}
use Rattle.std.proofs.Math.Option.{Option, none, some}
use Rattle.term.specs.Word.{pick, kind_of}
use Rattle.term.specs.Part.{part_end}
use Rattle.book.specs.Book.{Rule, rule_at}
use Rattle.compiler.specs.Told.Tables.{many_at}

-- ---- a left side by its offsets
-- the word at offset a is an abstraction that has offset o below it
abbrev pub reaches_to : List ℕ → ℕ → ℕ → Bool
reaches_to ws o a = pick (eqb (kind_of (get_or ws a 0)) 1) (ltb (o - a) (part_end (drop a ws))) false

-- the abstractions passed at an offset
unfoldable pub depth_of : List ℕ → ℕ → ℕ
depth_of ws o = many_at (reaches_to ws o) 0 o

-- past the words there is no head
unfoldable pub word_or : List ℕ → ℕ → ℕ
word_or ws o = pick (ltb o (length ws)) (get_or ws o 0) 33554432

unfoldable pub depth_or : List ℕ → ℕ → ℕ
depth_or ws o = pick (ltb o (length ws)) (depth_of ws o) 0

-- ---- the rules in the fixed table
pub record RowAt (fixed : List ℕ) (r : ℕ) (ws : List ℕ) (vars : ℕ) : Type 0 where
  pub words : (o : ℕ) → o < 64 → get_or fixed (r * 64 + o) 0 ≡ word_or ws o
  pub depths : (o : ℕ) → o < 64 → get_or fixed (4096 + (r * 64 + o)) 0 ≡ depth_or ws o
  pub variables : get_or fixed (8192 + r) 0 ≡ vars

-- what stands in the rows but one stays
abbrev pub OthersKept : ℕ → List ℕ → List ℕ → Type 0
OthersKept r before after = (q : ℕ) (ws : List ℕ) (vars : ℕ) → q < 64 → (q ≡ r → ⊥) → RowAt before q ws vars → RowAt after q ws vars

pub record RowLoaded (ws : List ℕ) (vars r : ℕ) (before after : List ℕ) : Type 0 where
  pub here : RowAt after r ws vars
  pub others : OthersKept r before after

pub record RuleLoaded (book : List ℕ) (r : ℕ) (before after : List ℕ) : Type 0 where
  pub here : (rule : Rule) → rule_at book r ≡ some rule → RowAt after r rule.left rule.vars
  pub others : OthersKept r before after

-- the rules with numbers below n
abbrev pub RulesAt : List ℕ → List ℕ → ℕ → Type 0
RulesAt book fixed n = (q : ℕ) (rule : Rule) → q < n → rule_at book q ≡ some rule → RowAt fixed q rule.left rule.vars

-- ---- the other tables
-- in every row the root has the number 0
abbrev pub root_number : ℕ → ℕ
root_number k = pick (eqb (k % 64) 0) 1 0

abbrev pub root_numbered : ℕ → ℕ → ℕ
root_numbered k x = pick (ltb k 4096) (root_number k) x

abbrev pub row_mark : Option Rule → ℕ
row_mark none = 1
row_mark (some rule) = 0

abbrev pub absent_marked : List ℕ → ℕ → ℕ → ℕ
absent_marked book k x = pick (ltb k 64) (row_mark (rule_at book k)) x
