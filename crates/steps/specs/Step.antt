-- Document 01, "Right sides and simplifying": "A step rewrites at the lowest offset where the walk finds a rule."
use Rattle.std.specs.Prelude.{ℕ, zero, suc, ◌+◌, List, length}
use Rattle.std.proofs.Math.Option.{Option, none, some}
use Rattle.term.specs.declared.answer.Answer.{Answer}
use Rattle.term.specs.declared.answer.Answer.TheVariants.{Damaged, Over, CannotTake}
use Rattle.term.specs.Word.{pick}
use Rattle.term.specs.Row.{Row, words}
use Rattle.fit.specs.Lowest.{Fitting}
use Rattle.fit.specs.Build.{within_limits}
use Rattle.walk.specs.Walk.{Walked, NoneFits, RuleFits, DamagedAt, walk, visits, book_fits}
use Rattle.steps.specs.Rewrite.{many_aside, rewritten}
use Rattle.steps.specs.Offset.{part_at, spliced}

-- where the walk finds a rule: at no offset; at an offset, with its bodies; a walk before that met a damaged node
pub data Sought : Type 0 where
  Nowhere : Sought
  FoundAt : ℕ → Fitting → Sought
  Broken : ℕ → Sought

abbrev pub or_later : ℕ → Walked → Sought → Sought
or_later at NoneFits later = later
or_later at (RuleFits f n) later = FoundAt at f
or_later at (DamagedAt address) later = Broken address

-- the lowest of so many offsets from `at` on; a damaged tree is damaged before later offsets are looked at
unfoldable pub seek_rule : (Row → Walked) → Row → ℕ → ℕ → Sought
seek_rule look t at zero = Nowhere
seek_rule look t at (suc more) = or_later at (look (part_at t at)) (seek_rule look t (suc at) more)

unfoldable pub lowest_offset : List ℕ → List ℕ → Row → Sought
lowest_offset book table t = seek_rule (walk (book_fits book) table) t 0 (length (words t))

-- ---- document 02, E7: the nodes that a search visits: those of its walks, at each offset up to the one that ends it
abbrev pub later_visits : Walked → ℕ → ℕ
later_visits NoneFits later = later
later_visits (RuleFits f n) later = 0
later_visits (DamagedAt address) later = 0

unfoldable pub seek_visits : (Row → Walked) → (Row → ℕ) → Row → ℕ → ℕ → ℕ
seek_visits look nodes t at zero = 0
seek_visits look nodes t at (suc more) = nodes (part_at t at) + later_visits (look (part_at t at)) (seek_visits look nodes t (suc at) more)

unfoldable pub search_visits : List ℕ → List ℕ → Row → ℕ
search_visits book table t = seek_visits (walk (book_fits book) table) (visits table) t 0 (length (words t))

-- ---- what a step makes of a term: it rests, since no offset has a rule; the rule's number and the whole term after the step; a refusal
pub data Stepped : Type 0 where
  Rests : Stepped
  Becomes : ℕ → Row → Stepped
  Refused : Answer → Stepped

-- the limits are those of the whole term
unfoldable pub whole_within : ℕ → Row → Stepped
whole_within rule t = pick (within_limits t) (Becomes rule t) (Refused Over)

-- what the rule makes of the part stands in its place; refused where that cannot take so many arguments
abbrev pub step_taken : Row → (at rule n : ℕ) → Option Row → Stepped
step_taken t at rule n none = Refused (CannotTake n)
step_taken t at rule n (some u) = whole_within rule (spliced t at u)

abbrev pub step_found : List ℕ → Row → Sought → Stepped
step_found book t Nowhere = Rests
step_found book t (FoundAt at f) = step_taken t at f.number (many_aside book (part_at t at) f) (rewritten book (part_at t at) f)
step_found book t (Broken address) = Refused (Damaged address)

unfoldable pub step : List ℕ → List ℕ → Row → Stepped
step book table t = step_found book t (lowest_offset book table t)
