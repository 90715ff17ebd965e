-- Document 01, "Right sides and simplifying": how a run of steps ends, over what is said of one step. It is said twice: of any tree, whole or
-- damaged, by its walk; and of the tree compiled from the book, by fit alone.
use Rattle.std.specs.Prelude.{ℕ, zero, suc, ◌-◌, ◌≤◌, ◌<◌, ◌≡◌, true, false, List, ◌++◌, ◌⊎◌, length, replicate}
use Rattle.std.proofs.Math.Option.{Option, none, some}
use Rattle.term.specs.declared.answer.Answer.TheVariants.{Done, BudgetUsed, Short, Damaged, Over, CannotTake}
use Rattle.term.specs.Answer.{Answered, answered}
use Rattle.term.specs.Row.{Row, words}
use Rattle.book.specs.Book.{Rule}
use Rattle.fit.specs.Front.{root_arguments, aside, aside_arguments}
use Rattle.fit.specs.Match.{tree_of, left_in}
use Rattle.fit.specs.Lowest.{Fitting}
use Rattle.fit.specs.Build.{within_limits}
use Rattle.walk.specs.Demand.{NothingFits, LowestFit, OnlyBodies}
use Rattle.steps.specs.Right.{write}
use Rattle.steps.specs.Arguments.{with_aside}
use Rattle.steps.specs.Rewrite.{many_aside, rewritten}
use Rattle.steps.specs.Offset.{part_at, spliced}
use Rattle.steps.specs.Step.{Nowhere, FoundAt, Broken, lowest_offset}
use Rattle.steps.specs.Simplify.{SimplifyOutcome}

-- the term's words and then zeros
pub record Leaves (room : ℕ) (t : Row) (out : List ℕ) : Type 0 where
  pub fits : length (words t) ≤ room
  pub words_are : out ≡ words t ++ replicate (room - length (words t)) 0

-- given what the next step makes of a term: so many steps lead from a term to another, each within the limits
module _ (Next : Row → Row → Type 0) where
  unfoldable pub Leads : ℕ → Row → Row → Type 0
  Leads zero t v = t ≡ v
  Leads (suc n) t v = (u : Row) × Next t u × (within_limits u ≡ true) × Leads n u v

-- given also when a term rests, and when what the next step writes cannot take so many arguments set aside: "until no offset has one or the budget is used"
module _ (Rests : Row → Type 0) (Next : Row → Row → Type 0) (Cannot : Row → ℕ → Type 0) where
  pub data Ends (budget n : ℕ) (v : Row) (a : Answered) : Type 0 where
    rests : a ≡ answered Done → Rests v → Ends budget n v a
    used : a ≡ answered BudgetUsed → n ≡ budget → ((u : Row) × Next v u) ⊎ ((m : ℕ) × Cannot v m) → Ends budget n v a

-- given also when a walk meets a damaged node before it finds a rule
module _ (Rests : Row → Type 0) (Next : Row → Row → Type 0) (Cannot : Row → ℕ → Type 0) (Breaks : Row → ℕ → Type 0) where
  -- what is answered and left after the last step
  pub data Gives (budget room : ℕ) (v : Row) (o : SimplifyOutcome) : Type 0 where
    given : Ends Rests Next Cannot budget o.steps v o.said → Leaves room v o.out → Gives budget room v o
    short : (a : Answered) → Ends Rests Next Cannot budget o.steps v a → room < length (words v) → o.said ≡ answered Short → Gives budget room v o
    over : o.steps < budget → (u : Row) → Next v u → within_limits u ≡ false → o.said ≡ answered Over → Gives budget room v o
    cannot : o.steps < budget → (m : ℕ) → Cannot v m → o.said ≡ answered (CannotTake m) → Gives budget room v o
    broken : (at : ℕ) → Breaks v at → o.said ≡ answered (Damaged at) → Gives budget room v o

  -- "the steps counted are the steps of this definition"
  pub record Runs (budget room : ℕ) (t : Row) (o : SimplifyOutcome) : Type 0 where
    pub last : Row
    pub counted : Leads Next o.steps t last
    pub within : o.steps ≤ budget
    pub gives : Gives budget room last o

-- ---- by any tree: "A step rewrites at the lowest offset where the walk finds a rule."
module _ (book tree : List ℕ) where
  abbrev pub RestsBy : Row → Type 0
  RestsBy v = lowest_offset book tree v ≡ Nowhere

  abbrev pub NextBy : Row → Row → Type 0
  NextBy v u = (at : ℕ) × (f : Fitting) × (lowest_offset book tree v ≡ FoundAt at f) × (r : Row) × (rewritten book (part_at v at) f ≡ some r) × (u ≡ spliced v at r)

  abbrev pub CannotBy : Row → ℕ → Type 0
  CannotBy v m = (at : ℕ) × (f : Fitting) × (lowest_offset book tree v ≡ FoundAt at f) × (rewritten book (part_at v at) f ≡ none) × (m ≡ many_aside book (part_at v at) f)

  abbrev pub BreaksBy : Row → ℕ → Type 0
  BreaksBy v at = lowest_offset book tree v ≡ Broken at

-- ---- by fit alone: a step rewrites at the lowest offset where a rule fits, by the lowest rule that fits there
module _ (book : List ℕ) where
  abbrev pub RestsFit : Row → Type 0
  RestsFit v = (k : ℕ) → k < length (words v) → NothingFits book (words (part_at v k))

  pub record FirstRule (v : Row) : Type 0 where
    pub at : ℕ
    pub inside : at < length (words v)
    pub earlier : (k : ℕ) → k < at → NothingFits book (words (part_at v k))
    pub number : ℕ
    pub rule : Rule
    pub bodies : ℕ → Row
    pub lowest : LowestFit book (words (part_at v at)) number rule bodies
    pub only : OnlyBodies (words (part_at v at)) rule bodies

  -- its right side, written, with the arguments set aside at its end; none where it cannot take them
  abbrev pub writes : (v : Row) → FirstRule v → Option Row
  writes v f = with_aside (write f.bodies 0 (tree_of f.rule.right)) (aside_arguments (root_arguments (left_in f.rule)) (part_at v f.at))

  abbrev pub NextFit : Row → Row → Type 0
  NextFit v u = (f : FirstRule v) × (r : Row) × (writes v f ≡ some r) × (u ≡ spliced v f.at r)

  abbrev pub CannotFit : Row → ℕ → Type 0
  CannotFit v m = (f : FirstRule v) × (writes v f ≡ none) × (m ≡ aside (root_arguments (left_in f.rule)) (part_at v f.at))

-- its tree is never damaged
abbrev pub BreaksNever : Row → ℕ → Type 0
BreaksNever v at = ⊥
