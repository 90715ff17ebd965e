-- Demand 3: what matching by the compiled tree hands back, said without trees. It reads "the term without the arguments set aside" (document 02, E2).
use Rattle.std.specs.Prelude.{ℕ, ◌<◌, ◌≤◌, ◌≡◌, List, length}
use Rattle.std.proofs.Math.Option.{some}
use Rattle.term.specs.Answer.{answered}
use Rattle.term.specs.declared.answer.Answer.TheVariants.{Done, NoFit, Short}
use Rattle.term.specs.Row.{Row}
use Rattle.book.specs.Book.{Rule, rule_at}
use Rattle.fit.specs.Match.{tree_of, left_in, body_list, GivesBodies}
use Rattle.fit.specs.Front.{root_arguments, aside, FitsFront}
use Rattle.walk.specs.ByTree.{MatchTreeOutcome}

-- no bodies, of all there could be, turn the left side of the rule of this number into the term without the arguments set aside
abbrev pub FitsNot : List ℕ → List ℕ → ℕ → Type 0
FitsNot book ws number = (rule : Rule) → rule_at book number ≡ some rule → (b : ℕ → Row) → FitsFront rule.vars (left_in rule) (tree_of ws) b → ⊥

-- "no rule and no bodies exist"
abbrev pub NothingFits : List ℕ → List ℕ → Type 0
NothingFits book ws = (number : ℕ) → FitsNot book ws number

-- "the lowest-numbered rule for which some bodies, of all there could be, turn its left side into" the term without the arguments set aside
pub record LowestFit (book ws : List ℕ) (number : ℕ) (rule : Rule) (b : ℕ → Row) : Type 0 where
  pub is : rule_at book number ≡ some rule
  pub fits : FitsFront rule.vars (left_in rule) (tree_of ws) b
  pub lowest : (m : ℕ) → m < number → FitsNot book ws m

-- "the only ones that do so"
abbrev pub OnlyBodies : List ℕ → Rule → (ℕ → Row) → Type 0
OnlyBodies ws rule b = (c : ℕ → Row) → FitsFront rule.vars (left_in rule) (tree_of ws) c → (x : ℕ) → x < rule.vars → c x ≡ b x

-- the answer is this rule with these bodies, which are the only ones, and it counts the arguments set aside
pub record Names (ws : List ℕ) (room number : ℕ) (rule : Rule) (b : ℕ → Row) (o : MatchTreeOutcome) : Type 0 where
  pub answers : o.said ≡ answered Done
  pub number_is : o.rule ≡ number
  pub counts : o.aside ≡ aside (root_arguments (left_in rule)) (tree_of ws)
  pub gives : GivesBodies room rule.vars b o.bodies o.lengths
  pub only : OnlyBodies ws rule b

pub record TreeFinds (book ws : List ℕ) (room : ℕ) (o : MatchTreeOutcome) : Type 0 where
  -- it says that no rule fits exactly when no rule and no bodies exist
  pub none_fits : o.said ≡ answered NoFit → NothingFits book ws
  pub none_said : NothingFits book ws → o.said ≡ answered NoFit
  -- what it names is the lowest rule that fits, with the only bodies
  pub found : o.said ≡ answered Done → (rule : Rule) × (b : ℕ → Row) × LowestFit book ws o.rule rule b × Names ws room o.rule rule b o
  -- and it names the lowest rule that fits, given room for its bodies; without room it says so
  pub named : (number : ℕ) (rule : Rule) (b : ℕ → Row) → LowestFit book ws number rule b → length (body_list b 0 rule.vars) ≤ room → Names ws room number rule b o
  pub short : (number : ℕ) (rule : Rule) (b : ℕ → Row) → LowestFit book ws number rule b → room < length (body_list b 0 rule.vars) → o.said ≡ answered Short
