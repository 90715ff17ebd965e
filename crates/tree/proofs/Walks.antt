-- How a tree is walked in a term: each place is uncovered, each list is one for its depth, a case is taken at an open place, and a Leaf's parts have bodies.
use mathlib.Core.Path.{◌≡◌}
use mathlib.Core.Bool.{Bool, true, false}
use mathlib.Core.List.{List, [], ◌∷◌}
use mathlib.Core.Option.{Option, none, some}
use Prim.Native.Nat.{ℕ, ◌≤◌, ◌<◌}
use lib.ListN.{length}
use Rattle.term.specs.Word.{Head}
use Rattle.term.specs.Row.{Row}
use Rattle.term.specs.Renumber.{GoodList}
use Rattle.term.specs.Part.{is_some, same_o}
use Rattle.fit.specs.Constraint.{is_head}
use Rattle.fit.specs.Lowest.{Fitting}
use Rattle.tree.specs.Tree.{LeafVariable, LeafNode, Tree, Fail, Leaf, Switch, Closed, Same, Cases, NoCase, Case}
use Rattle.tree.specs.Find.{PartAt, part_of, enter_part, body_for, leaf_fitting}

pub record SoundVariable (ps : List PartAt) (v : LeafVariable) : Type 0 where
  pub here : v.at < length ps
  pub list : GoodList (part_of v.at ps).depth v.list
  pub body : is_some (body_for ps v.at v.list) ≡ true

abbrev pub AllSound : List PartAt → List LeafVariable → Type 0
AllSound ps [] = Unit {0}
AllSound ps (v ∷ vs) = SoundVariable ps v × AllSound ps vs

-- a place of a test, with its list
pub record SoundPlace (ps : List PartAt) (n : ℕ) (ys : List ℕ) : Type 0 where
  pub here : n < length ps
  pub list : GoodList (part_of n ps).depth ys

-- the first case whose head stands there
pub data Takes (f : Row) : Cases → Tree → Type 0 where
  takes_first : {h : Head} {x : Tree} {cs : Cases} → is_head h f ≡ true → Takes f (Case h x cs) x
  takes_later : {h : Head} {x y : Tree} {cs : Cases} → is_head h f ≡ false → Takes f cs y → Takes f (Case h x cs) y

-- no case's head stands there
pub data NoneTaken (f : Row) : Cases → Type 0 where
  no_cases : NoneTaken f NoCase
  other_case : {h : Head} {x : Tree} {cs : Cases} → is_head h f ≡ false → NoneTaken f cs → NoneTaken f (Case h x cs)

-- the way through a tree, to what it finds. `vars` says how many variables a rule has, `fits` which Leaf is one of its own.
pub data Walks (vars : ℕ → ℕ) (fits : LeafNode → Bool) : Tree → List PartAt → Option Fitting → Type 0 where
  fails : {ps : List PartAt} → Walks vars fits Fail ps none
  ends : {ps : List PartAt} {leaf : LeafNode} → leaf.rule < 64 → length leaf.variables ≤ 16 → length leaf.variables ≡ vars leaf.rule → fits leaf ≡ true → AllSound ps leaf.variables
      → Walks vars fits (Leaf leaf) ps (some (leaf_fitting ps leaf))
  takes : {ps : List PartAt} {r : Option Fitting} {n : ℕ} {cs : Cases} {x default : Tree} → n < length ps → (part_of n ps).entered ≡ false → Takes (part_of n ps).part cs x
      → Walks vars fits x (enter_part n ps) r → Walks vars fits (Switch n cs default) ps r
  defaults : {ps : List PartAt} {r : Option Fitting} {n : ℕ} {cs : Cases} {default : Tree} → n < length ps → NoneTaken (part_of n ps).part cs
      → Walks vars fits default ps r → Walks vars fits (Switch n cs default) ps r
  closed_yes : {ps : List PartAt} {r : Option Fitting} {n : ℕ} {ys : List ℕ} {ifYes ifNo : Tree} → SoundPlace ps n ys → is_some (body_for ps n ys) ≡ true
      → Walks vars fits ifYes ps r → Walks vars fits (Closed n ys ifYes ifNo) ps r
  closed_no : {ps : List PartAt} {r : Option Fitting} {n : ℕ} {ys : List ℕ} {ifYes ifNo : Tree} → SoundPlace ps n ys → is_some (body_for ps n ys) ≡ false
      → Walks vars fits ifNo ps r → Walks vars fits (Closed n ys ifYes ifNo) ps r
  same_yes : {ps : List PartAt} {r : Option Fitting} {n m : ℕ} {ys zs : List ℕ} {ifYes ifNo : Tree} → SoundPlace ps n ys → SoundPlace ps m zs → length zs ≡ length ys
      → same_o (body_for ps n ys) (body_for ps m zs) ≡ true → Walks vars fits ifYes ps r → Walks vars fits (Same n m ys zs ifYes ifNo) ps r
  same_no : {ps : List PartAt} {r : Option Fitting} {n m : ℕ} {ys zs : List ℕ} {ifYes ifNo : Tree} → SoundPlace ps n ys → SoundPlace ps m zs → length zs ≡ length ys
      → same_o (body_for ps n ys) (body_for ps m zs) ≡ false → Walks vars fits ifNo ps r → Walks vars fits (Same n m ys zs ifYes ifNo) ps r
