-- Document 02, E7: the nodes visited in a tree, the last node included, over the parts at the places uncovered so far.
use Rattle.std.specs.Prelude.{ℕ, suc, List}
use Rattle.term.specs.Word.{pick}
use Rattle.term.specs.Row.{Row}
use Rattle.term.specs.Part.{is_some, same_o}
use Rattle.fit.specs.Constraint.{is_head}
use Rattle.tree.specs.Tree.{Tree, Fail, Leaf, Switch, Closed, Same, Cases, NoCase, Case}
use Rattle.tree.specs.Find.{PartAt, part_of, enter_part, body_for}

unfoldable mutual
  pub visits_in : Tree → List PartAt → ℕ
  visits_in Fail ps = 1
  visits_in (Leaf leaf) ps = 1
  visits_in (Switch n cs default) ps = suc (visits_in_cases cs (part_of n ps).part (enter_part n ps) (visits_in default ps))
  visits_in (Closed n ys ifYes ifNo) ps = suc (pick (is_some (body_for ps n ys)) (visits_in ifYes ps) (visits_in ifNo ps))
  visits_in (Same n m ys zs ifYes ifNo) ps = suc (pick (same_o (body_for ps n ys) (body_for ps m zs)) (visits_in ifYes ps) (visits_in ifNo ps))

  -- those below the first case whose head stands there, else those below the default
  pub visits_in_cases : Cases → Row → List PartAt → ℕ → ℕ
  visits_in_cases NoCase f ps other = other
  visits_in_cases (Case h x cs) f ps other = pick (is_head h f) (visits_in x ps) (visits_in_cases cs f ps other)
