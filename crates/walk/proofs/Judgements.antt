-- Matching by the tree, judgement by judgement: the term, and then how the walk ends. Each is one line of a definition.
use mathlib.Core.Path.{◌≡◌}
use mathlib.Core.List.{List}
use Prim.Native.Nat.{ℕ}
use Rattle.std.specs.Prelude.{Ok, Err}
use Rattle.term.specs.declared.answer.Answer.TheVariants.{BadTerm}
use Rattle.term.specs.Check.{check, term_limits}
use Rattle.fit.specs.Match.{tree_of, refused}
use Rattle.walk.specs.Walk.{walk, visits, no_book}
use Rattle.walk.specs.ByTree.{walked_match, match_tree, match_tree_visits}

module _ (table ws : List ℕ) where
  pub tree_bad_term : (at : ℕ) → check term_limits ws ≡ Err at → match_tree table ws ≡ refused (BadTerm at)
  unfolding match_tree
  tree_bad_term at e = rw e

  pub tree_walked : check term_limits ws ≡ Ok tt → match_tree table ws ≡ walked_match (walk no_book table (tree_of ws))
  unfolding match_tree
  tree_walked e = rw e

  pub bad_term_visits : (at : ℕ) → check term_limits ws ≡ Err at → match_tree_visits table ws ≡ 0
  unfolding match_tree_visits
  bad_term_visits at e = rw e

  pub term_visits_lem : check term_limits ws ≡ Ok tt → match_tree_visits table ws ≡ visits table (tree_of ws)
  unfolding match_tree_visits
  term_visits_lem e = rw e
