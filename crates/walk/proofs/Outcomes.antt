-- All that matching by the tree hands back is one outcome: its parts give it, and it gives its parts.
use mathlib.Core.Path.{◌≡◌, ap}
use mathlib.Core.List.{List}
use Prim.Native.Nat.{ℕ}
use Rattle.term.specs.Answer.{answered}
use Rattle.term.specs.declared.answer.Answer.{Answer}
use Rattle.term.proofs.Laws.{answered_same}
use Rattle.fit.specs.Match.{Matched, match_answer, match_aside, match_words, match_lengths}
use Rattle.walk.specs.ByTree.{match_tree, match_tree_rule, match_tree_visits, MatchTreeOutcome, match_tree_came, rule_gives, match_tree_gives}

module _ (a : Answer) (rule aside visits : ℕ) (bodies lengths : List ℕ) where
  pub rule_came : (room : ℕ) (m : Matched) (number visited : ℕ) → a ≡ match_answer room m → rule ≡ number → aside ≡ match_aside room m → visits ≡ visited → bodies ≡ match_words room m → lengths ≡ match_lengths room m
      → match_tree_came (answered a) rule aside visits bodies lengths ≡ rule_gives room m number visited
  rule_came room m number visited p q n v s t = rw (p, q, n, v, s, t)

  module _ (tree term : List ℕ) (room : ℕ) where
    pub tree_came : a ≡ match_answer room (match_tree tree term) → rule ≡ match_tree_rule room tree term → aside ≡ match_aside room (match_tree tree term)
        → visits ≡ match_tree_visits tree term → bodies ≡ match_words room (match_tree tree term) → lengths ≡ match_lengths room (match_tree tree term)
        → match_tree_came (answered a) rule aside visits bodies lengths ≡ match_tree_gives tree term room
    unfolding match_tree_gives
    tree_came = rule_came room (match_tree tree term) (match_tree_rule room tree term) (match_tree_visits tree term)

    module _ (e : match_tree_came (answered a) rule aside visits bodies lengths ≡ match_tree_gives tree term room) where
      pub tree_answer : a ≡ match_answer room (match_tree tree term)
      unfolding match_tree_gives
      tree_answer = answered_same a (match_answer room (match_tree tree term)) (ap (λ (o : MatchTreeOutcome). o.said) e)

      pub tree_rule : rule ≡ match_tree_rule room tree term
      unfolding match_tree_gives
      tree_rule = ap (λ (o : MatchTreeOutcome). o.rule) e

      pub tree_aside : aside ≡ match_aside room (match_tree tree term)
      unfolding match_tree_gives
      tree_aside = ap (λ (o : MatchTreeOutcome). o.aside) e

      pub tree_visits : visits ≡ match_tree_visits tree term
      unfolding match_tree_gives
      tree_visits = ap (λ (o : MatchTreeOutcome). o.visits) e

      pub tree_bodies : bodies ≡ match_words room (match_tree tree term)
      unfolding match_tree_gives
      tree_bodies = ap (λ (o : MatchTreeOutcome). o.bodies) e

      pub tree_lengths : lengths ≡ match_lengths room (match_tree tree term)
      unfolding match_tree_gives
      tree_lengths = ap (λ (o : MatchTreeOutcome). o.lengths) e
