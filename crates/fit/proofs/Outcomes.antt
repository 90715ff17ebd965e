-- What comes back of matching one rule and of building a left side is one record: it is the one that the definition gives just where the answer and each lent list are, since an answer is told by its number and place.
use mathlib.Core.Path.{◌≡◌, ap}
use mathlib.Core.List.{List}
use Prim.Native.Nat.{ℕ}
use Rattle.term.specs.declared.answer.Answer.{Answer}
use Rattle.term.specs.Answer.{answered}
use Rattle.term.proofs.Laws.{answered_same}
use Rattle.fit.specs.Match.{match_rule, match_aside, MatchRuleOutcome, match_rule_came, match_rule_gives}
use Rattle.fit.specs.Build.{Built, build_left, build_answer, build_words, BuildLeftOutcome, build_left_came, build_left_gives}
use Rattle.fit.proofs.InOrder.{Leaves}

-- ---- matching one rule
module _ (book : List ℕ) (number : ℕ) (term : List ℕ) (room : ℕ) (r : Answer) (n : ℕ) (bodies lengths : List ℕ) where
  pub match_came : Leaves room (match_rule book number term) r bodies lengths → n ≡ match_aside room (match_rule book number term)
      → match_rule_came (answered r) n bodies lengths ≡ match_rule_gives book number term room
  unfolding match_rule_gives
  match_came e z = rw (e.0, z, e.1, e.2)

  pub came_aside : match_rule_came (answered r) n bodies lengths ≡ match_rule_gives book number term room → n ≡ match_aside room (match_rule book number term)
  unfolding match_rule_gives
  came_aside e = ap (λ (o : MatchRuleOutcome). o.aside) e

  pub came_match : match_rule_came (answered r) n bodies lengths ≡ match_rule_gives book number term room → Leaves room (match_rule book number term) r bodies lengths
  unfolding match_rule_gives
  came_match e = (answered_same _ _ (ap (λ (o : MatchRuleOutcome). o.said) e), ap (λ (o : MatchRuleOutcome). o.bodies) e, ap (λ (o : MatchRuleOutcome). o.lengths) e)

-- ---- building a left side
abbrev pub BuildAnswered : ℕ → Built → Answer → List ℕ → Type 0
BuildAnswered room b r out = (r ≡ build_answer room b) × (out ≡ build_words room b)

module _ (book : List ℕ) (number : ℕ) (bodies lengths : List ℕ) (room : ℕ) (r : Answer) (out : List ℕ) where
  pub build_came : BuildAnswered room (build_left book number bodies lengths) r out → build_left_came (answered r) out ≡ build_left_gives book number bodies lengths room
  unfolding build_left_gives
  build_came e = rw (e.0, e.1)

  pub came_build : build_left_came (answered r) out ≡ build_left_gives book number bodies lengths room → BuildAnswered room (build_left book number bodies lengths) r out
  unfolding build_left_gives
  came_build e = (answered_same _ _ (ap (λ (o : BuildLeftOutcome). o.said) e), ap (λ (o : BuildLeftOutcome). o.out) e)
