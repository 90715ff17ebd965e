-- What matching by the tree answers: document 01's numbers 11, 14, 1, 13, in this order. What is set aside, its words and lengths are those of matching
-- one rule; the visits are those of the walk (document 02, E7).
use Rattle.std.specs.Prelude.{ℕ, List, leb, length, Result, Ok, Err}
use Rattle.term.specs.Word.{pick}
use Rattle.term.specs.declared.answer.Answer.TheVariants.{NoFit, BadTerm, Damaged}
use Rattle.term.specs.Answer.{Answered, answered}
use Rattle.term.specs.Check.{check, term_limits}
use Rattle.fit.specs.Match.{tree_of, body_list, Matched, refused, fitted, match_answer, match_aside, match_words, match_lengths}
use Rattle.walk.specs.Walk.{Walked, NoneFits, RuleFits, DamagedAt, walk, visits, no_book}

abbrev pub walked_match : Walked → Matched
walked_match NoneFits = refused NoFit
walked_match (RuleFits f n) = fitted n f.aside f.bodies
walked_match (DamagedAt at) = refused (Damaged at)

abbrev pub term_match : Result (Unit {0}) ℕ → Walked → Matched
term_match (Ok _) w = walked_match w
term_match (Err at) w = refused (BadTerm at)

unfoldable pub match_tree : List ℕ → List ℕ → Matched
match_tree table ws = term_match (check term_limits ws) (walk no_book table (tree_of ws))

-- the rule that was found; 0 where none was, or where its bodies have no room
abbrev pub walked_rule : ℕ → Walked → ℕ
walked_rule room NoneFits = 0
walked_rule room (RuleFits f n) = pick (leb (length (body_list f.bodies 0 n)) room) f.number 0
walked_rule room (DamagedAt at) = 0

abbrev pub term_rule : ℕ → Result (Unit {0}) ℕ → Walked → ℕ
term_rule room (Ok _) w = walked_rule room w
term_rule room (Err at) w = 0

unfoldable pub match_tree_rule : ℕ → List ℕ → List ℕ → ℕ
match_tree_rule room table ws = term_rule room (check term_limits ws) (walk no_book table (tree_of ws))

-- the nodes that the walk visited, "and zero before any walk"
abbrev pub term_visits : Result (Unit {0}) ℕ → ℕ → ℕ
term_visits (Ok _) v = v
term_visits (Err at) v = 0

unfoldable pub match_tree_visits : List ℕ → List ℕ → ℕ
match_tree_visits table ws = term_visits (check term_limits ws) (visits table (tree_of ws))

-- ---- all that comes back
pub record MatchTreeOutcome : Type 0 where
  pub said : Answered
  pub rule : ℕ
  pub aside : ℕ
  pub visits : ℕ
  pub bodies : List ℕ
  pub lengths : List ℕ

abbrev pub match_tree_came : Answered → (rule aside visits : ℕ) → (bodies lengths : List ℕ) → MatchTreeOutcome
match_tree_came said rule aside visits bodies lengths = record { said = said; rule = rule; aside = aside; visits = visits; bodies = bodies; lengths = lengths }

-- what a rule, or none, gives in a room for bodies after so many visits
abbrev pub rule_gives : ℕ → Matched → (rule visits : ℕ) → MatchTreeOutcome
rule_gives room m rule visits = match_tree_came (answered (match_answer room m)) rule (match_aside room m) visits (match_words room m) (match_lengths room m)

-- what matching a term by the tree gives in a room for bodies
unfoldable pub match_tree_gives : (tree term : List ℕ) (room : ℕ) → MatchTreeOutcome
match_tree_gives tree term room = rule_gives room (match_tree tree term) (match_tree_rule room tree term) (match_tree_visits tree term)
