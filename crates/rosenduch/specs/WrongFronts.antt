-- Document 02, "Rules for a front part of the arguments": the wrong programs to which it tempts. Each is a function from inputs to all that comes back, and on the
-- input of its row it does not give what the definition gives. Each is wrong only as its name says.
use Rattle.std.specs.Prelude.{ℕ, zero, suc, ◌+◌, ◌≡◌, List, [], ◌∷◌, leb, ltb, Result, Ok, Err}
use Rattle.std.proofs.Math.Option.{Option, none, some}
use Rattle.term.specs.declared.answer.Answer.{Answer}
use Rattle.term.specs.declared.answer.Answer.TheVariants.{NoFit, BadTerm, Damaged, Over}
use Rattle.term.specs.Answer.{answered}
use Rattle.term.specs.Word.{symbol, abstraction, variable, pattern, count, pick}
use Rattle.term.specs.Row.{Row, nothing, node, width, ◌⧺◌}
use Rattle.term.specs.Check.{check, term_limits}
use Rattle.book.specs.Accept.{accept}
use Rattle.book.specs.Book.{rule_at}
use Rattle.book.specs.Marked.{s, l, v, m, book_a}
use Rattle.fit.specs.Left.{Left, end, hole, part}
use Rattle.fit.specs.Fit.{matching}
use Rattle.fit.specs.Front.{matching_front}
use Rattle.fit.specs.Match.{tree_of, MatchRuleOutcome, match_rule_came, matched_came, match_rule_gives}
use Rattle.fit.specs.Build.{Built, refused, limited, within_limits, build_answer, build_words}
use Rattle.tree.specs.Layout.{tree_words}
use Rattle.walk.specs.Walk.{Walked, NoneFits, RuleFits, DamagedAt, walk, book_fits}
use Rattle.walk.specs.ByTree.{MatchTreeOutcome, match_tree_came, match_tree_gives}
use Rattle.steps.specs.Right.{write}
use Rattle.steps.specs.Arguments.{takes, with_aside}
use Rattle.steps.specs.Rewrite.{right_in, set_aside, many_aside, taken_root, RewriteRootOutcome, rewrite_root_came, rewrite_root_gives}
use Rattle.rosenduch.specs.Matching.{by_book}

-- ==== matching

-- counts equal at the root too
unfoldable pub equal_counts : (book : List ℕ) (number : ℕ) (term : List ℕ) (room : ℕ) → MatchRuleOutcome
equal_counts book number term room = matched_came room (by_book matching book number term (accept book))

-- a rule that fits fewer arguments: where the term's root has fewer than the left side's, the left side's first ones are matched
unfoldable pub first_parts : ℕ → Left → Left
first_parts zero left = end
first_parts (suc n) end = end
first_parts (suc n) (hole x ys rest) = hole x ys (first_parts n rest)
first_parts (suc n) (part h kids rest) = part h kids (first_parts n rest)

unfoldable pub cut_to : ℕ → Left → Left
cut_to a end = end
cut_to a (hole x ys rest) = hole x ys rest
cut_to a (part (symbol i b) kids rest) = pick (ltb a b) (part (symbol i a) (first_parts a kids) rest) (part (symbol i b) kids rest)
cut_to a (part abstraction kids rest) = part abstraction kids rest
cut_to a (part (variable i) kids rest) = part (variable i) kids rest
cut_to a (part (pattern i c) kids rest) = part (pattern i c) kids rest

unfoldable pub matching_fewer : Left → Row → Option (ℕ → Row)
matching_fewer left nothing = none
matching_fewer left (node h kids rest) = matching_front (cut_to (count h) left) (node h kids rest)

unfoldable pub fewer_arguments : (book : List ℕ) (number : ℕ) (term : List ℕ) (room : ℕ) → MatchRuleOutcome
fewer_arguments book number term room = matched_came room (by_book matching_fewer book number term (accept book))

-- nothing said of the arguments set aside
unfoldable pub silent_rule : (book : List ℕ) (number : ℕ) (term : List ℕ) (room : ℕ) → MatchRuleOutcome
silent_rule book number term room = let o = match_rule_gives book number term room in match_rule_came o.said 0 o.bodies o.lengths

unfoldable pub silent_tree : (tree term : List ℕ) (room : ℕ) → MatchTreeOutcome
silent_tree tree term room = let o = match_tree_gives tree term room in match_tree_came o.said o.rule 0 o.visits o.bodies o.lengths

-- ==== rewriting, with another judgement of what is written and of the arguments set aside, by their number
abbrev pub Judging : Type 0
Judging = ℕ → Row → Row → Built

abbrev pub judged_walk : Judging → List ℕ → Row → Walked → Built
judged_walk judge book t NoneFits = refused NoFit
judged_walk judge book t (RuleFits f n) =
    judge (many_aside book t f) (write f.bodies 0 (right_in (rule_at book f.number))) (set_aside (rule_at book f.number) t)
judged_walk judge book t (DamagedAt at) = refused (Damaged at)

abbrev pub judged_term : Judging → (book tree term : List ℕ) → Result (Unit {0}) ℕ → Built
judged_term judge book tree term (Ok _) = judged_walk judge book (tree_of term) (walk (book_fits book) tree (tree_of term))
judged_term judge book tree term (Err at) = refused (BadTerm at)

abbrev pub judged_book : Judging → (book tree term : List ℕ) → Result (Unit {0}) Answer → Built
judged_book judge book tree term (Ok _) = judged_term judge book tree term (check term_limits term)
judged_book judge book tree term (Err a) = refused a

unfoldable pub rewrites_by : Judging → (book tree term : List ℕ) (room : ℕ) → RewriteRootOutcome
rewrites_by judge book tree term room =
    let b = judged_book judge book tree term (accept book) in
    rewrite_root_came (answered (build_answer room b)) (rewrite_root_gives book tree term room).visits (build_words room b)

-- arguments put first
unfoldable pub with_first : Row → Row → Row
with_first nothing more = nothing
with_first (node (symbol i c) kids rest) more = node (symbol i (c + width more)) (more ⧺ kids) rest
with_first (node abstraction kids rest) more = node abstraction kids rest
with_first (node (variable i) kids rest) more = node (variable i) kids rest
with_first (node (pattern i c) kids rest) more = node (pattern i c) kids rest

abbrev pub put_first : Judging
put_first n r more = taken_root n (pick (leb 1 (width more)) (pick (takes r more) (some (with_first r more)) none) (some r))

-- the arguments forgotten
abbrev pub forgotten : Judging
forgotten n r more = limited r

-- 15 before 18
abbrev pub limits_first : Judging
limits_first n r more = pick (within_limits r) (taken_root n (with_aside r more)) (refused Over)

-- ==== inputs

-- book A's rule 0 with an argument more, and with one less
unfoldable pub one_more : List ℕ
one_more = s 2 3 ∷ s 7 0 ∷ s 7 0 ∷ s 8 0 ∷ []

unfoldable pub one_less : List ℕ
one_less = s 2 1 ∷ s 7 0 ∷ []

-- `s1.1 m0.0` becomes `s2.1 m0.0`, and `s3.1 m0.0` becomes `l m0.0`, which takes no arguments
unfoldable pub two_fronts : List ℕ
two_fronts = 2 ∷ 1 ∷ 2 ∷ 2 ∷ s 1 1 ∷ m 0 0 ∷ s 2 1 ∷ m 0 0 ∷ 1 ∷ 2 ∷ 2 ∷ s 3 1 ∷ m 0 0 ∷ l ∷ m 0 0 ∷ []

unfoldable pub taking : List ℕ
taking = s 1 2 ∷ s 7 0 ∷ s 8 0 ∷ []

-- under the abstraction that is written the largest id would be 65,536
unfoldable pub over_and_cannot : List ℕ
over_and_cannot = s 3 2 ∷ v 65535 ∷ s 8 0 ∷ []

-- ==== the claim
pub record WrongFronts : Type 0 where
  pub equal_counts : equal_counts book_a 0 one_more 1 ≡ match_rule_gives book_a 0 one_more 1 → ⊥
  pub fewer_arguments : fewer_arguments book_a 0 one_less 1 ≡ match_rule_gives book_a 0 one_less 1 → ⊥
  pub silent_rule : silent_rule book_a 0 one_more 1 ≡ match_rule_gives book_a 0 one_more 1 → ⊥
  pub silent_tree : silent_tree (tree_words two_fronts) taking 1 ≡ match_tree_gives (tree_words two_fronts) taking 1 → ⊥
  pub put_first : rewrites_by put_first two_fronts (tree_words two_fronts) taking 3 ≡ rewrite_root_gives two_fronts (tree_words two_fronts) taking 3 → ⊥
  pub arguments_forgotten : rewrites_by forgotten two_fronts (tree_words two_fronts) taking 3 ≡ rewrite_root_gives two_fronts (tree_words two_fronts) taking 3 → ⊥
  pub limits_first : rewrites_by limits_first two_fronts (tree_words two_fronts) over_and_cannot 3 ≡ rewrite_root_gives two_fronts (tree_words two_fronts) over_and_cannot 3 → ⊥
