-- Document 01, "How promises are marked" and "What learners write": the wrong programs that it names, and one to which a single pass over two parts
-- tempts. Each is a function from inputs to all that comes back, in one table under one claim: on the input of its row a program does not give what the
-- definition gives. Each is wrong only as its name says.
use Rattle.std.specs.Prelude.{ℕ, zero, suc, ◌-◌, ◌≡◌, Bool, true, false, ◌&&◌, List, [], ◌∷◌, leb, eqb, length, get_or, replicate, Result, Ok, Err}
use Rattle.std.proofs.Math.Option.{Option, none, some}
use Rattle.term.specs.declared.answer.Answer.{Answer}
use Rattle.term.specs.declared.answer.Answer.TheVariants.{Done, NoFit}
use Rattle.term.specs.Answer.{Answered, answered}
use Rattle.term.specs.Word.{Head, word, pick}
use Rattle.term.specs.Row.{Row, nothing, node, words}
use Rattle.term.specs.Renumber.{three, parameter, position, inside, id_body, renumber, named, to_body}
use Rattle.term.specs.Part.{same_words, padded}
use Rattle.book.specs.Accept.{accept}
use Rattle.book.specs.Marked.{book_a, book_b}
use Rattle.fit.specs.Left.{Left, end, hole, part}
use Rattle.fit.specs.Fit.{Found, body_then, both_found, only_if, found, body_in, all_same, agreed}
use Rattle.fit.specs.Constraint.{Place, Constraint}
use Rattle.fit.specs.Match.{MatchRuleOutcome, match_rule_came, matched_came, match_rule_gives}
use Rattle.tree.specs.Tree.{Tree, Fail, Switch, Cases, NoCase, Case}
use Rattle.tree.specs.Path.{OnPath, place_numbered, start}
use Rattle.tree.specs.Rows.{RuleRow, head_at, lowest_open, constraints_left, size}
use Rattle.tree.specs.Compile.{heads, default_rows, entering, node_of, step, book_rows}
use Rattle.tree.specs.Root.{root_heads, root_case_rows}
use Rattle.tree.specs.Layout.{layout, tree_words}
use Rattle.compiler.specs.Compiled.{CompileOutcome, compile_came, compile_gives}
use Rattle.walk.specs.ByTree.{MatchTreeOutcome, match_tree_visits, match_tree_came, match_tree_gives}
use Rattle.steps.specs.Simplify.{SimplifyOutcome, simplify_came, simplify_gives}
use Rattle.mend.specs.WrongRepairs.{WrongRepairs}
use Rattle.rosenduch.specs.Matching.{by_book}
use Rattle.rosenduch.specs.Inputs.{p1, p3, p6, p7, p10, in_loops, first_term, exchanged, two_rows, second_fits}
use Rattle.rosenduch.specs.WrongFronts.{WrongFronts}
use Rattle.rosenduch.specs.WrongVisits.{WrongVisits}

-- ==== matching one rule

-- a matcher that only refuses
unfoldable pub only_refuses : Answer → (book : List ℕ) (number : ℕ) (term : List ℕ) (room : ℕ) → MatchRuleOutcome
only_refuses a book number term room = match_rule_came (answered a) 0 (replicate room 0) (replicate 16 0)

-- one that writes the same body always
unfoldable pub same_body : List ℕ → (book : List ℕ) (number : ℕ) (term : List ℕ) (room : ℕ) → MatchRuleOutcome
same_body body book number term room = match_rule_came (answered Done) 0 (padded room body) (length body ∷ replicate 15 0)

-- matching a left side with another way from a part to its body
unfoldable pub found_by : (ℕ → List ℕ → Row → Option Row) → ℕ → Left → Row → Option Found
found_by body d end nothing = some []
found_by body d end (node g ts rs) = none
found_by body d (hole x ys rest) nothing = none
found_by body d (hole x ys rest) (node g ts rs) = body_then x (body d ys (node g ts nothing)) (found_by body d rest rs)
found_by body d (part h kids rest) nothing = none
found_by body d (part h kids rest) (node g ts rs) = only_if (eqb (word h) (word g)) (both_found (found_by body (inside h d) kids ts) (found_by body d rest rs))

-- "Equality by raw words": the parts are compared as they stand in the term, and not their bodies
abbrev pub raw_part : ℕ → List ℕ → Row → Option Row
raw_part d ys t = some t

abbrev pub raw_agreed : Option Found → Option Found → Option (ℕ → Row)
raw_agreed none raw = none
raw_agreed (some bodies) none = none
raw_agreed (some bodies) (some raw) = pick (all_same raw raw) (some (body_in bodies)) none

unfoldable pub raw_matching : Left → Row → Option (ℕ → Row)
raw_matching left t = raw_agreed (found 0 left t) (found_by raw_part 0 left t)

unfoldable pub raw_words : (book : List ℕ) (number : ℕ) (term : List ℕ) (room : ℕ) → MatchRuleOutcome
raw_words book number term room = matched_came room (by_book raw_matching book number term (accept book))

-- "Closedness against all variables": an id outside the left side is asked to be in the list too
unfoldable pub id_listed : List ℕ → ℕ → ℕ → ℕ
id_listed ys e i = three (leb i e) true i (parameter e (position (i - e) ys)) 0

unfoldable pub body_against_all : ℕ → List ℕ → Row → Option Row
body_against_all d ys t = pick (named (id_listed ys) 0 t) (to_body d ys t) none

unfoldable pub matching_against_all : Left → Row → Option (ℕ → Row)
matching_against_all left t = agreed (found_by body_against_all 0 left t)

unfoldable pub closed_against_all : (book : List ℕ) (number : ℕ) (term : List ℕ) (room : ℕ) → MatchRuleOutcome
closed_against_all book number term room = matched_came room (by_book matching_against_all book number term (accept book))

-- the second part's abstractions not counted: where a later occurrence is compared with the first, each of its ids is taken as if no abstraction of the
-- part itself stood around it
unfoldable pub body_uncounted : ℕ → List ℕ → Row → Option Row
body_uncounted d ys t = some (renumber (λ e i. id_body d ys 0 i) 0 t)

unfoldable pub uncounted_same : Found → List ℕ → Found → Found → Bool
uncounted_same bodies met [] uncounted = true
uncounted_same bodies met (p ∷ found) [] = true
uncounted_same bodies met (p ∷ found) (q ∷ uncounted) =
    pick (leb 1 (position p.0 met)) (same_words (words (body_in bodies p.0)) (words q.1)) true && uncounted_same bodies (p.0 ∷ met) found uncounted

abbrev pub uncounted_agreed : Option Found → Option Found → Option (ℕ → Row)
uncounted_agreed none uncounted = none
uncounted_agreed (some bodies) none = none
uncounted_agreed (some bodies) (some uncounted) = pick (uncounted_same bodies [] bodies uncounted) (some (body_in bodies)) none

unfoldable pub matching_uncounted : Left → Row → Option (ℕ → Row)
matching_uncounted left t = uncounted_agreed (found 0 left t) (found_by body_uncounted 0 left t)

unfoldable pub second_uncounted : (book : List ℕ) (number : ℕ) (term : List ℕ) (room : ℕ) → MatchRuleOutcome
second_uncounted book number term room = matched_came room (by_book matching_uncounted book number term (accept book))

-- ==== matching by the tree

-- one that answers only rule 0
unfoldable pub only_rule0 : (tree term : List ℕ) (room : ℕ) → MatchTreeOutcome
only_rule0 tree term room = let o = match_tree_gives tree term room in match_tree_came o.said 0 o.aside o.visits o.bodies o.lengths

-- or only "none"
unfoldable pub only_none : (tree term : List ℕ) (room : ℕ) → MatchTreeOutcome
only_none tree term room = match_tree_came (answered NoFit) 0 0 (match_tree_visits tree term) (replicate room 0) (replicate 16 0)

-- ==== compiling

-- the tree of a list of rows, made of smaller trees in another way
abbrev pub Making : Type 0
Making = (OnPath → List RuleRow → Tree) → OnPath → List RuleRow → Tree

unfoldable pub made_by : Making → ℕ → OnPath → List RuleRow → Tree
made_by make zero path rows = Fail
made_by make (suc n) path rows = make (made_by make n) path rows

-- below the root Switch
unfoldable pub root_cases_by : Making → List RuleRow → List Head → Cases
root_cases_by make rows [] = NoCase
root_cases_by make rows (h ∷ hs) = Case h (made_by make (suc (size (entering 0 h start) (root_case_rows h rows))) (entering 0 h start) (root_case_rows h rows)) (root_cases_by make rows hs)

abbrev pub rows_tree : Making → List RuleRow → Tree
rows_tree make rows = Switch 0 (root_cases_by make rows (root_heads rows)) Fail

abbrev pub compiled_by : List ℕ → ℕ → Result (Unit {0}) Answer → CompileOutcome
compiled_by words room (Ok _) = compile_came (answered Done) (length words) (padded room words)
compiled_by words room (Err a) = compile_came (answered a) 0 (replicate room 0)

-- compiling where the tree has room
unfoldable pub compile_by : Making → (book : List ℕ) (room : ℕ) → CompileOutcome
compile_by make book room = compiled_by (layout 0 (rows_tree make (book_rows book 0 (get_or book 0 0)))) room (accept book)

-- "Dropping a row with a variable from the cases"
abbrev pub in_own_case : Option Head → Head → Bool
in_own_case none h = false
in_own_case (some g) h = eqb (word g) (word h)

unfoldable pub own_rows : Place → Head → List RuleRow → List RuleRow
own_rows p h [] = []
own_rows p h (row ∷ rows) = pick (in_own_case (head_at row.left p) h) (row ∷ own_rows p h rows) (own_rows p h rows)

unfoldable pub own_cases : (OnPath → List RuleRow → Tree) → OnPath → List RuleRow → ℕ → List Head → Cases
own_cases make path rows n [] = NoCase
own_cases make path rows n (h ∷ hs) = Case h (make (entering n h path) (own_rows (place_numbered n path.uncovered) h rows)) (own_cases make path rows n hs)

abbrev pub node_dropping : (OnPath → List RuleRow → Tree) → OnPath → RuleRow → List RuleRow → Option ℕ → List Constraint → Tree
node_dropping make path first rows none cs = node_of make path first rows none cs
node_dropping make path first rows (some n) cs =
    Switch n (own_cases make path rows n (heads (place_numbered n path.uncovered) rows)) (make path (default_rows (place_numbered n path.uncovered) rows))

abbrev pub dropping : Making
dropping make path [] = Fail
dropping make path (row ∷ rows) = node_dropping make path row (row ∷ rows) (lowest_open row.left path.uncovered) (constraints_left path row)

unfoldable pub drops_row : (book : List ℕ) (room : ℕ) → CompileOutcome
drops_row = compile_by dropping

-- "Taking the first all-variable row, though an earlier row still stands"
abbrev pub or_later : RuleRow → Option ℕ → Option RuleRow → Option RuleRow
or_later row none later = some row
or_later row (some n) later = later

unfoldable pub all_variable : OnPath → List RuleRow → Option RuleRow
all_variable path [] = none
all_variable path (row ∷ rows) = or_later row (lowest_open row.left path.uncovered) (all_variable path rows)

abbrev pub node_passing : (OnPath → List RuleRow → Tree) → OnPath → List RuleRow → Option RuleRow → Tree
node_passing make path rows none = step make path rows
node_passing make path rows (some row) = node_of make path row rows none (constraints_left path row)

abbrev pub passing : Making
passing make path rows = node_passing make path rows (all_variable path rows)

unfoldable pub passes_earlier_row : (book : List ℕ) (room : ℕ) → CompileOutcome
passes_earlier_row = compile_by passing

-- what a wrong compiler leaves is not what compiling gives, and a match by its tree shows it
pub record WrongTree (wrong : (book : List ℕ) (room : ℕ) → CompileOutcome) (book term : List ℕ) : Type 0 where
  pub compiled : wrong book 1024 ≡ compile_gives book 1024 → ⊥
  pub matched : match_tree_gives (wrong book 1024).out term 2 ≡ match_tree_gives (compile_gives book 1024).out term 2 → ⊥

-- ==== simplifying

-- a simplifier that hands the term back
unfoldable pub hands_back : Answered → (steps visits : ℕ) → (book tree term : List ℕ) (budget room : ℕ) → SimplifyOutcome
hands_back said steps visits book tree term budget room = simplify_came said steps visits (padded room term)

-- one that makes one step and pretends the rest
unfoldable pub one_step : (book tree term : List ℕ) (budget room : ℕ) → SimplifyOutcome
one_step book tree term budget room = let o = simplify_gives book tree term budget room in simplify_came o.said o.steps o.visits (simplify_gives book tree term 1 room).out

-- one that invents its step count
unfoldable pub invents_count : ℕ → (book tree term : List ℕ) (budget room : ℕ) → SimplifyOutcome
invents_count count book tree term budget room = let o = simplify_gives book tree term budget room in simplify_came o.said count o.visits o.out

-- ==== the claim
pub record AllShutOut : Type 0 where
  -- "a matcher that only refuses", whatever it answers but done
  pub only_refuses : (a : Answer) → (a ≡ Done → ⊥) → only_refuses a book_a 0 p1 1 ≡ match_rule_gives book_a 0 p1 1 → ⊥
  -- "one that writes the same body always", whatever body: it is wrong at P3 or at P6
  pub same_body : (body : List ℕ) → same_body body book_a 1 p3 2 ≡ match_rule_gives book_a 1 p3 2 → same_body body book_a 1 p6 2 ≡ match_rule_gives book_a 1 p6 2 → ⊥
  -- "one that answers only rule 0 or only "none""
  pub only_rule_0 : only_rule0 (tree_words book_a) p3 1 ≡ match_tree_gives (tree_words book_a) p3 1 → ⊥
  pub only_none : only_none (tree_words book_a) p1 1 ≡ match_tree_gives (tree_words book_a) p1 1 → ⊥
  -- "A simplifier that hands the term back", whatever it says and counts
  pub hands_back : (said : Answered) (steps visits : ℕ) → hands_back said steps visits book_a (tree_words book_a) first_term 1000 6 ≡ simplify_gives book_a (tree_words book_a) first_term 1000 6 → ⊥
  -- "that makes one step and pretends the rest"
  pub one_step : one_step book_a (tree_words book_a) first_term 1000 6 ≡ simplify_gives book_a (tree_words book_a) first_term 1000 6 → ⊥
  -- "or that invents its step count"
  pub invents_count : (count : ℕ) → (count ≡ 2 → ⊥) → invents_count count book_a (tree_words book_a) first_term 1000 6 ≡ simplify_gives book_a (tree_words book_a) first_term 1000 6 → ⊥
  -- "Equality by raw words (wrong at P7, P10)."
  pub raw_words_P7 : raw_words book_b 0 p7 1 ≡ match_rule_gives book_b 0 p7 1 → ⊥
  pub raw_words_P10 : raw_words book_b 0 p10 1 ≡ match_rule_gives book_b 0 p10 1 → ⊥
  -- the second part's abstractions not counted
  pub second_uncounted : second_uncounted book_b 0 in_loops 2 ≡ match_rule_gives book_b 0 in_loops 2 → ⊥
  -- "Closedness against all variables (P3)."
  pub closed_against_all : closed_against_all book_a 1 p3 1 ≡ match_rule_gives book_a 1 p3 1 → ⊥
  -- "Dropping a row with a variable from the cases (a rule is lost)."
  pub drops_row : WrongTree drops_row two_rows second_fits
  -- "Taking the first all-variable row, though an earlier row still stands (P6 with rules 1 and 2 exchanged)."
  pub passes_earlier_row : WrongTree passes_earlier_row exchanged p6
  -- those of document 02's E1: one that keeps 65, one that compares `rules=` with the rules kept, one that writes the new number first, one that drops a
  -- sound rule after a bad one
  pub wrong_repairs : WrongRepairs
  -- those of E2: counts equal at the root too, a rule that fits fewer arguments, nothing said of the arguments, arguments put first or forgotten, 15 before 18
  pub wrong_fronts : WrongFronts
  -- those of E7: the last node left out, an offset that the root settles counted once, the last search left out
  pub wrong_visits : WrongVisits
