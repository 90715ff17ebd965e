-- The three demands, each as one record: the demand's words in the comments, and below them what they became. All is said of words in memory, and
-- of whatever the thirteen operations may hand back (Operations.antt). The first clause of demand 1 is about the code alone: crate `demands` says it.
use Rattle.std.specs.Prelude.{ℕ, ◌-◌, ◌≤◌, ◌<◌, ◌≡◌, true, false, List, ◌++◌, length, take, replicate, Ok, Err}
use Rattle.std.proofs.Math.Option.{Option, none, some}
use Rattle.term.specs.declared.answer.Answer.TheVariants.{Done, NoFit, Short, Over, CannotTake}
use Rattle.term.specs.Answer.{Answered, saying, answered}
use Rattle.term.specs.Row.{Row, words}
use Rattle.term.specs.Check.{IsTerm, check, term_limits}
use Rattle.book.specs.Book.{Rule, check_book as book_check, rule_at}
use Rattle.fit.specs.Fit.{build, IsBody}
use Rattle.fit.specs.Front.{root_arguments, front, aside, aside_arguments, FitsFront}
use Rattle.fit.specs.Dedukti.{AsDedukti}
use Rattle.fit.specs.Match.{tree_of, left_in, body_list, length_list, GivesBodies, MatchRuleOutcome}
use Rattle.fit.specs.Lowest.{Fitting}
use Rattle.fit.specs.Build.{good_lengths, check_bodies, within_limits, BuildLeftOutcome}
use Rattle.tree.specs.Find.{root_count}
use Rattle.tree.specs.Layout.{tree_words}
use Rattle.compiler.specs.Compiled.{CompileOutcome}
use Rattle.walk.specs.Walk.{NoneFits, RuleFits, DamagedAt, walk, no_book, book_fits}
use Rattle.walk.specs.ByTree.{MatchTreeOutcome}
use Rattle.walk.specs.Demand.{NothingFits, LowestFit, OnlyBodies, TreeFinds}
use Rattle.steps.specs.Right.{write}
use Rattle.steps.specs.Arguments.{with_aside}
use Rattle.steps.specs.Rewrite.{RewriteRootOutcome}
use Rattle.steps.specs.Simplify.{SimplifyOutcome}
use Rattle.text.specs.TermText.{says, bad_line, term_said, ReadTermOutcome, WriteTermOutcome}
use Rattle.text.specs.Mail.{mail_is, bad_mail, mail_said}
use Rattle.mend.specs.Repair.{RepairBookOutcome}
use Rattle.text.specs.BookText.{book_said, ReadBookOutcome, WriteBookOutcome}
use Rattle.rosenduch.specs.Operations.{Operations}
use Rattle.rosenduch.specs.Steps.{Leaves, Leads, Runs, RestsBy, NextBy, CannotBy, BreaksBy, RestsFit, NextFit, CannotFit, BreaksNever}

-- ==== Demand 1

-- "Bad terms, books, trees and texts are refused by number." What is said is document 01's number, and the place beside it.

-- a bad book is 12 at its first bad rule
abbrev pub BookJudged : List ℕ → Answered → Type 0
BookJudged book said = (at : ℕ) → book_check book ≡ Err at → said ≡ saying 12 at

-- a rule that an accepted book has not is 16 at its number
abbrev pub RuleJudged : List ℕ → ℕ → Answered → Type 0
RuleJudged book number said = book_check book ≡ Ok tt → rule_at book number ≡ none → said ≡ saying 16 number

-- a bad term is 11 at its bad place
abbrev pub TermJudged : List ℕ → Answered → Type 0
TermJudged term said = (at : ℕ) → check term_limits term ≡ Err at → said ≡ saying 11 at

-- For each operation: what is bad is refused, in document 01's order 10, 12, 16, 11, 14; and a number below 10 is said only of what is good.
-- A text that is not in form is 10 at its bad line. A tree is damaged where a walk over it meets a damaged node: 14 at that node's address.
pub record RefusesBad (ops : Operations) : Type 0 where
  pub check_term : (words : List ℕ) (said : Answered) → ops.check_term words said → TermJudged words said × (said.number < 10 → IsTerm words)
  pub check_book : (book : List ℕ) (said : Answered) → ops.check_book book said → BookJudged book said × (said.number < 10 → book_check book ≡ Ok tt)
  pub match_rule : (book : List ℕ) (number : ℕ) (term : List ℕ) (room : ℕ) (o : MatchRuleOutcome) → ops.match_rule book number term room o
      → BookJudged book o.said
      × RuleJudged book number o.said
      × ((rule : Rule) → book_check book ≡ Ok tt → rule_at book number ≡ some rule → TermJudged term o.said)
      × (o.said.number < 10 → (book_check book ≡ Ok tt) × IsTerm term)
  pub build_left : (book : List ℕ) (number : ℕ) (bodies lengths : List ℕ) (room : ℕ) (o : BuildLeftOutcome) → ops.build_left book number bodies lengths room o
      → BookJudged book o.said
      × RuleJudged book number o.said
      × ((rule : Rule) → book_check book ≡ Ok tt → rule_at book number ≡ some rule → good_lengths rule.vars bodies lengths ≡ false → o.said ≡ saying 11 16)
      × ((rule : Rule) → book_check book ≡ Ok tt → rule_at book number ≡ some rule → good_lengths rule.vars bodies lengths ≡ true
      → (x : ℕ) → check_bodies bodies lengths 0 rule.vars ≡ Err x → o.said ≡ saying 11 x)
      × (o.said.number < 10 → (book_check book ≡ Ok tt) × ((rule : Rule) → rule_at book number ≡ some rule → (good_lengths rule.vars bodies lengths ≡ true) × (check_bodies bodies lengths 0 rule.vars ≡ Ok tt)))
  pub compile : (book : List ℕ) (room : ℕ) (o : CompileOutcome) → ops.compile book room o
      → BookJudged book o.said
      × (o.said.number < 10 → book_check book ≡ Ok tt)
  pub match_tree : (tree term : List ℕ) (room : ℕ) (o : MatchTreeOutcome) → ops.match_tree tree term room o
      → TermJudged term o.said
      × ((at : ℕ) → check term_limits term ≡ Ok tt → walk no_book tree (tree_of term) ≡ DamagedAt at → o.said ≡ saying 14 at)
      × (o.said.number < 10 → IsTerm term)
  pub rewrite_root : (book tree term : List ℕ) (room : ℕ) (o : RewriteRootOutcome) → ops.rewrite_root book tree term room o
      → BookJudged book o.said
      × (book_check book ≡ Ok tt → TermJudged term o.said)
      × ((at : ℕ) → book_check book ≡ Ok tt → check term_limits term ≡ Ok tt → walk (book_fits book) tree (tree_of term) ≡ DamagedAt at → o.said ≡ saying 14 at)
      × (o.said.number < 10 → (book_check book ≡ Ok tt) × IsTerm term)
  pub simplify : (book tree term : List ℕ) (budget room : ℕ) (o : SimplifyOutcome) → ops.simplify book tree term budget room o
      → BookJudged book o.said
      × (book_check book ≡ Ok tt → TermJudged term o.said)
      × ((n at : ℕ) (v : Row) → book_check book ≡ Ok tt → check term_limits term ≡ Ok tt
      → Leads (NextBy book tree) n (tree_of term) v → n ≤ budget → BreaksBy book tree v at → (o.steps ≡ n) × (o.said ≡ saying 14 at))
      × (o.said.number < 10 → (book_check book ≡ Ok tt) × IsTerm term)
  pub read_book : (text : List ℕ) (room : ℕ) (o : ReadBookOutcome) → ops.read_book text room o
      → ((at : ℕ) → book_said text ≡ bad_line at → o.said ≡ saying 10 at)
      × ((book : List ℕ) → book_said text ≡ says book → BookJudged book o.said)
      × (o.said.number < 10 → (book : List ℕ) × (book_said text ≡ says book) × (book_check book ≡ Ok tt))
  pub write_book : (book : List ℕ) (room : ℕ) (o : WriteBookOutcome) → ops.write_book book room o
      → BookJudged book o.said
      × (o.said.number < 10 → book_check book ≡ Ok tt)
  pub repair_book : (text : List ℕ) (room : ℕ) (o : RepairBookOutcome) → ops.repair_book text room o
      → ((at : ℕ) → mail_said text ≡ bad_mail at → o.said ≡ saying 10 at)
      × (o.said.number < 10 → (stated : ℕ) × (rules : List (List ℕ)) × (mail_said text ≡ mail_is stated rules))
  pub read_term : (text : List ℕ) (room : ℕ) (o : ReadTermOutcome) → ops.read_term text room o
      → ((at : ℕ) → term_said text ≡ bad_line at → o.said ≡ saying 10 at)
      × ((term : List ℕ) → term_said text ≡ says term → TermJudged term o.said)
      × (o.said.number < 10 → (term : List ℕ) × (term_said text ≡ says term) × IsTerm term)
  pub write_term : (term : List ℕ) (room : ℕ) (o : WriteTermOutcome) → ops.write_term term room o
      → TermJudged term o.said
      × (o.said.number < 10 → IsTerm term)

-- "After a refusal each lent output holds only zeros."
abbrev pub Zeros : Answered → ℕ → List ℕ → Type 0
Zeros said room out = 10 ≤ said.number → out ≡ replicate room 0

pub record LeavesZeros (ops : Operations) : Type 0 where
  pub match_rule : (book : List ℕ) (number : ℕ) (term : List ℕ) (room : ℕ) (o : MatchRuleOutcome) → ops.match_rule book number term room o → Zeros o.said room o.bodies × Zeros o.said 16 o.lengths
  pub build_left : (book : List ℕ) (number : ℕ) (bodies lengths : List ℕ) (room : ℕ) (o : BuildLeftOutcome) → ops.build_left book number bodies lengths room o → Zeros o.said room o.out
  pub compile : (book : List ℕ) (room : ℕ) (o : CompileOutcome) → ops.compile book room o → Zeros o.said room o.out
  pub match_tree : (tree term : List ℕ) (room : ℕ) (o : MatchTreeOutcome) → ops.match_tree tree term room o → Zeros o.said room o.bodies × Zeros o.said 16 o.lengths
  pub rewrite_root : (book tree term : List ℕ) (room : ℕ) (o : RewriteRootOutcome) → ops.rewrite_root book tree term room o → Zeros o.said room o.out
  pub simplify : (book tree term : List ℕ) (budget room : ℕ) (o : SimplifyOutcome) → ops.simplify book tree term budget room o → Zeros o.said room o.out
  pub read_book : (text : List ℕ) (room : ℕ) (o : ReadBookOutcome) → ops.read_book text room o → Zeros o.said room o.out
  pub write_book : (book : List ℕ) (room : ℕ) (o : WriteBookOutcome) → ops.write_book book room o → Zeros o.said room o.out
  pub repair_book : (text : List ℕ) (room : ℕ) (o : RepairBookOutcome) → ops.repair_book text room o → Zeros o.said room o.out
  pub read_term : (text : List ℕ) (room : ℕ) (o : ReadTermOutcome) → ops.read_term text room o → Zeros o.said room o.out
  pub write_term : (term : List ℕ) (room : ℕ) (o : WriteTermOutcome) → ops.write_term term room o → Zeros o.said room o.out

pub record Demand1 (ops : Operations) : Type 0 where
  -- "Bad terms, books, trees and texts are refused by number."
  pub refuses_bad : RefusesBad ops
  -- "After a refusal each lent output holds only zeros."
  pub leaves_zeros : LeavesZeros ops

-- ==== Demand 2

-- the term without the arguments set aside, of which there are so many
abbrev pub without_aside : ℕ → List ℕ → List ℕ
without_aside n term = words (front (root_count (tree_of term) - n) (tree_of term))

-- so many arguments are set aside for a rule at the root of a term
abbrev pub Counts : Rule → List ℕ → ℕ → Type 0
Counts rule term n = n ≡ aside (root_arguments (left_in rule)) (tree_of term)

-- matching one rule: some bodies, of all there could be, turn its left side into the term without the arguments set aside, word for word
pub record MatchesRule (rule : Rule) (term : List ℕ) (room : ℕ) (o : MatchRuleOutcome) : Type 0 where
  -- it says none exactly when no bodies do
  pub none_fits : o.said ≡ answered NoFit → (b : ℕ → Row) → FitsFront rule.vars (left_in rule) (tree_of term) b → ⊥
  pub none_said : ((b : ℕ → Row) → FitsFront rule.vars (left_in rule) (tree_of term) b → ⊥) → o.said ≡ answered NoFit
  -- what it gives are bodies that do, and the only ones; it counts the arguments set aside
  pub found : o.said ≡ answered Done
      → (b : ℕ → Row) × FitsFront rule.vars (left_in rule) (tree_of term) b × OnlyBodies term rule b × Counts rule term o.aside × GivesBodies room rule.vars b o.bodies o.lengths
  -- and where bodies do, it gives them, given room; without room it says so
  pub given : (b : ℕ → Row) → FitsFront rule.vars (left_in rule) (tree_of term) b → length (body_list b 0 rule.vars) ≤ room
      → (o.said ≡ answered Done) × Counts rule term o.aside × GivesBodies room rule.vars b o.bodies o.lengths
  pub short : (b : ℕ → Row) → FitsFront rule.vars (left_in rule) (tree_of term) b → room < length (body_list b 0 rule.vars) → o.said ≡ answered Short

-- the tree compiled from a book as a caller hands it on: so many words of the compiler's output, the whole tree among them, within a tree's size limit
pub record CompiledTree (ops : Operations) (book tree : List ℕ) : Type 0 where
  pub room : ℕ
  pub o : CompileOutcome
  pub came : ops.compile book room o
  pub done : o.said ≡ answered Done
  pub many : ℕ
  pub whole : o.words ≤ many
  pub small : many ≤ 16384
  pub is : tree ≡ take many o.out

-- a row that is written whole or not at all: its words and then zeros, within the limits and given room
pub record Written (room : ℕ) (t : Row) (said : Answered) (out : List ℕ) : Type 0 where
  pub done : within_limits t ≡ true → length (words t) ≤ room → (said ≡ answered Done) × Leaves room t out
  pub short : within_limits t ≡ true → room < length (words t) → said ≡ answered Short
  pub over : within_limits t ≡ false → said ≡ answered Over

-- what is written with so many arguments set aside, or 18 with their number where it cannot take them
abbrev pub WrittenOr : (room n : ℕ) → Option Row → Answered → List ℕ → Type 0
WrittenOr room n none said out = said ≡ answered (CannotTake n)
WrittenOr room n (some t) said out = Written room t said out

-- what a rule with its bodies writes of a term
abbrev pub RuleWritten : (rule : Rule) (term : List ℕ) (b : ℕ → Row) (room : ℕ) → Answered → List ℕ → Type 0
RuleWritten rule term b room said out =
    let own = root_arguments (left_in rule) in
    WrittenOr room (aside own (tree_of term)) (with_aside (write b 0 (tree_of rule.right)) (aside_arguments own (tree_of term))) said out

-- "right sides are written .. as that page defines them": with the compiled tree that of the lowest rule that fits, from its bodies
pub record RewritesRoot (book term : List ℕ) (room : ℕ) (o : RewriteRootOutcome) : Type 0 where
  pub none_fits : o.said ≡ answered NoFit → NothingFits book term
  pub none_said : NothingFits book term → o.said ≡ answered NoFit
  pub written : (number : ℕ) (rule : Rule) (b : ℕ → Row) → LowestFit book term number rule b → OnlyBodies term rule b × RuleWritten rule term b room o.said o.out

-- and with any tree that of the rule that the walk finds
pub record RewritesBy (book tree term : List ℕ) (room : ℕ) (o : RewriteRootOutcome) : Type 0 where
  pub none_found : walk (book_fits book) tree (tree_of term) ≡ NoneFits → o.said ≡ answered NoFit
  pub written : (f : Fitting) (n : ℕ) (rule : Rule) → walk (book_fits book) tree (tree_of term) ≡ RuleFits f n → rule_at book f.number ≡ some rule
      → RuleWritten rule term f.bodies room o.said o.out

pub record Demand2 (ops : Operations) : Type 0 where
  -- "A rule fits a term exactly as the Dedukti matching rules say in the reading that document 01 fixes;": the four rules hold of the term without the
  -- arguments set aside exactly where some bodies turn the left side into it, with these bodies; and matching finds them
  pub dedukti : (book : List ℕ) (number : ℕ) (rule : Rule) (term : List ℕ) → book_check book ≡ Ok tt → rule_at book number ≡ some rule → IsTerm term
      → AsDedukti rule.vars (left_in rule) (words (front (root_arguments (left_in rule)) (tree_of term)))
  pub matches : (book : List ℕ) (number : ℕ) (rule : Rule) (term : List ℕ) → book_check book ≡ Ok tt → rule_at book number ≡ some rule → IsTerm term
      → (room : ℕ) (o : MatchRuleOutcome) → ops.match_rule book number term room o
      → MatchesRule rule term room o
  -- "right sides are written": with the compiled tree, and with any tree
  pub rewrites : (book tree term : List ℕ) → CompiledTree ops book tree → IsTerm term
      → (room : ℕ) (o : RewriteRootOutcome) → ops.rewrite_root book tree term room o
      → RewritesRoot book term room o
  pub rewrites_by : (book tree term : List ℕ) → book_check book ≡ Ok tt → IsTerm term
      → (room : ℕ) (o : RewriteRootOutcome) → ops.rewrite_root book tree term room o
      → RewritesBy book tree term room o
  -- "and simplifying steps taken and counted as that page defines them.": with the compiled tree, and with any tree
  pub simplifies : (book tree term : List ℕ) → CompiledTree ops book tree → IsTerm term
      → (budget room : ℕ) (o : SimplifyOutcome) → ops.simplify book tree term budget room o
      → Runs (RestsFit book) (NextFit book) (CannotFit book) BreaksNever budget room (tree_of term) o
  pub simplifies_by : (book tree term : List ℕ) → book_check book ≡ Ok tt → IsTerm term
      → (budget room : ℕ) (o : SimplifyOutcome) → ops.simplify book tree term budget room o
      → Runs (RestsBy book tree) (NextBy book tree) (CannotBy book tree) (BreaksBy book tree) budget room (tree_of term) o
  -- "Building a left side from given bodies, when the result is within the limits and there is room,"
  pub builds : (book : List ℕ) (number : ℕ) (rule : Rule) → book_check book ≡ Ok tt → rule_at book number ≡ some rule
      → (b : ℕ → Row) → ((x : ℕ) → x < rule.vars → IsBody (b x))
      → (room : ℕ) (o : BuildLeftOutcome) → ops.build_left book number (body_list b 0 rule.vars) (length_list b 0 rule.vars ++ replicate (16 - rule.vars) 0) room o
      → Written room (build b 0 (left_in rule)) o.said o.out
  -- "and then matching it gives those bodies back;"
  pub built_matched : (book : List ℕ) (number : ℕ) (bodies lengths : List ℕ) → length lengths ≡ 16
      → (room : ℕ) (o : BuildLeftOutcome) → ops.build_left book number bodies lengths room o → o.said ≡ answered Done
      → (term : List ℕ) × (o.out ≡ term ++ replicate (room - length term) 0)
      × ((more : ℕ) → length bodies ≤ more → (m : MatchRuleOutcome) → ops.match_rule book number term more m
      → (m.said ≡ answered Done) × (m.aside ≡ 0) × (m.bodies ≡ bodies ++ replicate (more - length bodies) 0) × (m.lengths ≡ lengths))
  -- "building from the bodies of a match, given room, gives the term again.": the term without the arguments set aside, which the answer counts
  pub matched_built : (book : List ℕ) (number : ℕ) (term : List ℕ)
      → (room : ℕ) (m : MatchRuleOutcome) → ops.match_rule book number term room m → m.said ≡ answered Done
      → (given : List ℕ) × (m.bodies ≡ given ++ replicate (room - length given) 0)
      × ((more : ℕ) → length (without_aside m.aside term) ≤ more → (o : BuildLeftOutcome) → ops.build_left book number given m.lengths more o
      → (o.said ≡ answered Done) × (o.out ≡ without_aside m.aside term ++ replicate (more - length (without_aside m.aside term)) 0))

-- ==== Demand 3

pub record Demand3 (ops : Operations) : Type 0 where
  -- "Take any accepted book, the tree compiled from it where that is within its size limit,"
  pub compiles : (book : List ℕ) → book_check book ≡ Ok tt → length (tree_words book) ≤ 16384
      → (room : ℕ) → length (tree_words book) ≤ room → (o : CompileOutcome) → ops.compile book room o
      → (o.said ≡ answered Done) × CompiledTree ops book (take o.words o.out)
  -- "any well-formed term, and room for the bodies. The tree names the lowest-numbered rule for which some bodies, of all there could be, turn its
  -- left side into that term. The bodies it writes are the only ones that do so. It says that no rule fits exactly when no rule and no bodies exist."
  -- That term is the one given without the arguments set aside, which the answer counts.
  pub finds : (book tree term : List ℕ) → CompiledTree ops book tree → IsTerm term
      → (room : ℕ) (o : MatchTreeOutcome) → ops.match_tree tree term room o
      → TreeFinds book term room o
