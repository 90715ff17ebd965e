-- The thirteen operations as relations: from what each is given, the room of the output lent to it among it, to all that may come back. The demands
-- speak of any such thirteen; the crate `demands` says them of the functions for Rust and of those for C. Sixteen lengths always have room.
use Rattle.std.specs.Prelude.{ℕ, ◌≡◌, List}
use Rattle.term.specs.Answer.{Answered}
use Rattle.term.specs.Checked.{check_term_gives}
use Rattle.book.specs.Accept.{check_book_gives}
use Rattle.fit.specs.Match.{MatchRuleOutcome, match_rule_gives}
use Rattle.fit.specs.Build.{BuildLeftOutcome, build_left_gives}
use Rattle.compiler.specs.Compiled.{CompileOutcome, compile_gives}
use Rattle.walk.specs.ByTree.{MatchTreeOutcome, match_tree_gives}
use Rattle.steps.specs.Rewrite.{RewriteRootOutcome, rewrite_root_gives}
use Rattle.steps.specs.Simplify.{SimplifyOutcome, simplify_gives}
use Rattle.text.specs.TermText.{ReadTermOutcome, read_term_gives, WriteTermOutcome, write_term_gives}
use Rattle.mend.specs.Repair.{RepairBookOutcome, repair_book_gives}
use Rattle.text.specs.BookText.{ReadBookOutcome, read_book_gives, WriteBookOutcome, write_book_gives}

pub record Operations : Type 1 where
  pub check_term : (words : List ℕ) (said : Answered) → Type 0
  pub check_book : (book : List ℕ) (said : Answered) → Type 0
  pub match_rule : (book : List ℕ) (number : ℕ) (term : List ℕ) (room : ℕ) (o : MatchRuleOutcome) → Type 0
  pub build_left : (book : List ℕ) (number : ℕ) (bodies lengths : List ℕ) (room : ℕ) (o : BuildLeftOutcome) → Type 0
  pub compile : (book : List ℕ) (room : ℕ) (o : CompileOutcome) → Type 0
  pub match_tree : (tree term : List ℕ) (room : ℕ) (o : MatchTreeOutcome) → Type 0
  pub rewrite_root : (book tree term : List ℕ) (room : ℕ) (o : RewriteRootOutcome) → Type 0
  pub simplify : (book tree term : List ℕ) (budget room : ℕ) (o : SimplifyOutcome) → Type 0
  pub read_book : (text : List ℕ) (room : ℕ) (o : ReadBookOutcome) → Type 0
  pub write_book : (book : List ℕ) (room : ℕ) (o : WriteBookOutcome) → Type 0
  pub repair_book : (text : List ℕ) (room : ℕ) (o : RepairBookOutcome) → Type 0
  pub read_term : (text : List ℕ) (room : ℕ) (o : ReadTermOutcome) → Type 0
  pub write_term : (term : List ℕ) (room : ℕ) (o : WriteTermOutcome) → Type 0

-- what comes back is what the definition gives
pub record Promised (ops : Operations) : Type 0 where
  pub check_term : (words : List ℕ) (said : Answered) → ops.check_term words said → said ≡ check_term_gives words
  pub check_book : (book : List ℕ) (said : Answered) → ops.check_book book said → said ≡ check_book_gives book
  pub match_rule : (book : List ℕ) (number : ℕ) (term : List ℕ) (room : ℕ) (o : MatchRuleOutcome) → ops.match_rule book number term room o → o ≡ match_rule_gives book number term room
  pub build_left : (book : List ℕ) (number : ℕ) (bodies lengths : List ℕ) (room : ℕ) (o : BuildLeftOutcome) → ops.build_left book number bodies lengths room o
      → o ≡ build_left_gives book number bodies lengths room
  pub compile : (book : List ℕ) (room : ℕ) (o : CompileOutcome) → ops.compile book room o → o ≡ compile_gives book room
  pub match_tree : (tree term : List ℕ) (room : ℕ) (o : MatchTreeOutcome) → ops.match_tree tree term room o → o ≡ match_tree_gives tree term room
  pub rewrite_root : (book tree term : List ℕ) (room : ℕ) (o : RewriteRootOutcome) → ops.rewrite_root book tree term room o → o ≡ rewrite_root_gives book tree term room
  pub simplify : (book tree term : List ℕ) (budget room : ℕ) (o : SimplifyOutcome) → ops.simplify book tree term budget room o → o ≡ simplify_gives book tree term budget room
  pub read_book : (text : List ℕ) (room : ℕ) (o : ReadBookOutcome) → ops.read_book text room o → o ≡ read_book_gives text room
  pub write_book : (book : List ℕ) (room : ℕ) (o : WriteBookOutcome) → ops.write_book book room o → o ≡ write_book_gives book room
  pub repair_book : (text : List ℕ) (room : ℕ) (o : RepairBookOutcome) → ops.repair_book text room o → o ≡ repair_book_gives text room
  pub read_term : (text : List ℕ) (room : ℕ) (o : ReadTermOutcome) → ops.read_term text room o → o ≡ read_term_gives text room
  pub write_term : (term : List ℕ) (room : ℕ) (o : WriteTermOutcome) → ops.write_term term room o → o ≡ write_term_gives term room

-- "that two results meeting it are equal": what is given settles all that comes back
pub record Settles (ops : Operations) : Type 0 where
  pub check_term : (words : List ℕ) (o p : Answered) → ops.check_term words o → ops.check_term words p → o ≡ p
  pub check_book : (book : List ℕ) (o p : Answered) → ops.check_book book o → ops.check_book book p → o ≡ p
  pub match_rule : (book : List ℕ) (number : ℕ) (term : List ℕ) (room : ℕ) (o p : MatchRuleOutcome) → ops.match_rule book number term room o → ops.match_rule book number term room p → o ≡ p
  pub build_left : (book : List ℕ) (number : ℕ) (bodies lengths : List ℕ) (room : ℕ) (o p : BuildLeftOutcome) → ops.build_left book number bodies lengths room o → ops.build_left book number bodies lengths room p → o ≡ p
  pub compile : (book : List ℕ) (room : ℕ) (o p : CompileOutcome) → ops.compile book room o → ops.compile book room p → o ≡ p
  pub match_tree : (tree term : List ℕ) (room : ℕ) (o p : MatchTreeOutcome) → ops.match_tree tree term room o → ops.match_tree tree term room p → o ≡ p
  pub rewrite_root : (book tree term : List ℕ) (room : ℕ) (o p : RewriteRootOutcome) → ops.rewrite_root book tree term room o → ops.rewrite_root book tree term room p → o ≡ p
  pub simplify : (book tree term : List ℕ) (budget room : ℕ) (o p : SimplifyOutcome) → ops.simplify book tree term budget room o → ops.simplify book tree term budget room p → o ≡ p
  pub read_book : (text : List ℕ) (room : ℕ) (o p : ReadBookOutcome) → ops.read_book text room o → ops.read_book text room p → o ≡ p
  pub write_book : (book : List ℕ) (room : ℕ) (o p : WriteBookOutcome) → ops.write_book book room o → ops.write_book book room p → o ≡ p
  pub repair_book : (text : List ℕ) (room : ℕ) (o p : RepairBookOutcome) → ops.repair_book text room o → ops.repair_book text room p → o ≡ p
  pub read_term : (text : List ℕ) (room : ℕ) (o p : ReadTermOutcome) → ops.read_term text room o → ops.read_term text room p → o ≡ p
  pub write_term : (term : List ℕ) (room : ℕ) (o p : WriteTermOutcome) → ops.write_term term room o → ops.write_term term room p → o ≡ p
