-- The thirteen functions of `rosenduch::operations`: what each asks, that its code meets its contract, and what it may hand back.
use Rattle.std.specs.Prelude.{◌≡◌, length}
use Rattle.term.specs.Answer.{answered}
use Rattle.fit.specs.Match.{match_rule_came}
use Rattle.fit.specs.Build.{build_left_came}
use Rattle.compiler.specs.Compiled.{compile_came}
use Rattle.walk.specs.ByTree.{match_tree_came}
use Rattle.steps.specs.Rewrite.{rewrite_root_came}
use Rattle.steps.specs.Simplify.{simplify_came}
use Rattle.text.specs.TermText.{read_term_came, write_term_came}
use Rattle.mend.specs.Repair.{repair_book_came}
use Rattle.text.specs.BookText.{read_book_came, write_book_came}
use Rattle.rosenduch.specs.Operations.{Operations}
use Rattle.rosenduch.proofs.operations.check_term.Kinds as check-term-kinds
use Rattle.rosenduch.proofs.operations.check_book.Kinds as check-book-kinds
use Rattle.rosenduch.proofs.operations.match_rule.Kinds as match-rule-kinds
use Rattle.rosenduch.proofs.operations.build_left.Kinds as build-left-kinds
use Rattle.rosenduch.proofs.operations.compile.Kinds as compile-kinds
use Rattle.rosenduch.proofs.operations.match_tree.Kinds as match-tree-kinds
use Rattle.rosenduch.proofs.operations.rewrite_root.Kinds as rewrite-root-kinds
use Rattle.rosenduch.proofs.operations.simplify.Kinds as simplify-kinds
use Rattle.rosenduch.proofs.operations.read_book.Kinds as read-book-kinds
use Rattle.rosenduch.proofs.operations.write_book.Kinds as write-book-kinds
use Rattle.rosenduch.proofs.operations.repair_book.Kinds as repair-book-kinds
use Rattle.rosenduch.proofs.operations.read_term.Kinds as read-term-kinds
use Rattle.rosenduch.proofs.operations.write_term.Kinds as write-term-kinds
use Rattle.rosenduch.proofs.operations.check_term.Reads as check-term-reads
use Rattle.rosenduch.proofs.operations.check_book.Reads as check-book-reads
use Rattle.rosenduch.proofs.operations.match_rule.Reads as match-rule-reads
use Rattle.rosenduch.proofs.operations.build_left.Reads as build-left-reads
use Rattle.rosenduch.proofs.operations.compile.Reads as compile-reads
use Rattle.rosenduch.proofs.operations.match_tree.Reads as match-tree-reads
use Rattle.rosenduch.proofs.operations.rewrite_root.Reads as rewrite-root-reads
use Rattle.rosenduch.proofs.operations.simplify.Reads as simplify-reads
use Rattle.rosenduch.proofs.operations.read_book.Reads as read-book-reads
use Rattle.rosenduch.proofs.operations.write_book.Reads as write-book-reads
use Rattle.rosenduch.proofs.operations.repair_book.Reads as repair-book-reads
use Rattle.rosenduch.proofs.operations.read_term.Reads as read-term-reads
use Rattle.rosenduch.proofs.operations.write_term.Reads as write-term-reads
use Rattle.rosenduch.proofs.operations.check_term.Statement as check-term-statement
use Rattle.rosenduch.proofs.operations.check_book.Statement as check-book-statement
use Rattle.rosenduch.proofs.operations.match_rule.Statement as match-rule-statement
use Rattle.rosenduch.proofs.operations.build_left.Statement as build-left-statement
use Rattle.rosenduch.proofs.operations.compile.Statement as compile-statement
use Rattle.rosenduch.proofs.operations.match_tree.Statement as match-tree-statement
use Rattle.rosenduch.proofs.operations.rewrite_root.Statement as rewrite-root-statement
use Rattle.rosenduch.proofs.operations.simplify.Statement as simplify-statement
use Rattle.rosenduch.proofs.operations.read_book.Statement as read-book-statement
use Rattle.rosenduch.proofs.operations.write_book.Statement as write-book-statement
use Rattle.rosenduch.proofs.operations.repair_book.Statement as repair-book-statement
use Rattle.rosenduch.proofs.operations.read_term.Statement as read-term-statement
use Rattle.rosenduch.proofs.operations.write_term.Statement as write-term-statement
use Rattle.demands.specs.Calls.{AsksNothing, Call}

-- of any arguments nothing is asked
pub record RustAsksNothing : Type 0 where
  pub check_term : AsksNothing 1 check-term-kinds.ps check-term-reads.Pre
  pub check_book : AsksNothing 1 check-book-kinds.ps check-book-reads.Pre
  pub match_rule : AsksNothing 4 match-rule-kinds.ps match-rule-reads.Pre
  pub build_left : AsksNothing 4 build-left-kinds.ps build-left-reads.Pre
  pub compile : AsksNothing 2 compile-kinds.ps compile-reads.Pre
  pub match_tree : AsksNothing 4 match-tree-kinds.ps match-tree-reads.Pre
  pub rewrite_root : AsksNothing 4 rewrite-root-kinds.ps rewrite-root-reads.Pre
  pub simplify : AsksNothing 4 simplify-kinds.ps simplify-reads.Pre
  pub read_book : AsksNothing 2 read-book-kinds.ps read-book-reads.Pre
  pub write_book : AsksNothing 2 write-book-kinds.ps write-book-reads.Pre
  pub repair_book : AsksNothing 2 repair-book-kinds.ps repair-book-reads.Pre
  pub read_term : AsksNothing 2 read-term-kinds.ps read-term-reads.Pre
  pub write_term : AsksNothing 2 write-term-kinds.ps write-term-reads.Pre

-- the code meets its contract, in every model of the machine: a call returns, and with what the contract ensures
pub record RustMeets : Type 2 where
  pub check_term : {M : Type 1} → check-term-statement.statement M
  pub check_book : {M : Type 1} → check-book-statement.statement M
  pub match_rule : {M : Type 1} → match-rule-statement.statement M
  pub build_left : {M : Type 1} → build-left-statement.statement M
  pub compile : {M : Type 1} → compile-statement.statement M
  pub match_tree : {M : Type 1} → match-tree-statement.statement M
  pub rewrite_root : {M : Type 1} → rewrite-root-statement.statement M
  pub simplify : {M : Type 1} → simplify-statement.statement M
  pub read_book : {M : Type 1} → read-book-statement.statement M
  pub write_book : {M : Type 1} → write-book-statement.statement M
  pub repair_book : {M : Type 1} → repair-book-statement.statement M
  pub read_term : {M : Type 1} → read-term-statement.statement M
  pub write_term : {M : Type 1} → write-term-statement.statement M

-- what comes back of a call
abbrev pub rust : Operations
rust =
    record {
      check_term = λ words said. (
          (c : Call 1 check-term-kinds.ps check-term-kinds.r check-term-reads.Post)
          × (words ≡ c.given.0.now)
          × (said ≡ answered c.result)
          );
      check_book = λ book said. (
          (c : Call 1 check-book-kinds.ps check-book-kinds.r check-book-reads.Post)
          × (book ≡ c.given.0.now)
          × (said ≡ answered c.result)
          );
      match_rule = λ book number term room o. (
          (c : Call 4 match-rule-kinds.ps match-rule-kinds.r match-rule-reads.Post)
          × (book ≡ c.given.0.now)
          × (number ≡ c.given.1.0)
          × (term ≡ c.given.1.1.0.now)
          × (room ≡ length c.given.1.1.1.0.now)
          × (o ≡ match_rule_came (answered c.result.answer) c.result.aside c.after.1.1.1.0.now c.after.1.1.1.1.0.now)
          );
      build_left = λ book number bodies lengths room o. (
          (c : Call 4 build-left-kinds.ps build-left-kinds.r build-left-reads.Post)
          × (book ≡ c.given.0.now)
          × (number ≡ c.given.1.0)
          × (bodies ≡ c.given.1.1.0.now)
          × (lengths ≡ c.given.1.1.1.0.now)
          × (room ≡ length c.given.1.1.1.1.0.now)
          × (o ≡ build_left_came (answered c.result) c.after.1.1.1.1.0.now)
          );
      compile = λ book room o. (
          (c : Call 2 compile-kinds.ps compile-kinds.r compile-reads.Post)
          × (book ≡ c.given.0.now)
          × (room ≡ length c.given.1.0.now)
          × (o ≡ compile_came (answered c.result.answer) c.result.words c.after.1.0.now)
          );
      match_tree = λ tree term room o. (
          (c : Call 4 match-tree-kinds.ps match-tree-kinds.r match-tree-reads.Post)
          × (tree ≡ c.given.0.now)
          × (term ≡ c.given.1.0.now)
          × (room ≡ length c.given.1.1.0.now)
          × (o ≡ match_tree_came (answered c.result.answer) c.result.rule c.result.aside c.result.visits c.after.1.1.0.now c.after.1.1.1.0.now)
          );
      rewrite_root = λ book tree term room o. (
          (c : Call 4 rewrite-root-kinds.ps rewrite-root-kinds.r rewrite-root-reads.Post)
          × (book ≡ c.given.0.now)
          × (tree ≡ c.given.1.0.now)
          × (term ≡ c.given.1.1.0.now)
          × (room ≡ length c.given.1.1.1.0.now)
          × (o ≡ rewrite_root_came (answered c.result.answer) c.result.visits c.after.1.1.1.0.now)
          );
      simplify = λ book tree term budget room o. (
          (c : Call 4 simplify-kinds.ps simplify-kinds.r simplify-reads.Post)
          × (book ≡ c.given.0.now)
          × (tree ≡ c.given.1.0.now)
          × (term ≡ c.given.1.1.0.now)
          × (budget ≡ c.given.1.1.1.0)
          × (room ≡ length c.given.1.1.1.1.0.now)
          × (o ≡ simplify_came (answered c.result.answer) c.result.steps c.result.visits c.after.1.1.1.1.0.now)
          );
      read_book = λ text room o. (
          (c : Call 2 read-book-kinds.ps read-book-kinds.r read-book-reads.Post)
          × (text ≡ c.given.0.now)
          × (room ≡ length c.given.1.0.now)
          × (o ≡ read_book_came (answered c.result) c.after.1.0.now)
          );
      write_book = λ book room o. (
          (c : Call 2 write-book-kinds.ps write-book-kinds.r write-book-reads.Post)
          × (book ≡ c.given.0.now)
          × (room ≡ length c.given.1.0.now)
          × (o ≡ write_book_came (answered c.result) c.after.1.0.now)
          );
      repair_book = λ text room o. (
          (c : Call 2 repair-book-kinds.ps repair-book-kinds.r repair-book-reads.Post)
          × (text ≡ c.given.0.now)
          × (room ≡ length c.given.1.0.now)
          × (o ≡ repair_book_came (answered c.result) c.after.1.0.now)
          );
      read_term = λ text room o. (
          (c : Call 2 read-term-kinds.ps read-term-kinds.r read-term-reads.Post)
          × (text ≡ c.given.0.now)
          × (room ≡ length c.given.1.0.now)
          × (o ≡ read_term_came (answered c.result) c.after.1.0.now)
          );
      write_term = λ term room o. (
          (c : Call 2 write-term-kinds.ps write-term-kinds.r write-term-reads.Post)
          × (term ≡ c.given.0.now)
          × (room ≡ length c.given.1.0.now)
          × (o ≡ write_term_came (answered c.result) c.after.1.0.now)
          );
    }
