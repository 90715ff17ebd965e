-- The thirteen functions of `rosenduch::operations`: what is asked computes to nothing, what is ensured to the promise, and the code meets both.
use Rattle.rosenduch.proofs.operations.check_term.Met as check-term-met
use Rattle.rosenduch.proofs.operations.check_book.Met as check-book-met
use Rattle.rosenduch.proofs.operations.match_rule.Met as match-rule-met
use Rattle.rosenduch.proofs.operations.build_left.Met as build-left-met
use Rattle.rosenduch.proofs.operations.compile.Met as compile-met
use Rattle.rosenduch.proofs.operations.match_tree.Met as match-tree-met
use Rattle.rosenduch.proofs.operations.rewrite_root.Met as rewrite-root-met
use Rattle.rosenduch.proofs.operations.simplify.Met as simplify-met
use Rattle.rosenduch.proofs.operations.read_book.Met as read-book-met
use Rattle.rosenduch.proofs.operations.write_book.Met as write-book-met
use Rattle.rosenduch.proofs.operations.repair_book.Met as repair-book-met
use Rattle.rosenduch.proofs.operations.read_term.Met as read-term-met
use Rattle.rosenduch.proofs.operations.write_term.Met as write-term-met
use Rattle.rosenduch.specs.Operations.{Promised}
use Rattle.demands.specs.Rust.{RustAsksNothing, RustMeets, rust}

pub rust_asks_nothing : RustAsksNothing
rust_asks_nothing =
    record {
      check_term = λ lifetimes given. tt;
      check_book = λ lifetimes given. tt;
      match_rule = λ lifetimes given. tt;
      build_left = λ lifetimes given. tt;
      compile = λ lifetimes given. tt;
      match_tree = λ lifetimes given. tt;
      rewrite_root = λ lifetimes given. tt;
      simplify = λ lifetimes given. tt;
      read_book = λ lifetimes given. tt;
      write_book = λ lifetimes given. tt;
      repair_book = λ lifetimes given. tt;
      read_term = λ lifetimes given. tt;
      write_term = λ lifetimes given. tt;
    }

pub rust_meets : RustMeets
rust_meets =
    record {
      check_term = check-term-met.met;
      check_book = check-book-met.met;
      match_rule = match-rule-met.met;
      build_left = build-left-met.met;
      compile = compile-met.met;
      match_tree = match-tree-met.met;
      rewrite_root = rewrite-root-met.met;
      simplify = simplify-met.met;
      read_book = read-book-met.met;
      write_book = write-book-met.met;
      repair_book = repair-book-met.met;
      read_term = read-term-met.met;
      write_term = write-term-met.met;
    }

pub rust_promised : Promised rust
rust_promised =
    record {
      check_term = λ words said p. rw (p.1, p.2) p.0.ensured;
      check_book = λ book said p. rw (p.1, p.2) p.0.ensured;
      match_rule = λ book number term room o p. rw (p.1, p.2, p.3, p.4, p.5) p.0.ensured;
      build_left = λ book number bodies lengths room o p. rw (p.1, p.2, p.3, p.4, p.5, p.6) p.0.ensured;
      compile = λ book room o p. rw (p.1, p.2, p.3) p.0.ensured;
      match_tree = λ tree term room o p. rw (p.1, p.2, p.3, p.4) p.0.ensured;
      rewrite_root = λ book tree term room o p. rw (p.1, p.2, p.3, p.4, p.5) p.0.ensured;
      simplify = λ book tree term budget room o p. rw (p.1, p.2, p.3, p.4, p.5, p.6) p.0.ensured;
      read_book = λ text room o p. rw (p.1, p.2, p.3) p.0.ensured;
      write_book = λ book room o p. rw (p.1, p.2, p.3) p.0.ensured;
      repair_book = λ text room o p. rw (p.1, p.2, p.3) p.0.ensured;
      read_term = λ text room o p. rw (p.1, p.2, p.3) p.0.ensured;
      write_term = λ term room o p. rw (p.1, p.2, p.3) p.0.ensured;
    }
