-- Compiling, judgement by judgement: the book, and then the room for its tree. Each is one line of a definition.
use mathlib.Core.Path.{◌≡◌, refl, ap}
use mathlib.Core.Bool.{Bool, true, false}
use mathlib.Core.List.{List, ◌++◌}
use Prim.Native.Nat.{ℕ, ◌-◌, ◌≤◌}
use native.Mathlib.Omega.{arith}
use lib.ListN.{length, replicate}
use borrow.Author.Tests.{le-leb}
use Rattle.std.specs.Prelude.{Result, Ok, Err}
use Rattle.term.specs.declared.answer.Answer.{Answer}
use Rattle.term.specs.declared.answer.Answer.TheVariants.{Done, BadBook}
use Rattle.term.specs.Answer.{number_of}
use Rattle.term.proofs.Laws.{padded_fits}
use Rattle.book.specs.Book.{check_book}
use Rattle.book.specs.Accept.{judged, accept}
use Rattle.book.proofs.Laws.{good_accepted, bad_refused}
use Rattle.tree.specs.Layout.{tree_words}
use Rattle.compiler.specs.Compiled.{has_room, compiled_answer, compiled_words, compile_answer, compile_words}

module _ (room : ℕ) (book : List ℕ) where
  asked : (c : Result (Unit {0}) Answer) → accept book ≡ c → compile_answer room book ≡ compiled_answer room book c
  unfolding compile_answer
  asked c e = ap (compiled_answer room book) e

  pub compile_answer_lem : compile_answer room book ≡ compiled_answer room book (judged (check_book book))
  compile_answer_lem = go (check_book book) refl
    where
      go : (c : Result (Unit {0}) ℕ) → check_book book ≡ c → compile_answer room book ≡ compiled_answer room book (judged c)
      go (Ok _) e = asked (Ok tt) (good_accepted book e)
      go (Err at) e = asked (Err (BadBook at)) (bad_refused book at e)

  pub compile_bad_book : (at : ℕ) → check_book book ≡ Err at → compile_answer room book ≡ BadBook at
  unfolding compile_answer
  compile_bad_book at e = rw (bad_refused book at e)

  -- a tree within its size and with room is written
  pub compile_writes : check_book book ≡ Ok tt → length (tree_words book) ≤ 16384 → length (tree_words book) ≤ room
      → (compile_answer room book ≡ Done) × (compile_words room book ≡ tree_words book ++ replicate (room - length (tree_words book)) 0)
  unfolding compile_answer compile_words has_room
  compile_writes g s h =
      rw (good_accepted book g, le-leb (length (tree_words book)) 16384 s, le-leb (length (tree_words book)) room h) (refl, padded_fits room (tree_words book) h)

  -- a refusal leaves zeros
  pub compile_zeros : 10 ≤ number_of (compile_answer room book) → compile_words room book ≡ replicate room 0
  unfolding compile_answer compile_words
  compile_zeros h = go (accept book) h
    where
      go : (c : Result (Unit {0}) Answer) → 10 ≤ number_of (compiled_answer room book c) → compiled_words room book c ≡ replicate room 0
      go (Err a) h = refl
      go (Ok _) h = had (has_room room (tree_words book)) refl h
        where
          had : (b : Bool) → has_room room (tree_words book) ≡ b → 10 ≤ number_of (compiled_answer room book (Ok tt)) → compiled_words room book (Ok tt) ≡ replicate room 0
          had true e h = let k : 10 ≤ 0 = rw e at h in absurd (omega (arith, k))
          had false e h = rw e
