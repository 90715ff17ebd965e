-- Where compiling a book is done, the book is accepted, its tree is within its size, the output holds the tree and then zeros, and the length said is the tree's: these are the only ways to Done.
use mathlib.Core.Path.{◌≡◌, refl, ap, ◌∙◌}
use mathlib.Core.Bool.{Bool, true, false, ◌&&◌}
use mathlib.Core.List.{List, ◌++◌}
use Prim.Native.Nat.{ℕ, ◌-◌, ◌≤◌}
use native.Mathlib.Omega.{arith}
use lib.Dec.{leb}
use lib.ListN.{length, replicate, length-append, length-replicate}
use borrow.Author.Tests.{leb-true}
use Rattle.std.specs.Prelude.{Ok, Result, Err}
use Rattle.term.specs.declared.answer.Answer.{Answer}
use Rattle.term.specs.declared.answer.Answer.TheVariants.{Done, Short}
use Rattle.term.specs.Answer.{number_of}
use Rattle.term.specs.Word.{pick}
use Rattle.term.proofs.Laws.{never, padded_fits}
use Rattle.book.specs.Book.{check_book}
use Rattle.book.specs.Accept.{accept}
use Rattle.book.proofs.Laws.{accepted_good, refusal_number}
use Rattle.tree.specs.Root.{book_tree}
use Rattle.tree.specs.Layout.{tree_words}
use Rattle.tree.proofs.Laws.{Lies, tree_words_lem}
use Rattle.compiler.specs.Compiled.{has_room, compiled_answer, compile_answer, compile_words, compile_length}

pub record TreeMade (room : ℕ) (book : List ℕ) : Type 0 where
  pub accepted : check_book book ≡ Ok tt
  pub within : length (tree_words book) ≤ 16384
  pub fits : length (tree_words book) ≤ room
  pub words : compile_words room book ≡ tree_words book ++ replicate (room - length (tree_words book)) 0
  pub said : compile_length room book ≡ length (tree_words book)

pub done_made : (room : ℕ) (book : List ℕ) → compile_answer room book ≡ Done → TreeMade room book
unfolding compile_answer compile_words compile_length has_room
done_made room book e = go (accept book) refl e
  where
    go : (c : Result (Unit {0}) Answer) → accept book ≡ c → compiled_answer room book c ≡ Done → TreeMade room book
    go (Err a) q d = let n : number_of a ≡ 0 = ap number_of d in absurd (omega (arith, refusal_number book a q, n))
    go (Ok _) q d = had (leb (length (tree_words book)) 16384) refl (leb (length (tree_words book)) room) refl d
      where
        had : (a : Bool) → leb (length (tree_words book)) 16384 ≡ a → (b : Bool) → leb (length (tree_words book)) room ≡ b → pick (a && b) Done Short ≡ Done → TreeMade room book
        had true x true y d =
            record {
              accepted = accepted_good book q;
              within = leb-true (length (tree_words book)) 16384 x;
              fits = leb-true (length (tree_words book)) room y;
              words = rw (q, x, y) (padded_fits room (tree_words book) (leb-true (length (tree_words book)) room y));
              said = rw (q, x, y);
            }
        had true x false y d = never (cc)
        had false x b y d = never (cc)

-- what compiling leaves begins with the book's tree, and is within a tree's words where its room is
module _ (book : List ℕ) (room : ℕ) (done : compile_answer room book ≡ Done) where
  abbrev made : TreeMade room book
  made = done_made room book done

  abbrev zeros : List ℕ
  zeros = replicate (room - length (tree_words book)) 0

  pub compiled_lies : Lies (compile_words room book) 0 (book_tree book)
  compiled_lies = (zeros, made.words ∙ ap (◌++ zeros) (tree_words_lem book))

  pub compiled_short : room ≤ 16384 → length (compile_words room book) ≤ 16384
  compiled_short small =
      omega (arith, small, ap length made.words, length-append (tree_words book) zeros, length-replicate {A = ℕ} (room - length (tree_words book)) 0, made.fits)
