-- The first block, for each way through the code: a file that is not in form, a book that is refused, or a head with the book and its tree ready.
use mathlib.Core.Path.{◌≡◌, refl, sym, ap, subst, ◌∙◌}
use mathlib.Core.Bool.{Bool, true, false}
use mathlib.Core.List.{List, ◌++◌}
use Prim.Native.Nat.{ℕ, ◌-◌, ◌≤◌, ◌<◌}
use native.Mathlib.Omega.{arith}
use lib.ListN.{length, get_or, take, replicate, length-append}
use lib.Seq.{take_at, length-take-le}
use borrow.Author.Tests.{le-leb, lt-leb}
use Rattle.std.specs.Prelude.{Some, None, Result, Ok, Err}
use Rattle.term.specs.declared.answer.Answer.{Answer}
use Rattle.term.specs.declared.answer.Answer.TheVariants as answers
use Rattle.term.specs.Answer.{number_of, place_of}
use Rattle.term.specs.Word.{pick}
use Rattle.book.specs.Book.{check_book}
use Rattle.book.specs.Accept.{judged}
use Rattle.book.proofs.Laws.{BadWithin, bad_within}
use Rattle.tree.specs.Layout.{tree_words}
use Rattle.compiler.specs.Compiled.{has_room, compiled_answer, compile_answer, compile_words, compile_length}
use Rattle.compiler.proofs.Laws.{TreeMade, done_made, compile_answer_lem}
use Rattle.text.specs.Refusal.{refusal_block}
use Rattle.text.proofs.Laws.{Brief}
use Rattle.simplify.specs.declared.first.First.{First}
use Rattle.simplify.specs.declared.first.Ready.{Ready}
use Rattle.simplify.specs.Printed.{head_text}
use Rattle.simplify.specs.Told.Told.{FileRead, HeadReady, HeadTold, FileReady, FirstTold}

-- ---- what compiling a book answers
module _ (room : ℕ) (book : List ℕ) where
  answer_place : place_of (compile_answer room book) ≤ 64
  answer_place = rw (compile_answer_lem room book) (go (check_book book) (bad_within book))
    where
      roomy : (x : Bool) → place_of (pick x answers.Done answers.Short) ≤ 64
      roomy true = omega arith
      roomy false = omega arith

      go : (c : Result (Unit {0}) ℕ) → BadWithin 64 c → place_of (compiled_answer room book (judged c)) ≤ 64
      go (Ok _) b = roomy (has_room room (tree_words book))
      go (Err at) b = b

  is_done : number_of (compile_answer room book) < 10 → compile_answer room book ≡ answers.Done
  is_done h = compile_answer_lem room book ∙ go (check_book book) (rw (compile_answer_lem room book) at h)
    where
      roomy : (x : Bool) → number_of (pick x answers.Done answers.Short) < 10 → pick x answers.Done answers.Short ≡ answers.Done
      roomy true h = refl
      roomy false h = absurd (omega arith)

      go : (c : Result (Unit {0}) ℕ) → number_of (compiled_answer room book (judged c)) < 10 → compiled_answer room book (judged c) ≡ answers.Done
      go (Ok _) h = roomy (has_room room (tree_words book)) h
      go (Err at) h = absurd (omega arith)

module _ (book : List ℕ) (at : ℕ) (tree out done : List ℕ) (a : Answer) (e : a ≡ compile_answer 16384 book) where
  pub place_small : place_of a ≤ 70000
  place_small = rw e (omega (arith, answer_place 16384 book))

  pub made : number_of a < 10 → TreeMade 16384 book
  made h = done_made 16384 book (is_done 16384 book (rw e at h))

  pub head_refused : (n : ℕ) → 10 ≤ number_of a → Brief (refusal_block a) out done n → HeadTold book at tree out done (record { length = n; ready = None })
  head_refused n h s =
      record {
        block = rw (sym e, le-leb 10 (number_of a) h) (s.0, s.1, omega (arith, s.2));
        refuses = rw (sym e, le-leb 10 (number_of a) h);
        ready = λ k q. cc;
      }

  pub head_made : (n words : ℕ) → number_of a < 10 → tree ≡ compile_words 16384 book → words ≡ compile_length 16384 book → Brief (head_text (get_or book 0 0) words) out done n
      → HeadTold book at tree out done (record { length = n; ready = Some (record { book = length book; tree = words; at = at; number = 0 }) })
  head_made n words h t w s =
      let m = made h in
      let long : words ≡ length (tree_words book) = w ∙ m.said in
      let lies : tree ≡ tree_words book ++ replicate (16384 - length (tree_words book)) 0 = t ∙ m.words in
      record {
        block = rw (sym e, lt-leb 10 (number_of a) h, sym long) (s.0, s.1, omega (arith, s.2));
        refuses = rw (sym e, lt-leb 10 (number_of a) h);
        ready = λ k q.
            let i : ◌≡◌ {A = Ready} (record { book = length book; tree = words; at = at; number = 0 }) k = cc in
            subst (λ (x : Ready). HeadReady book tree at x) i
            (record {
              book_size = refl;
              tree_words = rw lies (take_at (tree_words book) (replicate (16384 - length (tree_words book)) 0) words (sym long));
              tree_fits = rw (lies, length-append (tree_words book) (replicate (16384 - length (tree_words book)) 0)) (omega (arith, long));
              where_terms = refl;
              from_zero = refl;
            });
      }

-- ---- the file
module _ (bs book tree out done : List ℕ) where
  pub read_first : (n at : ℕ) (r : First) → n ≤ length book → FileRead bs book n at → HeadTold (take n book) at tree out done r → FirstTold bs book tree out done r
  read_first n at r l f h =
      record {
        block = rw (f.said, sym f.words) h.block;
        refuses = rw (f.said, sym f.words) h.refuses;
        ready = λ k q. file_ready k (h.ready k q);
      }
    where
      file_ready : (k : Ready) → HeadReady (take n book) tree at k → FileReady bs book tree k
      file_ready k g =
          record {
            book_words = rw f.said (ap (λ (m : ℕ). take m book) (g.book_size ∙ length-take-le n book l) ∙ f.words);
            book_fits = omega (arith, g.book_size, length-take-le n book l);
            tree_words = rw (f.said, sym f.words) g.tree_words;
            tree_fits = g.tree_fits;
            terms = rw (f.said, g.where_terms) f.left;
            inside = rw g.where_terms f.inside;
            short = f.short;
            from_zero = g.from_zero;
          }
