-- What a file says, for each way through reading it: the lines of its book tell what is said from there on.
use mathlib.Core.Path.{◌≡◌, sym, ap, ◌∙◌}
use mathlib.Core.List.{List}
use Prim.Native.Nat.{ℕ, ◌+◌, ◌≤◌, ◌<◌}
use native.Mathlib.Omega.{arith}
use lib.ListN.{length, get_or, take, drop}
use borrow.Author.Tests.{le-leb, lt-leb}
use Rattle.std.specs.Prelude.{Ok, Err}
use Rattle.text.specs.BookText.{bad_at, book_read, due_after}
use Rattle.text.specs.Told.BookTold.{RulesTold}
use Rattle.text.proofs.Laws.{book_counted, book_bad, first_words}
use Rattle.simplify.specs.File.{terms_are, bad_term, terms_read, bad_file, file_said}
use Rattle.simplify.specs.Told.Told.{TermsTold, FileRead}

abbrev pub BadFile : List ℕ → ℕ → Type 0
BadFile bs line = (file_said bs ≡ bad_file line) × (line ≤ 65900)

module _ (bs : List ℕ) where
  pub too_long : 65536 < length bs → BadFile bs 0
  unfolding file_said
  too_long h = (rw (lt-leb (length bs) 65536 h), omega arith)

  module _ (h : length bs ≤ 65536) where
    pub no_book_lem : (line : ℕ) → book_read bs ≡ bad_at line → BadFile bs line
    unfolding file_said
    no_book_lem line e = (rw (le-leb (length bs) 65536 h, e), omega (arith, book_bad bs line e))

    module _ (out done : List ℕ) (n at : ℕ) (l : length out ≡ 8385) (r : RulesTold book_read 8385 bs 0 0 out done (Ok (n, at))) where
      the_words : take n done ≡ r.0
      the_words = first_words out r.0 done n r.3 r.2 (omega (arith, r.5, l))

      pub book_there : (1 ≤ length (take n done)) × (get_or (take n done) 0 0 ≤ 64)
      book_there = rw the_words (book_counted bs r.0 (drop at bs) r.1)

      module _ (due : ℕ) (d : due ≡ due_after (take n done)) where
        pub due_small : due ≤ 259
        due_small = omega (arith, d, book_there.1)

        pub no_terms : (line : ℕ) → TermsTold (terms_read due (drop at bs)) (due + length bs) (Err line) → BadFile bs line
        unfolding file_said
        no_terms line t =
            let q : terms_read (due_after r.0) (drop at bs) ≡ bad_term line = ap (λ (k : ℕ). terms_read k (drop at bs)) (sym (d ∙ ap due_after the_words)) ∙ t.0 in
            (rw (le-leb (length bs) 65536 h, r.1, q), omega (arith, t.1, due_small))

        pub all_there : TermsTold (terms_read due (drop at bs)) (due + length bs) (Ok tt) → FileRead bs done n at
        unfolding file_said
        all_there t =
            let q : terms_read (due_after r.0) (drop at bs) ≡ terms_are t.0 = ap (λ (k : ℕ). terms_read k (drop at bs)) (sym (d ∙ ap due_after the_words)) ∙ t.1 in
            let b = book_counted bs r.0 (drop at bs) r.1 in
            record {
              book = r.0;
              terms = t.0;
              said = rw (le-leb (length bs) 65536 h, r.1, q);
              words = the_words;
              some_words = omega (arith, b.0, r.2);
              few = r.5;
              rules = b.1;
              left = q;
              inside = r.4;
              short = h;
            }
