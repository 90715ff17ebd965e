-- What repairing answers and leaves, for each way through the code: a text that came by mail is read, and its new book and the lines after it are written
-- into a cleared slice, which is cleared again where they are too long.
use mathlib.Core.Path.{◌≡◌, refl, sym, ap, ◌∙◌}
use mathlib.Core.List.{List, ◌∷◌}
use mathlib.Core.Option.{some}
use Prim.Native.Nat.{ℕ, zero, suc, ◌≤◌, ◌<◌}
use native.Mathlib.Omega.{arith}
use lib.ListN.{length, replicate, take, set, length-set}
use lib.Seq.{sets, take-set-lt}
use borrow.Author.Tests.{le-leb, lt-leb}
use Rattle.term.specs.declared.answer.Answer.{Answer}
use Rattle.term.specs.declared.answer.Answer.TheVariants.{Short, BadText}
use Rattle.std.specs.Prelude.{Result, Ok, Err, MatchResult, IsErrAnd}
use Rattle.term.proofs.Laws.{never}
use Rattle.book.specs.Book.{together, book_of, check_book}
use Rattle.book.proofs.Laws.{book_words, accepted_good}
use Rattle.text.specs.BookText.{book_line, rules_key, book_text, keyed, number_line}
use Rattle.text.specs.Mail.{present_read, mail_is, bad_mail, mail_said}
use Rattle.text.proofs.Laws.{mail_stating, given_short, given_done}
use Rattle.mend.specs.declared.kept.Kept.{Kept}
use Rattle.mend.specs.Repair.{kept_from, new_book, repaired_text, repair_answer, repair_bytes}
use Rattle.mend.specs.Told.Told.{olds_from, Sorted, Came, MailTold, answer_of, written_text, WrittenTold, RepairTold}
use Rattle.mend.proofs.Noting.{notes_same}
use Rattle.mend.proofs.Keeps.{keeps}
use Rattle.mend.proofs.Outcomes.{repair_came}

-- ---- what came
first_set : (w n : ℕ) (book ws : List ℕ) → take w book ≡ 0 ∷ ws → take w (set book 0 n) ≡ n ∷ ws
first_set zero n book ws e = never (cc)
first_set (suc w) n book ws e = take-set-lt (suc w) book 0 n (omega arith) ∙ rw e

pub new_book_of : (rules : List (List ℕ)) → new_book rules ≡ book_of (kept_from 0 rules)
unfolding new_book
new_book_of rules = refl

new_words : (rules : List (List ℕ)) → new_book rules ≡ length (kept_from 0 rules) ∷ together (kept_from 0 rules)
new_words rules = new_book_of rules ∙ book_words (kept_from 0 rules)

pub mail_came : (bs after rest : List ℕ) (stated : ℕ) (book olds done : List ℕ) (k : Kept) → length bs ≤ 65536 → keyed book_line bs ≡ some after
    → number_line rules_key 65535 after ≡ some (stated, rest) → stated ≤ 65535 → Sorted (present_read 0 rest) book olds k → done ≡ set book 0 k.rules → Came bs done olds stated k
mail_came bs after rest stated book olds done k h e f l s d =
    record {
      rules = s.rules;
      said = mail_stating bs h after e stated rest f ∙ rw s.is;
      stated_few = l;
      present = s.present;
      words = rw d (first_set k.words k.rules book (together (kept_from 0 s.rules)) s.words ∙ ap (λ (x : ℕ). x ∷ together (kept_from 0 s.rules)) s.kept_are ∙ sym (new_words s.rules));
      fits = rw (d, length-set book 0 k.rules) s.fits;
      positions = s.positions;
      few = s.few;
      many = s.many;
    }

-- ---- what came, once a line that is not in form is made an answer by `map_err`
pub read_came : (bs book olds : List ℕ) (r : Result (ℕ × Kept) ℕ) (s : Result (ℕ × Kept) Answer) (F : ℕ → Answer → Type 0) → MailTold bs book olds r
    → MatchResult r (λ x. s ≡ Ok x) (λ e. IsErrAnd s (F e)) → (stated : ℕ) (k : Kept) → s ≡ Ok (stated, k) → Came bs book olds stated k
read_came bs book olds (Ok (n, l)) s F t h stated k e =
    let q : (n, l) ≡ (stated, k) = cc in
    let m : n ≡ stated = ap (λ (x : ℕ × Kept). x.0) q in
    let o : l ≡ k = ap (λ (x : ℕ × Kept). x.1) q in
    rw (m, o) at t
read_came bs book olds (Err line) (Ok x) F t h stated k e = absurd h
read_came bs book olds (Err line) (Err a) F t h stated k e = never (cc)

-- ---- what is written
module _ (book : List ℕ) (stated present : ℕ) (olds : List ℕ) (room : ℕ) (done : List ℕ) where
  pub written_over : 65536 < length (book_text book) → done ≡ replicate room 0 → WrittenTold book stated present olds room done (Err Short)
  written_over h z = record { answer = rw (lt-leb (length (book_text book)) 65536 h); left = z ∙ rw (lt-leb (length (book_text book)) 65536 h); size = λ e. never (cc) }

  pub written_short : length (book_text book) ≤ 65536 → room < length (written_text book stated present olds) → done ≡ replicate room 0
      → WrittenTold book stated present olds room done (Err Short)
  written_short l h z =
      let g = given_short room (written_text book stated present olds) (Ok tt) done refl h z in
      record { answer = rw (le-leb (length (book_text book)) 65536 l) g.0; left = rw (le-leb (length (book_text book)) 65536 l) g.1; size = λ e. never (cc) }

  pub written_done : (zeros : List ℕ) (n : ℕ) → length (book_text book) ≤ 65536 → n ≡ length (written_text book stated present olds)
      → length (written_text book stated present olds) ≤ room → zeros ≡ replicate room 0 → done ≡ sets zeros 0 (written_text book stated present olds)
      → WrittenTold book stated present olds room done (Ok n)
  written_done zeros n l k h z s =
      let g = given_done room (written_text book stated present olds) (Ok tt) zeros done refl h z s in
      record { answer = rw (le-leb (length (book_text book)) 65536 l) g.0; left = rw (le-leb (length (book_text book)) 65536 l) g.1; size = λ e. ap Ok k }

-- ---- all that comes back
module _ (bs : List ℕ) (room : ℕ) where
  pub repair_refused : (line : ℕ) (done : List ℕ) → mail_said bs ≡ bad_mail line → done ≡ replicate room 0 → RepairTold bs room done (Err (BadText line))
  unfolding repair_answer repair_bytes
  repair_refused line done m z = record { came = repair_came bs room (BadText line) done (rw m, z ∙ rw m); size = λ e. never (cc) }

  -- a line that is not in form, once it is made an answer by `map_err`
  pub read_refused : (book olds done : List ℕ) (r : Result (ℕ × Kept) ℕ) (s : Result (ℕ × Kept) Answer) (F : ℕ → Answer → Type 0) → MailTold bs book olds r
      → MatchResult r (λ x. s ≡ Ok x) (λ e. IsErrAnd s (F e)) → ((e : ℕ) (a : Answer) → F e a → a ≡ BadText e) → (a : Answer) → s ≡ Err a → done ≡ replicate room 0
      → RepairTold bs room done (Err a)
  read_refused book olds done (Ok x) s F t h k a e z = never (cc)
  read_refused book olds done (Err line) (Ok x) F t h k a e z = absurd h
  read_refused book olds done (Err line) (Err b) F t h k a e z = let q : a ≡ BadText line = cc (k line b h) in rw q (repair_refused line done t z)

  -- the new book is accepted
  pub new_good : (stated : ℕ) (rules : List (List ℕ)) → mail_said bs ≡ mail_is stated rules → check_book (new_book rules) ≡ Ok tt
  new_good stated rules m = accepted_good (new_book rules) (keeps.accepted bs stated rules m)

  written_is : (stated : ℕ) (rules : List (List ℕ)) → written_text (new_book rules) stated (length rules) (olds_from 0 0 rules) ≡ repaired_text stated rules
  unfolding repaired_text
  written_is stated rules = rw (notes_same 0 0 rules)

  repair_said : (stated : ℕ) (rules : List (List ℕ)) (done : List ℕ) (r : Result ℕ Answer) → mail_said bs ≡ mail_is stated rules
      → WrittenTold (new_book rules) stated (length rules) (olds_from 0 0 rules) room done r → RepairTold bs room done r
  unfolding repair_answer repair_bytes
  repair_said stated rules done r m t =
      record {
        came = repair_came bs room (answer_of r) done (t.answer ∙ rw (written_is stated rules, m), t.left ∙ rw (written_is stated rules, m));
        size = λ e. t.size e ∙ rw (written_is stated rules, m);
      }

  pub repair_written : (book olds : List ℕ) (stated : ℕ) (k : Kept) (done : List ℕ) (r : Result ℕ Answer) → (c : Came bs book olds stated k)
      → WrittenTold (take k.words book) stated k.present (take k.rules olds) room done r → RepairTold bs room done r
  repair_written book olds stated k done r c t = repair_said stated c.rules done r c.said (rw (c.words, c.present, c.positions) at t)
