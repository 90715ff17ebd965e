-- What repairing hands back is what the definition gives, and of that crate `mend` proves what is kept; a book that is accepted or refused is so by every
-- operation that takes one.
use mathlib.Core.Path.{◌≡◌, refl, sym, ap, ◌∙◌}
use mathlib.Core.Bool.{false}
use mathlib.Core.List.{List, ◌∷◌, ◌++◌}
use Prim.Native.Nat.{ℕ, ◌≤◌}
use lib.ListN.{length}
use Rattle.term.specs.declared.answer.Answer.TheVariants.{Done}
use Rattle.term.specs.Answer.{Answered, answered}
use Rattle.term.proofs.Laws.{answered_same}
use Rattle.book.specs.Book.{book_of}
use Rattle.book.proofs.Laws.{accepted_good, good_accepted, refusal_number, check_book_is}
use Rattle.text.specs.BookText.{book_text, book_said, ReadBookOutcome, read_book_answer, read_book_words}
use Rattle.text.specs.Mail.{mail_is, mail_said}
use Rattle.text.proofs.Laws.{filled, read_book_gives_lem, read_good_book, read_book_done}
use Rattle.mend.specs.Repair.{stays, kept_from, new_book, notes_text, repaired_text, repair_answer, repair_bytes, RepairBookOutcome}
use Rattle.mend.specs.Keeps.{all_kept, kept_before}
use Rattle.mend.proofs.Laws.{keeps, new_book_of, repair_gives, Written, repair_done}
use Rattle.rosenduch.specs.Operations.{Operations, Promised}
use Rattle.rosenduch.specs.Repairs.{Holds, Repairs}

-- one text that came by mail says one number and one list of rules
holds_same : (room n m : ℕ) (rules others : List (List ℕ)) (text : List ℕ) → mail_is n rules ≡ mail_is m others → repaired_text m others ≡ text
    → filled room (repaired_text n rules) ≡ filled room text
holds_same room n m rules others text e t =
    let p : n ≡ m = cc in
    let q : rules ≡ others = cc in
    rw (p, q, t)

module _ (ops : Operations) (kept : Promised ops) where
  -- what an answer of 0 tells
  written : (text : List ℕ) (room : ℕ) (o : RepairBookOutcome) → ops.repair_book text room o → o.said ≡ answered Done → Written room (mail_said text) (repair_bytes room (mail_said text))
  written text room o p d =
      let e = kept.repair_book text room o p ∙ repair_gives text room in
      repair_done room (mail_said text) (answered_same (repair_answer room (mail_said text)) Done (sym (ap (λ (q : RepairBookOutcome). q.said) e) ∙ d))

  left : (text : List ℕ) (room : ℕ) (o : RepairBookOutcome) → ops.repair_book text room o → o.out ≡ repair_bytes room (mail_said text)
  left text room o p = ap (λ (q : RepairBookOutcome). q.out) (kept.repair_book text room o p ∙ repair_gives text room)

  repaired : (text : List ℕ) (room : ℕ) (o : RepairBookOutcome) → ops.repair_book text room o → o.said ≡ answered Done
      → (stated : ℕ) × (rules : List (List ℕ)) × (mail_said text ≡ mail_is stated rules) × (length (book_text (new_book rules)) ≤ 65536) × Holds room o.out (repaired_text stated rules)
  repaired text room o p d =
      let w = written text room o p d in
      (w.stated, w.rules, w.is, w.short, left text room o p ∙ w.text)

  accepted : (text : List ℕ) (stated : ℕ) (rules : List (List ℕ)) → mail_said text ≡ mail_is stated rules → (said : Answered) → ops.check_book (new_book rules) said → said ≡ answered Done
  accepted text stated rules m said p = kept.check_book (new_book rules) said p ∙ check_book_is (new_book rules) ∙ rw (keeps.accepted text stated rules m)

  reads_back : (text : List ℕ) (stated : ℕ) (rules : List (List ℕ)) → mail_said text ≡ mail_is stated rules → length (book_text (new_book rules)) ≤ 65536
      → (room : ℕ) (o : ReadBookOutcome) → ops.read_book (book_text (new_book rules)) room o → length (new_book rules) ≤ room → (o.said ≡ answered Done) × Holds room o.out (book_of (kept_from 0 rules))
  reads_back text stated rules m h room o p l =
      let e = kept.read_book (book_text (new_book rules)) room o p ∙ read_book_gives_lem (book_text (new_book rules)) room in
      let s = keeps.reads_back text stated rules m h in
      let n = new_book_of rules in
      let g = read_good_book room (book_of (kept_from 0 rules)) (rw n at (accepted_good (new_book rules) (keeps.accepted text stated rules m))) (rw n at l) in
      (ap (λ (q : ReadBookOutcome). q.said) e ∙ ap answered (ap (read_book_answer room) s ∙ g.0), ap (λ (q : ReadBookOutcome). q.out) e ∙ ap (read_book_words room) s ∙ g.1)

  comes_back : (text : List ℕ) (more : ℕ) (p : ReadBookOutcome) → ops.read_book text more p → p.said ≡ answered Done → (room : ℕ) (o : RepairBookOutcome)
      → ops.repair_book text room o → o.said ≡ answered Done → (rules : List (List ℕ)) × Holds room o.out (text ++ notes_text (all_kept 0 (length rules)))
  comes_back text more p q d room o r f =
      let e = kept.read_book text more p q ∙ read_book_gives_lem text more in
      let b = read_book_done more (book_said text) (answered_same (read_book_answer more (book_said text)) Done (sym (ap (λ (x : ReadBookOutcome). x.said) e) ∙ d)) in
      let c = keeps.comes_back text b.0 b.1 (good_accepted b.0 b.2) in
      let w = written text room o r f in
      let same : mail_is w.stated w.rules ≡ mail_is (length c.0) c.0 = sym w.is ∙ c.1.in_form in
      (c.0, left text room o r ∙ w.text ∙ holds_same room w.stated (length c.0) w.rules c.0 (text ++ notes_text (all_kept 0 (length c.0))) same c.1.then_kept)

  put_back : (text : List ℕ) (stated : ℕ) (front : List (List ℕ)) (rule : List ℕ) (back : List (List ℕ)) → mail_said text ≡ mail_is stated (front ++ (rule ∷ back))
      → stays (kept_before front) rule ≡ false → (said : Answered) → ops.check_book (book_of (kept_from 0 front ++ (rule ∷ kept_from (kept_before front) back))) said → 10 ≤ said.number
  put_back text stated front rule back m g said p =
      let l = (keeps.left_out text stated (front ++ (rule ∷ back)) m front rule back refl g).put_back in
      let book = book_of (kept_from 0 front ++ (rule ∷ kept_from (kept_before front) back)) in
      let e : said ≡ answered l.0 = kept.check_book book said p ∙ check_book_is book ∙ rw l.1 in
      rw e (refusal_number book l.0 l.1)

  pub repairs : Repairs ops
  repairs = record { repaired = repaired; accepted = accepted; reads_back = reads_back; comes_back = comes_back; put_back = put_back; keeps = keeps }
