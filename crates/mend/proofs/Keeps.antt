-- Whether a rule stays hangs on the rule and on how many stayed before it, so rules that are split are kept part by part: what stays of the first part, and
-- then what stays of the second after so many. All else is one induction over the rules.
use Prim.Native.Nat.{ℕ, suc, ◌+◌, ◌≤◌, ◌<◌}
use native.Mathlib.Omega.{arith}
use mathlib.Core.Path.{◌≡◌, refl, sym, ap, ◌∙◌}
use mathlib.Core.Bool.{Bool, true, false, ◌&&◌}
use mathlib.Core.List.{List, [], ◌∷◌, ◌++◌, append-nil, map}
use mathlib.Core.Logic.{◌⊎◌, inl, inr}
use lib.Dec.{ltb}
use lib.ListN.{length, length-append}
use borrow.Author.Tests.{ltb-true, ltb-false, lt-ltb, eq-eqb}
use Rattle.term.specs.declared.answer.Answer.{Answer}
use Rattle.term.specs.declared.answer.Answer.TheVariants.{BadBook}
use Rattle.std.specs.Prelude.{Ok, Err}
use Rattle.term.specs.Word.{pick}
use Rattle.term.proofs.Laws.{never, and_left, and_right}
use Rattle.book.specs.Accept.{accept}
use Rattle.book.specs.Book.{sound, book_of, check_book}
use Rattle.book.proofs.Laws.{Whole, AllWhole, AllSound, sound_book, many_refused, unsound_refused, book_sound, good_accepted, bad_refused, accepted_good}
use Rattle.text.specs.TermText.{says}
use Rattle.text.specs.BookText.{book_text, book_said}
use Rattle.text.specs.Mail.{mail_is, mail_said}
use Rattle.text.proofs.Laws.{mail_facts, book_mail, book_said_lem, said_book}
use Rattle.mend.specs.Repair.{stays, kept_from, new_book, Note, dropped, kept, notes_from, notes_text, was_text, repaired_text}
use Rattle.mend.specs.Keeps.{up_to, all_kept, old_of, news_of, kept_before, LeftOut, ComesBack, Keeps}

-- ---- one rule
stays_sound : (n : ℕ) (rule : List ℕ) → stays n rule ≡ true → sound rule ≡ true
unfolding stays
stays_sound n rule e = and_left (sound rule) (ltb n 64) e

stays_room : (n : ℕ) (rule : List ℕ) → stays n rule ≡ true → n < 64
unfolding stays
stays_room n rule e = ltb-true n 64 (and_right (sound rule) (ltb n 64) e)

sound_stays : (n : ℕ) (rule : List ℕ) → sound rule ≡ true → n < 64 → stays n rule ≡ true
unfolding stays
sound_stays n rule s h = rw (s, lt-ltb n 64 h)

why_not : (n : ℕ) (rule : List ℕ) → n ≤ 64 → stays n rule ≡ false → (sound rule ≡ false) ⊎ (n ≡ 64)
unfolding stays
why_not n rule h e = go (sound rule) refl e
  where
    go : (b : Bool) → sound rule ≡ b → b && ltb n 64 ≡ false → (sound rule ≡ false) ⊎ (n ≡ 64)
    go true q z = inr (omega (arith, h, ltb-false n 64 z))
    go false q z = inl q

-- ---- rules that are split
kept_split : (n : ℕ) (front back : List (List ℕ)) → kept_from n (front ++ back) ≡ kept_from n front ++ kept_from (n + length (kept_from n front)) back
unfolding kept_from
kept_split n [] back = let z : n ≡ n + 0 = omega arith in ap (λ (x : ℕ). kept_from x back) z
kept_split n (rule ∷ front) back = go (stays n rule) (kept_split (suc n) front back) (kept_split n front back)
  where
    go : (b : Bool) → kept_from (suc n) (front ++ back) ≡ kept_from (suc n) front ++ kept_from (suc n + length (kept_from (suc n) front)) back
        → kept_from n (front ++ back) ≡ kept_from n front ++ kept_from (n + length (kept_from n front)) back
        → pick b (rule ∷ kept_from (suc n) (front ++ back)) (kept_from n (front ++ back))
        ≡ pick b (rule ∷ kept_from (suc n) front) (kept_from n front) ++ kept_from (n + length (pick b (rule ∷ kept_from (suc n) front) (kept_from n front))) back
    go true k l =
        let z : suc n + length (kept_from (suc n) front) ≡ n + suc (length (kept_from (suc n) front)) = omega arith in
        ap (λ (x : List (List ℕ)). rule ∷ x) k ∙ ap (λ (x : ℕ). rule ∷ (kept_from (suc n) front ++ kept_from x back)) z
    go false k l = l

notes_split : (old n : ℕ) (front back : List (List ℕ))
    → notes_from old n (front ++ back) ≡ notes_from old n front ++ notes_from (old + length front) (n + length (kept_from n front)) back
unfolding notes_from kept_from
notes_split old n [] back =
    let z : n ≡ n + 0 = omega arith in
    let y : old ≡ old + 0 = omega arith in
    ap (λ (x : ℕ). notes_from x n back) y ∙ ap (λ (x : ℕ). notes_from (old + 0) x back) z
notes_split old n (rule ∷ front) back = go (stays n rule) (notes_split (suc old) (suc n) front back) (notes_split (suc old) n front back)
  where
    y : suc old + length front ≡ old + suc (length front)
    y = omega arith

    go : (b : Bool) → notes_from (suc old) (suc n) (front ++ back) ≡ notes_from (suc old) (suc n) front ++ notes_from (suc old + length front) (suc n + length (kept_from (suc n) front)) back
        → notes_from (suc old) n (front ++ back) ≡ notes_from (suc old) n front ++ notes_from (suc old + length front) (n + length (kept_from n front)) back
        → pick b (kept old n ∷ notes_from (suc old) (suc n) (front ++ back)) (dropped old ∷ notes_from (suc old) n (front ++ back))
        ≡ pick b (kept old n ∷ notes_from (suc old) (suc n) front) (dropped old ∷ notes_from (suc old) n front)
        ++ notes_from (old + suc (length front)) (n + length (pick b (rule ∷ kept_from (suc n) front) (kept_from n front))) back
    go true k l =
        let z : suc n + length (kept_from (suc n) front) ≡ n + suc (length (kept_from (suc n) front)) = omega arith in
        ap (λ (x : List Note). kept old n ∷ x) k
        ∙ ap (λ (x : ℕ). kept old n ∷ (notes_from (suc old) (suc n) front ++ notes_from x (suc n + length (kept_from (suc n) front)) back)) y
        ∙ ap (λ (x : ℕ). kept old n ∷ (notes_from (suc old) (suc n) front ++ notes_from (old + suc (length front)) x back)) z
    go false k l =
        ap (λ (x : List Note). dropped old ∷ x) l
        ∙ ap (λ (x : ℕ). dropped old ∷ (notes_from (suc old) n front ++ notes_from x (n + length (kept_from n front)) back)) y

-- ---- what stays is sound, and within 64
kept_sound : (n : ℕ) (rules : List (List ℕ)) → AllWhole rules → AllSound (kept_from n rules)
unfolding kept_from
kept_sound n [] w = tt
kept_sound n (rule ∷ rules) w = go (stays n rule) refl (kept_sound (suc n) rules w.1) (kept_sound n rules w.1)
  where
    go : (b : Bool) → stays n rule ≡ b → AllSound (kept_from (suc n) rules) → AllSound (kept_from n rules) → AllSound (pick b (rule ∷ kept_from (suc n) rules) (kept_from n rules))
    go true e k l = (w.0, stays_sound n rule e, k)
    go false e k l = l

kept_few : (n : ℕ) (rules : List (List ℕ)) → n ≤ 64 → n + length (kept_from n rules) ≤ 64
unfolding kept_from
kept_few n [] h = omega (arith, h)
kept_few n (rule ∷ rules) h = go (stays n rule) refl (λ k. kept_few (suc n) rules k) (kept_few n rules h)
  where
    go : (b : Bool) → stays n rule ≡ b → (suc n ≤ 64 → suc n + length (kept_from (suc n) rules) ≤ 64) → n + length (kept_from n rules) ≤ 64
        → n + length (pick b (rule ∷ kept_from (suc n) rules) (kept_from n rules)) ≤ 64
    go true e k l = let r = stays_room n rule e in let s = k (omega (arith, r)) in omega (arith, s)
    go false e k l = l

few : (rules : List (List ℕ)) → length (kept_from 0 rules) ≤ 64
few rules = let k = kept_few 0 rules (omega arith) in omega (arith, k)

module _ (text : List ℕ) (stated : ℕ) (rules : List (List ℕ)) (m : mail_said text ≡ mail_is stated rules) where
  new_sound : AllSound (kept_from 0 rules) × (length (kept_from 0 rules) ≤ 64)
  new_sound = (kept_sound 0 rules (mail_facts text stated rules m).whole, few rules)

  new_good : check_book (new_book rules) ≡ Ok tt
  unfolding new_book
  new_good = sound_book (kept_from 0 rules) new_sound.0 new_sound.1

  new_accepted : accept (new_book rules) ≡ Ok tt
  new_accepted = good_accepted (new_book rules) new_good

  new_read : length (book_text (new_book rules)) ≤ 65536 → book_said (book_text (new_book rules)) ≡ says (book_of (kept_from 0 rules))
  unfolding new_book
  new_read h = book_said_lem (new_book rules) new_good h

-- ---- of a sound book all stay
kept_all : (n : ℕ) (rules : List (List ℕ)) → AllSound rules → n + length rules ≤ 64 → kept_from n rules ≡ rules
unfolding kept_from
kept_all n [] s h = refl
kept_all n (rule ∷ rules) s h =
    rw (sound_stays n rule s.1 (omega (arith, h))) (ap (λ (x : List (List ℕ)). rule ∷ x) (kept_all (suc n) rules s.2 (omega (arith, h))))

notes_all : (n : ℕ) (rules : List (List ℕ)) → AllSound rules → n + length rules ≤ 64 → notes_from n n rules ≡ all_kept n (length rules)
unfolding notes_from all_kept
notes_all n [] s h = refl
notes_all n (rule ∷ rules) s h =
    rw (sound_stays n rule s.1 (omega (arith, h))) (ap (λ (x : List Note). kept n n ∷ x) (notes_all (suc n) rules s.2 (omega (arith, h))))

good_few : (rules : List (List ℕ)) → check_book (book_of rules) ≡ Ok tt → length rules ≤ 64
good_few rules g = go (ltb 64 (length rules)) refl
  where
    go : (b : Bool) → ltb 64 (length rules) ≡ b → length rules ≤ 64
    go true q = never (let z = many_refused rules (ltb-true 64 (length rules) q) in cc)
    go false q = ltb-false 64 (length rules) q

all_repaired : (rules : List (List ℕ)) → AllSound rules → length rules ≤ 64
    → repaired_text (length rules) rules ≡ book_text (new_book rules) ++ notes_text (all_kept 0 (length rules))
unfolding repaired_text was_text
all_repaired rules s h =
    rw (eq-eqb (length rules) (length rules) refl, notes_all 0 rules s (omega (arith, h)))
    (ap (λ (x : List ℕ). book_text (new_book rules) ++ x) (append-nil (notes_text (all_kept 0 (length rules)))))

sound_back : (text book : List ℕ) (rules : List (List ℕ)) → book_said text ≡ says book → mail_said text ≡ mail_is (length rules) rules → book_of rules ≡ book
    → AllSound rules → length rules ≤ 64 → ComesBack text book rules
unfolding new_book
sound_back text book rules e m b s h =
    let k : kept_from 0 rules ≡ rules = kept_all 0 rules s (omega (arith, h)) in
    let n : book_of (kept_from 0 rules) ≡ book = ap book_of k ∙ b in
    let t : book_text (book_of (kept_from 0 rules)) ≡ text = ap book_text n ∙ sym (said_book text book e) in
    record {
      in_form = m;
      all_stay = k;
      same_book = n;
      same_text = t;
      then_kept = all_repaired rules s h ∙ ap (λ (x : List ℕ). x ++ notes_text (all_kept 0 (length rules))) t;
    }

sound_returns : (text book : List ℕ) → book_said text ≡ says book → accept book ≡ Ok tt → (rules : List (List ℕ)) × ComesBack text book rules
sound_returns text book e a =
    let r = book_mail text book e in
    let g : check_book (book_of r.0) ≡ Ok tt = ap check_book r.2 ∙ accepted_good book a in
    let f = mail_facts text (length r.0) r.0 r.1 in
    (r.0, sound_back text book r.0 e r.1 r.2 (book_sound r.0 f.whole g) (good_few r.0 g))

-- ---- one rule among others
whole_front : (front back : List (List ℕ)) → AllWhole (front ++ back) → AllWhole front
whole_front [] back w = tt
whole_front (rule ∷ front) back w = (w.0, whole_front front back w.1)

whole_back : (front back : List (List ℕ)) → AllWhole (front ++ back) → AllWhole back
whole_back [] back w = w
whole_back (rule ∷ front) back w = whole_back front back w.1

module _ (front : List (List ℕ)) (rule : List ℕ) (back : List (List ℕ)) where
  kept_after : kept_from 0 (front ++ (rule ∷ back)) ≡ kept_from 0 front ++ kept_from (kept_before front) (rule ∷ back)
  kept_after =
      let z : 0 + kept_before front ≡ kept_before front = omega arith in
      kept_split 0 front (rule ∷ back) ∙ ap (λ (x : ℕ). kept_from 0 front ++ kept_from x (rule ∷ back)) z

  kept_dropped : stays (kept_before front) rule ≡ false → kept_from 0 (front ++ (rule ∷ back)) ≡ kept_from 0 front ++ kept_from (kept_before front) back
  unfolding kept_from
  kept_dropped e = kept_after ∙ rw e

  stayed : stays (kept_before front) rule ≡ true → kept_from 0 (front ++ (rule ∷ back)) ≡ kept_from 0 front ++ (rule ∷ kept_from (suc (kept_before front)) back)
  unfolding kept_from
  stayed e = kept_after ∙ rw e

  refused_back : (more : List (List ℕ)) → AllWhole front → Whole rule → (sound rule ≡ false) ⊎ (kept_before front ≡ 64)
      → (a : Answer) × (accept (book_of (kept_from 0 front ++ (rule ∷ more))) ≡ Err a)
  refused_back more w v (inl u) =
      let r = unsound_refused (kept_from 0 front) rule more (kept_sound 0 front w) v u in
      (BadBook r.0, bad_refused (book_of (kept_from 0 front ++ (rule ∷ more))) r.0 r.1)
  refused_back more w v (inr n) =
      let l = length-append (kept_from 0 front) (rule ∷ more) in
      (BadBook 64, bad_refused (book_of (kept_from 0 front ++ (rule ∷ more))) 64 (many_refused (kept_from 0 front ++ (rule ∷ more)) (omega (arith, l, n))))

  whole_out : AllWhole (front ++ (rule ∷ back)) → stays (kept_before front) rule ≡ false → LeftOut front rule back
  whole_out w e =
      let y = why_not (kept_before front) rule (few front) e in
      record {
        breaks_or_over = y;
        out = kept_dropped e;
        put_back = refused_back (kept_from (kept_before front) back) (whole_front front (rule ∷ back) w) (whole_back front (rule ∷ back) w).0 y;
      }

  note_next : (old n : ℕ) → notes_from old n (rule ∷ back) ≡ pick (stays n rule) (kept old n) (dropped old) ∷ notes_from (suc old) (pick (stays n rule) (suc n) n) back
  unfolding notes_from
  note_next old n = go (stays n rule)
    where
      go : (b : Bool) → pick b (kept old n ∷ notes_from (suc old) (suc n) back) (dropped old ∷ notes_from (suc old) n back)
          ≡ pick b (kept old n) (dropped old) ∷ notes_from (suc old) (pick b (suc n) n) back
      go true = refl
      go false = refl

  notes_after : notes_from 0 0 (front ++ (rule ∷ back)) ≡ notes_from 0 0 front ++ notes_from (length front) (kept_before front) (rule ∷ back)
  notes_after =
      let y : 0 + length front ≡ length front = omega arith in
      let z : 0 + kept_before front ≡ kept_before front = omega arith in
      notes_split 0 0 front (rule ∷ back)
      ∙ ap (λ (x : ℕ). notes_from 0 0 front ++ notes_from x (0 + kept_before front) (rule ∷ back)) y
      ∙ ap (λ (x : ℕ). notes_from 0 0 front ++ notes_from (length front) x (rule ∷ back)) z

  note_at : notes_from 0 0 (front ++ (rule ∷ back))
      ≡ notes_from 0 0 front
      ++ (pick (stays (kept_before front) rule) (kept (length front) (kept_before front)) (dropped (length front))
      ∷ notes_from (suc (length front)) (pick (stays (kept_before front) rule) (suc (kept_before front)) (kept_before front)) back)
  note_at = notes_after ∙ ap (λ (x : List Note). notes_from 0 0 front ++ x) (note_next (length front) (kept_before front))

left_out : (text : List ℕ) (stated : ℕ) (rules : List (List ℕ)) → mail_said text ≡ mail_is stated rules
    → (front : List (List ℕ)) (rule : List ℕ) (back : List (List ℕ)) → rules ≡ front ++ (rule ∷ back)
    → stays (kept_before front) rule ≡ false → LeftOut front rule back
left_out text stated rules m front rule back q e = whole_out front rule back (rw q at (mail_facts text stated rules m).whole) e

-- ---- the numbers of the lines
olds_from_lem : (old n : ℕ) (rules : List (List ℕ)) → map old_of (notes_from old n rules) ≡ up_to old (length rules)
unfolding notes_from up_to
olds_from_lem old n [] = refl
olds_from_lem old n (rule ∷ rules) = go (stays n rule) (olds_from_lem (suc old) (suc n) rules) (olds_from_lem (suc old) n rules)
  where
    go : (b : Bool) → map old_of (notes_from (suc old) (suc n) rules) ≡ up_to (suc old) (length rules) → map old_of (notes_from (suc old) n rules) ≡ up_to (suc old) (length rules)
        → map old_of (pick b (kept old n ∷ notes_from (suc old) (suc n) rules) (dropped old ∷ notes_from (suc old) n rules)) ≡ old ∷ up_to (suc old) (length rules)
    go true k l = ap (λ (x : List ℕ). old ∷ x) k
    go false k l = ap (λ (x : List ℕ). old ∷ x) l

news_kept : (old new : ℕ) (notes : List Note) → news_of (kept old new ∷ notes) ≡ new ∷ news_of notes
unfolding news_of
news_kept old new notes = refl

news_dropped : (old : ℕ) (notes : List Note) → news_of (dropped old ∷ notes) ≡ news_of notes
unfolding news_of
news_dropped old notes = refl

next_up : (first many : ℕ) → up_to first (suc many) ≡ first ∷ up_to (suc first) many
unfolding up_to
next_up first many = refl

news_from : (old n : ℕ) (rules : List (List ℕ)) → news_of (notes_from old n rules) ≡ up_to n (length (kept_from n rules))
unfolding notes_from kept_from news_of up_to
news_from old n [] = refl
news_from old n (rule ∷ rules) = go (stays n rule) (news_from (suc old) (suc n) rules) (news_from (suc old) n rules)
  where
    go : (b : Bool) → news_of (notes_from (suc old) (suc n) rules) ≡ up_to (suc n) (length (kept_from (suc n) rules)) → news_of (notes_from (suc old) n rules) ≡ up_to n (length (kept_from n rules))
        → news_of (pick b (kept old n ∷ notes_from (suc old) (suc n) rules) (dropped old ∷ notes_from (suc old) n rules)) ≡ up_to n (length (pick b (rule ∷ kept_from (suc n) rules) (kept_from n rules)))
    go true k l = news_kept old n (notes_from (suc old) (suc n) rules) ∙ ap (λ (x : List ℕ). n ∷ x) k ∙ sym (next_up n (length (kept_from (suc n) rules)))
    go false k l = news_dropped old (notes_from (suc old) n rules) ∙ l

pub keeps : Keeps
keeps =
    record {
      accepted = new_accepted;
      at_most = few;
      comes_back = sound_returns;
      reads_back = new_read;
      left_out = left_out;
      stayed = stayed;
      olds_once = λ rules. olds_from_lem 0 0 rules;
      news_counted = λ rules. news_from 0 0 rules;
      note_at = note_at;
    }
