-- What writing a book writes, for each way through the code: the lines one after the other are the text, and a rule of an accepted book lies where its header says.
use mathlib.Core.Path.{◌≡◌, refl, sym, ap, ◌∙◌}
use mathlib.Core.Bool.{Bool, true, false}
use mathlib.Core.List.{List, [], ◌∷◌, ◌++◌, append_assoc, append-nil}
use mathlib.Core.Option.{Option, none, some}
use Prim.Native.Nat.{ℕ, suc, ◌+◌, ◌-◌, ◌≤◌, ◌<◌}
use native.Mathlib.Omega.{arith}
use lib.Dec.{ltb}
use lib.ListN.{length, replicate, get_or, take, drop, set, length-append, length-drop}
use lib.Seq.{sets, drop-drop, get_or-drop, take_at, drop_at}
use borrow.Author.Tests.{le-leb, lt-leb, ltb-false}
use Rattle.term.specs.declared.answer.Answer.{Answer}
use Rattle.term.specs.declared.answer.Answer.TheVariants.{Done, Short}
use Rattle.std.specs.Prelude.{Ok, Err, Result}
use Rattle.term.specs.Answer.{answered}
use Rattle.term.specs.Word.{pick}
use Rattle.term.proofs.Laws.{never, wrote, no_room}
use Rattle.book.specs.Book.{Rule, rule_of, judged, good_next, after_next, judge, check_book}
use Rattle.book.specs.Rule.{good_rule}
use Rattle.book.specs.Accept.{accept}
use Rattle.book.proofs.Laws.{good_facts, judge_next, check_empty, check_counted}
use Rattle.text.specs.Number.{decimal}
use Rattle.text.specs.Line.{line_text}
use Rattle.text.specs.BookText.{book_line, rules_key, rule_key, vars_key, left_key, right_key, number_text, side_text, rule_text, rules_text, book_text, rule_words, text_gives, text_leaves, write_book_answer, write_book_bytes, write_book_came, write_book_gives}
use Rattle.text.proofs.KindTexts.{decimal_short}
use Rattle.text.proofs.Rounds.{line_short}
use Rattle.text.proofs.BookRounds.{side_facts, number_text_more, side_text_more, rule_text_more}
use Rattle.text.proofs.Outcomes.{write_book_came_lem}
use Rattle.text.proofs.Wrote.{Wrote, wrote_then, wrote_byte}

-- ---- lines
pub number_line_wrote : (out m1 m2 done key : List ℕ) (at to end n : ℕ) → Wrote out at to m1 key → Wrote m1 to end m2 (decimal n) → done ≡ set m2 end 10 → Wrote out at (end + 1) done (number_text key n [])
unfolding number_text
number_line_wrote out m1 m2 done key at to end n p q e =
    wrote_then out at to (end + 1) m1 done key (decimal n ++ (10 ∷ [])) p (wrote_then m1 to end (end + 1) m2 done (decimal n) (10 ∷ []) q (wrote_byte m2 end 10 done e))

pub side_wrote : (out mid done key ws : List ℕ) (at to end : ℕ) → Wrote out at to mid key → Wrote mid to end done (line_text ws) → Wrote out at end done (side_text key ws [])
unfolding side_text
side_wrote out mid done key ws at to end p q = rw (append-nil (line_text ws)) (wrote_then out at to end mid done key (line_text ws) p q)

-- ---- lengths
pub number_line_short : (key : List ℕ) (n : ℕ) → n < 100000 → length (number_text key n []) ≤ length key + 6
unfolding number_text
number_line_short key n h = simp length-append (omega (arith, decimal_short n h))

pub side_short : (key ws : List ℕ) → length ws ≤ 64 → length (side_text key ws []) ≤ length key + 833
unfolding side_text
side_short key ws h = simp length-append (omega (arith, line_short ws))

-- ---- a rule
rule_parts : (number : ℕ) (rule : Rule)
    → rule_text number rule [] ≡ number_text rule_key number [] ++ (number_text vars_key rule.vars [] ++ (side_text left_key rule.left [] ++ side_text right_key rule.right []))
unfolding rule_text
rule_parts number rule =
    sym (rw (
      side_text_more left_key rule.left [] (side_text right_key rule.right []),
      number_text_more vars_key rule.vars [] (side_text left_key rule.left (side_text right_key rule.right [])),
      number_text_more rule_key number [] (number_text vars_key rule.vars (side_text left_key rule.left (side_text right_key rule.right []))),
    ))

pub rule_wrote : (out m1 m2 m3 done : List ℕ) (at a b c end number : ℕ) (rule : Rule) → Wrote out at a m1 (number_text rule_key number []) → Wrote m1 a b m2 (number_text vars_key rule.vars [])
    → Wrote m2 b c m3 (side_text left_key rule.left []) → Wrote m3 c end done (side_text right_key rule.right []) → Wrote out at end done (rule_text number rule [])
rule_wrote out m1 m2 m3 done at a b c end number rule p q r s =
    rw (rule_parts number rule)
    (wrote_then out at a end m1 done (number_text rule_key number []) _ p
    (wrote_then m1 a b end m2 done (number_text vars_key rule.vars []) _ q (wrote_then m2 b c end m3 done (side_text left_key rule.left []) _ r s)))

pub rule_short : (number : ℕ) (rule : Rule) → number ≤ 63 → rule.vars ≤ 16 → length rule.left ≤ 64 → length rule.right ≤ 64 → length (rule_text number rule []) ≤ 2000
rule_short number rule h v l r =
    rw (rule_parts number rule)
    (simp length-append
    (omega (arith, number_line_short rule_key number (omega arith), number_line_short vars_key rule.vars (omega arith), side_short left_key rule.left l, side_short right_key rule.right r)))

-- ---- the next rule of an accepted book
pub record Next (number more : ℕ) (ws : List ℕ) : Type 0 where
  pub rule : Rule
  pub rest : List ℕ
  pub is : rule_of ws ≡ some (rule, rest)
  pub few : rule.vars ≤ 16
  pub left_few : length rule.left ≤ 64
  pub right_few : length rule.right ≤ 64
  pub others : judge (suc number) more rest ≡ Ok tt

pub next_rule : (number more : ℕ) (ws : List ℕ) → judge number (suc more) ws ≡ Ok tt → Next number more ws
next_rule number more ws g = go (rule_of ws) refl (sym (judge_next number more ws) ∙ g)
  where
    one : (p : Rule × List ℕ) → rule_of ws ≡ some p → (b : Bool) → good_rule p.0.vars p.0.left p.0.right ≡ b → judged b (judge (suc number) more p.1) number ≡ Ok tt → Next number more ws
    one p e true q k =
        let f = good_facts p.0 q in
        record { rule = p.0; rest = p.1; is = e; few = f.few; left_few = (side_facts p.0.left f.left_tree).few; right_few = (side_facts p.0.right f.right_tree).few; others = k }
    one p e false q k = never (cc)

    go : (o : Option (Rule × List ℕ)) → rule_of ws ≡ o → judged (good_next o) (judge (suc number) more (after_next o)) number ≡ Ok tt → Next number more ws
    go none e k = never (cc)
    go (some p) e k = one p e (good_rule p.0.vars p.0.left p.0.right) refl k

module _ (book : List ℕ) (a v : ℕ) (left right rest : List ℕ) (e : drop a book ≡ rule_words v left right ++ rest) where
  pub lies_vars : get_or book a 0 ≡ v
  lies_vars = let z : a + 0 ≡ a = omega arith in ap (λ (k : ℕ). get_or book k 0) (sym z) ∙ sym (get_or-drop a book 0 0) ∙ rw e

  pub lies_left : get_or book (a + 1) 0 ≡ length left
  lies_left = sym (get_or-drop a book 1 0) ∙ rw e

  pub lies_right : get_or book (a + 2) 0 ≡ length right
  lies_right = sym (get_or-drop a book 2 0) ∙ rw e

  pub lies_length : a + 3 + length left + length right ≤ length book
  lies_length =
      let z : length (drop a book) ≡ 3 + (length left + length right + length rest) = ap (λ (x : List ℕ). length x) e ∙ simp length-append (omega arith) in
      omega (arith, length-drop a book)

  sides : drop (a + 3) book ≡ left ++ (right ++ rest)
  sides = sym (drop-drop 3 a book) ∙ rw (e, append_assoc left right rest)

  rights : drop (a + 3 + length left) book ≡ right ++ rest
  rights = sym (drop-drop (length left) (a + 3) book) ∙ rw sides (drop_at left (right ++ rest) (length left) refl)

  pub left_part : take (a + 3 + length left - (a + 3)) (drop (a + 3) book) ≡ left
  left_part = let z : a + 3 + length left - (a + 3) ≡ length left = omega arith in rw (z, sides) (take_at left (right ++ rest) (length left) refl)

  pub right_part : take (a + 3 + length left + length right - (a + 3 + length left)) (drop (a + 3 + length left) book) ≡ right
  right_part = let z : a + 3 + length left + length right - (a + 3 + length left) ≡ length right = omega arith in rw (z, rights) (take_at right rest (length right) refl)

  pub after_part : drop (a + 3 + length left + length right) book ≡ rest
  after_part = sym (drop-drop (length right) (a + 3 + length left) book) ∙ rw rights (drop_at right rest (length right) refl)

-- ---- the rules
pub rules_next : (number more : ℕ) (ws rest bs text : List ℕ) (rule : Rule) → rule_of ws ≡ some (rule, rest) → text ≡ bs ++ rules_text number (suc more) ws
    → text ≡ (bs ++ rule_text number rule []) ++ rules_text (suc number) more rest
unfolding rules_text
rules_next number more ws rest bs text rule e t =
    t ∙ rw (e, append_assoc bs (rule_text number rule []) (rules_text (suc number) more rest), rule_text_more number rule [] (rules_text (suc number) more rest))

pub rules_done : (number more : ℕ) (ws bs text : List ℕ) → more ≡ 0 → text ≡ bs ++ rules_text number more ws → text ≡ bs
unfolding rules_text
rules_done number more ws bs text z t = t ∙ rw (z, append-nil bs)

pub book_judged : (book : List ℕ) → check_book book ≡ Ok tt → (1 ≤ length book) × (get_or book 0 0 ≤ 64) × (judge 0 (get_or book 0 0) (drop 1 book) ≡ Ok tt)
book_judged [] g = never (let z = check_empty in cc)
book_judged (n ∷ ws) g = go (ltb 64 n) refl (sym (check_counted n ws) ∙ g)
  where
    go : (b : Bool) → ltb 64 n ≡ b → pick b (Err 64) (judge 0 n ws) ≡ Ok tt → (1 ≤ length (n ∷ ws)) × (n ≤ 64) × (judge 0 n ws ≡ Ok tt)
    go true e k = never (cc)
    go false e k = (omega arith, ltb-false 64 n e, k)

pub book_parts : (book : List ℕ) → 1 ≤ length book → book_text book ≡ book_line ++ (number_text rules_key (get_or book 0 0) [] ++ rules_text 0 (get_or book 0 0) (drop 1 book))
unfolding book_text
book_parts [] h = absurd (omega arith)
book_parts (n ∷ ws) h = ap (λ (x : List ℕ). book_line ++ x) (sym (number_text_more rules_key n [] (rules_text 0 n ws)))

-- ---- what is answered
module _ (room : ℕ) (text : List ℕ) (k : Result (Unit {0}) Answer) where
  pub text_over : (last : List ℕ) → k ≡ Ok tt → 65536 < length text → last ≡ replicate room 0 → (Short ≡ text_gives room text k) × (last ≡ text_leaves room text k)
  text_over last e h z = rw (e, lt-leb (length text) 65536 h) (refl, z)

  pub text_short : (last : List ℕ) → k ≡ Ok tt → length text ≤ 65536 → room < length text → last ≡ replicate room 0 → (Short ≡ text_gives room text k) × (last ≡ text_leaves room text k)
  text_short last e l h z = rw (e, le-leb (length text) 65536 l, lt-leb (length text) room h) (refl, z ∙ (no_room room text h).1)

  pub text_done : (zeros last : List ℕ) → k ≡ Ok tt → length text ≤ 65536 → length text ≤ room → zeros ≡ replicate room 0 → last ≡ sets zeros 0 text
      → (Done ≡ text_gives room text k) × (last ≡ text_leaves room text k)
  text_done zeros last e l h z s = rw (e, le-leb (length text) 65536 l, le-leb (length text) room h) (refl, (wrote room text last h (s ∙ rw z)).1)

  pub text_bad : (a : Answer) (last : List ℕ) → k ≡ Err a → last ≡ replicate room 0 → (a ≡ text_gives room text k) × (last ≡ text_leaves room text k)
  text_bad a last e z = rw e (refl, z)

pub write_given : (room : ℕ) (book : List ℕ) (r : Answer) (last : List ℕ)
    → (r ≡ text_gives room (book_text book) (accept book)) × (last ≡ text_leaves room (book_text book) (accept book)) → write_book_came (answered r) last ≡ write_book_gives book room
unfolding write_book_answer write_book_bytes
write_given room book r last g = write_book_came_lem book room r last g
