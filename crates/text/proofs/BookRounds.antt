-- One meaning has one text: the text of an accepted book says its words, and a text that says words is their text.
use mathlib.Core.Path.{◌≡◌, refl, sym, ap, ◌∙◌}
use mathlib.Core.Bool.{Bool, true, false}
use mathlib.Core.List.{List, [], ◌∷◌, ◌++◌, append_assoc, append-nil}
use mathlib.Core.Option.{Option, none, some}
use Prim.Native.Nat.{ℕ, zero, suc, ◌+◌, ◌*◌, ◌≤◌}
use native.Mathlib.Omega.{arith}
use lib.Dec.{leb, ltb, eqb}
use lib.ListN.{length}
use borrow.Author.Tests.{eqb-true, eq-eqb, leb-true, le-leb, ltb-false}
use Rattle.std.specs.Prelude.{Ok, Err}
use Rattle.term.specs.Word.{pick}
use Rattle.term.specs.Check.{IsTree}
use Rattle.term.proofs.Laws.{never}
use Rattle.book.specs.Book.{Rule, rule_of, judged, good_next, after_next, judge, check_book}
use Rattle.book.specs.Rule.{side_limits, good_rule}
use Rattle.book.proofs.Laws.{good_facts, words_rule, rule_words_lem, judge_over, judge_next, check_empty, check_counted}
use Rattle.text.specs.Number.{Read}
use Rattle.text.specs.TermText.{Said, says, bad_line}
use Rattle.text.specs.BookText.{book_line, rules_key, rule_key, vars_key, left_key, right_key, number_text, side_text, rule_text, next_text, rules_text, book_text, keyed, number_line, side_line, rule_words, Rules, rules_are, bad_at, right_then, left_then, vars_then, rule_then, rule_read, behind, then_rules, rules_read, count_then, book_then, book_read, book_alone, book_said}
use Rattle.text.proofs.Lines.{Known}
use Rattle.text.proofs.Rounds.{known_words, some_words}
use Rattle.text.proofs.BookLines.{key_back, key_is, number_line_back, number_line_is, side_line_back, side_line_is}

-- ---- what is written is read
pub record SideFacts (ws : List ℕ) : Type 0 where
  pub known : Known ws
  pub begun : 1 ≤ length ws
  pub few : length ws ≤ 64

pub side_facts : (ws : List ℕ) → IsTree side_limits ws → SideFacts ws
side_facts ws t =
    record { known = rw t.same (known_words t.tree t.formed); begun = rw t.same (some_words t.tree t.one); few = t.short }

rule_back : (number : ℕ) (rule : Rule) (rest : List ℕ) → number ≤ 63 → rule.vars ≤ 16 → SideFacts rule.left → SideFacts rule.right
    → rule_read number (rule_text number rule rest) ≡ rules_are (rule_words rule.vars rule.left rule.right) rest
unfolding rule_read rule_text
rule_back number rule rest h v l r =
    rw (
      number_line_back rule_key 63 number (number_text vars_key rule.vars (side_text left_key rule.left (side_text right_key rule.right rest))) h,
      eq-eqb number number refl,
      number_line_back vars_key 16 rule.vars (side_text left_key rule.left (side_text right_key rule.right rest)) v,
      side_line_back left_key rule.left (side_text right_key rule.right rest) l.known l.begun l.few,
      side_line_back right_key rule.right rest r.known r.begun r.few,
    )

module _ (number more : ℕ) (ws : List ℕ) (again : (vs : List ℕ) → judge (suc number) more vs ≡ Ok tt → rules_read (suc number) more (rules_text (suc number) more vs) ≡ rules_are vs []) where
  good_back : (rule : Rule) (rest : List ℕ) → number ≤ 63 → rule_of ws ≡ some (rule, rest) → (b : Bool) → good_rule rule.vars rule.left rule.right ≡ b
      → judged b (judge (suc number) more rest) number ≡ Ok tt
      → then_rules (rules_read (suc number) more) (rule_read number (rule_text number rule (rules_text (suc number) more rest))) ≡ rules_are ws []
  good_back rule rest h e true q g =
      let f = good_facts rule q in
      rw (rule_back number rule (rules_text (suc number) more rest) h f.few (side_facts rule.left f.left_tree) (side_facts rule.right f.right_tree), again rest g)
      (ap (λ (x : List ℕ). rules_are x []) (sym (rule_words_lem ws rule rest e)))
  good_back rule rest h e false q g = never (cc)

  next_back : number ≤ 63 → (o : Option (Rule × List ℕ)) → rule_of ws ≡ o → judged (good_next o) (judge (suc number) more (after_next o)) number ≡ Ok tt
      → then_rules (rules_read (suc number) more) (rule_read number (next_text number o (rules_text (suc number) more (after_next o)))) ≡ rules_are ws []
  next_back h none e g = never (cc)
  next_back h (some p) e g = good_back p.0 p.1 h e (good_rule p.0.vars p.0.left p.0.right) refl g

rules_back : (more number : ℕ) (ws : List ℕ) → number + more ≤ 64 → judge number more ws ≡ Ok tt → rules_read number more (rules_text number more ws) ≡ rules_are ws []
unfolding rules_read rules_text
rules_back zero number [] h g = refl
rules_back zero number (w ∷ ws) h g = never (let z = judge_over number w ws in cc)
rules_back (suc more) number ws h g = next_back number more ws (λ vs k. rules_back more (suc number) vs (omega arith) k) (omega arith) (rule_of ws) refl (sym (judge_next number more ws) ∙ g)

pub book_said_lem : (ws : List ℕ) → check_book ws ≡ Ok tt → length (book_text ws) ≤ 65536 → book_said (book_text ws) ≡ says ws
unfolding book_said book_read book_text
book_said_lem [] g h = never (let z = check_empty in cc)
book_said_lem (n ∷ ws) g h = go (ltb 64 n) refl (sym (check_counted n ws) ∙ g)
  where
    go : (b : Bool) → ltb 64 n ≡ b → pick b (Err 64) (judge 0 n ws) ≡ Ok tt → book_said (book_line ++ number_text rules_key n (rules_text 0 n ws)) ≡ says (n ∷ ws)
    go true e k = never (cc)
    go false e k =
        let l = ltb-false 64 n e in
        rw (
          le-leb (length (book_line ++ number_text rules_key n (rules_text 0 n ws))) 65536 h,
          key_back book_line (number_text rules_key n (rules_text 0 n ws)),
          number_line_back rules_key 64 n (rules_text 0 n ws) l,
          rules_back n 0 ws (omega arith) k,
        )

-- ---- what was read is what is written
pub number_text_more : (key : List ℕ) (n : ℕ) (xs ys : List ℕ) → number_text key n xs ++ ys ≡ number_text key n (xs ++ ys)
unfolding number_text
number_text_more key n xs ys = simp append_assoc

pub side_text_more : (key ws xs ys : List ℕ) → side_text key ws xs ++ ys ≡ side_text key ws (xs ++ ys)
unfolding side_text
side_text_more key ws xs ys = simp append_assoc

pub rule_text_more : (number : ℕ) (rule : Rule) (xs ys : List ℕ) → rule_text number rule xs ++ ys ≡ rule_text number rule (xs ++ ys)
unfolding rule_text
rule_text_more number rule xs ys = simp (number_text_more, side_text_more)

abbrev RuleReadIs : ℕ → List ℕ → Rules → Type 0
RuleReadIs number bs (rules_are ws rest) = (rule : Rule) × (bs ≡ rule_text number rule rest) × (ws ≡ rule_words rule.vars rule.left rule.right)
RuleReadIs number bs (bad_at at) = Unit {0}

module _ (number : ℕ) (bs : List ℕ) where
  right_are : (v : ℕ) (left after : List ℕ) → bs ≡ number_text rule_key number (number_text vars_key v (side_text left_key left after)) → (o : Read (List ℕ)) → side_line right_key after ≡ o
      → RuleReadIs number bs (right_then number v left o)
  unfolding rule_text
  right_are v left after e none q = tt
  right_are v left after e (some p) q = (
    record { vars = v; left = left; right = p.0 },
    e ∙ ap (λ (x : List ℕ). number_text rule_key number (number_text vars_key v (side_text left_key left x))) (side_line_is right_key after p.0 p.1 q).0,
    refl,
  )

  left_are : (v : ℕ) (after : List ℕ) → bs ≡ number_text rule_key number (number_text vars_key v after) → (o : Read (List ℕ)) → side_line left_key after ≡ o
      → RuleReadIs number bs (left_then number v o)
  left_are v after e none q = tt
  left_are v after e (some p) q =
      right_are v p.0 p.1 (e ∙ ap (λ (x : List ℕ). number_text rule_key number (number_text vars_key v x)) (side_line_is left_key after p.0 p.1 q).0) (side_line right_key p.1) refl

  vars_are : (after : List ℕ) → bs ≡ number_text rule_key number after → (o : Read ℕ) → number_line vars_key 16 after ≡ o → RuleReadIs number bs (vars_then number o)
  vars_are after e none q = tt
  vars_are after e (some p) q =
      left_are p.0 p.1 (e ∙ ap (λ (x : List ℕ). number_text rule_key number x) (number_line_is vars_key 16 after p.0 p.1 q).0) (side_line left_key p.1) refl

  number_are : (o : Read ℕ) → number_line rule_key 63 bs ≡ o → RuleReadIs number bs (rule_then number o)
  number_are none q = tt
  number_are (some p) q = go (eqb p.0 number) refl
    where
      go : (b : Bool) → eqb p.0 number ≡ b → RuleReadIs number bs (pick b (vars_then number (number_line vars_key 16 p.1)) (bad_at (4 * number + 3)))
      go true e = vars_are p.1 (rw (eqb-true p.0 number e) at (number_line_is rule_key 63 bs p.0 p.1 q).0) (number_line vars_key 16 p.1) refl
      go false e = tt

  rule_read_are : RuleReadIs number bs (rule_read number bs)
  unfolding rule_read
  rule_read_are = number_are (number_line rule_key 63 bs) refl

abbrev RulesReadIs : ℕ → ℕ → List ℕ → Rules → Type 0
RulesReadIs number more bs (rules_are ws rest) = bs ≡ rules_text number more ws ++ rest
RulesReadIs number more bs (bad_at at) = Unit {0}

behind_are : (number more : ℕ) (bs after vs : List ℕ) (rule : Rule) → bs ≡ rule_text number rule after → vs ≡ rule_words rule.vars rule.left rule.right → (o : Rules)
    → RulesReadIs (suc number) more after o → RulesReadIs number (suc more) bs (behind vs o)
unfolding rules_text
behind_are number more bs after vs rule e w (rules_are ws rest) t =
    rw (w, words_rule rule.vars rule.left rule.right ws)
    (e ∙ ap (λ (x : List ℕ). rule_text number rule x) t ∙ sym (rule_text_more number rule (rules_text (suc number) more ws) rest))
behind_are number more bs after vs rule e w (bad_at at) t = tt

then_are : (number more : ℕ) (bs : List ℕ) → ((after : List ℕ) → RulesReadIs (suc number) more after (rules_read (suc number) more after)) → (o : Rules) → RuleReadIs number bs o
    → RulesReadIs number (suc more) bs (then_rules (rules_read (suc number) more) o)
then_are number more bs again (rules_are vs after) t = behind_are number more bs after vs t.0 t.1 t.2 (rules_read (suc number) more after) (again after)
then_are number more bs again (bad_at at) t = tt

rules_are_lem : (more number : ℕ) (bs : List ℕ) → RulesReadIs number more bs (rules_read number more bs)
unfolding rules_read rules_text
rules_are_lem zero number bs = refl
rules_are_lem (suc more) number bs = then_are number more bs (λ after. rules_are_lem more (suc number) after) (rule_read number bs) (rule_read_are number bs)

abbrev BookReadIs : List ℕ → Rules → Type 0
BookReadIs bs (rules_are ws rest) = bs ≡ book_text ws ++ rest
BookReadIs bs (bad_at at) = Unit {0}

counted_are : (n : ℕ) (bs after : List ℕ) → bs ≡ book_line ++ number_text rules_key n after → (o : Rules) → RulesReadIs 0 n after o → BookReadIs bs (behind (n ∷ []) o)
unfolding book_text
counted_are n bs after e (rules_are ws rest) t =
    e
    ∙ ap (λ (x : List ℕ). book_line ++ number_text rules_key n x) t
    ∙ ap (λ (x : List ℕ). book_line ++ x) (sym (number_text_more rules_key n (rules_text 0 n ws) rest))
counted_are n bs after e (bad_at at) t = tt

count_are : (bs after : List ℕ) → bs ≡ book_line ++ after → (o : Read ℕ) → number_line rules_key 64 after ≡ o → BookReadIs bs (count_then o)
count_are bs after e none q = tt
count_are bs after e (some p) q =
    counted_are p.0 bs p.1 (e ∙ ap (λ (x : List ℕ). book_line ++ x) (number_line_is rules_key 64 after p.0 p.1 q).0) (rules_read 0 p.0 p.1) (rules_are_lem p.0 0 p.1)

book_are : (bs : List ℕ) (o : Option (List ℕ)) → keyed book_line bs ≡ o → BookReadIs bs (book_then o)
book_are bs none q = tt
book_are bs (some after) q = count_are bs after (key_is book_line bs after q) (number_line rules_key 64 after) refl

book_read_are : (bs : List ℕ) → BookReadIs bs (book_read bs)
unfolding book_read
book_read_are bs = book_are bs (keyed book_line bs) refl

abbrev SaidBy : List ℕ → Said → Type 0
SaidBy bs (says ws) = bs ≡ book_text ws
SaidBy bs (bad_line at) = Unit {0}

alone_are : (bs : List ℕ) (o : Rules) → BookReadIs bs o → SaidBy bs (book_alone o)
alone_are bs (rules_are ws []) e = e ∙ append-nil (book_text ws)
alone_are bs (rules_are ws (b ∷ rest)) e = tt
alone_are bs (bad_at at) e = tt

said_by : (bs : List ℕ) → SaidBy bs (book_said bs)
unfolding book_said
said_by bs = go (leb (length bs) 65536)
  where
    go : (b : Bool) → SaidBy bs (pick b (book_alone (book_read bs)) (bad_line 0))
    go true = alone_are bs (book_read bs) (book_read_are bs)
    go false = tt

-- a text over 65,536 bytes says nothing
pub book_bytes : (bs ws : List ℕ) → book_said bs ≡ says ws → length bs ≤ 65536
unfolding book_said
book_bytes bs ws e = go (leb (length bs) 65536) refl e
  where
    go : (b : Bool) → leb (length bs) 65536 ≡ b → pick b (book_alone (book_read bs)) (bad_line 0) ≡ says ws → length bs ≤ 65536
    go true q z = leb-true (length bs) 65536 q
    go false q z = never (cc)

pub said_book : (bs ws : List ℕ) → book_said bs ≡ says ws → bs ≡ book_text ws
said_book bs ws e = rw e at (said_by bs)
