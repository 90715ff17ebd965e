-- Reading the rules until the text ends: what was read and what is left are the rules present, and those that stayed and what will stay of the rest are the
-- rules that stay. So each turn only moves one rule over.
use mathlib.Core.Path.{◌≡◌, refl, sym, ap, ◌∙◌}
use mathlib.Core.Bool.{Bool, true, false, ◌&&◌}
use mathlib.Core.List.{List, [], ◌∷◌, ◌++◌, append_assoc, append-nil}
use Prim.Native.Nat.{ℕ, suc, ◌+◌, ◌-◌, ◌*◌, ◌≤◌, ◌<◌}
use native.Mathlib.Omega.{arith}
use lib.Dec.{ltb}
use lib.ListN.{length, drop, take, set, length-append, length-drop, drop_of_length-le}
use lib.Seq.{sets, sets-eq, take_at, drop_at, take-suc-set}
use borrow.Author.Tests.{ltb-true}
use Rattle.term.proofs.Laws.{never}
use Rattle.book.specs.Book.{sound, together}
use Rattle.book.proofs.Laws.{together_nothing, together_rule}
use Rattle.text.specs.BookText.{rules_are, bad_at}
use Rattle.text.specs.Mail.{any_rule_read, Present, rules_present, bad_present, and_present, present_read}
use Rattle.text.proofs.Laws.{rule_whole, present_end, present_bad, present_more}
use Rattle.mend.specs.Repair.{stays, kept_from}
use Rattle.mend.specs.Told.Told.{olds_from, Sorted}

-- ---- whether a rule stays
pub unsound_goes : (rule : List ℕ) (before : ℕ) → sound rule ≡ false → false ≡ stays before rule
unfolding stays
unsound_goes rule before e = rw e

pub sound_stays : (rule : List ℕ) (before : ℕ) (r : Bool) → sound rule ≡ true → r ≡ ltb before 64 → r ≡ stays before rule
unfolding stays
sound_stays rule before r e q = rw e q

pub stays_few : (rule : List ℕ) (before : ℕ) → stays before rule ≡ true → before < 64
unfolding stays
stays_few rule before e = go (sound rule) (ltb before 64) refl e
  where
    go : (a b : Bool) → ltb before 64 ≡ b → (a && b) ≡ true → before < 64
    go true true q z = ltb-true before 64 q
    go true false q z = never (cc)
    go false b q z = never (cc)

-- ---- what stays of a rule and the others
module _ (before : ℕ) (rule : List ℕ) (rules : List (List ℕ)) where
  goes : stays before rule ≡ false → kept_from before (rule ∷ rules) ≡ kept_from before rules
  unfolding kept_from
  goes e = rw e

  remains : stays before rule ≡ true → kept_from before (rule ∷ rules) ≡ rule ∷ kept_from (suc before) rules
  unfolding kept_from
  remains e = rw e

  number_goes : (old : ℕ) → stays before rule ≡ false → olds_from old before (rule ∷ rules) ≡ olds_from (suc old) before rules
  unfolding olds_from
  number_goes old e = rw e

  number_remains : (old : ℕ) → stays before rule ≡ true → olds_from old before (rule ∷ rules) ≡ old ∷ olds_from (suc old) (suc before) rules
  unfolding olds_from
  number_remains old e = rw e

none_kept : (before : ℕ) → kept_from before [] ≡ []
unfolding kept_from
none_kept before = refl

no_numbers : (old before : ℕ) → olds_from old before [] ≡ []
unfolding olds_from
no_numbers old before = refl

-- ---- words together
pub together_more : (rules others : List (List ℕ)) → together (rules ++ others) ≡ together rules ++ together others
together_more [] others = rw together_nothing
together_more (rule ∷ rules) others = rw (together_rule rule (rules ++ others), together_more rules others, together_rule rule rules, append_assoc)

together_last : (rules : List (List ℕ)) (rule : List ℕ) → together (rules ++ (rule ∷ [])) ≡ together rules ++ rule
together_last rules rule = together_more rules (rule ∷ []) ∙ rw (together_rule rule [], together_nothing, append-nil rule)

-- ---- rules before those that are left
abbrev and_all : List (List ℕ) → Present → Present
and_all rules (rules_present others) = rules_present (rules ++ others)
and_all rules (bad_present line) = bad_present line

and_one : (rules : List (List ℕ)) (rule : List ℕ) (o : Present) → and_all rules (and_present rule o) ≡ and_all (rules ++ (rule ∷ [])) o
and_one rules rule (rules_present others) = rw (append_assoc rules (rule ∷ []) others)
and_one rules rule (bad_present line) = refl

and_none : (o : Present) → o ≡ and_all [] o
and_none (rules_present others) = refl
and_none (bad_present line) = refl

-- ---- the state of the reading: the rules read, of which those with these words and old numbers stayed
pub record Reading (bs : List ℕ) (at : ℕ) (book olds : List ℕ) (a old new to : ℕ) : Type 0 where
  pub rules : List (List ℕ)
  pub stayed : List (List ℕ)
  pub numbers : List ℕ
  pub left : present_read 0 (drop at bs) ≡ and_all rules (present_read old (drop a bs))
  pub count : length rules ≡ old
  pub kept_so : (others : List (List ℕ)) → kept_from 0 (rules ++ others) ≡ stayed ++ kept_from new others
  pub olds_so : (others : List (List ℕ)) → olds_from 0 0 (rules ++ others) ≡ numbers ++ olds_from old new others
  pub stayed_new : length stayed ≡ new
  pub words : take to book ≡ 0 ∷ together stayed
  pub size : to ≡ length (together stayed) + 1
  pub positions : take new olds ≡ numbers
  pub inside : a ≤ length bs
  pub few : 21 * old ≤ a
  pub short : to ≤ 1 + 131 * new
  pub many : new ≤ 64

module _ (bs : List ℕ) (at : ℕ) where
  pub begun : (book olds : List ℕ) → at ≤ length bs → 1 ≤ length book → Reading bs at (set book 0 0) olds at 0 0 1
  begun book olds h l =
      record {
        rules = [];
        stayed = [];
        numbers = [];
        left = and_none (present_read 0 (drop at bs));
        count = refl;
        kept_so = λ others. refl;
        olds_so = λ others. refl;
        stayed_new = refl;
        words = take-suc-set book 0 0 l ∙ rw together_nothing;
        size = rw together_nothing;
        positions = refl;
        inside = h;
        few = omega arith;
        short = omega arith;
        many = omega arith;
      }

  module _ (book olds : List ℕ) (a old new to : ℕ) (i : Reading bs at book olds a old new to) where
    pub reading_bad : (line : ℕ) → a < length bs → any_rule_read old (drop a bs) ≡ bad_at line → present_read 0 (drop at bs) ≡ bad_present line
    reading_bad line h e = i.left ∙ rw (present_bad old (drop a bs) line (rw (length-drop a bs) (omega arith)) e)

    pub reading_end : length bs ≤ 65536 → length bs ≤ a → length book ≡ 8516
        → Sorted (present_read 0 (drop at bs)) book olds (record { present = old; rules = new; words = to })
    reading_end h l k =
        let n : new ≡ length (kept_from 0 i.rules) = all_kept_lem in
        record {
          rules = i.rules;
          is = i.left ∙ rw (drop_of_length-le bs {i = a} l, present_end old, append-nil i.rules);
          present = sym i.count;
          kept_are = n;
          words = i.words ∙ ap (λ (x : List (List ℕ)). 0 ∷ together x) (sym all_stayed);
          fits = omega (arith, i.short, i.many, k);
          positions = i.positions ∙ sym all_numbers;
          few = omega (arith, i.few, i.inside, h);
          many = i.many;
        }
      where
        all_stayed : kept_from 0 i.rules ≡ i.stayed
        all_stayed = ap (kept_from 0) (sym (append-nil i.rules)) ∙ i.kept_so [] ∙ rw (none_kept new) (append-nil i.stayed)

        all_numbers : olds_from 0 0 i.rules ≡ i.numbers
        all_numbers = ap (olds_from 0 0) (sym (append-nil i.rules)) ∙ i.olds_so [] ∙ rw (no_numbers old new) (append-nil i.numbers)

        all_kept_lem : new ≡ length (kept_from 0 i.rules)
        all_kept_lem = sym (ap length all_stayed ∙ i.stayed_new)

    -- ---- one rule more, whose words were put behind those of the rules that stayed
    module _ (h : a < length bs) (ws : List ℕ) (next n : ℕ) (e : any_rule_read old (drop a bs) ≡ rules_are ws (drop next bs)) (s : length ws ≡ n) (few_words : n ≤ 131) (inside : next ≤ length bs)
        (k : length book ≡ 8516) (done : List ℕ) (d : done ≡ sets book to ws) where
      rule_after : present_read 0 (drop at bs) ≡ and_all (i.rules ++ (ws ∷ [])) (present_read (old + 1) (drop next bs))
      rule_after =
          let z : old + 1 ≡ suc old = omega arith in
          i.left
          ∙ ap (and_all i.rules) (present_more old (drop a bs) ws (drop next bs) (rw (length-drop a bs) (omega arith)) e)
          ∙ and_one i.rules ws (present_read (suc old) (drop next bs))
          ∙ ap (λ (x : ℕ). and_all (i.rules ++ (ws ∷ [])) (present_read x (drop next bs))) (sym z)

      further : 21 * (old + 1) ≤ next
      further =
          let w = (rule_whole old (drop a bs) ws (drop next bs) e).1 in
          omega (arith, w, length-drop a bs, length-drop next bs, i.few, i.inside, inside)

      pub forward : a < next
      forward =
          let w = (rule_whole old (drop a bs) ws (drop next bs) e).1 in
          omega (arith, w, length-drop a bs, length-drop next bs, i.inside, inside)

      room : to + length ws ≤ length book
      room = omega (arith, i.short, i.many, k, s, few_words)

      lies : done ≡ (0 ∷ together i.stayed) ++ (ws ++ drop (to + length ws) book)
      lies = d ∙ sets-eq ws book to room ∙ rw (i.words, append_assoc (0 ∷ together i.stayed) ws (drop (to + length ws) book))

      size_so : length (0 ∷ together i.stayed) ≡ to
      size_so = omega (arith, i.size)

      -- the rule lies there
      pub rule_lies : take (to + n - to) (drop to done) ≡ ws
      rule_lies =
          let z : to + n - to ≡ length ws = omega (arith, s) in
          ap (λ (x : List ℕ). take (to + n - to) (drop to x)) lies
          ∙ ap (take (to + n - to)) (drop_at (0 ∷ together i.stayed) (ws ++ drop (to + length ws) book) to size_so)
          ∙ take_at ws (drop (to + length ws) book) (to + n - to) (sym z)

      count_more : length (i.rules ++ (ws ∷ [])) ≡ old + 1
      count_more = length-append i.rules (ws ∷ []) ∙ omega (arith, i.count)

      judged : (b : Bool) → stays new (take (to + n - to) (drop to done)) ≡ b → stays new ws ≡ b
      judged b g = ap (stays new) (sym rule_lies) ∙ g

      pub rule_dropped : stays new (take (to + n - to) (drop to done)) ≡ false → Reading bs at done olds next (old + 1) new to
      rule_dropped q =
          let g = judged false q in
          record {
            rules = i.rules ++ (ws ∷ []);
            stayed = i.stayed;
            numbers = i.numbers;
            left = rule_after;
            count = count_more;
            kept_so = λ others. kept_then g others;
            olds_so = λ others. olds_then g others;
            stayed_new = i.stayed_new;
            words = ap (take to) lies ∙ take_at (0 ∷ together i.stayed) (ws ++ drop (to + length ws) book) to size_so;
            size = i.size;
            positions = i.positions;
            inside = inside;
            few = further;
            short = i.short;
            many = i.many;
          }
        where
          kept_then : stays new ws ≡ false → (others : List (List ℕ)) → kept_from 0 ((i.rules ++ (ws ∷ [])) ++ others) ≡ i.stayed ++ kept_from new others
          kept_then g others = rw (append_assoc i.rules (ws ∷ []) others) (i.kept_so (ws ∷ others) ∙ rw (goes new ws others g))

          olds_then : stays new ws ≡ false → (others : List (List ℕ)) → olds_from 0 0 ((i.rules ++ (ws ∷ [])) ++ others) ≡ i.numbers ++ olds_from (old + 1) new others
          olds_then g others =
              let z : suc old ≡ old + 1 = omega arith in
              rw (append_assoc i.rules (ws ∷ []) others) (i.olds_so (ws ∷ others) ∙ rw (number_goes new ws others old g, z))

      pub rule_stayed : stays new (take (to + n - to) (drop to done)) ≡ true → length olds ≡ 64 → (last : List ℕ) → last ≡ set olds new old → Reading bs at done last next (old + 1) (new + 1) (to + n)
      rule_stayed q o last p =
          let g = judged true q in
          let f = stays_few ws new g in
          record {
            rules = i.rules ++ (ws ∷ []);
            stayed = i.stayed ++ (ws ∷ []);
            numbers = i.numbers ++ (old ∷ []);
            left = rule_after;
            count = count_more;
            kept_so = λ others. kept_then g others;
            olds_so = λ others. olds_then g others;
            stayed_new = length-append i.stayed (ws ∷ []) ∙ omega (arith, i.stayed_new);
            words = words_then;
            size = rw (together_last i.stayed ws, length-append (together i.stayed) ws) (omega (arith, i.size, s));
            positions = let z : new + 1 ≡ suc new = omega arith in rw (z, p) (take-suc-set olds new old (omega (arith, o, f)) ∙ rw i.positions);
            inside = inside;
            few = further;
            short = omega (arith, i.short, few_words);
            many = omega (arith, f);
          }
        where
          words_then : take (to + n) done ≡ 0 ∷ together (i.stayed ++ (ws ∷ []))
          words_then =
              ap (take (to + n)) (lies ∙ sym (append_assoc (0 ∷ together i.stayed) ws (drop (to + length ws) book)))
              ∙ take_at ((0 ∷ together i.stayed) ++ ws) (drop (to + length ws) book) (to + n) (length-append (0 ∷ together i.stayed) ws ∙ omega (arith, size_so, s))
              ∙ ap (λ (x : List ℕ). 0 ∷ x) (sym (together_last i.stayed ws))

          kept_then : stays new ws ≡ true → (others : List (List ℕ)) → kept_from 0 ((i.rules ++ (ws ∷ [])) ++ others) ≡ (i.stayed ++ (ws ∷ [])) ++ kept_from (new + 1) others
          kept_then g others =
              let z : suc new ≡ new + 1 = omega arith in
              rw (append_assoc i.rules (ws ∷ []) others, append_assoc i.stayed (ws ∷ []) (kept_from (new + 1) others)) (i.kept_so (ws ∷ others) ∙ rw (remains new ws others g, z))

          olds_then : stays new ws ≡ true → (others : List (List ℕ)) → olds_from 0 0 ((i.rules ++ (ws ∷ [])) ++ others) ≡ (i.numbers ++ (old ∷ [])) ++ olds_from (old + 1) (new + 1) others
          olds_then g others =
              let z : suc old ≡ old + 1 = omega arith in
              let y : suc new ≡ new + 1 = omega arith in
              rw (append_assoc i.rules (ws ∷ []) others, append_assoc i.numbers (old ∷ []) (olds_from (old + 1) (new + 1) others)) (i.olds_so (ws ∷ others) ∙ rw (number_remains new ws others old g, z, y))
