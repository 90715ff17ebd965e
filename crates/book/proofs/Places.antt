-- Rules as they lie in a book: what each way through the check and the search tells.
use mathlib.Core.Path.{◌≡◌, refl, sym, ap, ◌∙◌}
use mathlib.Core.Bool.{Bool, true, false}
use mathlib.Core.List.{List, [], ◌∷◌}
use mathlib.Core.Option.{Option, none, some}
use Prim.Native.Nat.{ℕ, zero, suc, ◌+◌, ◌-◌, ◌≤◌, ◌<◌}
use native.Mathlib.Omega.{arith}
use native.Mathlib.Numerals.{add-one}
use lib.Dec.{leb, ltb}
use lib.ListN.{length, get_or, take, drop, length-drop, drop_of_length-le}
use lib.Seq.{drop-cons, drop-drop, length-take-le}
use borrow.Author.Tests.{le-leb, lt-leb, leb-true, leb-false, lt-ltb, le-ltb}
use Rattle.std.specs.Prelude.{Ok, Err, Option as StdOption, None, Some}
use Rattle.term.specs.Word.{pick}
use Rattle.term.proofs.Laws.{never}
use Rattle.book.specs.declared.book.Sides.{Sides}
use Rattle.book.specs.Rule.{good_rule}
use Rattle.book.specs.Book.{Rule, rule_of, judged, good_next, after_next, judge, check_book, sound}
use Rattle.book.specs.Told.Found.{sides_of, placed, end_next, seek, sides_at}

-- ---- one rule
rule_short : (xs : List ℕ) → length xs < 3 → rule_of xs ≡ none
unfolding rule_of
rule_short [] h = refl
rule_short (v ∷ []) h = refl
rule_short (v ∷ l ∷ []) h = refl
rule_short (v ∷ l ∷ r ∷ xs) h = absurd (omega arith)

module _ (ws : List ℕ) (at : ℕ) where
  abbrev left_size : ℕ
  left_size = get_or ws (at + 1) 0

  abbrev right_size : ℕ
  right_size = get_or ws (at + 2) 0

  abbrev behind : List ℕ
  behind = drop (at + 3) ws

  -- the rule that the three words say
  abbrev said : Rule
  said = record { vars = get_or ws at 0; left = take left_size behind; right = take right_size (drop left_size behind) }

  three_words : at + 3 ≤ length ws → drop at ws ≡ get_or ws at 0 ∷ left_size ∷ right_size ∷ behind
  three_words h =
      let a : suc at ≡ at + 1 = omega arith in
      let b : suc (at + 1) ≡ at + 2 = omega arith in
      let c : suc (at + 2) ≡ at + 3 = omega arith in
      drop-cons ws at 0 (omega arith)
      ∙ rw (a, drop-cons ws (at + 1) 0 (omega arith), b, drop-cons ws (at + 2) 0 (omega arith), c)

  rule_said : at + 3 ≤ length ws → rule_of (drop at ws) ≡ pick (leb (left_size + right_size) (length behind)) (some (said, drop (left_size + right_size) behind)) none
  unfolding rule_of
  rule_said h = rw (three_words h)

  pub place_short : length ws - at < 3 → None ≡ placed at (rule_of (drop at ws))
  place_short h = sym (rw (rule_short (drop at ws) (rw (length-drop at ws) h)))

  pub place_over : at + 3 ≤ length ws → length ws - at - 3 < left_size + right_size → None ≡ placed at (rule_of (drop at ws))
  place_over h l = sym (rw (rule_said h, lt-leb (left_size + right_size) (length behind) (rw (length-drop (at + 3) ws) (omega arith))))

  -- a rule that lies there
  pub record Lying (rule : Rule) (after : List ℕ) : Type 0 where
    pub within : at + 3 + length rule.left + length rule.right ≤ length ws
    pub left_is : rule.left ≡ take (length rule.left) (drop (at + 3) ws)
    pub right_is : rule.right ≡ take (length rule.right) (drop (at + 3 + length rule.left) ws)
    pub after_is : after ≡ drop (at + 3 + length rule.left + length rule.right) ws

  module _ (h : at + 3 ≤ length ws) (l : left_size + right_size ≤ length ws - at - 3) where
    left_length : length said.left ≡ left_size
    left_length = length-take-le left_size behind (rw (length-drop (at + 3) ws) (omega arith))

    right_length : length said.right ≡ right_size
    right_length = length-take-le right_size (drop left_size behind) (rw (length-drop left_size behind, length-drop (at + 3) ws) (omega arith))

    rule_there : rule_of (drop at ws) ≡ some (said, drop (left_size + right_size) behind)
    rule_there = rule_said h ∙ rw (le-leb (left_size + right_size) (length behind) (rw (length-drop (at + 3) ws) (omega arith)))

    pub place_found : Some (record { vars = get_or ws at 0; left = at + 3; right = at + 3 + left_size; end = at + 3 + left_size + right_size }) ≡ placed at (rule_of (drop at ws))
    place_found = sym (rw (rule_there, left_length, right_length))

    said_lies : Lying said (drop (left_size + right_size) behind)
    said_lies =
        let e : at + 3 + (left_size + right_size) ≡ at + 3 + left_size + right_size = omega arith in
        record {
          within = omega (arith, left_length, right_length);
          left_is = rw left_length;
          right_is = rw (left_length, right_length, drop-drop left_size (at + 3) ws);
          after_is = rw (left_length, right_length, drop-drop (left_size + right_size) (at + 3) ws, e);
        }

  abbrev pub LyingO : Option (Rule × List ℕ) → Type 0
  LyingO none = Unit {0}
  LyingO (some p) = Lying p.0 p.1

  pub lying : LyingO (rule_of (drop at ws))
  lying = first (leb (at + 3) (length ws)) refl
    where
      second : at + 3 ≤ length ws → (b : Bool) → leb (left_size + right_size) (length ws - at - 3) ≡ b → LyingO (rule_of (drop at ws))
      second h true e = let l = leb-true _ _ e in rw (rule_there h l) (said_lies h l)
      second h false e =
          let l : length ws - at - 3 < left_size + right_size = leb-false _ _ e in
          rw (rule_said h, lt-leb (left_size + right_size) (length behind) (rw (length-drop (at + 3) ws) (omega arith))) tt

      first : (b : Bool) → leb (at + 3) (length ws) ≡ b → LyingO (rule_of (drop at ws))
      first true e = second (leb-true _ _ e) _ refl
      first false e =
          let l : length ws < at + 3 = leb-false _ _ e in
          rw (rule_short (drop at ws) (rw (length-drop at ws) (omega arith))) tt

-- what places found say
pub record Placed (ws : List ℕ) (at : ℕ) (s : Sides) : Type 0 where
  pub rule : Rule
  pub is : rule_of (drop at ws) ≡ some (rule, drop s.end ws)
  pub ends : end_next at (rule_of (drop at ws)) ≡ s.end
  pub vars_is : rule.vars ≡ s.vars
  pub left_is : rule.left ≡ take (s.right - s.left) (drop s.left ws)
  pub right_is : rule.right ≡ take (s.end - s.right) (drop s.right ws)
  pub left_first : s.left ≤ s.right
  pub right_next : s.right ≤ s.end
  pub within : s.end ≤ length ws

pub lies_placed : (ws : List ℕ) (at : ℕ) (rule : Rule) (after : List ℕ) → rule_of (drop at ws) ≡ some (rule, after) → Lying ws at rule after → Placed ws at (sides_of at rule)
lies_placed ws at rule after e l =
    let a : at + 3 + length rule.left - (at + 3) ≡ length rule.left = omega arith in
    let b : at + 3 + length rule.left + length rule.right - (at + 3 + length rule.left) ≡ length rule.right = omega arith in
    record {
      rule = rule;
      is = e ∙ rw (← l.after_is);
      ends = rw e;
      vars_is = refl;
      left_is = rw a l.left_is;
      right_is = rw b l.right_is;
      left_first = omega arith;
      right_next = omega arith;
      within = l.within;
    }

pub rule_placed : (ws : List ℕ) (at : ℕ) (s : Sides) → Some s ≡ placed at (rule_of (drop at ws)) → Placed ws at s
rule_placed ws at s e = go (rule_of (drop at ws)) refl (lying ws at) e
  where
    go : (o : Option (Rule × List ℕ)) → rule_of (drop at ws) ≡ o → LyingO ws at o → Some s ≡ placed at o → Placed ws at s
    go none q l e = never (cc)
    go (some p) q l e = let z : s ≡ sides_of at p.0 = cc in rw z (lies_placed ws at p.0 p.1 q l)

pub none_placed : (at : ℕ) (o : Option (Rule × List ℕ)) → None ≡ placed at o → o ≡ none
none_placed at none e = refl
none_placed at (some p) e = never (cc)

-- ---- one rule alone
pub unsound : (ws : List ℕ) → None ≡ placed 0 (rule_of (drop 0 ws)) → false ≡ sound ws
unfolding sound
unsound ws e = rw (none_placed 0 (rule_of ws) e)

pub sound_so : (ws : List ℕ) (s : Sides) (r : Bool) → Placed ws 0 s → r ≡ good_rule s.vars (take (s.right - s.left) (drop s.left ws)) (take (s.end - s.right) (drop s.right ws))
    → r ≡ sound ws
unfolding sound
sound_so ws s r p e = rw (p.is, p.vars_is, p.left_is, p.right_is) e

-- ---- the search
pub seek_nothing : (at number : ℕ) → seek at number [] ≡ None
unfolding seek rule_of
seek_nothing at zero = refl
seek_nothing at (suc number) = seek_nothing at number

first_word : (ws : List ℕ) → (length ws ≡ 0 → ⊥) → ws ≡ get_or ws 0 0 ∷ drop 1 ws
first_word [] h = absurd (h refl)
first_word (w ∷ ws) h = refl

module _ (ws : List ℕ) (number : ℕ) where
  pub find_empty : length ws ≡ 0 → None ≡ sides_at ws number
  unfolding sides_at
  find_empty e = go ws e
    where
      go : (ws : List ℕ) → length ws ≡ 0 → None ≡ sides_at ws number
      go [] e = refl
      go (w ∷ ws) e = absurd (omega arith)

  module _ (some_words : length ws ≡ 0 → ⊥) where
    sides_word : sides_at ws number ≡ pick (ltb number (get_or ws 0 0)) (seek 1 number (drop 1 ws)) None
    unfolding sides_at
    sides_word = ap (λ (v : List ℕ). sides_at v number) (first_word ws some_words)

    pub find_beyond : get_or ws 0 0 ≤ number → None ≡ sides_at ws number
    find_beyond h = sym (sides_word ∙ rw (le-ltb number (get_or ws 0 0) h))

    pub find_start : number < get_or ws 0 0 → sides_at ws number ≡ seek 1 number (drop 1 ws)
    find_start h = sides_word ∙ rw (lt-ltb number (get_or ws 0 0) h)

  pub find_none : (at before : ℕ) → sides_at ws number ≡ seek at before (drop at ws) → None ≡ placed at (rule_of (drop at ws)) → None ≡ sides_at ws number
  unfolding seek
  find_none at zero rest e = sym (rest ∙ sym e)
  find_none at (suc before) rest e = sym (rest ∙ rw (none_placed at (rule_of (drop at ws)) e) (seek_nothing at before))

  pub find_next : (at before : ℕ) → (before ≡ 0 → ⊥) → sides_at ws number ≡ seek at before (drop at ws) → (s : Sides) → Placed ws at s
      → sides_at ws number ≡ seek s.end (before - 1) (drop s.end ws)
  unfolding seek
  find_next at zero z rest s p = absurd (z refl)
  find_next at (suc before) z rest s p =
      let n : suc before - 1 ≡ before = omega arith in
      rest ∙ rw (n, p.ends, p.is)

  pub find_done : (at before : ℕ) → before ≡ 0 → sides_at ws number ≡ seek at before (drop at ws) → (r : StdOption Sides) → r ≡ placed at (rule_of (drop at ws)) → r ≡ sides_at ws number
  unfolding seek
  find_done at before z rest r e = e ∙ sym (rest ∙ rw z)

-- ---- the check
module _ (ws : List ℕ) where
  pub book_empty : length ws ≡ 0 → Err 0 ≡ check_book ws
  unfolding check_book
  book_empty e = go ws e
    where
      go : (ws : List ℕ) → length ws ≡ 0 → Err 0 ≡ check_book ws
      go [] e = refl
      go (w ∷ ws) e = absurd (omega arith)

  module _ (some_words : length ws ≡ 0 → ⊥) where
    book_word : check_book ws ≡ pick (ltb 64 (get_or ws 0 0)) (Err 64) (judge 0 (get_or ws 0 0) (drop 1 ws))
    unfolding check_book
    book_word = ap check_book (first_word ws some_words)

    pub book_many : 64 < get_or ws 0 0 → Err 64 ≡ check_book ws
    book_many h = sym (book_word ∙ rw (lt-ltb 64 (get_or ws 0 0) h))

    pub book_start : get_or ws 0 0 ≤ 64 → check_book ws ≡ judge 0 (get_or ws 0 0 - 0) (drop 1 ws)
    book_start h = let z : get_or ws 0 0 - 0 ≡ get_or ws 0 0 = omega arith in rw z (book_word ∙ rw (le-ltb 64 (get_or ws 0 0) h))

  module _ (rules at number : ℕ) (rest : check_book ws ≡ judge number (rules - number) (drop at ws)) where
    one_more_lem : number < rules
        → check_book ws ≡ judged (good_next (rule_of (drop at ws))) (judge (suc number) (rules - suc number) (after_next (rule_of (drop at ws)))) number
    unfolding judge
    one_more_lem h = let z : rules - number ≡ suc (rules - suc number) = omega arith in rest ∙ rw z

    pub book_no_rule : number < rules → None ≡ placed at (rule_of (drop at ws)) → Err number ≡ check_book ws
    book_no_rule h e = sym (one_more_lem h ∙ rw (none_placed at (rule_of (drop at ws)) e))

    module _ (h : number < rules) (s : Sides) (p : Placed ws at s) where
      placed_rule : good_rule p.rule.vars p.rule.left p.rule.right
          ≡ good_rule s.vars (take (s.right - s.left) (drop s.left ws)) (take (s.end - s.right) (drop s.right ws))
      placed_rule = cc (p.vars_is, p.left_is, p.right_is)

      pub book_bad_rule : good_rule s.vars (take (s.right - s.left) (drop s.left ws)) (take (s.end - s.right) (drop s.right ws)) ≡ false
          → Err number ≡ check_book ws
      book_bad_rule e = sym (one_more_lem h ∙ rw (p.is, placed_rule, e))

      pub book_next : good_rule s.vars (take (s.right - s.left) (drop s.left ws)) (take (s.end - s.right) (drop s.right ws)) ≡ true
          → check_book ws ≡ judge (number + 1) (rules - (number + 1)) (drop s.end ws)
      book_next e = one_more_lem h ∙ rw (p.is, placed_rule, e, add-one number)

    pub book_left_over : rules ≤ number → at < length ws → Err number ≡ check_book ws
    unfolding judge
    book_left_over h l = let z : rules - number ≡ 0 = omega arith in sym (rest ∙ rw (z, drop-cons ws at 0 l))

    pub book_good : rules ≤ number → length ws ≤ at → Ok tt ≡ check_book ws
    unfolding judge
    book_good h l = let z : rules - number ≡ 0 = omega arith in sym (rest ∙ rw (z, drop_of_length-le ws l))
