-- What the rules of a good book have, and where their sides lie.
use mathlib.Core.Path.{◌≡◌, refl, sym, ◌∙◌}
use mathlib.Core.Bool.{Bool, true, false, ◌&&◌}
use mathlib.Core.List.{List, [], ◌∷◌}
use mathlib.Core.Option.{Option, none, some}
use Prim.Native.Nat.{ℕ, zero, suc, ◌+◌, ◌-◌, ◌≤◌, ◌<◌}
use native.Mathlib.Omega.{arith}
use lib.Dec.{leb, ltb, eqb}
use lib.ListN.{length, get_or, take, drop}
use borrow.Author.Tests.{leb-true, ltb-true, ltb-false, eqb-true, eqb-false}
use Rattle.std.specs.Prelude.{Result, Ok, Err, Option as StdOption, Some, None, is_ok}
use Rattle.term.specs.Word.{pick, kind_of, ident_of, count_of}
use Rattle.term.specs.Row.{read}
use Rattle.term.specs.Check.{IsTree, check}
use Rattle.term.proofs.Laws.{never, and_left, and_right, and_both}
use Rattle.book.specs.declared.book.Sides.{Sides}
use Rattle.book.specs.Rule.{side_limits, root_symbol, left_shape, right_shape, shaped, counted, one_count, all_occur, no_other, good_left, good_right, good_rule}
use Rattle.book.specs.Book.{Rule, rule_of, judged, good_next, after_next, judge, check_book, next_o, nth_rule, rule_at}
use Rattle.book.specs.Told.Found.{placed, end_next, seek, sides_at}
use Rattle.book.specs.Told.Occurs.{occurs_in, below_vars, counts_as}
use Rattle.book.proofs.Sides.{side_tree, tree_read, good_is}
use Rattle.book.proofs.Places.{LyingO, lying, seek_nothing}
use Rattle.book.proofs.Occurrences.{below_is, counts_is, counted_occurs}

-- ---- one rule
pub record RuleFacts (rule : Rule) : Type 0 where
  pub few : rule.vars ≤ 16
  pub left_tree : IsTree side_limits rule.left
  pub right_tree : IsTree side_limits rule.right
  pub left_root : root_symbol left_tree.tree ≡ true
  pub left_shape : left_shape 0 left_tree.tree ≡ true
  pub right_shape : right_shape 0 right_tree.tree ≡ true
  -- of the words
  pub all_occur : (x : ℕ) → x < rule.vars → 1 ≤ counted x rule.left
  pub no_other : no_other rule.vars rule.left ≡ true
  pub left_one : one_count rule.left rule.left ≡ true
  pub right_one : one_count rule.left rule.right ≡ true
  -- of the rows
  pub left_occurs : (x : ℕ) → x < rule.vars → occurs_in x left_tree.tree ≡ true
  pub left_below : below_vars rule.vars left_tree.tree ≡ true
  pub left_counts : counts_as rule.left left_tree.tree ≡ true
  pub right_below : below_vars rule.vars right_tree.tree ≡ true
  pub right_counts : counts_as rule.left right_tree.tree ≡ true

-- x is the last of them, or below it
occurs_below : (vars : ℕ) (left : List ℕ) → all_occur vars left ≡ true → (x : ℕ) → x < vars → 1 ≤ counted x left
unfolding all_occur
occurs_below zero left e x h = absurd (omega arith)
occurs_below (suc vars) left e x h =
    last_or_below (eqb x vars) refl (occurs_below vars left (and_right (leb 1 (counted vars left)) (all_occur vars left) e) x)
  where
    last_or_below : (b : Bool) → eqb x vars ≡ b → (x < vars → 1 ≤ counted x left) → 1 ≤ counted x left
    last_or_below true q f = rw (eqb-true x vars q) (leb-true 1 (counted vars left) (and_left (leb 1 (counted vars left)) (all_occur vars left) e))
    last_or_below false q f = f (let n : x ≡ vars → ⊥ = eqb-false x vars q in omega arith)

-- a variable that has a count is below vars
counted_below : (vars : ℕ) (ws : List ℕ) → no_other vars ws ≡ true → (i c : ℕ) → counted i ws ≡ suc c → ltb i vars ≡ true
unfolding no_other counted
counted_below vars [] n i c e = absurd (omega arith)
counted_below vars (w ∷ ws) n i c e = go (eqb (kind_of w) 3) (eqb (ident_of w) i) refl refl n e (λ m. counted_below vars ws m i c)
  where
    go : (k j : Bool) → eqb (kind_of w) 3 ≡ k → eqb (ident_of w) i ≡ j → pick k (ltb (ident_of w) vars && no_other vars ws) (no_other vars ws) ≡ true
        → pick (k && j) (suc (count_of w)) (counted i ws) ≡ suc c → (no_other vars ws ≡ true → counted i ws ≡ suc c → ltb i vars ≡ true) → ltb i vars ≡ true
    go true true a b m q f = rw (eqb-true (ident_of w) i b) at (and_left (ltb (ident_of w) vars) (no_other vars ws) m)
    go true false a b m q f = f (and_right (ltb (ident_of w) vars) (no_other vars ws) m) q
    go false j a b m q f = f m q

-- so the variables of words with these counts are below vars
one_below : (vars : ℕ) (left ws : List ℕ) → no_other vars left ≡ true → one_count left ws ≡ true → no_other vars ws ≡ true
unfolding no_other one_count
one_below vars left [] n e = refl
one_below vars left (w ∷ ws) n e = go (eqb (kind_of w) 3) e (one_below vars left ws n)
  where
    go : (k : Bool) → pick k (eqb (counted (ident_of w) left) (suc (count_of w)) && one_count left ws) (one_count left ws) ≡ true
        → (one_count left ws ≡ true → no_other vars ws ≡ true) → pick k (ltb (ident_of w) vars && no_other vars ws) (no_other vars ws) ≡ true
    go true m f =
        let t = eqb (counted (ident_of w) left) (suc (count_of w)) in
        and_both _ _ (counted_below vars left n (ident_of w) (count_of w) (eqb-true _ _ (and_left t (one_count left ws) m))) (f (and_right t (one_count left ws) m))
    go false m f = f m

-- ---- what a good side has
record LeftFacts (vars : ℕ) (left : List ℕ) : Type 0 where
  tree : IsTree side_limits left
  root : root_symbol tree.tree ≡ true
  shape : left_shape 0 tree.tree ≡ true
  no_other : no_other vars left ≡ true
  all_occur : all_occur vars left ≡ true
  one : one_count left left ≡ true

left_facts : (vars : ℕ) (left : List ℕ) → good_left vars left ≡ true → LeftFacts vars left
unfolding good_left
left_facts vars left e =
    let g = is_ok (check side_limits left) in
    let r = shaped root_symbol (read 1 left) in
    let l = shaped (left_shape 0) (read 1 left) in
    let n = no_other vars left in
    let a = all_occur vars left in
    let o = one_count left left in
    let e1 : r && (l && (n && (a && o))) ≡ true = and_right g _ e in
    let e2 : l && (n && (a && o)) ≡ true = and_right r _ e1 in
    let e3 : n && (a && o) ≡ true = and_right l _ e2 in
    let e4 : a && o ≡ true = and_right n _ e3 in
    let i = side_tree left (good_is (check side_limits left) (and_left g _ e)) in
    record {
      tree = i;
      root = rw (tree_read left i) at (and_left r _ e1);
      shape = rw (tree_read left i) at (and_left l _ e2);
      no_other = and_left n _ e3;
      all_occur = and_left a _ e4;
      one = and_right a _ e4;
    }

record RightFacts (left right : List ℕ) : Type 0 where
  tree : IsTree side_limits right
  shape : right_shape 0 tree.tree ≡ true
  one : one_count left right ≡ true

right_facts : (left right : List ℕ) → good_right left right ≡ true → RightFacts left right
unfolding good_right
right_facts left right e =
    let g = is_ok (check side_limits right) in
    let l = shaped (right_shape 0) (read 1 right) in
    let e1 : l && one_count left right ≡ true = and_right g _ e in
    let i = side_tree right (good_is (check side_limits right) (and_left g _ e)) in
    record { tree = i; shape = rw (tree_read right i) at (and_left l _ e1); one = and_right l _ e1 }

-- the words of a tree are the side's
of_words : (ws vs : List ℕ) (P : List ℕ → Type 0) → ws ≡ vs → P ws → P vs
of_words ws vs P e p = rw (← e) p

both_facts : (rule : Rule) → rule.vars ≤ 16 → LeftFacts rule.vars rule.left → RightFacts rule.left rule.right → RuleFacts rule
both_facts rule f l r =
    let occur = occurs_below rule.vars rule.left l.all_occur in
    let a = l.tree in
    let b = r.tree in
    record {
      few = f;
      left_tree = a;
      right_tree = b;
      left_root = l.root;
      left_shape = l.shape;
      right_shape = r.shape;
      all_occur = occur;
      no_other = l.no_other;
      left_one = l.one;
      right_one = r.one;
      left_occurs = λ x h. counted_occurs x a.tree a.formed (of_words _ _ (λ (v : List ℕ). 1 ≤ counted x v) a.same (occur x h));
      left_below = sym (below_is rule.vars a.tree a.formed) ∙ of_words _ _ (λ (v : List ℕ). no_other rule.vars v ≡ true) a.same l.no_other;
      left_counts = sym (counts_is rule.left a.tree a.formed) ∙ of_words _ _ (λ (v : List ℕ). one_count rule.left v ≡ true) a.same l.one;
      right_below = sym (below_is rule.vars b.tree b.formed)
          ∙ of_words _ _ (λ (v : List ℕ). no_other rule.vars v ≡ true) b.same (one_below rule.vars rule.left rule.right l.no_other r.one);
      right_counts = sym (counts_is rule.left b.tree b.formed) ∙ of_words _ _ (λ (v : List ℕ). one_count rule.left v ≡ true) b.same r.one;
    }

pub good_facts : (rule : Rule) → good_rule rule.vars rule.left rule.right ≡ true → RuleFacts rule
unfolding good_rule
good_facts rule e =
    let v = leb rule.vars 16 in
    let l = good_left rule.vars rule.left in
    let r = good_right rule.left rule.right in
    let e1 : l && r ≡ true = and_right v _ e in
    both_facts rule (leb-true rule.vars 16 (and_left v _ e)) (left_facts _ _ (and_left l r e1)) (right_facts _ _ (and_right l r e1))

-- ---- the rules of a good book
judged_good : (b : Bool) (c : Result (Unit {0}) ℕ) (number : ℕ) → judged b c number ≡ Ok tt → (b ≡ true) × (c ≡ Ok tt)
judged_good true c number e = (refl, e)
judged_good false c number e = never (cc)

next_good : (o : Option (Rule × List ℕ)) (rule : Rule) → good_next o ≡ true → next_o o ≡ some rule → good_rule rule.vars rule.left rule.right ≡ true
next_good none rule g e = never (cc)
next_good (some p) rule g e = let q : p.0 ≡ rule = cc in rw (← q) g

nth_good : (more number from : ℕ) (ws : List ℕ) (rule : Rule) → judge from more ws ≡ Ok tt → nth_rule more number ws ≡ some rule
    → good_rule rule.vars rule.left rule.right ≡ true
unfolding judge nth_rule
nth_good zero number from ws rule g e = never (cc)
nth_good (suc more) zero from ws rule g e = next_good (rule_of ws) rule (judged_good _ _ from g).0 e
nth_good (suc more) (suc number) from ws rule g e =
    nth_good more number (suc from) (after_next (rule_of ws)) rule (judged_good (good_next (rule_of ws)) _ from g).1 e

next_some : (o : Option (Rule × List ℕ)) → good_next o ≡ true → (rule : Rule) × (next_o o ≡ some rule)
next_some none g = never (cc)
next_some (some p) g = (p.0, refl)

nth_some : (more number from : ℕ) (ws : List ℕ) → judge from more ws ≡ Ok tt → number < more → (rule : Rule) × (nth_rule more number ws ≡ some rule)
unfolding judge nth_rule
nth_some zero number from ws g h = absurd (omega arith)
nth_some (suc more) zero from ws g h = next_some (rule_of ws) (judged_good _ _ from g).0
nth_some (suc more) (suc number) from ws g h = nth_some more number (suc from) (after_next (rule_of ws)) (judged_good (good_next (rule_of ws)) _ from g).1 (omega arith)

nth_beyond : (more number : ℕ) (ws : List ℕ) → more ≤ number → nth_rule more number ws ≡ none
unfolding nth_rule
nth_beyond zero number ws h = refl
nth_beyond (suc more) zero ws h = absurd (omega arith)
nth_beyond (suc more) (suc number) ws h = nth_beyond more number (after_next (rule_of ws)) (omega arith)

-- a good book has at most 64 rules, and these are good
record BookFacts (n : ℕ) (ws : List ℕ) : Type 0 where
  few : n ≤ 64
  judged_so : judge 0 n ws ≡ Ok tt

book_facts : (n : ℕ) (ws : List ℕ) → check_book (n ∷ ws) ≡ Ok tt → BookFacts n ws
unfolding check_book
book_facts n ws e = go (ltb 64 n) refl e
  where
    go : (b : Bool) → ltb 64 n ≡ b → pick b (Err 64) (judge 0 n ws) ≡ Ok tt → BookFacts n ws
    go true q e = never (cc)
    go false q e = record { few = ltb-false 64 n q; judged_so = e }

pub book_rule : (ws : List ℕ) (number : ℕ) (rule : Rule) → check_book ws ≡ Ok tt → rule_at ws number ≡ some rule → RuleFacts rule
unfolding rule_at
book_rule [] number rule g e = never (cc)
book_rule (n ∷ ws) number rule g e = good_facts rule (nth_good n number 0 ws rule (book_facts n ws g).judged_so e)

pub book_rules : (ws : List ℕ) → check_book ws ≡ Ok tt → (1 ≤ length ws) × (get_or ws 0 0 ≤ 64)
unfolding check_book
book_rules [] g = never (cc)
book_rules (n ∷ ws) g = (omega arith, (book_facts n ws g).few)

pub number_rule : (ws : List ℕ) (number : ℕ) → check_book ws ≡ Ok tt → number < get_or ws 0 0 → (rule : Rule) × (rule_at ws number ≡ some rule)
unfolding rule_at
number_rule [] number g h = absurd (omega arith)
number_rule (n ∷ ws) number g h = nth_some n number 0 ws (book_facts n ws g).judged_so h

pub beyond_none : (ws : List ℕ) (number : ℕ) → get_or ws 0 0 ≤ number → rule_at ws number ≡ none
unfolding rule_at
beyond_none [] number h = refl
beyond_none (n ∷ ws) number h = nth_beyond n number ws h

pub rule_number : (ws : List ℕ) (number : ℕ) (rule : Rule) → rule_at ws number ≡ some rule → number < get_or ws 0 0
rule_number ws number rule e = go (ltb number (get_or ws 0 0)) refl
  where
    go : (b : Bool) → ltb number (get_or ws 0 0) ≡ b → number < get_or ws 0 0
    go true q = ltb-true number (get_or ws 0 0) q
    go false q = never (let z = beyond_none ws number (ltb-false number (get_or ws 0 0) q) in cc)

-- ---- where the sides lie
pub record SidesAre (ws : List ℕ) (rule : Rule) (s : Sides) : Type 0 where
  pub vars_is : s.vars ≡ rule.vars
  pub left_is : take (s.right - s.left) (drop s.left ws) ≡ rule.left
  pub right_is : take (s.end - s.right) (drop s.right ws) ≡ rule.right
  pub left_first : s.left ≤ s.right
  pub right_next : s.right ≤ s.end
  pub within : s.end ≤ length ws

abbrev SidesO : List ℕ → Option Rule → StdOption Sides → Type 0
SidesO ws none None = Unit {0}
SidesO ws none (Some s) = ⊥
SidesO ws (some rule) None = ⊥
SidesO ws (some rule) (Some s) = SidesAre ws rule s

next_sides : (ws : List ℕ) (at : ℕ) (o : Option (Rule × List ℕ)) → rule_of (drop at ws) ≡ o → LyingO ws at o → SidesO ws (next_o o) (placed at o)
next_sides ws at none e l = tt
next_sides ws at (some p) e l =
    let a : at + 3 + length p.0.left - (at + 3) ≡ length p.0.left = omega arith in
    let b : at + 3 + length p.0.left + length p.0.right - (at + 3 + length p.0.left) ≡ length p.0.right = omega arith in
    record {
      vars_is = refl;
      left_is = rw a (sym l.left_is);
      right_is = rw b (sym l.right_is);
      left_first = omega arith;
      right_next = omega arith;
      within = l.within;
    }

nth_nothing : (more number : ℕ) → nth_rule more number [] ≡ none
unfolding nth_rule rule_of
nth_nothing zero number = refl
nth_nothing (suc more) zero = refl
nth_nothing (suc more) (suc number) = nth_nothing more number

seek_sides : (ws : List ℕ) (number more at : ℕ) → number < more → SidesO ws (nth_rule more number (drop at ws)) (seek at number (drop at ws))
unfolding seek nth_rule
seek_sides ws zero zero at h = absurd (omega arith)
seek_sides ws (suc number) zero at h = absurd (omega arith)
seek_sides ws zero (suc more) at h = next_sides ws at (rule_of (drop at ws)) refl (lying ws at)
seek_sides ws (suc number) (suc more) at h = go (rule_of (drop at ws)) (lying ws at) (λ to. seek_sides ws number more to (omega arith))
  where
    go : (o : Option (Rule × List ℕ)) → LyingO ws at o → ((to : ℕ) → SidesO ws (nth_rule more number (drop to ws)) (seek to number (drop to ws)))
        → SidesO ws (nth_rule more number (after_next o)) (seek (end_next at o) number (after_next o))
    go none l next = rw (nth_nothing more number, seek_nothing at number) tt
    go (some p) l next = rw l.after_is (next (end_next at (some p)))

sides_of_lem : (ws : List ℕ) (number : ℕ) → SidesO ws (rule_at ws number) (sides_at ws number)
unfolding rule_at sides_at
sides_of_lem [] number = tt
sides_of_lem (n ∷ ws) number = go (ltb number n) refl
  where
    go : (b : Bool) → ltb number n ≡ b → SidesO (n ∷ ws) (nth_rule n number ws) (pick b (seek 1 number ws) None)
    go true q = seek_sides (n ∷ ws) number n 1 (ltb-true number n q)
    go false q = rw (nth_beyond n number ws (ltb-false number n q)) tt

module _ (ws : List ℕ) (number : ℕ) where
  pub sides_rule : (s : Sides) → sides_at ws number ≡ Some s → (rule : Rule) × (rule_at ws number ≡ some rule) × SidesAre ws rule s
  sides_rule s e = go (rule_at ws number) refl (rw e at (sides_of_lem ws number))
    where
      go : (o : Option Rule) → rule_at ws number ≡ o → SidesO ws o (Some s) → (rule : Rule) × (rule_at ws number ≡ some rule) × SidesAre ws rule s
      go none q f = absurd f
      go (some rule) q f = (rule, q, f)

  pub sides_none : sides_at ws number ≡ None → rule_at ws number ≡ none
  sides_none e = go (rule_at ws number) refl (rw e at (sides_of_lem ws number))
    where
      go : (o : Option Rule) → rule_at ws number ≡ o → SidesO ws o None → rule_at ws number ≡ none
      go none q f = q
      go (some rule) q f = absurd f

  pub rule_sides : (rule : Rule) → rule_at ws number ≡ some rule → (s : Sides) × (sides_at ws number ≡ Some s) × SidesAre ws rule s
  rule_sides rule e = go (sides_at ws number) refl (rw e at (sides_of_lem ws number))
    where
      go : (r : StdOption Sides) → sides_at ws number ≡ r → SidesO ws (some rule) r → (s : Sides) × (sides_at ws number ≡ Some s) × SidesAre ws rule s
      go None q f = absurd f
      go (Some s) q f = (s, q, f)

  pub none_sides : rule_at ws number ≡ none → sides_at ws number ≡ None
  none_sides e = go (sides_at ws number) refl (rw e at (sides_of_lem ws number))
    where
      go : (r : StdOption Sides) → sides_at ws number ≡ r → SidesO ws none r → sides_at ws number ≡ None
      go None q f = q
      go (Some s) q f = absurd f
