-- Loaded tables stand at the start of a path: each rule is at its spots, only the root is uncovered, and just the rows that no rule is are struck.
use mathlib.Core.Path.{◌≡◌, refl, sym, ap, ◌∙◌}
use mathlib.Core.Bool.{Bool, true, false, not}
use mathlib.Core.List.{List, [], ◌∷◌, ◌++◌}
use mathlib.Core.Option.{Option, none, some}
use Prim.Native.Nat.{ℕ, zero, suc, ◌+◌, ◌-◌, ◌*◌, ◌%◌, ◌≤◌, ◌<◌}
use native.Mathlib.Omega.{arith}
use lib.Dec.{eqb, ltb}
use lib.ListN.{length, get_or}
use borrow.Author.Tests.{lt-ltb, le-ltb, eq-eqb, ne_eqb}
use Rattle.std.specs.Prelude.{Ok}
use Rattle.term.specs.Word.{pick}
use Rattle.term.proofs.Laws.{never}
use Rattle.book.specs.Book.{Rule, check_book, rule_at}
use Rattle.book.proofs.Laws.{RuleFacts, book_rule}
use Rattle.fit.specs.Constraint.{Occurrence, first_of, Constraint, closed_at, same_at}
use Rattle.fit.specs.Match.{left_in}
use Rattle.fit.proofs.Laws.{left_in_lem, accepted_good}
use Rattle.tree.specs.Told.Covered.{numbered_as, is_open}
use Rattle.tree.specs.Path.{root, start, place_numbered}
use Rattle.tree.specs.Rows.{has}
use Rattle.compiler.specs.Told.Tables.{is_free}
use Rattle.compiler.specs.Told.Stands.{spread, LeftAt, BlankAt, HeadKinds, occurrences_at, SameStruck, StruckAt, RowStands}
use Rattle.compiler.specs.Told.Loaded.{depth_of, RowAt, RulesAt, root_numbered, row_mark, absent_marked}
use Rattle.tree.proofs.Laws.{none_held, below_root, open_root, open_later, root_place, start_covered}
use Rattle.compiler.proofs.LoadLaws.{word_in, word_past, depth_in}
use Rattle.compiler.proofs.SideSpots.{spread_left, kinds_left, side_at}

-- ---- a left side
blank_at : (fixed nums : List ℕ) (more k : ℕ) → ((j : ℕ) → k ≤ j → j < k + more → (get_or fixed j 0 ≡ 33554432) × (get_or nums j 0 ≡ 0)) → BlankAt fixed nums k more
unfolding BlankAt
blank_at fixed nums zero k e = tt
blank_at fixed nums (suc more) k e =
    let a = e k (omega arith) (omega arith) in
    (a.0, a.1, blank_at fixed nums more (suc k) (λ j l u. e j (omega (arith, l)) (omega (arith, u))))

free_none : (marks : List ℕ) (k : ℕ) (c : Constraint) → is_free marks k ≡ true → is_free marks k ≡ not (has c [])
free_none marks k c e = e ∙ sym (ap not (none_held c))

none_struck : (marks : List ℕ) → ((k : ℕ) → 64 ≤ k → is_free marks k ≡ true) → (earlier : List Occurrence) (ss : List (ℕ × Occurrence)) → StruckAt marks [] earlier ss
unfolding StruckAt
none_struck marks f earlier [] = tt
none_struck marks f earlier (s ∷ ss) =
    (λ e. free_none marks (4160 + s.0) (closed_at s.1) (f (4160 + s.0) (omega arith)), same (first_of s.1.var earlier), none_struck marks f (earlier ++ (s.1 ∷ [])) ss)
  where
    same : (o : Option Occurrence) → SameStruck marks [] s.0 o s.1
    same none = tt
    same (some g) = free_none marks (8256 + s.0) (same_at g s.1) (f (8256 + s.0) (omega arith))

-- ---- the root
pub open_first : (n : ℕ) → n ≡ 0 → is_open n (root ∷ []) ≡ true
open_first n e = rw e open_root

pub new_root : (n i : ℕ) → is_open n (root ∷ []) ≡ true → numbered_as (i ∷ place_numbered n (root ∷ [])) (root ∷ []) ≡ 0
new_root zero i e = rw root_place (below_root i 0 [])
new_root (suc n) i e = never (let z = open_later n in cc)

-- ---- the tables
module _ (book fixed nums marks : List ℕ) (accepted : check_book book ≡ Ok tt) (rules : RulesAt book fixed 64) (numbers : (k : ℕ) → get_or nums k 0 ≡ root_numbered k 0)
    (struck : (k : ℕ) → get_or marks k 0 ≡ absent_marked book k 0) where
  pub mark_free : (k : ℕ) → 64 ≤ k → is_free marks k ≡ true
  mark_free k h = eq-eqb (get_or marks k 0) 0 (struck k ∙ rw (le-ltb k 64 h))

  pub root_one : (r : ℕ) → r < 64 → get_or nums (r * 64) 0 ≡ 1
  root_one r h = numbers (r * 64) ∙ rw (lt-ltb (r * 64) 4096 (omega (arith, h)), eq-eqb (r * 64 % 64) 0 (omega arith))

  others_none : (r o : ℕ) → r < 64 → 0 < o → o < 64 → get_or nums (r * 64 + o) 0 ≡ 0
  others_none r o h l u = numbers (r * 64 + o) ∙ rw (lt-ltb (r * 64 + o) 4096 (omega (arith, h, u)), ne_eqb ((r * 64 + o) % 64) 0 (λ e. omega (arith, e, l, u)))

  pub at_most_one : (k : ℕ) → get_or nums k 0 ≤ 1
  at_most_one k = rw (numbers k) (go (ltb k 4096) (eqb (k % 64) 0))
    where
      go : (a b : Bool) → pick a (pick b 1 0) 0 ≤ 1
      go true true = omega arith
      go true false = omega arith
      go false b = omega arith

  pub marks_low : (k : ℕ) → get_or marks k 0 < 2
  marks_low k = rw (struck k) (go (ltb k 64) (rule_at book k))
    where
      go : (a : Bool) (o : Option Rule) → pick a (row_mark o) 0 < 2
      go true none = omega arith
      go true (some rule) = omega arith
      go false o = omega arith

  pub row_absent : (r : ℕ) → r < 64 → rule_at book r ≡ none → is_free marks r ≡ false
  row_absent r h e =
      let x : get_or marks r 0 ≡ 1 = struck r ∙ rw (lt-ltb r 64 h, e) in
      ne_eqb (get_or marks r 0) 0 (λ z. omega (arith, z, x))

  pub row_free : (r : ℕ) (rule : Rule) → r < 64 → rule_at book r ≡ some rule → is_free marks r ≡ true
  row_free r rule h e = eq-eqb (get_or marks r 0) 0 (struck r ∙ rw (lt-ltb r 64 h, e))

  -- ---- a row
  module _ (r : ℕ) (rule : Rule) (h : r < 64) (e : rule_at book r ≡ some rule) where
    facts : RuleFacts rule
    facts = book_rule book r rule accepted e

    row_at : RowAt fixed r rule.left rule.vars
    row_at = rules r rule h e

    short_side : length rule.left ≤ 64
    short_side = facts.left_tree.short

    spread_is : spread (left_in rule) ≡ length rule.left
    spread_is =
        ap spread (left_in_lem rule facts.left_tree) ∙ spread_left facts.left_tree.tree facts.left_tree.formed 0 facts.left_shape ∙ ap length (sym facts.left_tree.same)

    row_kinds : HeadKinds (left_in rule)
    row_kinds = rw (left_in_lem rule facts.left_tree) (kinds_left facts.left_tree.tree facts.left_tree.formed 0 facts.left_shape)

    row_here : LeftAt fixed nums (root ∷ []) (r * 64) [] 0 0 (left_in rule)
    row_here =
        rw (left_in_lem rule facts.left_tree)
        (side_at fixed nums rule.left (r * 64)
        (λ o l. row_at.words o (omega (arith, l, short_side)) ∙ sym (word_in rule.left o l))
        (λ o l. row_at.depths o (omega (arith, l, short_side)) ∙ sym (depth_in rule.left o (depth_of rule.left o) l refl))
        (λ o l u. others_none r o h l (omega (arith, u, short_side)))
        facts.left_tree.tree facts.left_tree.formed facts.left_tree.one facts.left_root facts.left_shape facts.left_tree.same (root_one r h))

    row_blank : 0 < length rule.left → (more : ℕ) → spread (left_in rule) + more ≡ 64 → BlankAt fixed nums (r * 64 + spread (left_in rule)) more
    row_blank some_words more q =
        blank_at fixed nums more (r * 64 + spread (left_in rule)) (λ j l u. there (j - r * 64) j (omega (arith, l)) (omega (arith, l, spread_is)) (omega (arith, u, q)))
      where
        there : (o j : ℕ) → j ≡ r * 64 + o → length rule.left ≤ o → o < 64 → (get_or fixed j 0 ≡ 33554432) × (get_or nums j 0 ≡ 0)
        there o j z l u = rw z (row_at.words o u ∙ sym (word_past rule.left o l), others_none r o h (omega (arith, some_words, l)) u)

    pub row_stands : 0 < length rule.left → RowStands fixed nums marks start r rule.vars (left_in rule)
    row_stands some_words =
        let g = accepted_good book accepted r rule e in
        record {
          variables = row_at.variables;
          few = facts.few;
          short = omega (arith, spread_is, short_side);
          here = row_here;
          blank = row_blank some_words;
          kinds = row_kinds;
          covered = start_covered (left_in rule) g.one;
          struck = none_struck marks mark_free [] (occurrences_at (r * 64) [] 0 0 (left_in rule));
        }
