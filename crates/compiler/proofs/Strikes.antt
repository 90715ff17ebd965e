-- Striking rows by their heads in the tables leaves the rows of a case, or of the default.
use mathlib.Core.Path.{◌≡◌, refl, sym, ap, ◌∙◌}
use mathlib.Core.Bool.{Bool, true, false, not}
use mathlib.Core.List.{List, [], ◌∷◌}
use mathlib.Core.Option.{Option, none, some}
use Prim.Native.Nat.{ℕ, zero, suc, ◌<◌}
use native.Mathlib.Omega.{arith}
use lib.Dec.{eqb}
use lib.ListN.{length}
use borrow.Author.Tests.{ne_eqb}
use Rattle.term.specs.Word.{Head, pattern, word, pick}
use Rattle.term.proofs.Laws.{never}
use Rattle.book.specs.Book.{Rule, rule_at}
use Rattle.fit.specs.Left.{Left, end, hole, part}
use Rattle.fit.specs.Constraint.{Place}
use Rattle.fit.specs.Match.{left_in}
use Rattle.tree.specs.Told.Covered.{numbered_as}
use Rattle.tree.specs.Path.{OnPath, place_numbered}
use Rattle.tree.specs.Rows.{sub, below, subs_under, sub_at, head_here, head_at}
use Rattle.tree.specs.Compile.{in_case, case_rows, in_default, default_rows}
use Rattle.compiler.specs.Told.Tables.{Changed, is_free, struck_rows, has_other, is_other, head_word, head_kind}
use Rattle.compiler.specs.Told.Stands.{rows_left, HeadKinds, Stands}
use Rattle.tree.proofs.Laws.{sub_end, sub_hole, sub_part, sub_root, subs_child, below_end, below_hole, below_part, subs_root, sub_child, head_sub, number_leads, number_there, case_kept, default_kept}
use Rattle.compiler.proofs.RowsLeft.{rows_kept}
use Rattle.compiler.proofs.SpotHeads.{head_or, SubKinds, head_is_word}
use Rattle.compiler.proofs.TableLaws.{head_there}

-- ---- numbers and places
module _ (book fixed nums marks : List ℕ) (count : ℕ) (path : OnPath) (s : Stands book fixed nums marks count path) where
  -- a number's place has that number, and no other place has
  pub number_own : (n : ℕ) → n < count → numbered_as (place_numbered n path.uncovered) path.uncovered ≡ suc n
  number_own n h =
      let r = number_there path.uncovered n (omega (arith, s.counted)) in
      let l = number_leads path.uncovered (place_numbered n path.uncovered) r.0 r.1 in
      r.1 ∙ ap suc (s.once r.0 n (omega (arith, l.0, s.counted)) h l.1)

  pub number_only : (n : ℕ) (p : Place) → numbered_as p path.uncovered ≡ suc n → p ≡ place_numbered n path.uncovered
  number_only n p e = sym (number_leads path.uncovered p n e).1

-- ---- words of sub-patterns
kinds_child : (k : Left) (i : ℕ) → HeadKinds k → HeadKinds (sub k i)
unfolding HeadKinds
kinds_child end i f = rw (sub_end i) tt
kinds_child (hole x ys rest) zero f = rw (sub_hole x ys rest).0 (f.0, tt)
kinds_child (hole x ys rest) (suc i) f = rw ((sub_hole x ys rest).1 i) (kinds_child rest i f.1)
kinds_child (part h kids rest) zero f = rw (sub_part h kids rest).0 (f.0, f.1, tt)
kinds_child (part h kids rest) (suc i) f = rw ((sub_part h kids rest).1 i) (kinds_child rest i f.2)

kinds_below : (k : Left) → HeadKinds k → HeadKinds (below k)
unfolding HeadKinds
kinds_below end f = rw below_end tt
kinds_below (hole x ys rest) f = rw (below_hole x ys rest) tt
kinds_below (part h kids rest) f = rw (below_part h kids rest) f.1

kinds_under : (left : Left) (p : Place) → HeadKinds left → HeadKinds (subs_under left p)
kinds_under left [] f = rw (subs_root left) f
kinds_under left (i ∷ p) f = rw (subs_child left i p) (kinds_below (sub (subs_under left p) i) (kinds_child (subs_under left p) i (kinds_under left p f)))

kinds_end : HeadKinds end
unfolding HeadKinds
kinds_end = tt

pub kinds_at : (left : Left) (p : Place) → HeadKinds left → HeadKinds (sub_at left p)
kinds_at left [] f = rw (sub_root left) kinds_end
kinds_at left (i ∷ p) f = rw (sub_child left i p) (kinds_child (subs_under left p) i (kinds_under left p f))

kinds_head : (h : Head) (kids rest : Left) → HeadKinds (part h kids rest) → head_kind (word h) ≡ true
unfolding HeadKinds
kinds_head h kids rest l = l.0

kinds_hole : (x : ℕ) (ys : List ℕ) (rest : Left) → HeadKinds (hole x ys rest) → head_kind (word (pattern x (length ys))) ≡ false
unfolding HeadKinds
kinds_hole x ys rest l = l.0

pub kinds_sub : (y : Left) → HeadKinds y → SubKinds y
kinds_sub y f = record { heads = λ h kids rest e. kinds_head h kids rest (rw e at f); holes = λ x ys rest e. kinds_hole x ys rest (rw e at f) }

-- ---- the tests
other_case_lem : (h : Head) → (o : Option Head) → ((g : Head) → o ≡ some g → head_kind (word g) ≡ true) → is_other (word h) (head_or o) ≡ not (in_case o h)
other_case_lem h none l = refl
other_case_lem h (some g) l = rw (ne_eqb (word g) 33554432 (head_there (word g) (l g refl))) (go (eqb (word g) (word h)))
  where
    go : (b : Bool) → pick b false true ≡ not b
    go true = refl
    go false = refl

other_default : (o : Option Head) → ((g : Head) → o ≡ some g → head_kind (word g) ≡ true) → is_other 33554432 (head_or o) ≡ not (in_default o)
other_default none l = refl
other_default (some g) l = rw (ne_eqb (word g) 33554432 (head_there (word g) (l g refl)))

not_not : (a b : Bool) → a ≡ not b → b ≡ not a
not_not a true e = rw e
not_not a false e = rw e

pub head_kind_lem : (y : Left) → SubKinds y → (g : Head) → head_here y ≡ some g → head_kind (word g) ≡ true
head_kind_lem end l g e = never (cc)
head_kind_lem (hole x ys rest) l g e = never (cc)
head_kind_lem (part h kids rest) l g e = let z : h ≡ g = cc in rw (← z) (l.heads h kids rest refl)

-- ---- THE LAWS of striking by heads
module _ (book fixed nums marks : List ℕ) (count : ℕ) (path : OnPath) (s : Stands book fixed nums marks count path) (n : ℕ) (known : n < count) where
  -- the head of a row that is not struck, at a place
  pub row_head : (r : ℕ) (rule : Rule) → r < 64 → is_free marks r ≡ true → rule_at book r ≡ some rule → head_word fixed nums r n ≡ head_or (head_at (left_in rule) (place_numbered n path.uncovered))
  row_head r rule h f e =
      let t = s.rows r rule h f e in
      head_is_word fixed nums path.uncovered r n (left_in rule) (place_numbered n path.uncovered) (number_only book fixed nums marks count path s n) (number_own book fixed nums marks count path s n known)
      t.here t.short t.blank h (kinds_sub (sub_at (left_in rule) (place_numbered n path.uncovered)) (kinds_at (left_in rule) (place_numbered n path.uncovered) t.kinds))

  pub head_kinds : (r : ℕ) (rule : Rule) → r < 64 → is_free marks r ≡ true → rule_at book r ≡ some rule → (g : Head) → head_at (left_in rule) (place_numbered n path.uncovered) ≡ some g → head_kind (word g) ≡ true
  head_kinds r rule h f e g q =
      head_kind_lem (sub_at (left_in rule) (place_numbered n path.uncovered))
      (kinds_sub (sub_at (left_in rule) (place_numbered n path.uncovered)) (kinds_at (left_in rule) (place_numbered n path.uncovered) (s.rows r rule h f e).kinds)) g (sym (head_sub (left_in rule) (place_numbered n path.uncovered)) ∙ q)

  pub case_left : (h : Head) (m : ℕ) (after : List ℕ) → (m ≡ 0 → ⊥) → Changed (struck_rows (has_other fixed nums n (word h)) m) marks after
      → rows_left book after 0 64 ≡ case_rows (place_numbered n path.uncovered) h (rows_left book marks 0 64)
  case_left h m after z c =
      rows_kept book (has_other fixed nums n (word h)) (λ row. in_case (head_at row.left (place_numbered n path.uncovered)) h) m marks after c z
      (λ r rule l f e. not_not (has_other fixed nums n (word h) r) (in_case (head_at (left_in rule) (place_numbered n path.uncovered)) h)
      (ap (is_other (word h)) (row_head r rule l f e) ∙ other_case_lem h (head_at (left_in rule) (place_numbered n path.uncovered)) (head_kinds r rule l f e)))
      64 0 (omega arith)
      ∙ case_kept (place_numbered n path.uncovered) h (rows_left book marks 0 64)

  pub default_left : (m : ℕ) (after : List ℕ) → (m ≡ 0 → ⊥) → Changed (struck_rows (has_other fixed nums n 33554432) m) marks after
      → rows_left book after 0 64 ≡ default_rows (place_numbered n path.uncovered) (rows_left book marks 0 64)
  default_left m after z c =
      rows_kept book (has_other fixed nums n 33554432) (λ row. in_default (head_at row.left (place_numbered n path.uncovered))) m marks after c z
      (λ r rule l f e. not_not (has_other fixed nums n 33554432 r) (in_default (head_at (left_in rule) (place_numbered n path.uncovered)))
      (ap (is_other 33554432) (row_head r rule l f e) ∙ other_default (head_at (left_in rule) (place_numbered n path.uncovered)) (head_kinds r rule l f e)))
      64 0 (omega arith)
      ∙ default_kept (place_numbered n path.uncovered) (rows_left book marks 0 64)
