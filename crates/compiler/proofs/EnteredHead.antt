-- An open place is entered for the head of a row: the rows that are left have this head there or none, and the row itself has as many children as the head counts.
use mathlib.Core.Path.{◌≡◌, refl, sym, ap, ◌∙◌}
use mathlib.Core.Bool.{Bool, true, false, ◌&&◌, not}
use mathlib.Core.List.{List, [], ◌∷◌}
use mathlib.Core.Option.{none, some}
use Prim.Native.Nat.{ℕ, ◌<◌}
use native.Mathlib.Omega.{arith}
use lib.Dec.{eqb}
use lib.ListN.{length}
use borrow.Author.Tests.{eqb-true, eq-eqb, ne_eqb}
use Rattle.term.specs.Word.{Head, word, count, pick, InTable}
use Rattle.term.proofs.Laws.{never, count_word_lem}
use Rattle.book.specs.Book.{Rule, rule_at}
use Rattle.fit.specs.Left.{part}
use Rattle.fit.specs.Constraint.{Place}
use Rattle.fit.specs.Match.{left_in}
use Rattle.tree.specs.Told.Covered.{is_open}
use Rattle.tree.specs.Path.{OnPath, place_numbered}
use Rattle.tree.specs.Rows.{head_at}
use Rattle.compiler.specs.Told.Tables.{Changed, is_free, struck_rows, has_other, is_other, head_word, head_kind}
use Rattle.compiler.specs.Told.Stands.{Stands}
use Rattle.tree.proofs.Laws.{head_headed, root_unheaded, Full, full_at, same_head}
use Rattle.compiler.proofs.RowsLeft.{struck_free}
use Rattle.compiler.proofs.SpotHeads.{head_or}
use Rattle.compiler.proofs.Strikes.{row_head, head_kinds}
use Rattle.compiler.proofs.StruckRows.{struck_later}
use Rattle.compiler.proofs.EnteredRows.{Enters, full_rule}
use Rattle.compiler.proofs.TableLaws.{head_there}

both_true : (a b : Bool) → a && not b ≡ true → (a ≡ true) × (b ≡ false)
both_true true true e = never (cc)
both_true true false e = (refl, refl)
both_true false b e = never (cc)

other_not : (w g : ℕ) → head_kind g ≡ true → is_other w g ≡ false → g ≡ w
other_not w g l e = go (eqb g w) refl (rw (ne_eqb g 33554432 (head_there g l)) at e)
  where
    go : (b : Bool) → eqb g w ≡ b → pick b false true ≡ false → g ≡ w
    go true q z = eqb-true g w q
    go false q z = never (cc)

own_other : (w : ℕ) → is_other w w ≡ false
own_other w = go (eqb w 33554432)
  where
    go : (b : Bool) → pick b false (pick (eqb w w) false true) ≡ false
    go true = refl
    go false = rw (eq-eqb w w refl)

module _ (book fixed nums marks : List ℕ) (total : ℕ) (path : OnPath) (s : Stands book fixed nums marks total path) (n : ℕ) (known : n < total) (opened : is_open n path.uncovered ≡ true)
    (h : Head) (row : ℕ) (rule : Rule) (few : row < 64) (free : is_free marks row ≡ true) (is : rule_at book row ≡ some rule) (head : head_at (left_in rule) (place_numbered n path.uncovered) ≡ some h)
    (m : ℕ) (mark : m ≡ 0 → ⊥) (struck : List ℕ) (changed : Changed (struck_rows (has_other fixed nums n (word h)) m) marks struck) where
  abbrev P : Place
  P = place_numbered n path.uncovered

  free_before : (r : ℕ) → r < 64 → is_free struck r ≡ true → (is_free marks r ≡ true) × (has_other fixed nums n (word h) r ≡ false)
  free_before r l f = both_true (is_free marks r) (has_other fixed nums n (word h) r) (sym (struck_free (has_other fixed nums n (word h)) m marks struck changed mark r l) ∙ f)

  in_table : (r : ℕ) (other : Rule) → rule_at book r ≡ some other → (g : Head) → head_at (left_in other) P ≡ some g → InTable g
  in_table r other q g z =
      let x = head_headed (left_in other) P g z in
      let f : Full (part g x.kids x.rest) = rw x.is at (full_at (left_in other) P (full_rule book s.accepted r other q)) in
      f.0

  -- a row that is not struck has this head at the place, or none
  only_head : (r : ℕ) (other : Rule) → r < 64 → is_free struck r ≡ true → rule_at book r ≡ some other → (g : Head) → head_at (left_in other) P ≡ some g → g ≡ h
  only_head r other l f q g z =
      let b = free_before r l f in
      let w : head_word fixed nums r n ≡ word g = row_head book fixed nums marks total path s n known r other l b.0 q ∙ ap head_or z in
      same_head g h (in_table r other q g z) (in_table row rule is h head)
      (other_not (word h) (word g) (head_kinds book fixed nums marks total path s n known r other l b.0 q g z) (ap (is_other (word h)) (sym w) ∙ b.1))

  row_free : is_free struck row ≡ true
  row_free =
      struck_free (has_other fixed nums n (word h)) m marks struck changed mark row few
      ∙ rw (free, row_head book fixed nums marks total path s n known row rule few free is, head, own_other (word h))

  below : (p : Place) → P ≡ p → (i : ℕ) × (q : Place) × (P ≡ i ∷ q)
  below [] z = never (let y : head_at (left_in rule) P ≡ none = ap (head_at (left_in rule)) z ∙ root_unheaded (left_in rule) in cc)
  below (i ∷ q) z = (i, q, z)

  pub head_enters : length nums ≡ 4096 → length fixed ≡ 8256 → Enters book fixed nums marks total path n h m struck
  head_enters spots words =
      record {
        stands = s;
        known = known;
        opened = opened;
        below = below P refl;
        fewer = λ r l f. (free_before r l f).0;
        others = struck_later (has_other fixed nums n (word h)) m marks struck changed;
        narrow = λ r other l f q g z. omega (arith, ap count (only_head r other l f q g z));
        filled = λ l. record { row = row; rule = rule; few = few; free = row_free; is = is; head = h; there = head; many = count_word_lem h (in_table row rule is h head) };
        mark = mark;
        spots = spots;
        words = words;
      }
