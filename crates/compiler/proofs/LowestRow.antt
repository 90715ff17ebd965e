-- The lowest open place of a row that is not struck, read from the tables, is that of its rule on the path.
use mathlib.Core.Path.{◌≡◌, refl, sym, ap, ◌∙◌}
use mathlib.Core.Bool.{true, false}
use mathlib.Core.List.{List}
use mathlib.Core.Option.{some}
use Prim.Native.Nat.{ℕ, suc, ◌+◌, ◌*◌, ◌-◌, ◌≤◌, ◌<◌}
use native.Mathlib.Omega.{arith}
use lib.ListN.{get_or}
use Rattle.term.specs.Word.{Head, word}
use Rattle.term.proofs.Laws.{never}
use Rattle.book.specs.Book.{Rule, rule_at}
use Rattle.fit.specs.Left.{Left, end, hole, part}
use Rattle.fit.specs.Constraint.{Place}
use Rattle.fit.specs.Match.{left_in}
use Rattle.tree.specs.Path.{Uncovered, OnPath, place_numbered}
use Rattle.tree.specs.Rows.{sub_at, head_here, lowest_open}
use Rattle.compiler.specs.Told.Tables.{is_free, head_kind, lowest_from}
use Rattle.compiler.specs.Told.Stands.{RowStands, Stands}
use Rattle.tree.proofs.Laws.{head_sub, open_entered, entered_open, OpenAt}
use Rattle.compiler.proofs.SpotHeads.{SubKinds, sub_word, is_end, at_spot, spot_exists}
use Rattle.compiler.proofs.Strikes.{kinds_sub, kinds_at, head_kind_lem, number_own, number_only}
use Rattle.compiler.proofs.Lowests.{Candidate, low_or, lowest_is}

some_head : (y : Left) → SubKinds y → is_end y ≡ false → head_kind (sub_word y) ≡ true → (h : Head) × (head_here y ≡ some h)
some_head end l e w = never (cc)
some_head (hole x ys rest) l e w = never (let z = l.holes x ys rest refl in cc)
some_head (part h kids rest) l e w = (h, refl)

head_some : (y : Left) (h : Head) → head_here y ≡ some h → (is_end y ≡ false) × (sub_word y ≡ word h)
head_some end h e = never (cc)
head_some (hole x ys rest) h e = never (cc)
head_some (part g kids rest) h e = let z : g ≡ h = cc in (refl, ap word z)

module _ (book fixed nums marks : List ℕ) (count : ℕ) (path : OnPath) (s : Stands book fixed nums marks count path)
    (r : ℕ) (rule : Rule) (few : r < 64) (free : is_free marks r ≡ true) (is : rule_at book r ≡ some rule) where
  abbrev us : List Uncovered
  us = path.uncovered

  abbrev left : Left
  left = left_in rule

  row : RowStands fixed nums marks path r rule.vars (left_in rule)
  row = s.rows r rule few free is

  kinds : (q : Place) → SubKinds (sub_at left q)
  kinds q = kinds_sub (sub_at left q) (kinds_at left q row.kinds)

  there : (j v : ℕ) → r * 64 ≤ j → j < r * 64 + 64 → Candidate fixed nums marks j v → OpenAt left us v
  there j v a b c =
      let h : v < count = omega (arith, c.number, s.most j) in
      let q = place_numbered v us in
      let z : r * 64 + (j - r * 64) ≡ j = omega arith in
      let e : get_or nums (r * 64 + (j - r * 64)) 0 ≡ suc v = rw z c.number in
      let t = at_spot fixed nums us r v left q (number_only book fixed nums marks count path s v) (number_own book fixed nums marks count path s v h) row.here row.short row.blank few (j - r * 64) (omega arith) e in
      let w : get_or fixed j 0 ≡ sub_word (sub_at left q) = rw z at t.0 in
      let g = some_head (sub_at left q) (kinds q) t.1 (rw w at c.head) in
      record { new = open_entered us v (sym (s.opened v h) ∙ c.free); head = g.0; is = head_sub left q ∙ g.1 }

  back : (m : ℕ) → OpenAt left us m → (j : ℕ) × (r * 64 ≤ j) × (j < r * 64 + 64) × Candidate fixed nums marks j m
  back m o =
      let q = place_numbered m us in
      let p = entered_open us m o.new in
      let h : m < count = omega (arith, p.0, s.counted) in
      let e : head_here (sub_at left q) ≡ some o.head = sym (head_sub left q) ∙ o.is in
      let d = head_some (sub_at left q) o.head e in
      let t = spot_exists fixed nums us left (r * 64) 0 row.here q d.0 in (
        t.spot,
        t.low,
        omega (arith, t.high, row.short),
        record {
          head = ap head_kind (t.words ∙ d.1) ∙ head_kind_lem (sub_at left q) (kinds q) o.head e;
          number = t.number ∙ number_own book fixed nums marks count path s m h;
          free = s.opened m h ∙ p.1;
        },
      )

  pub lowest_row : lowest_from fixed nums marks (r * 64) 64 0 ≡ low_or fixed nums marks (lowest_open (left_in rule) path.uncovered)
  lowest_row = lowest_is fixed nums marks left us (r * 64) there back
