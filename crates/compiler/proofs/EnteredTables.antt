-- The rows up to any one are numbered, and the spots of those after it are as before: numbering the next row keeps both.
use mathlib.Core.Path.{◌≡◌, refl, ap, ◌∙◌}
use mathlib.Core.Bool.{Bool, true, false}
use mathlib.Core.List.{List, []}
use mathlib.Core.Option.{some}
use mathlib.Core.Logic.{inl, inr}
use Prim.Native.Nat.{ℕ, zero, suc, ◌+◌, ◌*◌, ◌≤◌, ◌<◌}
use native.Mathlib.Omega.{arith}
use native.Mathlib.Decide.{dec_le}
use lib.ListN.{length, get_or}
use lib.Dec.{ltb}
use borrow.Author.Tests.{eqb-false, ltb-true, ltb-false}
use Rattle.term.specs.Word.{Head, pick}
use Rattle.term.proofs.Laws.{never}
use Rattle.book.specs.Book.{Rule, rule_at}
use Rattle.fit.specs.Left.{Left}
use Rattle.fit.specs.Match.{left_in}
use Rattle.tree.specs.Path.{OnPath, enter}
use Rattle.compiler.specs.Told.Tables.{is_free, row_of, of_free_row, row_numbered, rows_numbered}
use Rattle.compiler.specs.Told.Stands.{spread, LeftAt, BlankAt}
use Rattle.compiler.proofs.NumberLaws.{row_struck}
use Rattle.compiler.proofs.Restores.{GrownAt, Grown, grown_none, grown_join, Apart}
use Rattle.compiler.proofs.EnteredSpots.{same_left_lem, kept_blank}
use Rattle.compiler.proofs.EnteredRow.{RowDone}
use Rattle.compiler.proofs.EnteredRows.{child_count, Filled, Enters, some_rule, row_done}

-- a number that was given stays
pub grown_stays : (count x y v : ℕ) → GrownAt count x y → x ≡ suc v → y ≡ suc v
grown_stays count x y v (inl a) b = a ∙ b
grown_stays count x y v (inr a) b = absurd (omega (arith, a.0, b))

rows_none : (fixed marks : List ℕ) (n first r : ℕ) (nums : List ℕ) → rows_numbered fixed marks n first r 0 nums ≡ nums
unfolding rows_numbered
rows_none fixed marks n first r nums = refl

rows_more : (fixed marks : List ℕ) (n first r more : ℕ) (nums : List ℕ) → rows_numbered fixed marks n first r (suc more) nums ≡ rows_numbered fixed marks n first (suc r) more (row_numbered fixed marks n first r nums)
unfolding rows_numbered
rows_more fixed marks n first r more nums = refl

module _ (book fixed nums marks : List ℕ) (total : ℕ) (path : OnPath) (n : ℕ) (h : Head) (m : ℕ) (struck : List ℕ) (e : Enters book fixed nums marks total path n h m struck) where
  -- a row stands on the path with the place entered
  pub record LeftStands (now : List ℕ) (r : ℕ) (left : Left) : Type 0 where
    pub here : LeftAt fixed now (enter n (child_count h) path.uncovered) (r * 64) [] 0 0 left
    pub blank : (more : ℕ) → spread left + more ≡ 64 → BlankAt fixed now (r * 64 + spread left) more

  pub record Upto (r : ℕ) (now : List ℕ) : Type 0 where
    pub grown : Grown total nums now
    pub later : (o : ℕ) → r * 64 ≤ o → get_or now o 0 ≡ get_or nums o 0
    pub apart : (o : ℕ) → is_free struck (row_of 0 o) ≡ false → get_or now o 0 ≡ get_or nums o 0
    pub most : (o : ℕ) → get_or now o 0 ≤ total + child_count h
    pub done : (q : ℕ) (rule : Rule) → q < r → is_free struck q ≡ true → rule_at book q ≡ some rule → LeftStands now q (left_in rule)
    pub used : (f : Filled book struck path n h) → f.row < r → (i : ℕ) → i < child_count h → (o : ℕ) × (o < 4096) × (get_or now o 0 ≡ suc (total + i))

  upto_none : Upto 0 nums
  upto_none =
      record {
        grown = grown_none total nums;
        later = λ o l. refl;
        apart = λ o f. refl;
        most = λ o. omega (arith, e.stands.most o);
        done = λ q rule l. absurd (omega arith);
        used = λ f l. absurd (omega arith);
      }

  -- an earlier row's spots are untouched
  earlier_stands : (r q : ℕ) (rule : Rule) (now next : List ℕ) → q < r → r < 64 → is_free struck q ≡ true → rule_at book q ≡ some rule → ((o : ℕ) → o < r * 64 → get_or next o 0 ≡ get_or now o 0)
      → LeftStands now q (left_in rule) → LeftStands next q (left_in rule)
  earlier_stands r q rule now next l k f z same s =
      let t = e.stands.rows q rule (omega arith) (e.fewer q (omega arith) f) z in
      record {
        here = same_left_lem fixed now next (enter n (child_count h) path.uncovered) (left_in rule) (q * 64) [] 0 0 (λ o a b. same o (omega (arith, b, t.short, l))) s.here;
        blank = λ more y. kept_blank fixed now next more (q * 64 + spread (left_in rule)) (λ o a b. same o (omega (arith, b, y, l))) (s.blank more y);
      }

  upto_free : (r : ℕ) (now : List ℕ) → r < 64 → is_free struck r ≡ true → Upto r now → Upto (suc r) (row_numbered fixed struck n total r now)
  upto_free r now l f u =
      let x = some_rule book fixed nums marks total path n h m struck e r l f in
      let long : length now ≡ 4096 = u.grown.long ∙ e.spots in
      go (λ rule q. row_done book fixed nums marks total path n h m struck e r rule l f q now long u.later) x.0 x.1
    where
      go : ((rule : Rule) → rule_at book r ≡ some rule → RowDone fixed path.uncovered n (child_count h) total now (row_numbered fixed struck n total r now) r (left_in rule))
          → (rule : Rule) → rule_at book r ≡ some rule → Upto (suc r) (row_numbered fixed struck n total r now)
      go d rule q =
          record {
            grown = grown_join total nums now (row_numbered fixed struck n total r now) u.grown (d rule q).numbered.grown;
            later = λ o a. (d rule q).numbered.after o (omega arith) ∙ u.later o (omega arith);
            apart = λ o a. apart_one o a (dec_le (r * 64) o) (dec_le (r * 64 + 64) o);
            most = λ o. (d rule q).numbered.most o (u.most o);
            done = λ p other a b c. done_one p other a b c (dec_le (suc p) r);
            used = λ g a i b. used_one g a i b (dec_le (suc g.row) r);
          }
        where
          apart_one : (o : ℕ) → is_free struck (row_of 0 o) ≡ false → Dec (r * 64 ≤ o) → Dec (r * 64 + 64 ≤ o) → get_or (row_numbered fixed struck n total r now) o 0 ≡ get_or nums o 0
          apart_one o a (no y) z = (d rule q).numbered.before o (omega arith) ∙ u.apart o a
          apart_one o a (yes y) (yes z) = (d rule q).numbered.after o z ∙ u.apart o a
          apart_one o a (yes y) (no z) = let w : row_of 0 o ≡ r = omega arith in let k : is_free struck r ≡ false = rw w at a in never (cc)

          done_one : (p : ℕ) (other : Rule) → p < suc r → is_free struck p ≡ true → rule_at book p ≡ some other → Dec (suc p ≤ r) → LeftStands (row_numbered fixed struck n total r now) p (left_in other)
          done_one p other a b c (yes y) = earlier_stands r p other now (row_numbered fixed struck n total r now) y l b c (d rule q).numbered.before (u.done p other y b c)
          done_one p other a b c (no y) =
              let w : r ≡ p = omega arith in
              let k : rule_at book r ≡ some other = ap (rule_at book) w ∙ c in
              rw (← w) (record { here = (d other k).here; blank = (d other k).blank })

          used_one : (g : Filled book struck path n h) → g.row < suc r → (i : ℕ) → i < child_count h → Dec (suc g.row ≤ r) → (o : ℕ) × (o < 4096) × (get_or (row_numbered fixed struck n total r now) o 0 ≡ suc (total + i))
          used_one g a i b (yes y) =
              let x = u.used g y i b in
              (x.0, x.1, grown_stays total (get_or now x.0 0) (get_or (row_numbered fixed struck n total r now) x.0 0) (total + i) ((d rule q).numbered.grown.each x.0) x.2)
          used_one g a i b (no y) =
              let w : r ≡ g.row = omega arith in
              let x = (d g.rule (ap (rule_at book) w ∙ g.is)).used g.head g.there i (omega (arith, b, g.many)) in
              (x.0, omega (arith, x.2, l), x.3)

  upto_struck : (r : ℕ) (now : List ℕ) → r < 64 → is_free struck r ≡ false → Upto r now → Upto (suc r) (row_numbered fixed struck n total r now)
  upto_struck r now l f u =
      rw (← row_struck fixed struck n total r now (eqb-false (get_or struck r 0) 0 f))
      (record {
        grown = u.grown;
        later = λ o a. u.later o (omega arith);
        apart = u.apart;
        most = u.most;
        done = λ p other a b c. done_one p other a b c (dec_le (suc p) r);
        used = λ g a. used_one g a (dec_le (suc g.row) r);
      })
    where
      done_one : (p : ℕ) (other : Rule) → p < suc r → is_free struck p ≡ true → rule_at book p ≡ some other → Dec (suc p ≤ r) → LeftStands now p (left_in other)
      done_one p other a b c (yes y) = u.done p other y b c
      done_one p other a b c (no y) = let w : p ≡ r = omega arith in let k : is_free struck r ≡ true = rw w at b in never (cc)

      used_one : (g : Filled book struck path n h) → g.row < suc r → Dec (suc g.row ≤ r) → (i : ℕ) → i < child_count h → (o : ℕ) × (o < 4096) × (get_or now o 0 ≡ suc (total + i))
      used_one g a (yes y) = u.used g y
      used_one g a (no y) = let w : g.row ≡ r = omega arith in let k : is_free struck r ≡ true = rw w at g.free in never (cc)

  upto_next : (r : ℕ) (now : List ℕ) → r < 64 → Upto r now → Upto (suc r) (row_numbered fixed struck n total r now)
  upto_next r now l u = go (is_free struck r) refl
    where
      go : (b : Bool) → is_free struck r ≡ b → Upto (suc r) (row_numbered fixed struck n total r now)
      go true f = upto_free r now l f u
      go false f = upto_struck r now l f u

  upto_all : (more r : ℕ) (now : List ℕ) → r + more ≡ 64 → Upto r now → Upto 64 (rows_numbered fixed struck n total r more now)
  upto_all zero r now z u = let w : r ≡ 64 = omega arith in rw (rows_none fixed struck n total r now) (rw w at u)
  upto_all (suc more) r now z u = rw (rows_more fixed struck n total r more now) (upto_all more (suc r) (row_numbered fixed struck n total r now) (omega arith) (upto_next r now (omega arith) u))

  pub all_numbered : Upto 64 (rows_numbered fixed struck n total 0 64 nums)
  all_numbered = upto_all 64 0 nums refl upto_none

  -- a row that is struck has the numbers it had
  pub all_apart : Apart (of_free_row struck 0) nums (rows_numbered fixed struck n total 0 64 nums)
  all_apart k e = go (ltb k 0) refl (ltb k (0 + 4096)) refl e
    where
      go : (a : Bool) → ltb k 0 ≡ a → (b : Bool) → ltb k (0 + 4096) ≡ b → pick a false (pick b (is_free struck (row_of 0 k)) false) ≡ false → get_or (rows_numbered fixed struck n total 0 64 nums) k 0 ≡ get_or nums k 0
      go true p b q f = absurd (omega (arith, ltb-true k 0 p))
      go false p true q f = all_numbered.apart k f
      go false p false q f = all_numbered.later k (omega (arith, ltb-false k (0 + 4096) q))
