-- Where an open place is entered the tables stand for the path with its children: the rows that are left have no more children there than are numbered, and each
-- number that is given is new.
use mathlib.Core.Path.{◌≡◌, refl, sym, ap, ◌∙◌}
use mathlib.Core.Bool.{Bool, true, false}
use mathlib.Core.List.{List, []}
use mathlib.Core.Option.{none, some}
use Prim.Native.Nat.{ℕ, suc, ◌+◌, ◌-◌, ◌*◌, ◌≤◌, ◌<◌}
use native.Mathlib.Omega.{arith}
use native.Mathlib.Decide.{dec_le}
use lib.Dec.{eqb}
use lib.ListN.{length, get_or, set}
use lib.Seq.{get_or-set_same, get_or-set_other}
use borrow.Author.Tests.{eqb-true, eqb-false, ne_eqb}
use Rattle.term.specs.Word.{Head, word, count}
use Rattle.term.proofs.Laws.{never}
use Rattle.book.specs.Book.{Rule, rule_at}
use Rattle.fit.specs.Match.{left_in}
use Rattle.tree.specs.Path.{Uncovered, OnPath, place_numbered, enter}
use Rattle.tree.specs.Rows.{subs_under, head_here, head_at}
use Rattle.tree.specs.Compile.{entering}
use Rattle.compiler.specs.Told.Tables.{Changed, is_free, of_free_row, struck_rows, has_other, rows_numbered}
use Rattle.tree.specs.Told.Covered.{numbered_as, is_open, Covered}
use Rattle.compiler.specs.Told.Stands.{RowStands, Stands}
use Rattle.tree.proofs.Laws.{entering_is, from_start, subs_root, head_sub, enter_keeps, enter_shuts, enter_opens, entered_once, entered_new, entered_above, length_enter, enter_covered}
use Rattle.compiler.proofs.Restores.{Grown, Apart}
use Rattle.compiler.proofs.Strikes.{number_own}
use Rattle.compiler.proofs.StruckRows.{struck_kept}
use Rattle.compiler.proofs.Pigeonhole.{few_numbers}
use Rattle.compiler.proofs.EnteredRows.{child_count, Enters, kids_count}
use Rattle.compiler.proofs.EnteredHead.{head_enters}
use Rattle.compiler.proofs.EnteredTables.{grown_stays, Upto, all_numbered, all_apart}

-- there are at most 4,096 places
pub count_most : (book fixed nums marks : List ℕ) (total : ℕ) (path : OnPath) → Stands book fixed nums marks total path → length nums ≡ 4096 → total ≤ 4096
count_most book fixed nums marks total path s l = few_numbers nums total s.roots s.used

module _ (book fixed nums marks : List ℕ) (total : ℕ) (path : OnPath) (n : ℕ) (h : Head) (m : ℕ) (struck : List ℕ) (e : Enters book fixed nums marks total path n h m struck) where
  abbrev us : List Uncovered
  us = path.uncovered

  abbrev vs : List Uncovered
  vs = enter n (child_count h) us

  -- the path on which the place is entered
  abbrev inner : OnPath
  inner = record { uncovered = vs; held = path.held }

  abbrev next : List ℕ
  next = rows_numbered fixed struck n total 0 64 nums

  abbrev after : List ℕ
  after = set struck (64 + n) m

  numbered : Upto book fixed nums marks total path n h m struck e 64 next
  numbered = all_numbered book fixed nums marks total path n h m struck e

  few_places : total ≤ 4096
  few_places = count_most book fixed nums marks total path e.stands e.spots

  -- ---- numbers
  roots : (r : ℕ) → r < 64 → get_or next (r * 64) 0 ≡ 1
  roots r l = grown_stays total (get_or nums (r * 64) 0) (get_or next (r * 64) 0) 0 (numbered.grown.each (r * 64)) (e.stands.roots r l)

  used : (k : ℕ) → 15 < k → k < total + child_count h → (o : ℕ) × (o < 4096) × (get_or next o 0 ≡ suc k)
  used k a l = go (dec_le (suc k) total)
    where
      go : Dec (suc k ≤ total) → (o : ℕ) × (o < 4096) × (get_or next o 0 ≡ suc k)
      go (yes q) =
          let x = e.stands.used k a q in
          (x.0, x.1, grown_stays total (get_or nums x.0 0) (get_or next x.0 0) k (numbered.grown.each x.0) x.2)
      go (no q) =
          let f = e.filled (omega arith) in
          let x = numbered.used f f.few (k - total) (omega arith) in
          (x.0, x.1, omega (arith, x.2, q))

  more_places : total + child_count h ≤ 4096
  more_places = few_numbers next (total + child_count h) roots used

  -- ---- marks
  other_mark : (k : ℕ) → (k ≡ 64 + n → ⊥) → 64 ≤ k → get_or after k 0 ≡ get_or marks k 0
  other_mark k d l = get_or-set_other struck (64 + n) k m 0 d ∙ e.others k l

  row_mark_lem : (r : ℕ) → r < 64 → is_free after r ≡ is_free struck r
  row_mark_lem r l = ap (λ (x : ℕ). eqb x 0) (get_or-set_other struck (64 + n) r m 0 (λ z. omega (arith, z, l)))

  absent : (r : ℕ) → r < 64 → rule_at book r ≡ none → is_free after r ≡ false
  absent r l q = row_mark_lem r l ∙ go (is_free struck r) refl
    where
      go : (b : Bool) → is_free struck r ≡ b → b ≡ false
      go true f = never (let z = e.stands.absent r l q in let y = e.fewer r l f in cc)
      go false f = refl

  open_mark : length struck ≡ 12352 → (k : ℕ) → k < total + child_count h → is_free after (64 + k) ≡ is_open k vs
  open_mark long k l = go (dec_le (suc k) total) (eqb k n) refl
    where
      go : Dec (suc k ≤ total) → (b : Bool) → eqb k n ≡ b → is_free after (64 + k) ≡ is_open k vs
      go (no q) b z =
          let y : k ≡ length us + (k - total) = omega (arith, q, e.stands.counted) in
          ap (λ (x : ℕ). eqb x 0) (other_mark (64 + k) (λ w. omega (arith, w, q, e.known)) (omega arith)) ∙ e.stands.later k (omega arith) (omega (arith, l, more_places))
          ∙ sym (ap (λ (x : ℕ). is_open x vs) y ∙ enter_opens us n (child_count h) (k - total) (omega arith))
      go (yes q) true z =
          let y : k ≡ n = eqb-true k n z in
          rw y (ap (λ (x : ℕ). eqb x 0) (get_or-set_same struck (64 + n) m 0 (omega (arith, long, few_places, e.known))) ∙ ne_eqb m 0 e.mark ∙ sym (enter_shuts us n (child_count h) (omega (arith, e.known, e.stands.counted))))
      go (yes q) false z =
          let d = eqb-false k n z in
          ap (λ (x : ℕ). eqb x 0) (other_mark (64 + k) (λ w. d (omega (arith, w))) (omega arith)) ∙ e.stands.opened k q
          ∙ sym (enter_keeps us n (child_count h) k (omega (arith, q, e.stands.counted)) d)

  later_mark : (k : ℕ) → total + child_count h ≤ k → k < 4096 → is_free after (64 + k) ≡ true
  later_mark k l q = ap (λ (x : ℕ). eqb x 0) (other_mark (64 + k) (λ w. omega (arith, w, l, e.known)) (omega arith)) ∙ e.stands.later k (omega arith) q

  -- ---- rows
  covered : (r : ℕ) (rule : Rule) → r < 64 → is_free struck r ≡ true → rule_at book r ≡ some rule → Covered us [] 0 (left_in rule) → Covered vs [] 0 (left_in rule)
  covered r rule l f q v =
      enter_covered (left_in rule) us n (child_count h)
      (λ g kids rest z. (kids_count book fixed nums marks total path n h m struck e r rule l f q g kids rest z (head_sub (left_in rule) (place_numbered n us) ∙ ap head_here z)).0)
      [] 0 (left_in rule) (from_start (subs_under (left_in rule) []) ∙ subs_root (left_in rule)) v

  rows : (r : ℕ) (rule : Rule) → r < 64 → is_free after r ≡ true → rule_at book r ≡ some rule → RowStands fixed next after inner r rule.vars (left_in rule)
  rows r rule l f q =
      let g : is_free struck r ≡ true = sym (row_mark_lem r l) ∙ f in
      let t = e.stands.rows r rule l (e.fewer r l g) q in
      let d = numbered.done r rule l g q in
      record {
        variables = t.variables;
        few = t.few;
        short = t.short;
        here = d.here;
        blank = d.blank;
        kinds = t.kinds;
        covered = covered r rule l g q t.covered;
        struck = struck_kept marks after (λ k a. other_mark k (λ z. omega (arith, z, a, few_places, e.known)) (omega arith)) path.held _ [] t.struck;
      }

  own : (k : ℕ) → k < length us → numbered_as (place_numbered k us) us ≡ suc k
  own k l = number_own book fixed nums marks total path e.stands k (omega (arith, l, e.stands.counted))

  pub all_stand : length struck ≡ 12352 → Stands book fixed next after (total + child_count h) (entering n h path)
  all_stand long =
      rw (entering_is n h path)
      record {
        accepted = e.stands.accepted;
        counted = length_enter us n (child_count h) ∙ ap (λ (x : ℕ). x + child_count h) e.stands.counted;
        opened = open_mark long;
        later = later_mark;
        once = λ a b x y. entered_once us n (child_count h) e.opened own e.stands.new e.stands.above a b (omega (arith, x, e.stands.counted)) (omega (arith, y, e.stands.counted));
        new = entered_new us n (child_count h) e.opened own e.stands.new e.stands.above;
        above = entered_above us n (child_count h) e.opened own e.stands.new e.stands.above;
        roots = roots;
        used = used;
        most = numbered.most;
        absent = absent;
        rows = rows;
      }

-- ---- THE LAWS of entering
module _ (book fixed nums marks : List ℕ) (total : ℕ) (path : OnPath) (s : Stands book fixed nums marks total path) where
  pub entered_stands : (n : ℕ) → n < total → is_open n path.uncovered ≡ true → (h : Head) (r : ℕ) (rule : Rule) → r < 64 → is_free marks r ≡ true → rule_at book r ≡ some rule
      → head_at (left_in rule) (place_numbered n path.uncovered) ≡ some h → (m : ℕ) → (m ≡ 0 → ⊥) → (struck : List ℕ) → Changed (struck_rows (has_other fixed nums n (word h)) m) marks struck
      → length struck ≡ 12352 → length nums ≡ 4096 → length fixed ≡ 8256
      → Stands book fixed (rows_numbered fixed struck n total 0 64 nums) (set struck (64 + n) m) (total + count h) (entering n h path)
  entered_stands n known opened h r rule few free is head m mark struck changed long spots words =
      all_stand book fixed nums marks total path n h m struck (head_enters book fixed nums marks total path s n known opened h r rule few free is head m mark struck changed spots words) long

  pub entered_grown : (n : ℕ) → n < total → is_open n path.uncovered ≡ true → (h : Head) (r : ℕ) (rule : Rule) → r < 64 → is_free marks r ≡ true → rule_at book r ≡ some rule
      → head_at (left_in rule) (place_numbered n path.uncovered) ≡ some h → (m : ℕ) → (m ≡ 0 → ⊥) → (struck : List ℕ) → Changed (struck_rows (has_other fixed nums n (word h)) m) marks struck
      → length struck ≡ 12352 → length nums ≡ 4096 → length fixed ≡ 8256
      → Grown total nums (rows_numbered fixed struck n total 0 64 nums) × Apart (of_free_row struck 0) nums (rows_numbered fixed struck n total 0 64 nums)
  entered_grown n known opened h r rule few free is head m mark struck changed long spots words =
      let e = head_enters book fixed nums marks total path s n known opened h r rule few free is head m mark struck changed spots words in
      ((all_numbered book fixed nums marks total path n h m struck e).grown, all_apart book fixed nums marks total path n h m struck e)
