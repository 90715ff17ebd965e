-- Row after row is numbered, each in its own spots: a row that is not struck has no more children at the place than are numbered, and so it stands on the path
-- with the place entered.
use mathlib.Core.Path.{◌≡◌, refl, sym, ◌∙◌}
use mathlib.Core.Bool.{true}
use mathlib.Core.List.{List, [], ◌∷◌}
use mathlib.Core.Option.{Option, none, some}
use Prim.Native.Nat.{ℕ, ◌+◌, ◌*◌, ◌≤◌, ◌<◌}
use native.Mathlib.Omega.{arith}
use lib.ListN.{length, get_or}
use Rattle.std.specs.Prelude.{Ok}
use Rattle.term.specs.Word.{Head, word, count, count_of}
use Rattle.term.proofs.Laws.{never, count_word_lem}
use Rattle.book.specs.Book.{Rule, check_book, rule_at}
use Rattle.fit.specs.Left.{Left, part, wide}
use Rattle.fit.specs.Constraint.{Place}
use Rattle.fit.specs.Match.{left_in}
use Rattle.fit.proofs.Laws.{accepted_good}
use Rattle.tree.specs.Told.Covered.{is_open}
use Rattle.tree.specs.Path.{OnPath, place_numbered}
use Rattle.tree.specs.Rows.{sub_at, head_at}
use Rattle.compiler.specs.Told.Tables.{is_free, row_numbered}
use Rattle.compiler.specs.Told.Stands.{spread, RowStands, Stands}
use Rattle.tree.proofs.Laws.{head_headed, Full, full_at, good_full}
use Rattle.compiler.proofs.Strikes.{number_own, number_only}
use Rattle.compiler.proofs.EnteredSpots.{same_left_lem, kept_blank}
use Rattle.compiler.proofs.EnteredCounts.{Counts, good_counts}
use Rattle.compiler.proofs.EnteredRow.{RowDone, row_without, row_with_lem}

-- how many children a head has
abbrev pub child_count : Head → ℕ
child_count h = count h

pub full_rule : (book : List ℕ) → check_book book ≡ Ok tt → (r : ℕ) (rule : Rule) → rule_at book r ≡ some rule → Full (left_in rule)
full_rule book accepted r rule q = good_full rule.vars 0 (left_in rule) (accepted_good book accepted r rule q).good

-- a row that is not struck has as many children at the place as the head counts
pub record Filled (book struck : List ℕ) (path : OnPath) (n : ℕ) (h : Head) : Type 0 where
  pub row : ℕ
  pub rule : Rule
  pub few : row < 64
  pub free : is_free struck row ≡ true
  pub is : rule_at book row ≡ some rule
  pub head : Head
  pub there : head_at (left_in rule) (place_numbered n path.uncovered) ≡ some head
  pub many : count_of (word head) ≡ count h

-- an open place is entered under the mark m, and rows are struck: those left have no more children there than the head counts
pub record Enters (book fixed nums marks : List ℕ) (total : ℕ) (path : OnPath) (n : ℕ) (h : Head) (m : ℕ) (struck : List ℕ) : Type 0 where
  pub stands : Stands book fixed nums marks total path
  pub known : n < total
  pub opened : is_open n path.uncovered ≡ true
  pub below : (i : ℕ) × (q : Place) × (place_numbered n path.uncovered ≡ i ∷ q)
  pub fewer : (r : ℕ) → r < 64 → is_free struck r ≡ true → is_free marks r ≡ true
  pub others : (k : ℕ) → 64 ≤ k → get_or struck k 0 ≡ get_or marks k 0
  pub narrow : (r : ℕ) (rule : Rule) → r < 64 → is_free struck r ≡ true → rule_at book r ≡ some rule → (g : Head) → head_at (left_in rule) (place_numbered n path.uncovered) ≡ some g → count g ≤ count h
  pub filled : 16 < total + count h → Filled book struck path n h
  pub mark : m ≡ 0 → ⊥
  pub spots : length nums ≡ 4096
  pub words : length fixed ≡ 8256

module _ (book fixed nums marks : List ℕ) (total : ℕ) (path : OnPath) (n : ℕ) (h : Head) (m : ℕ) (struck : List ℕ) (e : Enters book fixed nums marks total path n h m struck) where
  abbrev P : Place
  P = place_numbered n path.uncovered

  row_of : (r : ℕ) (rule : Rule) → r < 64 → is_free struck r ≡ true → rule_at book r ≡ some rule → RowStands fixed nums marks path r rule.vars (left_in rule)
  row_of r rule l f q = e.stands.rows r rule l (e.fewer r l f) q

  -- each row has as many children at the place as its head counts
  pub kids_count : (r : ℕ) (rule : Rule) → r < 64 → is_free struck r ≡ true → rule_at book r ≡ some rule → (g : Head) (kids other : Left) → sub_at (left_in rule) P ≡ part g kids other → head_at (left_in rule) P ≡ some g
      → (wide kids ≤ child_count h) × (count_of (word g) ≡ wide kids)
  kids_count r rule l f q g kids other is z =
      let y : Full (part g kids other) = rw is at (full_at (left_in rule) P (full_rule book e.stands.accepted r rule q)) in
      (omega (arith, y.1, e.narrow r rule l f q g z), count_word_lem g y.0 ∙ sym y.1)

  pub some_rule : (r : ℕ) → r < 64 → is_free struck r ≡ true → (rule : Rule) × (rule_at book r ≡ some rule)
  some_rule r l f = go (rule_at book r) refl
    where
      go : (o : Option Rule) → rule_at book r ≡ o → (rule : Rule) × (rule_at book r ≡ some rule)
      go none q = never (let z = e.stands.absent r l q in let y = e.fewer r l f in cc)
      go (some rule) q = (rule, q)

  counts_rule : (r : ℕ) (rule : Rule) → rule.vars ≤ 16 → rule_at book r ≡ some rule → Counts (left_in rule)
  counts_rule r rule v q =
      let g = accepted_good book e.stands.accepted r rule q in
      good_counts rule.vars 0 (left_in rule) v (omega (arith, g.low)) g.good

  -- ---- one row is numbered, where the tables still have its spots as before
  pub row_done : (r : ℕ) (rule : Rule) → r < 64 → is_free struck r ≡ true → rule_at book r ≡ some rule → (now : List ℕ) → length now ≡ 4096 → ((o : ℕ) → r * 64 ≤ o → get_or now o 0 ≡ get_or nums o 0)
      → RowDone fixed path.uncovered n (child_count h) total now (row_numbered fixed struck n total r now) r (left_in rule)
  row_done r rule l f q now long same = go (head_at (left_in rule) P) refl (row_of r rule l f q) e.below
    where
      go : (o : Option Head) → head_at (left_in rule) P ≡ o → RowStands fixed nums marks path r rule.vars (left_in rule) → (i : ℕ) × (q : Place) × (P ≡ i ∷ q)
          → RowDone fixed path.uncovered n (child_count h) total now (row_numbered fixed struck n total r now) r (left_in rule)
      go none z t w =
          row_without fixed e.words path.uncovered n (child_count h) total e.stands.counted (number_own book fixed nums marks total path e.stands n e.known)
          (number_only book fixed nums marks total path e.stands n) (λ j. e.stands.new n j e.opened) w.0 w.1 w.2 struck r l f (left_in rule) now long t.short
          (same_left_lem fixed nums now path.uncovered (left_in rule) (r * 64) [] 0 0 (λ o a b. same o a) t.here)
          (λ more y. kept_blank fixed nums now more (r * 64 + spread (left_in rule)) (λ o a b. same o (omega arith)) (t.blank more y)) t.kinds (counts_rule r rule t.few q) z
      go (some g) z t w =
          let x = head_headed (left_in rule) P g z in
          let k = kids_count r rule l f q g x.kids x.rest x.is z in
          row_with_lem fixed e.words path.uncovered n (child_count h) total e.stands.counted (number_own book fixed nums marks total path e.stands n e.known)
          (number_only book fixed nums marks total path e.stands n) (λ j. e.stands.new n j e.opened) w.0 w.1 w.2 struck r l f (left_in rule) now long t.short
          (same_left_lem fixed nums now path.uncovered (left_in rule) (r * 64) [] 0 0 (λ o a b. same o a) t.here)
          (λ more y. kept_blank fixed nums now more (r * 64 + spread (left_in rule)) (λ o a b. same o (omega arith)) (t.blank more y)) t.kinds (counts_rule r rule t.few q)
          g x.kids x.rest x.is k.0 k.1
