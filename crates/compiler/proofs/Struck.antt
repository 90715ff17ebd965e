-- The first constraint left in a row whose occurrences are all uncovered, as the tables name it: striking it from every row and striking every row that has it are what yes and no ask.
use mathlib.Core.Path.{◌≡◌, sym, ap, ◌∙◌}
use mathlib.Core.Bool.{Bool, true, false, ◌&&◌, not}
use mathlib.Core.List.{List, [], ◌∷◌}
use mathlib.Core.Option.{some}
use mathlib.Core.Logic.{inl, inr}
use Prim.Native.Nat.{ℕ, ◌+◌, ◌*◌, ◌-◌, ◌≤◌, ◌<◌}
use native.Mathlib.Omega.{arith}
use lib.Dec.{eqb}
use lib.ListN.{length}
use borrow.Author.Tests.{lt-ltb, le-ltb}
use Rattle.term.proofs.Laws.{and_left, and_right}
use Rattle.book.specs.Book.{Rule, rule_at}
use Rattle.fit.specs.Constraint.{Occurrence, occurrences, first_of, Constraint, closed_at, same_at}
use Rattle.fit.specs.Match.{left_in}
use Rattle.fit.proofs.Laws.{Each}
use Rattle.tree.specs.Told.Covered.{Within}
use Rattle.tree.specs.Path.{OnPath}
use Rattle.tree.specs.Rows.{same_constraint, has, constraints_left}
use Rattle.tree.specs.Compile.{holding, rows_without}
use Rattle.compiler.specs.Told.Tables.{Changed, is_free, struck_rows, first_spot, is_closed, is_same, is_constraint, same_name, kind_from, row_of, row_has, strikes, struck_same, front_words}
use Rattle.compiler.specs.Told.Stands.{rows_left, occurrences_at, Stands}
use Rattle.tree.proofs.Laws.{closed_other, same_other, same_turned, test_front, same_itself, and_true}
use Rattle.compiler.proofs.RowsLeft.{row_of_rule}
use Rattle.compiler.proofs.SpotOccurrences.{SpotIn, named, SpotIs, spot_count, row_spot}
use Rattle.compiler.proofs.SpotWords.{spot_ids, spot_number, spot_words}
use Rattle.compiler.proofs.LeftConstraints.{closed_left, same_left, closed_constraint, same_constraint_lem, closed_is}
use Rattle.compiler.proofs.SameConstraints.{same_closed_name, same_same_name, same_closed_lem, same_same_lem}
use Rattle.compiler.proofs.ConstraintRows.{rows_without_lem, row_has_closed, row_has_same, same_with}
use Rattle.compiler.proofs.HeldStands.{strike_below, strike_root, strike_above, strike_there, rows_same, held_stands}

-- what a constraint's name in the tables does
pub record NameOf (book fixed nums marks : List ℕ) (count : ℕ) (path : OnPath) (id : ℕ) (c : Constraint) : Type 0 where
  pub least : 4160 ≤ id
  pub most : id < 12352
  pub yes_stands : (m : ℕ) (after : List ℕ) → (m ≡ 0 → ⊥) → Changed (struck_same fixed nums marks id m) marks after → Stands book fixed nums after count (holding c path)
  pub yes_rows : (m : ℕ) (after : List ℕ) → (m ≡ 0 → ⊥) → Changed (struck_same fixed nums marks id m) marks after → rows_left book after 0 64 ≡ rows_left book marks 0 64
  pub no_rows : (m : ℕ) (after : List ℕ) → (m ≡ 0 → ⊥) → Changed (struck_rows (row_has fixed nums marks id) m) marks after → rows_left book after 0 64 ≡ rows_without c path (rows_left book marks 0 64)
  pub front : front_words fixed nums id ≡ test_front c path.uncovered
  pub row_has : (q : ℕ) (other : Rule) → q < 64 → is_free marks q ≡ true → rule_at book q ≡ some other → row_has fixed nums marks id q ≡ has c (constraints_left path (row_of_rule marks q other))
  pub own : (strikes fixed nums marks id id ≡ true) × (is_free marks id ≡ true)

pub each_in : (P : Occurrence → Type 0) (ss : List (ℕ × Occurrence)) → Each P (named ss) → (k : ℕ) (o : Occurrence) → SpotIn k o ss → P o
unfolding named
each_in P [] a k o i = absurd i
each_in P (s ∷ ss) a k o (inl e) = rw e.1 at a.0
each_in P (s ∷ ss) a k o (inr i) = each_in P ss a.1 k o i

closed_kind : (k : ℕ) → k < 4096 → kind_from (4160 + k) ≡ 4160
closed_kind k h = rw (lt-ltb (4160 + k) 8256 (omega arith))

same_kind : (k : ℕ) → kind_from (8256 + k) ≡ 8256
same_kind k = rw (le-ltb (8256 + k) 8256 (omega arith))

three_true : (a b c d : Bool) → a ≡ true → b ≡ true → c ≡ d → a && (b && c) ≡ d
three_true a b c d p q e = rw (p, q) e

module _ (book fixed nums marks : List ℕ) (count : ℕ) (path : OnPath) (s : Stands book fixed nums marks count path) (from to : ℕ) where
  -- ---- closedness
  module _ (k : ℕ) (o : Occurrence) (x : SpotIs fixed nums path.uncovered from to k o) (w : Within o.place path.uncovered) (small : k < 4096) where
    abbrev name : ℕ
    name = 4160 + k

    strikes_closed : (q : ℕ) (rule : Rule) → q < 64 → is_free marks q ≡ true → rule_at book q ≡ some rule → (j : ℕ) (p : Occurrence) → SpotIn j p (occurrences_at (q * 64) [] 0 0 (left_in rule))
        → eqb (length p.list) p.depth ≡ false → strikes fixed nums marks name (4160 + j) ≡ same_constraint (closed_at p) (closed_at o)
    strikes_closed q rule l f e j p i d =
        let t = row_spot book fixed nums marks count path s q rule l f e j p i in
        let z : row_of 4160 (4160 + j) ≡ q = omega (arith, t.low, t.high) in
        let y : j < 4096 = omega (arith, t.high) in
        rw (closed_kind k small)
        (three_true (is_free marks (row_of 4160 (4160 + j))) (is_constraint fixed (4160 + j)) (same_name fixed nums name (4160 + j)) (same_constraint (closed_at p) (closed_at o)) (ap (is_free marks) z ∙ f)
        (closed_constraint fixed j y ∙ closed_is fixed nums path.uncovered (q * 64) (q * 64 + 64) j p t ∙ ap not d)
        (same_closed_name fixed nums k j small ∙ same_closed_lem book fixed nums marks count path s from to (q * 64) (q * 64 + 64) k j o p x t w ∙ same_turned (closed_at o) (closed_at p)))

    module _ (m : ℕ) (after : List ℕ) (new : m ≡ 0 → ⊥) (c : Changed (struck_same fixed nums marks name m) marks after) where
      closed_below : (j : ℕ) → j < 4160 → is_free after j ≡ is_free marks j
      closed_below j h = strike_below fixed nums marks name m after new c j (omega (arith, closed_kind k small))

      pub closed_stands : Stands book fixed nums after count (holding (closed_at o) path)
      closed_stands =
          held_stands book fixed nums marks count path s (closed_at o) after closed_below
          (λ q rule l f e j p i d. let t = row_spot book fixed nums marks count path s q rule l f e j p i in
          strike_there fixed nums marks name m after new c (4160 + j) (omega (arith, closed_kind k small)) (omega (arith, closed_kind k small, t.high))
          ∙ ap (λ b. is_free marks (4160 + j) && not b) (strikes_closed q rule l f e j p i d))
          (λ q rule l f e j p g i d z. strike_above fixed nums marks name m after new c (8256 + j) (omega (arith, closed_kind k small))
          ∙ sym (ap (λ b. is_free marks (8256 + j) && not b) (same_other g p o) ∙ and_true (is_free marks (8256 + j))))

    closed_front : front_words fixed nums name ≡ test_front (closed_at o) path.uncovered
    unfolding front_words
    closed_front =
        let z : 4160 + k - 4160 ≡ k = omega arith in
        rw (lt-ltb (4160 + k) 8256 (omega arith), z) (ap (3 ∷◌) (spot_words fixed nums path.uncovered from to k o x w))

    closed_own : (r : ℕ) → is_free marks r ≡ true → r * 64 ≤ k → k < r * 64 + 64 → closed_left fixed marks k ≡ true → strikes fixed nums marks name name ≡ true
    closed_own r f a b h =
        let z : row_of 4160 (4160 + k) ≡ r = omega arith in
        rw (closed_kind k small)
        (three_true (is_free marks (row_of 4160 (4160 + k))) (is_constraint fixed (4160 + k)) (same_name fixed nums name name) true (ap (is_free marks) z ∙ f)
        (closed_constraint fixed k small ∙ and_right (is_free marks (4160 + k)) (is_closed fixed k) h)
        (same_closed_name fixed nums k k small ∙ same_closed_lem book fixed nums marks count path s from to from to k k o o x x w ∙ same_itself (closed_at o)))

    pub closed_name : (r : ℕ) → is_free marks r ≡ true → r * 64 ≤ k → k < r * 64 + 64 → closed_left fixed marks k ≡ true → NameOf book fixed nums marks count path (4160 + k) (closed_at o)
    closed_name r f a b h =
        record {
          least = omega arith;
          most = omega arith;
          yes_stands = closed_stands;
          yes_rows = λ m after n c. rows_same book marks after (λ q l. closed_below m after n c q (omega arith)) (strike_root fixed nums marks name m after n c (omega (arith, closed_kind k small))) 64 0 (omega arith);
          no_rows = rows_without_lem book fixed nums marks count path s name (closed_at o) has_it;
          front = closed_front;
          row_has = has_it;
          own = (closed_own r f a b h, and_left (is_free marks (4160 + k)) (is_closed fixed k) h);
        }
      where
        has_it : (q : ℕ) (other : Rule) → q < 64 → is_free marks q ≡ true → rule_at book q ≡ some other → row_has fixed nums marks name q ≡ has (closed_at o) (constraints_left path (row_of_rule marks q other))
        has_it q other l g e = row_has_closed book fixed nums marks count path s q other l g e from to k o x w small

  -- ---- equality
  module _ (k : ℕ) (f o : Occurrence) (x1 : SpotIs fixed nums path.uncovered from to (first_spot fixed k) f) (x : SpotIs fixed nums path.uncovered from to k o)
      (w1 : Within f.place path.uncovered) (w : Within o.place path.uncovered) (small : k < 4096) where
    abbrev later : ℕ
    later = 8256 + k

    strikes_same : (q : ℕ) (rule : Rule) → q < 64 → is_free marks q ≡ true → rule_at book q ≡ some rule → (j : ℕ) (p g : Occurrence) → SpotIn j p (occurrences_at (q * 64) [] 0 0 (left_in rule))
        → is_same fixed j ≡ true → first_of p.var (occurrences [] 0 0 (left_in rule)) ≡ some g → strikes fixed nums marks later (8256 + j) ≡ same_constraint (same_at g p) (same_at f o)
    strikes_same q rule l h e j p g i d v =
        let t = row_spot book fixed nums marks count path s q rule l h e j p i in
        let z : row_of 8256 (8256 + j) ≡ q = omega (arith, t.low, t.high) in
        rw (same_kind k)
        (three_true (is_free marks (row_of 8256 (8256 + j))) (is_constraint fixed (8256 + j)) (same_name fixed nums later (8256 + j)) (same_constraint (same_at g p) (same_at f o)) (ap (is_free marks) z ∙ h)
        (same_constraint_lem fixed j ∙ d)
        (same_same_name fixed nums k j ∙ sym (same_with book fixed nums marks count path s q rule l h e from to k f o x1 x w1 w j g p i v) ∙ same_turned (same_at f o) (same_at g p)))

    module _ (m : ℕ) (after : List ℕ) (new : m ≡ 0 → ⊥) (c : Changed (struck_same fixed nums marks later m) marks after) where
      same_below : (j : ℕ) → j < 8256 → is_free after j ≡ is_free marks j
      same_below j h = strike_below fixed nums marks later m after new c j (omega (arith, same_kind k))

      pub same_stands : Stands book fixed nums after count (holding (same_at f o) path)
      same_stands =
          held_stands book fixed nums marks count path s (same_at f o) after (λ j h. same_below j (omega arith))
          (λ q rule l h e j p i d. let t = row_spot book fixed nums marks count path s q rule l h e j p i in
          same_below (4160 + j) (omega (arith, t.high)) ∙ sym (ap (λ b. is_free marks (4160 + j) && not b) (closed_other p f o) ∙ and_true (is_free marks (4160 + j))))
          (λ q rule l h e j p g i d v. let t = row_spot book fixed nums marks count path s q rule l h e j p i in
          strike_there fixed nums marks later m after new c (8256 + j) (omega (arith, same_kind k)) (omega (arith, same_kind k, t.high))
          ∙ ap (λ b. is_free marks (8256 + j) && not b) (strikes_same q rule l h e j p g i d v))

    same_front : front_words fixed nums later ≡ test_front (same_at f o) path.uncovered
    unfolding front_words
    same_front =
        let z : 8256 + k - 8256 ≡ k = omega arith in
        rw (
          le-ltb (8256 + k) 8256 (omega arith),
          z,
          spot_number fixed nums path.uncovered from to (first_spot fixed k) f x1 w1,
          spot_number fixed nums path.uncovered from to k o x w,
          spot_ids fixed nums path.uncovered from to (first_spot fixed k) f x1,
          spot_ids fixed nums path.uncovered from to k o x,
          spot_count fixed nums path.uncovered from to (first_spot fixed k) f x1,
        )

    same_own : (r : ℕ) → is_free marks r ≡ true → r * 64 ≤ k → k < r * 64 + 64 → same_left fixed marks k ≡ true → strikes fixed nums marks later later ≡ true
    same_own r h a b d =
        let z : row_of 8256 (8256 + k) ≡ r = omega arith in
        rw (same_kind k)
        (three_true (is_free marks (row_of 8256 (8256 + k))) (is_constraint fixed (8256 + k)) (same_name fixed nums later later) true (ap (is_free marks) z ∙ h)
        (same_constraint_lem fixed k ∙ and_right (is_free marks (8256 + k)) (is_same fixed k) d)
        (same_same_name fixed nums k k ∙ same_same_lem book fixed nums marks count path s from to from to k k f o f o x1 x x1 x w1 w ∙ same_itself (same_at f o)))

    pub same_name_lem : (r : ℕ) → is_free marks r ≡ true → r * 64 ≤ k → k < r * 64 + 64 → same_left fixed marks k ≡ true → NameOf book fixed nums marks count path (8256 + k) (same_at f o)
    same_name_lem r h a b d =
        record {
          least = omega arith;
          most = omega arith;
          yes_stands = same_stands;
          yes_rows = λ m after n c. rows_same book marks after (λ q l. same_below m after n c q (omega arith)) (strike_root fixed nums marks later m after n c (omega (arith, same_kind k))) 64 0 (omega arith);
          no_rows = rows_without_lem book fixed nums marks count path s later (same_at f o) has_it;
          front = same_front;
          row_has = has_it;
          own = (same_own r h a b d, and_left (is_free marks (8256 + k)) (is_same fixed k) d);
        }
      where
        has_it : (q : ℕ) (other : Rule) → q < 64 → is_free marks q ≡ true → rule_at book q ≡ some other → row_has fixed nums marks later q ≡ has (same_at f o) (constraints_left path (row_of_rule marks q other))
        has_it q other l g e = row_has_same book fixed nums marks count path s q other l g e from to k f o x1 x w1 w
