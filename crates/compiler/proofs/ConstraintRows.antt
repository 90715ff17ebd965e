-- A row has a constraint by the tables just where it is among the constraints left in it: so striking the rows that have it leaves those without.
use mathlib.Core.Path.{◌≡◌, refl, sym, ap, ap₂, ◌∙◌}
use mathlib.Core.Bool.{Bool, true, false, ◌&&◌, ◌||◌, not}
use mathlib.Core.List.{List, [], ◌∷◌}
use mathlib.Core.Option.{some}
use mathlib.Core.Logic.{inl, inr}
use Prim.Native.Nat.{ℕ, ◌+◌, ◌*◌, ◌<◌}
use native.Mathlib.Omega.{arith}
use borrow.Author.Tests.{lt-ltb, le-ltb}
use Rattle.term.specs.Word.{pick}
use Rattle.book.specs.Book.{Rule, rule_at}
use Rattle.fit.specs.Constraint.{Occurrence, occurrences, first_of, Constraint, closed_at, same_at}
use Rattle.fit.specs.Match.{left_in}
use Rattle.tree.specs.Told.Covered.{Within}
use Rattle.tree.specs.Path.{OnPath}
use Rattle.tree.specs.Rows.{same_constraint, has, constraints_left}
use Rattle.tree.specs.Compile.{rows_without}
use Rattle.compiler.specs.Told.Tables.{Changed, is_free, struck_rows, first_spot, same_closed, same_same, same_name, kind_from, left_same, row_has}
use Rattle.compiler.specs.Told.Stands.{rows_left, occurrences_at, Stands}
use Rattle.tree.proofs.Laws.{closed_other, same_other, none_held, has_more, has_join, without_kept}
use Rattle.compiler.proofs.RowsLeft.{row_of_rule, rows_kept}
use Rattle.compiler.proofs.SpotOccurrences.{SpotIn, SpotIs, some_in, row_spot}
use Rattle.compiler.proofs.LeftConstraints.{left_by, first_or, same_of, closed_left, same_left, constraints_left_lem, first_some, first_there}
use Rattle.compiler.proofs.SameConstraints.{same_closed_name, same_same_name, same_closed_lem, same_same_lem}
use Rattle.compiler.proofs.FirstConstraints.{not_closed, not_same, row_some, closed_agrees, same_agrees}

-- ---- constraints in lists
has_left : (c : Constraint) (name : Occurrence → Constraint) (p t : ℕ → Bool) (ss : List (ℕ × Occurrence)) → ((k : ℕ) (o : Occurrence) → SpotIn k o ss → same_constraint c (name o) ≡ t k)
    → has c (left_by name p ss) ≡ some_in (λ k. p k && t k) ss
unfolding left_by some_in
has_left c name p t [] e = none_held c
has_left c name p t (s ∷ ss) e = go (p s.0) (e s.0 s.1 (inl (refl, refl))) (has_left c name p t ss (λ k o i. e k o (inr i)))
  where
    go : (b : Bool) → same_constraint c (name s.1) ≡ t s.0 → has c (left_by name p ss) ≡ some_in (λ k. p k && t k) ss
        → has c (pick b (name s.1 ∷ left_by name p ss) (left_by name p ss)) ≡ (b && t s.0) || some_in (λ k. p k && t k) ss
    go true q i = rw (has_more c (name s.1) (left_by name p ss), q, i)
    go false q i = i

has_none : (c : Constraint) (name : Occurrence → Constraint) (p : ℕ → Bool) (ss : List (ℕ × Occurrence)) → ((o : Occurrence) → same_constraint c (name o) ≡ false) → has c (left_by name p ss) ≡ false
unfolding left_by
has_none c name p [] e = none_held c
has_none c name p (s ∷ ss) e = go (p s.0) (has_none c name p ss e)
  where
    go : (b : Bool) → has c (left_by name p ss) ≡ false → has c (pick b (name s.1 ∷ left_by name p ss) (left_by name p ss)) ≡ false
    go true i = rw (has_more c (name s.1) (left_by name p ss), e s.1) i
    go false i = i

or_false : (a : Bool) → a || false ≡ a
or_false true = refl
or_false false = refl

-- ---- THE LAWS of the rows that have a constraint
module _ (book fixed nums marks : List ℕ) (count : ℕ) (path : OnPath) (s : Stands book fixed nums marks count path) where
  pub rows_without_lem : (id : ℕ) (c : Constraint)
      → ((r : ℕ) (rule : Rule) → r < 64 → is_free marks r ≡ true → rule_at book r ≡ some rule → row_has fixed nums marks id r ≡ has c (constraints_left path (row_of_rule marks r rule)))
      → (m : ℕ) (after : List ℕ) → (m ≡ 0 → ⊥) → Changed (struck_rows (row_has fixed nums marks id) m) marks after → rows_left book after 0 64 ≡ rows_without c path (rows_left book marks 0 64)
  rows_without_lem id c e m after z h =
      rows_kept book (row_has fixed nums marks id) (λ row. not (has c (constraints_left path row))) m marks after h z (λ r rule l f i. ap not (sym (e r rule l f i))) 64 0 (omega arith)
      ∙ without_kept c path (rows_left book marks 0 64)

module _ (book fixed nums marks : List ℕ) (count : ℕ) (path : OnPath) (s : Stands book fixed nums marks count path)
    (r : ℕ) (rule : Rule) (low : r < 64) (free : is_free marks r ≡ true) (is : rule_at book r ≡ some rule) where
  abbrev spots : List (ℕ × Occurrence)
  spots = occurrences_at (r * 64) [] 0 0 (left_in rule)

  abbrev all : List Occurrence
  all = occurrences [] 0 0 (left_in rule)

  spot : (k : ℕ) (o : Occurrence) → SpotIn k o spots → SpotIs fixed nums path.uncovered (r * 64) (r * 64 + 64) k o
  spot = row_spot book fixed nums marks count path s r rule low free is

  has_either : (c : Constraint) → has c (constraints_left path (row_of_rule marks r rule)) ≡ has c (left_by closed_at (closed_left fixed marks) spots) || has c (left_by (same_of all) (same_left fixed marks) spots)
  has_either c =
      ap (has c) (constraints_left_lem book fixed nums marks count path s r rule low free is)
      ∙ has_join c (left_by closed_at (closed_left fixed marks) spots) (left_by (same_of all) (same_left fixed marks) spots)

  module _ (from to k : ℕ) (o : Occurrence) (x : SpotIs fixed nums path.uncovered from to k o) (w : Within o.place path.uncovered) where
    closed_same : (j : ℕ) (q : Occurrence) → SpotIn j q spots → same_constraint (closed_at o) (closed_at q) ≡ same_closed fixed nums k j
    closed_same j q i = sym (same_closed_lem book fixed nums marks count path s from to (r * 64) (r * 64 + 64) k j o q x (spot j q i) w)

    closed_asked : k < 4096 → (j : ℕ) → j < 64 → left_same fixed nums marks (4160 + k) (kind_from (4160 + k) + r * 64 + j) ≡ closed_left fixed marks (r * 64 + j) && same_closed fixed nums k (r * 64 + j)
    unfolding left_same
    closed_asked l j h =
        let z : 4160 + r * 64 + j ≡ 4160 + (r * 64 + j) = omega arith in
        rw (lt-ltb (4160 + k) 8256 (omega arith))
        (ap₂ ◌&&◌ (closed_agrees book fixed nums marks count path s r rule low free is j h) (ap (same_name fixed nums (4160 + k)) z ∙ same_closed_name fixed nums k (r * 64 + j) l))

    pub row_has_closed : k < 4096 → row_has fixed nums marks (4160 + k) r ≡ has (closed_at o) (constraints_left path (row_of_rule marks r rule))
    unfolding row_has
    row_has_closed l =
        row_some book fixed nums marks count path s r rule low free is (λ j. left_same fixed nums marks (4160 + k) (kind_from (4160 + k) + r * 64 + j)) (λ j. closed_left fixed marks j && same_closed fixed nums k j)
        (λ j n. ap (◌&& same_closed fixed nums k j) (not_closed fixed marks j n)) (closed_asked l)
        ∙ sym (has_either (closed_at o)
        ∙ ap₂ ◌||◌ (has_left (closed_at o) closed_at (closed_left fixed marks) (same_closed fixed nums k) spots closed_same)
        (has_none (closed_at o) (same_of all) (same_left fixed marks) spots (λ q. closed_other o (first_or q (first_of q.var all)) q))
        ∙ or_false (some_in (λ j. closed_left fixed marks j && same_closed fixed nums k j) spots))

  module _ (from to k : ℕ) (f o : Occurrence) (x1 : SpotIs fixed nums path.uncovered from to (first_spot fixed k) f) (x : SpotIs fixed nums path.uncovered from to k o)
      (w1 : Within f.place path.uncovered) (w : Within o.place path.uncovered) where
    pub same_with : (j : ℕ) (g q : Occurrence) → SpotIn j q spots → first_of q.var all ≡ some g → same_constraint (same_at f o) (same_at g q) ≡ same_same fixed nums k j
    same_with j g q i e =
        let t = first_there book fixed nums marks count path s r rule low free is j q g i e in
        sym (same_same_lem book fixed nums marks count path s from to (r * 64) (r * 64 + 64) k j f o g q x1 x (spot (first_spot fixed j) g t) (spot j q i) w1 w)

    same_same_of : (j : ℕ) (q : Occurrence) → SpotIn j q spots → same_constraint (same_at f o) (same_of all q) ≡ same_same fixed nums k j
    same_same_of j q i = let g = first_some book fixed nums marks count path s r rule low free is j q i in rw g.1 (same_with j g.0 q i g.1)

    same_asked : (j : ℕ) → j < 64 → left_same fixed nums marks (8256 + k) (kind_from (8256 + k) + r * 64 + j) ≡ same_left fixed marks (r * 64 + j) && same_same fixed nums k (r * 64 + j)
    unfolding left_same
    same_asked j h =
        let z : 8256 + r * 64 + j ≡ 8256 + (r * 64 + j) = omega arith in
        rw (le-ltb (8256 + k) 8256 (omega arith))
        (ap₂ ◌&&◌ (same_agrees book fixed nums marks count path s r rule low free is j h) (ap (same_name fixed nums (8256 + k)) z ∙ same_same_name fixed nums k (r * 64 + j)))

    pub row_has_same : row_has fixed nums marks (8256 + k) r ≡ has (same_at f o) (constraints_left path (row_of_rule marks r rule))
    unfolding row_has
    row_has_same =
        row_some book fixed nums marks count path s r rule low free is (λ j. left_same fixed nums marks (8256 + k) (kind_from (8256 + k) + r * 64 + j)) (λ j. same_left fixed marks j && same_same fixed nums k j)
        (λ j n. ap (◌&& same_same fixed nums k j) (not_same fixed marks j n)) same_asked
        ∙ sym (has_either (same_at f o)
        ∙ ap₂ ◌||◌ (has_none (same_at f o) closed_at (closed_left fixed marks) spots (λ q. same_other f o q))
        (has_left (same_at f o) (same_of all) (same_left fixed marks) (same_same fixed nums k) spots same_same_of))
