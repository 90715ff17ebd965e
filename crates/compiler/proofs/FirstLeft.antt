-- What the compiler has of a first row where only pattern variables are open: its first constraint left, and what striking it does, or that none is left.
use mathlib.Core.Path.{◌≡◌, ap, ◌∙◌}
use mathlib.Core.Bool.{true}
use mathlib.Core.List.{List, [], ◌∷◌}
use mathlib.Core.Option.{none, some}
use mathlib.Core.Logic.{◌⊎◌, inl, inr}
use Prim.Native.Nat.{ℕ, ◌+◌, ◌*◌, ◌≤◌, ◌<◌}
use native.Mathlib.Omega.{arith}
use Rattle.book.specs.Book.{Rule, rule_at}
use Rattle.fit.specs.Constraint.{Occurrence, Constraint, closed_at, same_at}
use Rattle.fit.specs.Match.{left_in}
use Rattle.tree.specs.Told.Covered.{Within}
use Rattle.tree.specs.Path.{OnPath}
use Rattle.tree.specs.Rows.{subs_under, lowest_open, has, constraints_left}
use Rattle.tree.specs.Compile.{holding, rows_without}
use Rattle.compiler.specs.Told.Tables.{Changed, is_free, struck_rows, first_spot, first_constraint, row_has, strikes, struck_same, front_words}
use Rattle.compiler.specs.Told.Stands.{rows_left, occurrences_at, Stands}
use Rattle.tree.proofs.Laws.{test_front, from_start, subs_root, all_within, has_first}
use Rattle.compiler.proofs.RowsLeft.{row_of_rule}
use Rattle.compiler.proofs.SpotOccurrences.{SpotIn, SpotIs, row_spot, row_named}
use Rattle.compiler.proofs.FirstConstraints.{ClosedFirst, SameFirst, NoneLeft, first_is_lem}
use Rattle.compiler.proofs.Struck.{NameOf, each_in, closed_name, same_name_lem}

pub record FirstLeft (book fixed nums marks : List ℕ) (count : ℕ) (path : OnPath) (r : ℕ) (rule : Rule) : Type 0 where
  pub c : Constraint
  pub rest : List Constraint
  pub left : constraints_left path (row_of_rule marks r rule) ≡ c ∷ rest
  pub least : 4160 ≤ first_constraint fixed marks r
  pub most : first_constraint fixed marks r < 12352
  pub yes_stands : (m : ℕ) (after : List ℕ) → (m ≡ 0 → ⊥) → Changed (struck_same fixed nums marks (first_constraint fixed marks r) m) marks after → Stands book fixed nums after count (holding c path)
  pub yes_rows : (m : ℕ) (after : List ℕ) → (m ≡ 0 → ⊥) → Changed (struck_same fixed nums marks (first_constraint fixed marks r) m) marks after → rows_left book after 0 64 ≡ rows_left book marks 0 64
  pub no_rows : (m : ℕ) (after : List ℕ) → (m ≡ 0 → ⊥) → Changed (struck_rows (row_has fixed nums marks (first_constraint fixed marks r)) m) marks after
      → rows_left book after 0 64 ≡ rows_without c path (rows_left book marks 0 64)
  pub front : front_words fixed nums (first_constraint fixed marks r) ≡ test_front c path.uncovered
  -- the row has its own constraint, and striking takes at least its mark
  pub own_row : row_has fixed nums marks (first_constraint fixed marks r) r ≡ true
  pub own : (strikes fixed nums marks (first_constraint fixed marks r) (first_constraint fixed marks r) ≡ true) × (is_free marks (first_constraint fixed marks r) ≡ true)

module _ (book fixed nums marks : List ℕ) (count : ℕ) (path : OnPath) (s : Stands book fixed nums marks count path)
    (r : ℕ) (rule : Rule) (low : r < 64) (free : is_free marks r ≡ true) (is : rule_at book r ≡ some rule) (all-open : lowest_open (left_in rule) path.uncovered ≡ none) where
  abbrev spots : List (ℕ × Occurrence)
  spots = occurrences_at (r * 64) [] 0 0 (left_in rule)

  spot : (k : ℕ) (o : Occurrence) → SpotIn k o spots → SpotIs fixed nums path.uncovered (r * 64) (r * 64 + 64) k o
  spot = row_spot book fixed nums marks count path s r rule low free is

  -- each occurrence of the row is uncovered
  pub row_within : (k : ℕ) (o : Occurrence) → SpotIn k o spots → Within o.place path.uncovered
  row_within =
      each_in (λ o. Within o.place path.uncovered) spots
      (rw (row_named book fixed nums marks count path s r rule low free is)
      (all_within (left_in rule) path.uncovered all-open [] 0 0 (left_in rule) (from_start (subs_under (left_in rule) []) ∙ subs_root (left_in rule)) (s.rows r rule low free is).covered))

  first_of_lem : (c : Constraint) (rest : List Constraint) → constraints_left path (row_of_rule marks r rule) ≡ c ∷ rest → NameOf book fixed nums marks count path (first_constraint fixed marks r) c
      → FirstLeft book fixed nums marks count path r rule
  first_of_lem c rest e n =
      record {
        c = c;
        rest = rest;
        left = e;
        least = n.least;
        most = n.most;
        yes_stands = n.yes_stands;
        yes_rows = n.yes_rows;
        no_rows = n.no_rows;
        front = n.front;
        own_row = n.row_has r rule low free is ∙ ap (has c) e ∙ has_first c rest;
        own = n.own;
      }

  -- THE LAW of the first constraint left
  pub first_left : (first_constraint fixed marks r ≡ 0 → ⊥) → FirstLeft book fixed nums marks count path r rule
  first_left n = go (first_is_lem book fixed nums marks count path s r rule low free is)
    where
      go : NoneLeft book fixed nums marks count path s r rule low free is ⊎ (ClosedFirst book fixed nums marks count path s r rule low free is ⊎ SameFirst book fixed nums marks count path s r rule low free is)
          → FirstLeft book fixed nums marks count path r rule
      go (inl f) = absurd (n f.0)
      go (inr (inl f)) =
          let x = spot f.spot f.occurrence f.there in
          first_of_lem (closed_at f.occurrence) f.rest f.left
          (rw f.name
          (closed_name book fixed nums marks count path s (r * 64) (r * 64 + 64) f.spot f.occurrence x (row_within f.spot f.occurrence f.there) (omega (arith, x.high)) r free x.low (omega (arith, x.high)) f.holds))
      go (inr (inr f)) =
          let x = spot f.spot f.occurrence f.there in
          first_of_lem (same_at f.first f.occurrence) f.rest f.left
          (rw f.name
          (same_name_lem book fixed nums marks count path s (r * 64) (r * 64 + 64) f.spot f.first f.occurrence (spot (first_spot fixed f.spot) f.first f.earlier) x
          (row_within (first_spot fixed f.spot) f.first f.earlier) (row_within f.spot f.occurrence f.there) (omega (arith, x.high)) r free x.low (omega (arith, x.high)) f.holds))
