-- The rows of a case, of the default and of a test are those that pass a test of their own.
use mathlib.Core.Path.{◌≡◌, refl}
use mathlib.Core.Bool.{Bool, true, false, not}
use mathlib.Core.List.{List, [], ◌∷◌}
use Rattle.term.specs.Word.{Head, pick}
use Rattle.fit.specs.Constraint.{Place, Constraint}
use Rattle.tree.specs.Path.{OnPath}
use Rattle.tree.specs.Rows.{RuleRow, head_at, has, constraints_left}
use Rattle.tree.specs.Compile.{in_case, case_rows, in_default, default_rows, rows_without}

unfoldable pub kept_rows : (RuleRow → Bool) → List RuleRow → List RuleRow
kept_rows keep [] = []
kept_rows keep (row ∷ rows) = pick (keep row) (row ∷ kept_rows keep rows) (kept_rows keep rows)

pub kept_none : (keep : RuleRow → Bool) → kept_rows keep [] ≡ []
unfolding kept_rows
kept_none keep = refl

pub kept_row : (keep : RuleRow → Bool) (row : RuleRow) (rows : List RuleRow) → kept_rows keep (row ∷ rows) ≡ pick (keep row) (row ∷ kept_rows keep rows) (kept_rows keep rows)
unfolding kept_rows
kept_row keep row rows = refl

pub case_kept : (p : Place) (h : Head) (rows : List RuleRow) → kept_rows (λ row. in_case (head_at row.left p) h) rows ≡ case_rows p h rows
unfolding kept_rows case_rows
case_kept p h [] = refl
case_kept p h (row ∷ rows) = rw (case_kept p h rows)

pub default_kept : (p : Place) (rows : List RuleRow) → kept_rows (λ row. in_default (head_at row.left p)) rows ≡ default_rows p rows
unfolding kept_rows default_rows
default_kept p [] = refl
default_kept p (row ∷ rows) = rw (default_kept p rows)

pub without_kept : (c : Constraint) (path : OnPath) (rows : List RuleRow) → kept_rows (λ row. not (has c (constraints_left path row))) rows ≡ rows_without c path rows
unfolding kept_rows rows_without
without_kept c path [] = refl
without_kept c path (row ∷ rows) = rw (without_kept c path rows) (go (has c (constraints_left path row)))
  where
    go : (b : Bool) → pick (not b) (row ∷ rows_without c path rows) (rows_without c path rows) ≡ pick b (rows_without c path rows) (row ∷ rows_without c path rows)
    go true = refl
    go false = refl
