-- Striking rows changes the marks of rows alone, and takes rows away: so the tables stand for the same path as before.
use mathlib.Core.Path.{◌≡◌, refl, sym, ap, ◌∙◌}
use mathlib.Core.Bool.{Bool, true, false, ◌&&◌, not}
use mathlib.Core.List.{List, [], ◌∷◌, ◌++◌}
use mathlib.Core.Option.{Option, none, some}
use Prim.Native.Nat.{ℕ, ◌+◌, ◌≤◌}
use native.Mathlib.Omega.{arith}
use lib.Dec.{eqb}
use lib.ListN.{get_or}
use borrow.Author.Tests.{le-ltb}
use Rattle.term.proofs.Laws.{never}
use Rattle.book.specs.Book.{Rule}
use Rattle.fit.specs.Constraint.{Occurrence, first_of, Constraint}
use Rattle.fit.specs.Match.{left_in}
use Rattle.tree.specs.Path.{OnPath}
use Rattle.compiler.specs.Told.Tables.{Changed, is_free, struck_rows}
use Rattle.compiler.specs.Told.Stands.{SameStruck, StruckAt, RowStands, Stands}
use Rattle.compiler.proofs.RowsLeft.{struck_free}

-- ---- marks after those of the rows
pub struck_later : (p : ℕ → Bool) (m : ℕ) (before after : List ℕ) → Changed (struck_rows p m) before after → (k : ℕ) → 64 ≤ k → get_or after k 0 ≡ get_or before k 0
unfolding Changed
struck_later p m before after c k h = c k ∙ rw (le-ltb k 64 h)

pub struck_kept : (before after : List ℕ) → ((k : ℕ) → 4160 ≤ k → get_or after k 0 ≡ get_or before k 0) → (held : List Constraint) (ss : List (ℕ × Occurrence)) (earlier : List Occurrence)
    → StruckAt before held earlier ss → StruckAt after held earlier ss
unfolding StruckAt
struck_kept before after e held [] earlier f = tt
struck_kept before after e held (s ∷ ss) earlier f =
    (rw (e (4160 + s.0) (omega arith)) f.0, go (first_of s.1.var earlier) f.1, struck_kept before after e held ss (earlier ++ (s.1 ∷ [])) f.2)
  where
    go : (o : Option Occurrence) → SameStruck before held s.0 o s.1 → SameStruck after held s.0 o s.1
    go none g = tt
    go (some q) g = rw (e (8256 + s.0) (omega arith)) g

and_first : (a b : Bool) → a && b ≡ true → a ≡ true
and_first true b e = refl
and_first false b e = never (cc)

-- ---- THE LAW of struck rows
module _ (book fixed nums marks : List ℕ) (count : ℕ) (path : OnPath) (s : Stands book fixed nums marks count path) where
  row_stays : (after : List ℕ) (r : ℕ) (rule : Rule) → ((k : ℕ) → 64 ≤ k → get_or after k 0 ≡ get_or marks k 0) → RowStands fixed nums marks path r rule.vars (left_in rule)
      → RowStands fixed nums after path r rule.vars (left_in rule)
  row_stays after r rule e t =
      record {
        variables = t.variables;
        few = t.few;
        short = t.short;
        here = t.here;
        blank = t.blank;
        kinds = t.kinds;
        covered = t.covered;
        struck = struck_kept marks after (λ k l. e k (omega arith)) path.held _ [] t.struck;
      }

  pub struck_stands : (p : ℕ → Bool) (m : ℕ) (after : List ℕ) → (m ≡ 0 → ⊥) → Changed (struck_rows p m) marks after → Stands book fixed nums after count path
  struck_stands p m after z c =
      record {
        accepted = s.accepted;
        counted = s.counted;
        opened = λ n h. ap (λ (x : ℕ). eqb x 0) (struck_later p m marks after c (64 + n) (omega arith)) ∙ s.opened n h;
        later = λ n l h. ap (λ (x : ℕ). eqb x 0) (struck_later p m marks after c (64 + n) (omega arith)) ∙ s.later n l h;
        once = s.once;
        new = s.new;
        above = s.above;
        roots = s.roots;
        used = s.used;
        most = s.most;
        absent = λ r h e. struck_free p m marks after c z r h ∙ ap (◌&& not (p r)) (s.absent r h e);
        rows = λ r rule h f e. row_stays after r rule (struck_later p m marks after c)
            (s.rows r rule h (and_first (is_free marks r) (not (p r)) (sym (struck_free p m marks after c z r h) ∙ f)) e);
      }
