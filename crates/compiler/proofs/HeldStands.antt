-- Striking a constraint from every row stands for the path on which it holds: a constraint is struck just where it held before or is the same as this one.
use mathlib.Core.Path.{◌≡◌, refl, sym, ap, ◌∙◌}
use mathlib.Core.Bool.{Bool, true, false, ◌&&◌, ◌||◌, not}
use mathlib.Core.List.{List, [], ◌∷◌, ◌++◌}
use mathlib.Core.Option.{Option, none, some}
use mathlib.Core.Logic.{inl, inr}
use Prim.Native.Nat.{ℕ, zero, suc, ◌+◌, ◌*◌, ◌≤◌, ◌<◌}
use native.Mathlib.Omega.{arith}
use lib.Dec.{eqb}
use lib.ListN.{length, get_or}
use borrow.Author.Tests.{lt-ltb, le-ltb, ne_eqb}
use Rattle.term.specs.Word.{pick}
use Rattle.book.specs.Book.{Rule, rule_at}
use Rattle.fit.specs.Constraint.{Occurrence, occurrences, first_of, Constraint, closed_at, same_at}
use Rattle.fit.specs.Match.{left_in}
use Rattle.tree.specs.Path.{OnPath}
use Rattle.tree.specs.Rows.{same_constraint, has}
use Rattle.tree.specs.Compile.{holding}
use Rattle.compiler.specs.Told.Tables.{Changed, is_free, is_same, kind_from, strikes, struck_same}
use Rattle.compiler.specs.Told.Stands.{rows_left, occurrences_at, SameStruck, StruckAt, RowStands, Stands}
use Rattle.tree.proofs.Laws.{holding_is, has_more}
use Rattle.compiler.proofs.SpotOccurrences.{SpotIn}
use Rattle.compiler.proofs.LeftConstraints.{LaterAt, Laters, row_laters}
use Rattle.compiler.proofs.Pigeonhole.{few_numbers}

-- ---- marks after striking
module _ (fixed nums marks : List ℕ) (id m : ℕ) (after : List ℕ) (new : m ≡ 0 → ⊥) (c : Changed (struck_same fixed nums marks id m) marks after) where
  pub strike_below : (k : ℕ) → k < kind_from id → is_free after k ≡ is_free marks k
  unfolding Changed
  strike_below k h = rw (c k, lt-ltb k (kind_from id) h)

  pub strike_root : 64 < kind_from id → get_or after 64 0 ≡ get_or marks 64 0
  unfolding Changed
  strike_root h = c 64 ∙ rw (lt-ltb 64 (kind_from id) h)

  pub strike_above : (k : ℕ) → kind_from id + 4096 ≤ k → is_free after k ≡ is_free marks k
  unfolding Changed
  strike_above k h = rw (c k, le-ltb k (kind_from id) (omega arith), le-ltb k (kind_from id + 4096) h)

  pub strike_there : (k : ℕ) → kind_from id ≤ k → k < kind_from id + 4096 → is_free after k ≡ is_free marks k && not (strikes fixed nums marks id k)
  unfolding Changed
  strike_there k h l = rw (c k, le-ltb k (kind_from id) h, lt-ltb k (kind_from id + 4096) l) (go (eqb (get_or marks k 0) 0) refl (strikes fixed nums marks id k))
    where
      go : (a : Bool) → eqb (get_or marks k 0) 0 ≡ a → (b : Bool) → eqb (pick (a && b) m (get_or marks k 0)) 0 ≡ a && not b
      go true e true = ne_eqb m 0 new
      go true e false = e
      go false e b = e

-- ---- what is struck
not_either : (a b : Bool) → not b && not a ≡ not (a || b)
not_either true true = refl
not_either true false = refl
not_either false true = refl
not_either false false = refl

struck_more : (free before : Bool) (c k : Constraint) (held : List Constraint) → free ≡ before && not (same_constraint c k) → before ≡ not (has c held) → free ≡ not (has c (k ∷ held))
struck_more free before c k held e f = e ∙ ap (◌&& not (same_constraint c k)) f ∙ not_either (same_constraint c k) (has c held) ∙ ap not (sym (has_more c k held))

struck_held : (fixed marks after : List ℕ) (held : List Constraint) (c : Constraint) (os : List Occurrence) (ss : List (ℕ × Occurrence)) (es : List Occurrence)
    → ((k : ℕ) (o : Occurrence) → SpotIn k o ss → eqb (length o.list) o.depth ≡ false → is_free after (4160 + k) ≡ is_free marks (4160 + k) && not (same_constraint (closed_at o) c))
    → ((k : ℕ) (o f : Occurrence) → SpotIn k o ss → is_same fixed k ≡ true → first_of o.var os ≡ some f → is_free after (8256 + k) ≡ is_free marks (8256 + k) && not (same_constraint (same_at f o) c))
    → Laters fixed os es ss → StruckAt marks held es ss → StruckAt after (c ∷ held) es ss
unfolding StruckAt
struck_held fixed marks after held c os [] es a b l t = tt
struck_held fixed marks after held c os (s ∷ ss) es a b l t = (
  λ e. struck_more (is_free after (4160 + s.0)) (is_free marks (4160 + s.0)) (closed_at s.1) c held (a s.0 s.1 (inl (refl, refl)) e) (t.0 e),
  go (first_of s.1.var es) l.0 t.1,
  struck_held fixed marks after held c os ss (es ++ (s.1 ∷ [])) (λ k o i. a k o (inr i)) (λ k o f i. b k o f (inr i)) l.1 t.2,
)
  where
    go : (q : Option Occurrence) → LaterAt fixed os s.0 s.1 q → SameStruck marks held s.0 q s.1 → SameStruck after (c ∷ held) s.0 q s.1
    go none l t = tt
    go (some f) l t = struck_more (is_free after (8256 + s.0)) (is_free marks (8256 + s.0)) (same_at f s.1) c held (b s.0 s.1 f (inl (refl, refl)) l.0 l.1) t

-- ---- rows
pub rows_same : (book before after : List ℕ) → ((r : ℕ) → r < 64 → is_free after r ≡ is_free before r) → get_or after 64 0 ≡ get_or before 64 0 → (more r : ℕ) → r + more ≤ 64 → rows_left book after r more ≡ rows_left book before r more
unfolding rows_left
rows_same book before after e a zero r h = refl
rows_same book before after e a (suc more) r h = rw (e r (omega arith), a, rows_same book before after e a more (suc r) (omega arith))

-- THE LAW of a constraint that holds
module _ (book fixed nums marks : List ℕ) (count : ℕ) (path : OnPath) (s : Stands book fixed nums marks count path) (c : Constraint) (after : List ℕ)
    (below : (k : ℕ) → k < 4160 → is_free after k ≡ is_free marks k)
    (closed : (r : ℕ) (rule : Rule) → r < 64 → is_free marks r ≡ true → rule_at book r ≡ some rule → (k : ℕ) (o : Occurrence) → SpotIn k o (occurrences_at (r * 64) [] 0 0 (left_in rule))
    → eqb (length o.list) o.depth ≡ false → is_free after (4160 + k) ≡ is_free marks (4160 + k) && not (same_constraint (closed_at o) c))
    (same : (r : ℕ) (rule : Rule) → r < 64 → is_free marks r ≡ true → rule_at book r ≡ some rule → (k : ℕ) (o f : Occurrence) → SpotIn k o (occurrences_at (r * 64) [] 0 0 (left_in rule))
    → is_same fixed k ≡ true → first_of o.var (occurrences [] 0 0 (left_in rule)) ≡ some f → is_free after (8256 + k) ≡ is_free marks (8256 + k) && not (same_constraint (same_at f o) c)) where
  -- the path on which the constraint holds
  abbrev inner : OnPath
  inner = record { uncovered = path.uncovered; held = c ∷ path.held }

  row_held : (r : ℕ) (rule : Rule) → r < 64 → is_free marks r ≡ true → rule_at book r ≡ some rule → RowStands fixed nums after inner r rule.vars (left_in rule)
  row_held r rule l f e =
      let t = s.rows r rule l f e in
      record {
        variables = t.variables;
        few = t.few;
        short = t.short;
        here = t.here;
        blank = t.blank;
        kinds = t.kinds;
        covered = t.covered;
        struck = struck_held fixed marks after path.held c (occurrences [] 0 0 (left_in rule)) (occurrences_at (r * 64) [] 0 0 (left_in rule)) [] (closed r rule l f e) (same r rule l f e)
            (row_laters book fixed nums marks count path s r rule l f e) t.struck;
      }

  pub held_stands : Stands book fixed nums after count (holding c path)
  held_stands =
      rw (holding_is c path)
      record {
        accepted = s.accepted;
        counted = s.counted;
        opened = λ n h. below (64 + n) (omega (arith, h, few_numbers nums count s.roots s.used)) ∙ s.opened n h;
        later = λ n h l. below (64 + n) (omega arith) ∙ s.later n h l;
        once = s.once;
        new = s.new;
        above = s.above;
        roots = s.roots;
        used = s.used;
        most = s.most;
        absent = λ r h e. below r (omega arith) ∙ s.absent r h e;
        rows = λ r rule h f e. row_held r rule h (sym (below r (omega arith)) ∙ f) e;
      }
