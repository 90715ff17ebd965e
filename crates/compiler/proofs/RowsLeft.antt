-- The rows that are not struck: striking rows leaves those of a case, of the default, or without a constraint.
use mathlib.Core.Path.{◌≡◌, refl, sym}
use mathlib.Core.Bool.{Bool, true, false, ◌&&◌, not}
use mathlib.Core.List.{List, [], ◌∷◌}
use mathlib.Core.Option.{Option, none, some}
use Prim.Native.Nat.{ℕ, zero, suc, ◌+◌, ◌≤◌, ◌<◌}
use native.Mathlib.Omega.{arith}
use lib.Dec.{eqb}
use lib.ListN.{get_or}
use borrow.Author.Tests.{ne_eqb, lt-ltb}
use Rattle.term.specs.Word.{pick}
use Rattle.term.proofs.Laws.{never}
use Rattle.book.specs.Book.{Rule, rule_at}
use Rattle.tree.specs.Rows.{RuleRow}
use Rattle.compiler.specs.Told.Tables.{Changed, is_free, root_has, first_row, struck_rows, first_at}
use Rattle.compiler.specs.Told.Stands.{row_with, row_if, rows_left}
use Rattle.tree.proofs.Laws.{kept_rows, kept_none, kept_row}

abbrev pub row_of_rule : List ℕ → ℕ → Rule → RuleRow
row_of_rule marks r rule = row_with (root_has marks) r rule

-- ---- striking
pub struck_free : (p : ℕ → Bool) (m : ℕ) (before after : List ℕ) → Changed (struck_rows p m) before after → (m ≡ 0 → ⊥) → (r : ℕ) → r < 64 → is_free after r ≡ is_free before r && not (p r)
unfolding Changed
struck_free p m before after c n r h = rw (c r, lt-ltb r 64 h) (go (eqb (get_or before r 0) 0) refl (p r))
  where
    go : (a : Bool) → eqb (get_or before r 0) 0 ≡ a → (b : Bool) → eqb (pick (a && b) m (get_or before r 0)) 0 ≡ a && not b
    go true e true = ne_eqb m 0 n
    go true e false = e
    go false e b = e

-- and the root keeps its mark
pub struck_root : (p : ℕ → Bool) (m : ℕ) (before after : List ℕ) → Changed (struck_rows p m) before after → get_or after 64 0 ≡ get_or before 64 0
unfolding Changed
struck_root p m before after c = c 64

-- THE LAW of rows: where the test strikes just the rows that are not kept, those left are the ones kept
pub rows_kept : (book : List ℕ) (p : ℕ → Bool) (keep : RuleRow → Bool) (m : ℕ) (before after : List ℕ) → Changed (struck_rows p m) before after → (m ≡ 0 → ⊥)
    → ((r : ℕ) (rule : Rule) → r < 64 → is_free before r ≡ true → rule_at book r ≡ some rule → keep (row_of_rule before r rule) ≡ not (p r))
    → (more r : ℕ) → r + more ≤ 64 → rows_left book after r more ≡ kept_rows keep (rows_left book before r more)
unfolding rows_left
rows_kept book p keep m before after c n k zero r h = sym (kept_none keep)
rows_kept book p keep m before after c n k (suc more) r h =
    rw (struck_free p m before after c n r (omega arith), struck_root p m before after c) (go (is_free before r) refl (rule_at book r) refl (rows_kept book p keep m before after c n k more (suc r) (omega arith)))
  where
    go : (a : Bool) → is_free before r ≡ a → (o : Option Rule) → rule_at book r ≡ o → rows_left book after (suc r) more ≡ kept_rows keep (rows_left book before (suc r) more)
        → row_if (a && not (p r)) (root_has before) r o (rows_left book after (suc r) more) ≡ kept_rows keep (row_if a (root_has before) r o (rows_left book before (suc r) more))
    go false e o z i = i
    go true e none z i = last (not (p r)) i
      where
        last : (b : Bool) → rows_left book after (suc r) more ≡ kept_rows keep (rows_left book before (suc r) more) → row_if b (root_has before) r none (rows_left book after (suc r) more) ≡ kept_rows keep (rows_left book before (suc r) more)
        last true i = i
        last false i = i
    go true e (some rule) z i = some_row (not (p r)) (k r rule (omega arith) e z) i
      where
        some_row : (b : Bool) → keep (row_of_rule before r rule) ≡ b → rows_left book after (suc r) more ≡ kept_rows keep (rows_left book before (suc r) more)
            → row_if b (root_has before) r (some rule) (rows_left book after (suc r) more) ≡ kept_rows keep (row_of_rule before r rule ∷ rows_left book before (suc r) more)
        some_row true q i = rw (kept_row keep (row_of_rule before r rule) (rows_left book before (suc r) more), q, i)
        some_row false q i = rw (kept_row keep (row_of_rule before r rule) (rows_left book before (suc r) more), q, i)

-- ---- the first row
pub record FirstRow (book marks : List ℕ) (first from more : ℕ) : Type 0 where
  pub rule : Rule
  pub rest : List RuleRow
  pub is : rule_at book first ≡ some rule
  pub free : is_free marks first ≡ true
  pub rows : rows_left book marks from more ≡ row_of_rule marks first rule ∷ rest

pub rows_step : (book marks : List ℕ) (r more : ℕ) → rows_left book marks r (suc more) ≡ row_if (is_free marks r) (root_has marks) r (rule_at book r) (rows_left book marks (suc r) more)
unfolding rows_left
rows_step book marks r more = refl

pub rows_ended : (book marks : List ℕ) (r : ℕ) → rows_left book marks r 0 ≡ []
unfolding rows_left
rows_ended book marks r = refl

abbrev FirstFrom : List ℕ → List ℕ → ℕ → ℕ → ℕ → Type 0
FirstFrom book marks from more first = (from + more ≤ first → rows_left book marks from more ≡ []) × (first < from + more → FirstRow book marks first from more)

first_from_lem : (book marks : List ℕ) → ((r : ℕ) → r < 64 → rule_at book r ≡ none → is_free marks r ≡ false) → (more from : ℕ) → from + more ≤ 64 → FirstFrom book marks from more (first_at (is_free marks) from more)
unfolding first_at
first_from_lem book marks a zero from h = (λ l. rows_ended book marks from, λ l. absurd (omega arith))
first_from_lem book marks a (suc more) from h = go (is_free marks from) refl (rule_at book from) refl (first_from_lem book marks a more (suc from) (omega arith))
  where
    go : (b : Bool) → is_free marks from ≡ b → (o : Option Rule) → rule_at book from ≡ o → FirstFrom book marks (suc from) more (first_at (is_free marks) (suc from) more)
        → FirstFrom book marks from (suc more) (pick b from (first_at (is_free marks) (suc from) more))
    go false e o q i = (λ l. rw (rows_step book marks from more, e) (i.0 (omega arith)), λ l. later (i.1 (omega arith)))
      where
        later : FirstRow book marks (first_at (is_free marks) (suc from) more) (suc from) more → FirstRow book marks (first_at (is_free marks) (suc from) more) from (suc more)
        later f = record { rule = f.rule; rest = f.rest; is = f.is; free = f.free; rows = rw (rows_step book marks from more, e) f.rows }
    go true e none q i = never (let z = a from (omega arith) q in cc)
    go true e (some rule) q i =
        (λ l. absurd (omega arith), λ l. record { rule = rule; rest = rows_left book marks (suc from) more; is = q; free = e; rows = rw (rows_step book marks from more, e, q) })

-- THE LAW of the first row
pub no_rows : (book marks : List ℕ) → ((r : ℕ) → r < 64 → rule_at book r ≡ none → is_free marks r ≡ false) → 64 ≤ first_row marks → rows_left book marks 0 64 ≡ []
unfolding first_row
no_rows book marks a h = (first_from_lem book marks a 64 0 (omega arith)).0 (omega arith)

pub first_row_is : (book marks : List ℕ) → ((r : ℕ) → r < 64 → rule_at book r ≡ none → is_free marks r ≡ false) → first_row marks < 64 → FirstRow book marks (first_row marks) 0 64
unfolding first_row
first_row_is book marks a h = (first_from_lem book marks a 64 0 (omega arith)).1 (omega arith)
