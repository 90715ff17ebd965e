-- What is told of the cases of a Switch: the tables stand for the entered path of each, and the rows' heads, taken one after the other, are the Switch's.
use mathlib.Core.Path.{◌≡◌, refl, sym, ap, ◌∙◌}
use mathlib.Core.Bool.{Bool, true, false}
use mathlib.Core.List.{List, [], ◌∷◌}
use mathlib.Core.Option.{Option, none, some}
use Prim.Native.Nat.{ℕ, zero, suc, ◌+◌, ◌*◌, ◌≤◌, ◌<◌}
use native.Mathlib.Omega.{arith}
use lib.ListN.{length, set}
use lib.Seq.{get_or-set_other}
use Rattle.std.specs.Prelude.{Option as StdOption, Some, None, Ok}
use Rattle.term.specs.Word.{Head, word, count_of, InTable}
use Rattle.term.specs.Word as words
use Rattle.term.proofs.Laws.{never, count_word_lem}
use Rattle.book.specs.Book.{Rule, check_book, rule_at}
use Rattle.fit.specs.Left.{Left, part}
use Rattle.fit.specs.Constraint.{Place}
use Rattle.fit.specs.Match.{left_in}
use Rattle.tree.specs.Tree.{Cases, NoCase, Case}
use Rattle.tree.specs.Path.{OnPath, place_numbered}
use Rattle.tree.specs.Rows.{head_at}
use Rattle.tree.specs.Compile.{heads, case_rows, entering, cases_of, compile}
use Rattle.compiler.specs.Told.Tables.{Changed, is_free, root_has, of_free_row, struck_rows, has_other, new_head, is_head_word, count_heads, rows_numbered}
use Rattle.compiler.specs.Told.Stands.{row_if, rows_left, Stands, TreeTold}
use Rattle.compiler.specs.Told.NodeTold.{HeadOfCase, OneTold, case_tree, CaseTold, CasesTold}
use Rattle.tree.proofs.Laws.{tables_none, tables_row, cases_of_none, cases_of_more, head_headed, Full, full_at, InTables, same_head}
use Rattle.compiler.proofs.Restores.{Grown, Apart}
use Rattle.compiler.proofs.RowsLeft.{row_of_rule}
use Rattle.compiler.proofs.Strikes.{case_left}
use Rattle.compiler.proofs.EnteredRows.{full_rule}
use Rattle.compiler.proofs.CasesLaid.{CasesLeft, words_many, all_told}
use Rattle.compiler.proofs.NewHeads.{heads_counted, new_heads, new_head_is}
use Rattle.compiler.proofs.Entered.{entered_stands, entered_grown}

-- ---- the heads of an accepted book's rows are in the table
in_table : (left : Left) (p : Place) (h : Head) → Full left → head_at left p ≡ some h → InTable h
in_table left p h f e =
    let x = head_headed left p h e in
    let w : Full (part h x.kids x.rest) = rw x.is at (full_at left p f) in
    w.0

rows_tables : (book marks : List ℕ) (p : Place) → check_book book ≡ Ok tt → (more r : ℕ) → InTables (heads p (rows_left book marks r more))
unfolding rows_left
rows_tables book marks p accepted zero r = tables_none p
rows_tables book marks p accepted (suc more) r = go (is_free marks r) (rule_at book r) refl (rows_tables book marks p accepted more (suc r))
  where
    go : (b : Bool) (o : Option Rule) → rule_at book r ≡ o → InTables (heads p (rows_left book marks (suc r) more)) → InTables (heads p (row_if b (root_has marks) r o (rows_left book marks (suc r) more)))
    go false o e i = i
    go true none e i = i
    go true (some rule) e i = tables_row (row_of_rule marks r rule) (rows_left book marks (suc r) more) p (full_rule book accepted r rule e) i

-- ---- a mark that is no row's and not the root's changes no row
rows_set : (book l : List ℕ) (n m : ℕ) → (n ≡ 0 → ⊥) → (more r : ℕ) → r + more ≤ 64 → rows_left book (set l (64 + n) m) r more ≡ rows_left book l r more
unfolding rows_left
rows_set book l n m z zero r h = refl
rows_set book l n m z (suc more) r h =
    rw (get_or-set_other l (64 + n) r m 0 (λ e. omega (arith, e)), get_or-set_other l (64 + n) 64 m 0 (λ e. z (omega (arith, e))), rows_set book l n m z more (suc r) (omega arith))

-- an open place is not the root, where that was entered
not_root : (marks : List ℕ) (n : ℕ) → is_free marks 64 ≡ false → is_free marks (64 + n) ≡ true → n ≡ 0 → ⊥
not_root marks n a b e = let c : is_free marks (64 + 0) ≡ true = rw e at b in never (cc)

-- ---- one case
module _ (book fixed nums marks : List ℕ) (count n w m : ℕ) (real : m ≡ 0 → ⊥) (known : n < count) (inner : is_free marks 64 ≡ false) (free : is_free marks (64 + n) ≡ true) (of_row : HeadOfCase fixed nums marks n w)
    (struck : List ℕ) (strikes : Changed (struck_rows (has_other fixed nums n w) m) marks struck) (sizes : (length struck ≡ 12352) × (length nums ≡ 4096) × (length fixed ≡ 8256)) where
  -- the head of the case, and what the tables stand for once its place is entered
  pub record CaseIs (path : OnPath) : Type 0 where
    pub head : Head
    pub good : InTable head
    pub words : word head ≡ w
    pub stands : Stands book fixed (rows_numbered fixed struck n count 0 64 nums) (set struck (64 + n) m) (count + count_of w) (entering n head path)
    pub rows : rows_left book (set struck (64 + n) m) 0 64 ≡ case_rows (place_numbered n path.uncovered) head (rows_left book marks 0 64)
    pub grown : Grown count nums (rows_numbered fixed struck n count 0 64 nums)
    pub apart : Apart (of_free_row struck 0) nums (rows_numbered fixed struck n count 0 64 nums)

  strikes_head : (h : Head) → word h ≡ w → Changed (struck_rows (has_other fixed nums n (word h)) m) marks struck
  strikes_head h e = rw e strikes

  counted : (h : Head) → InTable h → word h ≡ w → words.count h ≡ count_of w
  counted h t e = sym (count_word_lem h t) ∙ ap count_of e

  pub case_is : (path : OnPath) → Stands book fixed nums marks count path → CaseIs path
  case_is path s =
      let g = new_head_is book fixed nums marks count path s n of_row.row known of_row.within (ap is_head_word (sym of_row.is) ∙ of_row.head) in
      let t = in_table (left_in g.rule) (place_numbered n path.uncovered) g.head (full_rule book s.accepted of_row.row g.rule g.is) g.there in
      found of_row.row of_row.within g.rule g.head g.free g.is g.there (g.words ∙ sym of_row.is) t
    where
      found : (r : ℕ) → r < 64 → (rule : Rule) (h : Head) → is_free marks r ≡ true → rule_at book r ≡ some rule → head_at (left_in rule) (place_numbered n path.uncovered) ≡ some h → word h ≡ w → InTable h → CaseIs path
      found r l rule h f q there e t =
          let o = sym (s.opened n known) ∙ free in
          let c = strikes_head h e in
          let g = entered_grown book fixed nums marks count path s n known o h r rule l f q there m real struck c sizes.0 sizes.1 sizes.2 in
          record {
            head = h;
            good = t;
            words = e;
            stands = rw (counted h t e) at (entered_stands book fixed nums marks count path s n known o h r rule l f q there m real struck c sizes.0 sizes.1 sizes.2);
            rows = rows_set book struck n m (not_root marks n inner free) 64 0 (omega arith) ∙ case_left book fixed nums marks count path s n known h m struck real c;
            grown = g.0;
            apart = g.1;
          }

  module _ (limit at : ℕ) (out done : List ℕ) where
    -- the case of the head that the table has there
    same_case : (path : OnPath) (c : CaseIs path) (h : Head) → word h ≡ w → InTable h → h ≡ c.head
    same_case path c h e t = same_head h c.head t c.good (e ∙ sym c.words)

    tree_is : (path : OnPath) (c : CaseIs path) → compile (entering n c.head path) (rows_left book (set struck (64 + n) m) 0 64) ≡ case_tree book marks n path c.head
    tree_is path c = ap (compile (entering n c.head path)) c.rows

    pub case_told : (a : ℕ) → TreeTold book fixed (rows_numbered fixed struck n count 0 64 nums) (set struck (64 + n) m) limit (count + count_of w) at out done (Some a) → CaseTold book fixed nums marks limit count at n w out done (Some a)
    unfolding TreeTold OneTold
    case_told a told path s h e t =
        let c = case_is path s in
        rw (same_case path c h e t) (rw (tree_is path c) at (told (entering n c.head path) c.stands))

    pub case_stuck : TreeTold book fixed (rows_numbered fixed struck n count 0 64 nums) (set struck (64 + n) m) limit (count + count_of w) at out done None → CaseTold book fixed nums marks limit count at n w out done None
    unfolding TreeTold OneTold
    case_stuck told path s h e t =
        let c = case_is path s in
        rw (same_case path c h e t) (rw (tree_is path c) at (told (entering n c.head path) c.stands))

-- ---- the cases of a Switch by their heads
abbrev pub cases_for : List ℕ → List ℕ → ℕ → OnPath → List Head → Cases
cases_for book marks n path hs = cases_of compile path (rows_left book marks 0 64) n hs

abbrev pub SwitchLeft : List ℕ → List ℕ → List ℕ → List ℕ → ℕ → ℕ → ℕ → ℕ → ℕ → ℕ → List ℕ → List ℕ → StdOption ℕ → Type 0
SwitchLeft book fixed nums marks limit count n r to a out done x = CasesLeft (Stands book fixed nums marks count) (cases_for book marks n) (new_head fixed nums marks n) 64 limit r to a out done x

pub none_case : (book marks : List ℕ) (n : ℕ) (path : OnPath) → cases_for book marks n path [] ≡ NoCase
none_case book marks n path = cases_of_none path (rows_left book marks 0 64) n

pub one_more_lem : (book marks : List ℕ) (n : ℕ) (path : OnPath) (h : Head) (hs : List Head) → cases_for book marks n path (h ∷ hs) ≡ Case h (case_tree book marks n path h) (cases_for book marks n path hs)
one_more_lem book marks n path h hs = cases_of_more path (rows_left book marks 0 64) n h hs

-- ---- all cases
-- how many cases a Switch has
pub switch_many : (book fixed nums marks : List ℕ) (count : ℕ) (path : OnPath) (s : Stands book fixed nums marks count path) (n : ℕ) → n < count
    → length (heads (place_numbered n path.uncovered) (rows_left book marks 0 64)) ≡ count_heads fixed nums marks n
switch_many book fixed nums marks count path s n known =
    sym (words_many (heads (place_numbered n path.uncovered) (rows_left book marks 0 64))) ∙ ap length (new_heads book fixed nums marks count path s n known) ∙ sym (heads_counted fixed nums marks n)

-- THE LAW of the cases: from the first row on they are the Switch's
pub cases_told : (book fixed nums marks : List ℕ) (limit count slot at n : ℕ) (out done : List ℕ) (v : StdOption ℕ) → n < count → slot + 1 + 2 * count_heads fixed nums marks n ≡ at
    → SwitchLeft book fixed nums marks limit count n 0 slot at out done v → CasesTold book fixed nums marks limit count slot at n out done v
cases_told book fixed nums marks limit count slot at n out done v known room told =
    all_told (Stands book fixed nums marks count) (cases_for book marks n) (new_head fixed nums marks n) 64 limit slot at out done v (λ path. heads (place_numbered n path.uncovered) (rows_left book marks 0 64))
    (λ path s. (
      new_heads book fixed nums marks count path s n known,
      rows_tables book marks (place_numbered n path.uncovered) s.accepted 64 0,
      omega (arith, room, switch_many book fixed nums marks count path s n known),
    ))
    told
