-- Where the root is entered for a symbol with so many arguments, the rows that cover it are left, each with the other arguments set aside, and the tables stand
-- for the path below the root; taking the root's mark and the struck rows back leaves the tables as they were.
use mathlib.Core.Path.{◌≡◌, refl, sym, ap, ◌∙◌}
use mathlib.Core.Bool.{Bool, true, false, ◌&&◌, not}
use mathlib.Core.List.{List, [], ◌∷◌}
use mathlib.Core.Option.{Option, none, some}
use Prim.Native.Nat.{ℕ, zero, suc, ◌+◌, ◌-◌, ◌≤◌, ◌<◌}
use native.Mathlib.Omega.{arith}
use lib.Dec.{eqb, ltb, leb}
use lib.ListN.{length, get_or, set, length-set}
use lib.Seq.{get_or-set_same, get_or-set_other}
use borrow.Author.Tests.{eqb-true, eqb-false, ne_eqb, lt-ltb, le-ltb, leb-true, leb-false}
use Rattle.term.specs.Word.{Head, symbol, word, ident_of, count_of, InTable, pick}
use Rattle.term.specs.Word as words
use Rattle.term.proofs.Laws.{never, count_word_lem, ident_word, count_symbol, ident_symbol, symbol_table}
use Rattle.book.specs.Book.{Rule, rule_at}
use Rattle.fit.specs.Left.{Left}
use Rattle.fit.specs.Front.{root_arguments, covers}
use Rattle.fit.specs.Match.{left_in}
use Rattle.fit.proofs.Laws.{covers_symbol}
use Rattle.tree.specs.Path.{start, place_numbered}
use Rattle.tree.specs.Rows.{head_at}
use Rattle.tree.specs.Compile.{entering}
use Rattle.tree.specs.Root.{root_case_rows}
use Rattle.compiler.specs.Told.Tables.{Changed, only_at, unmarked, forgotten, is_free, is_row, root_has, of_free_row, struck_rows, rows_numbered, leaves_out}
use Rattle.compiler.specs.Told.Stands.{row_if, rows_left, Stands, TreeReady}
use Rattle.tree.proofs.Laws.{root_rows_none, root_rows_row, head_at_root, open_root, root_place}
use Rattle.compiler.proofs.Restores.{Below, Marked, rows_marked, marked_below, rows_apart, set_back, Grown, Apart, unmark_restores, forget_restores}
use Rattle.compiler.proofs.RowsLeft.{row_of_rule, struck_free, rows_step, rows_ended}
use Rattle.compiler.proofs.StruckRows.{struck_later}
use Rattle.compiler.proofs.RootSymbols.{root_symbol_lem}
use Rattle.compiler.proofs.EnteredRows.{Enters}
use Rattle.compiler.proofs.EnteredTables.{all_numbered, all_apart}
use Rattle.compiler.proofs.Entered.{all_stand}
use Rattle.compiler.proofs.Readies.{rows_of_set}

both_true : (a b : Bool) → a && not b ≡ true → (a ≡ true) × (b ≡ false)
both_true true true e = never (cc)
both_true true false e = (refl, refl)
both_true false b e = never (cc)

-- a row is struck just where it does not cover the head
out_is : (x : Bool) (a b : ℕ) → pick x (ltb a b) true ≡ not (x && leb b a)
out_is false a b = refl
out_is true a b = go (leb b a) refl
  where
    go : (l : Bool) → leb b a ≡ l → ltb a b ≡ not l
    go true e = le-ltb a b (leb-true b a e)
    go false e = lt-ltb a b (leb-false b a e)

set_low : (n : ℕ) (l : List ℕ) (i v : ℕ) → i < length l → v < n → Below n l → Below n (set l i v)
set_low n l i v h m b k = go (eqb k i) refl
  where
    go : (c : Bool) → eqb k i ≡ c → get_or (set l i v) k 0 < n
    go true e = rw (eqb-true k i e) (omega (arith, get_or-set_same l i v 0 h, m))
    go false e = omega (arith, get_or-set_other l i k v 0 (eqb-false k i e), b k)

-- ---- a symbol with its word
module _ (i a w : ℕ) (few : a ≤ 15) (known : i ≤ 1023) (is : word (symbol i a) ≡ w) where
  pub symbol_in : InTable (symbol i a)
  symbol_in = symbol_table i a few known

  pub word_counts : count_of w ≡ a
  word_counts = ap count_of (sym is) ∙ count_word_lem (symbol i a) symbol_in ∙ count_symbol i a

  word_ident : ident_of w ≡ i
  word_ident = ap ident_of (sym is) ∙ ident_word (symbol i a) symbol_in ∙ ident_symbol i a

  module _ (book fixed nums marks : List ℕ) (s : Stands book fixed nums marks 1 start) (struck : List ℕ) (changed : Changed (struck_rows (leaves_out fixed w) 17) marks struck)
      (sizes : (length struck ≡ 12352) × (length nums ≡ 4096) × (length fixed ≡ 8256)) where
    abbrev after : List ℕ
    after = set struck 64 (count_of w + 1)

    real : ◌≡◌ {A = ℕ} 17 0 → ⊥
    real e = omega (arith, e)

    -- ---- the rows that are left
    out_row : (r : ℕ) (rule : Rule) → r < 64 → is_free marks r ≡ true → rule_at book r ≡ some rule → leaves_out fixed w r ≡ not (covers (left_in rule) (symbol i a))
    out_row r rule l f e =
        let t = root_symbol_lem book fixed nums marks 1 start s r rule l f e in
        rw (t.idents, t.counts, word_ident, word_counts, t.is, covers_symbol i a t.ident t.arguments t.kids t.rest) (out_is (eqb t.ident i) a t.arguments)

    free_after : (r : ℕ) → r < 64 → is_free after r ≡ is_free marks r && not (leaves_out fixed w r)
    free_after r l = ap (λ (x : ℕ). eqb x 0) (get_or-set_other struck 64 r (count_of w + 1) 0 (λ z. omega (arith, z, l))) ∙ struck_free (leaves_out fixed w) 17 marks struck changed real r l

    root_has_lem : root_has after ≡ a
    root_has_lem = omega (arith, get_or-set_same struck 64 (count_of w + 1) 0 (omega (arith, sizes.0)), word_counts)

    rows_are : (more r : ℕ) → r + more ≤ 64 → rows_left book after r more ≡ root_case_rows (symbol i a) (rows_left book marks r more)
    rows_are zero r l = rows_ended book after r ∙ sym (ap (root_case_rows (symbol i a)) (rows_ended book marks r) ∙ root_rows_none (symbol i a))
    rows_are (suc more) r l =
        rows_step book after r more
        ∙ rw (free_after r (omega arith), root_has_lem, rows_step book marks r more) (go (is_free marks r) refl (rule_at book r) refl (rows_are more (suc r) (omega arith)))
      where
        go : (x : Bool) → is_free marks r ≡ x → (o : Option Rule) → rule_at book r ≡ o → rows_left book after (suc r) more ≡ root_case_rows (symbol i a) (rows_left book marks (suc r) more)
            → row_if (x && not (leaves_out fixed w r)) a r o (rows_left book after (suc r) more) ≡ root_case_rows (symbol i a) (row_if x (root_has marks) r o (rows_left book marks (suc r) more))
        go false f o e q = q
        go true f none e q = last (not (leaves_out fixed w r))
          where
            last : (b : Bool) → row_if b a r none (rows_left book after (suc r) more) ≡ root_case_rows (symbol i a) (rows_left book marks (suc r) more)
            last true = q
            last false = q
        go true f (some rule) e q = rw (out_row r rule (omega arith) f e, root_rows_row (symbol i a) (row_of_rule marks r rule) (rows_left book marks (suc r) more)) (kept (covers (left_in rule) (symbol i a)))
          where
            kept : (b : Bool) → row_if (not (not b)) a r (some rule) (rows_left book after (suc r) more)
                ≡ pick b (record { number = r; vars = rule.vars; left = left_in rule; aside = words.count (symbol i a) - root_arguments (left_in rule) } ∷ root_case_rows (symbol i a) (rows_left book marks (suc r) more))
                (root_case_rows (symbol i a) (rows_left book marks (suc r) more))
            kept true = rw (count_symbol i a, q)
            kept false = q

    pub root_rows : rows_left book after 0 64 ≡ root_case_rows (symbol i a) (rows_left book marks 0 64)
    root_rows = rows_are 64 0 (omega arith)

    -- ---- entering
    free_before : (r : ℕ) → r < 64 → is_free struck r ≡ true → (is_free marks r ≡ true) × (leaves_out fixed w r ≡ false)
    free_before r l f = both_true (is_free marks r) (leaves_out fixed w r) (sym (struck_free (leaves_out fixed w) 17 marks struck changed real r l) ∙ f)

    narrow : (r : ℕ) (rule : Rule) → r < 64 → is_free struck r ≡ true → rule_at book r ≡ some rule → (g : Head) → head_at (left_in rule) (place_numbered 0 start.uncovered) ≡ some g → words.count g ≤ words.count (symbol i a)
    narrow r rule l f e g z =
        let b = free_before r l f in
        let t = root_symbol_lem book fixed nums marks 1 start s r rule l b.0 e in
        let y : ◌≡◌ {A = Option Head} (some (symbol t.ident t.arguments)) (some g) =
        sym (ap (head_at (left_in rule)) root_place ∙ ap (λ (x : Left). head_at x (0 ∷ [])) t.is ∙ head_at_root (symbol t.ident t.arguments) t.kids t.rest) ∙ z in
        let x : symbol t.ident t.arguments ≡ g = cc in
        let c : not (eqb t.ident i && leb t.arguments a) ≡ false =
        sym (ap not (ap (λ (k : Left). covers k (symbol i a)) t.is ∙ covers_symbol i a t.ident t.arguments t.kids t.rest)) ∙ sym (out_row r rule l b.0 e) ∙ b.1 in
        omega (arith, sym (ap words.count x) ∙ count_symbol t.ident t.arguments, count_symbol i a, fewer (eqb t.ident i) t.arguments c)
      where
        fewer : (x : Bool) (b : ℕ) → not (x && leb b a) ≡ false → b ≤ a
        fewer x b e = go x (leb b a) refl e
          where
            go : (x l : Bool) → leb b a ≡ l → not (x && l) ≡ false → b ≤ a
            go true true q e = leb-true b a q
            go true false q e = never (cc)
            go false l q e = never (cc)

    root_enters : Enters book fixed nums marks 1 start 0 (symbol i a) (count_of w + 1) struck
    root_enters =
        record {
          stands = s;
          known = omega arith;
          opened = open_root;
          below = (0, [], root_place);
          fewer = λ r l f. (free_before r l f).0;
          others = struck_later (leaves_out fixed w) 17 marks struck changed;
          narrow = narrow;
          filled = λ l. absurd (omega (arith, l, count_symbol i a, few));
          mark = λ e. omega (arith, e);
          spots = sizes.1;
          words = sizes.2;
        }

    abbrev next : List ℕ
    next = rows_numbered fixed struck 0 1 0 64 nums

    pub root_stands : Stands book fixed next after (1 + count_of w) (entering 0 (symbol i a) start)
    root_stands =
        let z : words.count (symbol i a) ≡ count_of w = count_symbol i a ∙ sym word_counts in
        rw z at (all_stand book fixed nums marks 1 start 0 (symbol i a) (count_of w + 1) struck root_enters sizes.0)

    root_grown : Grown 1 nums next
    root_grown = (all_numbered book fixed nums marks 1 start 0 (symbol i a) (count_of w + 1) struck root_enters).grown

    root_apart : Apart (of_free_row struck 0) nums next
    root_apart = all_apart book fixed nums marks 1 start 0 (symbol i a) (count_of w + 1) struck root_enters

    -- ---- the tables
    module _ (low : (k : ℕ) → get_or marks k 0 < 2) (size : length struck ≡ length marks) where
      below : Below 17 marks
      below k = omega (arith, low k)

      rows_struck : Marked 17 marks struck
      rows_struck = rows_marked (leaves_out fixed w) 17 marks struck size changed

      root_open : get_or struck 64 0 ≡ 0
      root_open = struck_later (leaves_out fixed w) 17 marks struck changed 64 (omega arith) ∙ eqb-true (get_or marks 64 0) 0 (s.opened 0 (omega arith) ∙ open_root)

      pub root_ready : (limit at : ℕ) → limit ≤ 16384 → 0 < at → at ≤ limit + 5000 → TreeReady fixed next after limit (1 + count_of w) at
      root_ready limit at m b r =
          record {
            sizes = (sizes.2, root_grown.long ∙ sizes.1, length-set struck 64 (count_of w + 1) ∙ sizes.0);
            within = (m, r);
            older = set_low (at + 17) struck 64 (count_of w + 1) (omega (arith, sizes.0)) (omega (arith, word_counts, few)) (marked_below 17 (at + 17) marks struck below rows_struck (omega arith));
            inner = ne_eqb (get_or after 64 0) 0 (λ e. omega (arith, e, get_or-set_same struck 64 (count_of w + 1) 0 (omega (arith, sizes.0))));
            book = book;
            path = entering 0 (symbol i a) start;
            stands = root_stands;
          }

      pub root_marks_restored : (marks₃ last : List ℕ) → marks₃ ≡ after → length last ≡ length (set marks₃ 64 0) → Changed (only_at is_row (unmarked 17)) (set marks₃ 64 0) last → last ≡ marks
      root_marks_restored marks₃ last e l c =
          let z : set marks₃ 64 0 ≡ struck = ap (λ (x : List ℕ). set x 64 0) e ∙ set_back struck 64 (count_of w + 1) (omega (arith, sizes.0)) root_open in
          unmark_restores is_row 17 marks struck last below rows_struck (rows_apart (leaves_out fixed w) 17 marks struck changed) (l ∙ ap length z) (rw z at c)

      pub root_nums_restored : (nums₃ marks₃ last : List ℕ) → nums₃ ≡ next → marks₃ ≡ after → length last ≡ length nums₃ → Changed (only_at (of_free_row marks₃ 0) (forgotten 1)) nums₃ last → last ≡ nums
      root_nums_restored nums₃ marks₃ last e z l c =
          forget_restores (of_free_row after 0) 1 nums next last s.most root_grown (λ k q. root_apart k (sym (rows_of_set struck 0 (count_of w + 1) k) ∙ q)) (l ∙ ap length e) (rw (e, z) at c)
