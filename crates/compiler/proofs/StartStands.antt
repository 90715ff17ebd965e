-- What loading leaves stands for the start of a path, and the rows that are not struck are the rules of the book.
use mathlib.Core.Path.{◌≡◌, refl, sym, ap, ◌∙◌}
use mathlib.Core.Bool.{Bool, true, false}
use mathlib.Core.List.{List, []}
use mathlib.Core.Option.{Option, none, some}
use Prim.Native.Nat.{ℕ, zero, suc, ◌+◌, ◌-◌, ◌<◌}
use native.Mathlib.Omega.{arith}
use lib.Dec.{ltb}
use lib.ListN.{length, get_or, get_or-eq_default}
use borrow.Author.Tests.{ltb-true, ltb-false}
use Rattle.std.specs.Prelude.{Ok}
use Rattle.term.specs.Row.{Row, nothing, node, width, words}
use Rattle.term.proofs.Laws.{never, width_nothing, words_node}
use Rattle.book.specs.Book.{Rule, check_book, rule_at}
use Rattle.book.proofs.Laws.{book_rule, book_rules, number_rule, rule_number}
use Rattle.fit.specs.Front.{root_arguments}
use Rattle.fit.specs.Match.{left_in}
use Rattle.tree.specs.Path.{start}
use Rattle.tree.specs.Compile.{book_rows}
use Rattle.compiler.specs.Told.Tables.{Changed, is_free, root_has}
use Rattle.compiler.specs.Told.Stands.{row_if, rows_left, Stands}
use Rattle.compiler.specs.Told.Loaded.{RulesAt, root_numbered, absent_marked}
use Rattle.tree.proofs.Laws.{rows_none, rows_more, below_root}
use Rattle.compiler.proofs.StartTables.{open_first, new_root, mark_free, root_one, at_most_one, marks_low, row_absent, row_free, row_stands}

some_words : (f : Row) → width f ≡ 1 → 0 < length (words f)
some_words nothing e = absurd (omega (arith, e, width_nothing))
some_words (node h kids rest) e = omega (arith, ap length (words_node h kids rest))

module _ (book fixed nums marks : List ℕ) (accepted : check_book book ≡ Ok tt) (rules : RulesAt book fixed 64) (numbers : (k : ℕ) → get_or nums k 0 ≡ root_numbered k 0)
    (struck : (k : ℕ) → get_or marks k 0 ≡ absent_marked book k 0) where
  left_some : (r : ℕ) (rule : Rule) → rule_at book r ≡ some rule → 0 < length rule.left
  left_some r rule e =
      let i = (book_rule book r rule accepted e).left_tree in
      omega (arith, ap length i.same, some_words i.tree i.one)

  pub start_stands : Stands book fixed nums marks 1 start
  start_stands =
      record {
        accepted = accepted;
        counted = refl;
        opened = λ n h. mark_free book fixed nums marks accepted rules numbers struck (64 + n) (omega arith) ∙ sym (open_first n (omega (arith, h)));
        later = λ n l u. mark_free book fixed nums marks accepted rules numbers struck (64 + n) (omega arith);
        once = λ n m a b e. omega (arith, a, b);
        new = new_root;
        above = λ i j p e. below_root i j p;
        roots = root_one book fixed nums marks accepted rules numbers struck;
        used = λ n l h. absurd (omega arith);
        most = at_most_one book fixed nums marks accepted rules numbers struck;
        absent = row_absent book fixed nums marks accepted rules numbers struck;
        rows = λ r rule h f e. row_stands book fixed nums marks accepted rules numbers struck r rule h e (left_some r rule e);
      }

  -- ---- the rows
  -- no argument is set aside where the root is not entered
  none_aside : (n : ℕ) → root_has marks - n ≡ 0
  none_aside n = omega (arith, struck 64)

  left_step : (r more : ℕ) → rows_left book marks r (suc more) ≡ row_if (is_free marks r) (root_has marks) r (rule_at book r) (rows_left book marks (suc r) more)
  unfolding rows_left
  left_step r more = refl

  left_end : (r : ℕ) → rows_left book marks r 0 ≡ []
  unfolding rows_left
  left_end r = refl

  rows_from_lem : (more r : ℕ) → r + more ≡ 64 → rows_left book marks r more ≡ book_rows book r (get_or book 0 0 - r)
  rows_from_lem zero r e = left_end r ∙ sym (rows_none book r (get_or book 0 0 - r) (omega (arith, e, (book_rules book accepted).1)))
  rows_from_lem (suc more) r e = left_step r more ∙ go (rule_at book r) refl (rows_from_lem more (suc r) (omega (arith, e)))
    where
      go : (o : Option Rule) → rule_at book r ≡ o → rows_left book marks (suc r) more ≡ book_rows book (suc r) (get_or book 0 0 - suc r)
          → row_if (is_free marks r) (root_has marks) r (rule_at book r) (rows_left book marks (suc r) more) ≡ book_rows book r (get_or book 0 0 - r)
      go none q i = absent (ltb r (get_or book 0 0)) refl
        where
          absent : (b : Bool) → ltb r (get_or book 0 0) ≡ b → row_if (is_free marks r) (root_has marks) r (rule_at book r) (rows_left book marks (suc r) more) ≡ book_rows book r (get_or book 0 0 - r)
          absent true z = never (let y = (number_rule book r accepted (ltb-true r (get_or book 0 0) z)).1 in cc)
          absent false z =
              let l = ltb-false r (get_or book 0 0) z in
              rw (row_absent book fixed nums marks accepted rules numbers struck r (omega (arith, e)) q)
              (i ∙ rows_none book (suc r) (get_or book 0 0 - suc r) (omega (arith, l)) ∙ sym (rows_none book r (get_or book 0 0 - r) (omega (arith, l))))
      go (some rule) q i =
          let l = rule_number book r rule q in
          let z : get_or book 0 0 - r ≡ suc (get_or book 0 0 - suc r) = omega (arith, l) in
          rw (z, rows_more book r (get_or book 0 0 - suc r), row_free book fixed nums marks accepted rules numbers struck r rule (omega (arith, e)) q, q, i, none_aside (root_arguments (left_in rule)))

  pub start_rows : rows_left book marks 0 64 ≡ book_rows book 0 (get_or book 0 0)
  start_rows =
      let z : get_or book 0 0 - 0 ≡ get_or book 0 0 = omega arith in
      rw z at (rows_from_lem 64 0 refl)

-- ---- what load leaves
module _ (book fixed nums₀ nums marks₀ marks : List ℕ) (accepted : check_book book ≡ Ok tt) (rules : RulesAt book fixed 64) (long : length nums₀ ≡ 4096)
    (numbered : Changed root_numbered nums₀ nums) (clear : (k : ℕ) → get_or marks₀ k 0 ≡ 0) (marked : Changed (absent_marked book) marks₀ marks) where
  numbers_are : (k : ℕ) → get_or nums k 0 ≡ root_numbered k 0
  unfolding Changed
  numbers_are k = numbered k ∙ go (ltb k 4096) refl
    where
      go : (b : Bool) → ltb k 4096 ≡ b → root_numbered k (get_or nums₀ k 0) ≡ root_numbered k 0
      go true q = rw q
      go false q = ap (root_numbered k) (get_or-eq_default nums₀ 0 {n = k} (omega (arith, long, ltb-false k 4096 q)))

  marks_are : (k : ℕ) → get_or marks k 0 ≡ absent_marked book k 0
  unfolding Changed
  marks_are k = marked k ∙ ap (absent_marked book k) (clear k)

  pub loaded : Stands book fixed nums marks 1 start × (rows_left book marks 0 64 ≡ book_rows book 0 (get_or book 0 0)) × ((k : ℕ) → get_or marks k 0 < 2)
  loaded = (
    start_stands book fixed nums marks accepted rules numbers_are marks_are,
    start_rows book fixed nums marks accepted rules numbers_are marks_are,
    marks_low book fixed nums marks accepted rules numbers_are marks_are,
  )
