-- A run through one case of the root: each state of the tables and of the output is the one before it, changed, and where it ends the tables are as at entry.
use mathlib.Core.Path.{◌≡◌, sym, ap, ◌∙◌}
use mathlib.Core.List.{List}
use Prim.Native.Nat.{ℕ, ◌+◌, ◌≤◌}
use lib.ListN.{length, set}
use Rattle.std.specs.Prelude.{Option, Some, None}
use Rattle.term.specs.Word.{Head, symbol, word, count_of, InTable}
use Rattle.tree.specs.Path.{OnPath, start}
use Rattle.tree.specs.Compile.{entering, compile}
use Rattle.compiler.specs.Told.Tables.{Changed, only_at, unmarked, forgotten, is_row, of_free_row, struck_rows, rows_numbered, leaves_out}
use Rattle.compiler.specs.Told.Stands.{rows_left, Stands, TreeReady, TreeKept, TreeTold}
use Rattle.compiler.specs.Told.NodeTold.{OneTold}
use Rattle.compiler.specs.Told.RootTold.{RootCasesReady, RootHead, root_case_tree, RootCaseTold}
use Rattle.tree.proofs.Laws.{same_head}
use Rattle.compiler.proofs.TestRuns.{Subtree}
use Rattle.compiler.proofs.RootEntered.{symbol_in, root_rows, root_stands, root_ready, root_marks_restored, root_nums_restored}

-- what a case tells and keeps, its answer being known
abbrev pub OneRoot : List ℕ → List ℕ → List ℕ → ℕ → ℕ → ℕ → List ℕ → List ℕ → List ℕ → List ℕ → Option ℕ → Type 0
OneRoot fixed nums marks limit at w out done nums-after marks-after x =
    ((book : List ℕ) → RootCaseTold book fixed nums marks limit at w out done x) × TreeKept nums marks limit at nums-after marks-after x

module _ (fixed nums marks : List ℕ) (limit at w : ℕ) (h : RootHead w) (struck : List ℕ) (changed : Changed (struck_rows (leaves_out fixed w) 17) marks struck)
    (sizes : (length struck ≡ 12352) × (length nums ≡ 4096) × (length fixed ≡ 8256)) (book out done : List ℕ) where
  abbrev own : Head
  own = symbol h.ident h.arguments

  same_own : (g : Head) → word g ≡ w → InTable g → g ≡ own
  same_own g e i = same_head g own i (symbol_in h.ident h.arguments w h.few h.low h.is) (e ∙ sym h.is)

  tree_is : (path : OnPath) → Stands book fixed nums marks 1 start → compile (entering 0 own start) (rows_left book (set struck 64 (count_of w + 1)) 0 64) ≡ root_case_tree book marks path own
  tree_is path s = ap (compile (entering 0 own start)) (root_rows h.ident h.arguments w h.few h.low h.is book fixed nums marks s struck changed sizes)

  stands : Stands book fixed nums marks 1 start → Stands book fixed (rows_numbered fixed struck 0 1 0 64 nums) (set struck 64 (count_of w + 1)) (1 + count_of w) (entering 0 own start)
  stands s = root_stands h.ident h.arguments w h.few h.low h.is book fixed nums marks s struck changed sizes

  case_told : (a : ℕ) → TreeTold book fixed (rows_numbered fixed struck 0 1 0 64 nums) (set struck 64 (count_of w + 1)) limit (1 + count_of w) at out done (Some a)
      → RootCaseTold book fixed nums marks limit at w out done (Some a)
  unfolding TreeTold OneTold
  case_told a told path s g e i = rw (same_own g e i) (rw (tree_is path s) at (told (entering 0 own start) (stands s)))

  case_stuck : TreeTold book fixed (rows_numbered fixed struck 0 1 0 64 nums) (set struck 64 (count_of w + 1)) limit (1 + count_of w) at out done None
      → RootCaseTold book fixed nums marks limit at w out done None
  unfolding TreeTold OneTold
  case_stuck told path s g e i = rw (same_own g e i) (rw (tree_is path s) at (told (entering 0 own start) (stands s)))

module _ (fixed nums marks : List ℕ) (limit at w : ℕ) (t : RootCasesReady fixed nums marks limit at) (h : RootHead w) (out struck : List ℕ) (size : length struck ≡ length marks)
    (changed : Changed (struck_rows (leaves_out fixed w) 17) marks struck) (nums₂ : List ℕ) (numbers : nums₂ ≡ rows_numbered fixed struck 0 1 0 64 nums) (more : ℕ) (counts : more ≡ count_of w) where
  all_sizes : (length struck ≡ 12352) × (length nums ≡ 4096) × (length fixed ≡ 8256)
  all_sizes = (size ∙ t.ready.sizes.2, t.ready.sizes.1, t.ready.sizes.0)

  pub root_needs : TreeReady fixed nums₂ (set struck 64 (more + 1)) limit (1 + more) at
  root_needs =
      rw (numbers, counts)
      (root_ready h.ident h.arguments w h.few h.low h.is t.ready.book fixed nums marks t.ready.stands struck changed all_sizes t.ready.low size limit at t.ready.most t.begun t.room)

  module _ (done nums₃ marks₃ : List ℕ) (x : Option ℕ) (sub : Subtree fixed nums₂ (set struck 64 (more + 1)) limit (1 + more) at out done nums₃ marks₃ x) where
    pub root_over : x ≡ None → (book : List ℕ) → RootCaseTold book fixed nums marks limit at w out done None
    root_over e book = case_stuck fixed nums marks limit at w h struck changed all_sizes book out done (rw (numbers, counts, e) at (sub.0 book))

    pub root_done : (next : ℕ) → x ≡ Some next → (nums₄ marks₄ : List ℕ) → length nums₄ ≡ length nums₃ → Changed (only_at (of_free_row marks₃ 0) (forgotten 1)) nums₃ nums₄
        → length marks₄ ≡ length (set marks₃ 64 0) → Changed (only_at is_row (unmarked 17)) (set marks₃ 64 0) marks₄ → OneRoot fixed nums marks limit at w out done nums₄ marks₄ (Some next)
    root_done next e nums₄ marks₄ nums_size forgets marks-size unmarks =
        let k : (nums₃ ≡ nums₂) × (marks₃ ≡ set struck 64 (count_of w + 1)) × (at ≤ next) × (next ≤ limit + 5000) = rw (e, counts) at sub.1 in (
          λ book. case_told fixed nums marks limit at w h struck changed all_sizes book out done next (rw (numbers, counts, e) at (sub.0 book)),
          (
            root_nums_restored h.ident h.arguments w h.few h.low h.is t.ready.book fixed nums marks t.ready.stands struck changed all_sizes t.ready.low size nums₃ marks₃ nums₄ (k.0 ∙ numbers) k.1 nums_size forgets,
            root_marks_restored h.ident h.arguments w h.few h.low h.is t.ready.book fixed nums marks t.ready.stands struck changed all_sizes t.ready.low size marks₃ marks₄ k.1 marks-size unmarks,
            k.2,
            k.3,
          ),
        )
