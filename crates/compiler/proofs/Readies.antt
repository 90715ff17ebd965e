-- Each call of the cycle has what it needs, finds fewer words and constraints left, and leaves the tables as it found them: a node strikes and numbers under
-- its own mark and past its own count, which are new.
use mathlib.Core.Path.{◌≡◌, refl, sym, ap, ◌∙◌}
use mathlib.Core.Bool.{Bool, true, false}
use mathlib.Core.List.{List, ◌∷◌}
use Prim.Native.Nat.{ℕ, zero, suc, ◌+◌, ◌-◌, ◌*◌, ◌≤◌, ◌<◌}
use native.Mathlib.Omega.{arith}
use lib.Dec.{eqb, ltb}
use lib.ListN.{length, get_or, set, length-set, length-append}
use lib.Seq.{get_or-set_same, get_or-set_other}
use borrow.Author.Tests.{eqb-true, ne_eqb, ltb-true, lt-ltb, le-ltb}
use Rattle.term.specs.Word.{word, pick, count_of}
use Rattle.fit.specs.Match.{left_in}
use Rattle.tree.specs.Compile.{entering, holding}
use Rattle.compiler.specs.Told.Tables.{Changed, only_at, unmarked, forgotten, is_free, is_row, row_of, of_free_row, kind_from, struck_rows, first_row, head_word, has_other, is_other, new_head, is_head_word, count_heads, first_constraint, struck_same, strikes, row_has, rows_numbered, size_at, ids_at, occurrence_words, variable_spot, first_spot, leaf_from, leaf_words, same_words_of, front_words}
use Rattle.compiler.specs.Told.Stands.{TreeReady}
use Rattle.compiler.specs.Told.NodeTold.{left_in_rows, SwitchReady, TestReady, CasesReady, HeadOfCase}
use Rattle.tree.proofs.Laws.{open_at}
use Rattle.compiler.proofs.WordLaws.{length_ids}
use Rattle.compiler.proofs.SpotHeads.{head_or}
use Rattle.compiler.proofs.Strikes.{row_head, head_kinds}
use Rattle.compiler.proofs.StruckRows.{struck_later, struck_stands}
use Rattle.compiler.proofs.Restores.{Marked, marked_join, rows_marked, same_marked, set_marked, marked_below, still_shut, rows_apart, same_apart, set_back, unmark_restores, forget_restores}
use Rattle.compiler.proofs.CasesLaid.{heads_few}
use Rattle.compiler.proofs.NewHeads.{heads_counted, new_head_row}
use Rattle.compiler.proofs.LeftFalls.{case_falls, default_falls, yes_falls, no_falls}
use Rattle.compiler.proofs.ToldNodes.{first_row_lem, lowest_open_lem, first_test}
use Rattle.compiler.proofs.ToldCases.{CaseIs, case_is}
use Rattle.compiler.proofs.ToldSwitch.{lowest_known}
use Rattle.compiler.proofs.FirstLeft.{FirstLeft}
use Rattle.compiler.proofs.Entered.{count_most}
use Rattle.compiler.proofs.TableLaws.{head_there}

-- ---- how long the words of a node are
leaf_most : (fixed nums : List ℕ) (r x more : ℕ) → length (leaf_from fixed nums r x more) ≤ 257 * more
unfolding leaf_from
leaf_most fixed nums r x zero = omega arith
leaf_most fixed nums r x (suc more) =
    omega (
      arith,
      leaf_most fixed nums r (suc x) more,
      length-append (occurrence_words fixed nums (variable_spot fixed r x)) (leaf_from fixed nums r (suc x) more),
      length_ids fixed (variable_spot fixed r x) 0 (size_at fixed (variable_spot fixed r x)),
    )

pub leaf_long : (fixed nums marks : List ℕ) (r : ℕ) → get_or fixed (8192 + r) 0 ≤ 16 → length (leaf_words fixed nums marks r) ≤ 4116
unfolding leaf_words
leaf_long fixed nums marks r h = omega (arith, h, leaf_most fixed nums r 0 (get_or fixed (8192 + r) 0))

pub front_long : (fixed nums : List ℕ) (id : ℕ) → length (front_words fixed nums id) ≤ 514
unfolding front_words
front_long fixed nums id = go (ltb id 8256)
  where
    go : (b : Bool) → length (pick b (3 ∷ occurrence_words fixed nums (id - 4160)) (same_words_of fixed nums (first_spot fixed (id - 8256)) (id - 8256))) ≤ 514
    go true = omega (arith, length_ids fixed (id - 4160) 0 (size_at fixed (id - 4160)))
    go false =
        omega (
          arith,
          length-append (ids_at fixed (first_spot fixed (id - 8256))) (ids_at fixed (id - 8256)),
          length_ids fixed (first_spot fixed (id - 8256)) 0 (size_at fixed (first_spot fixed (id - 8256))),
          length_ids fixed (id - 8256) 0 (size_at fixed (id - 8256)),
        )

pub heads_most : (fixed nums marks : List ℕ) (n : ℕ) → count_heads fixed nums marks n ≤ 64
heads_most fixed nums marks n = omega (arith, heads_counted fixed nums marks n, heads_few (new_head fixed nums marks n) 0 64)

-- ---- a tree
module _ (fixed nums marks : List ℕ) (limit count at : ℕ) (t : TreeReady fixed nums marks limit count at) where
  pub few_places : count ≤ 4096
  few_places = count_most t.book fixed nums marks count t.path t.stands t.sizes.1

  pub low_numbers : (k : ℕ) → get_or nums k 0 ≤ 4096
  low_numbers k = omega (arith, t.stands.most k, few_places)

  pub few_variables : first_row marks < 64 → get_or fixed (8192 + first_row marks) 0 ≤ 16
  few_variables h =
      let f = first_row_lem t.book fixed nums marks count t.path t.stands h in
      let r = t.stands.rows (first_row marks) f.rule h f.free f.is in
      omega (arith, r.variables, r.few)

-- ---- the rows that a test holds for are struck
struck_row : (p : ℕ → Bool) (m : ℕ) (before after : List ℕ) → Changed (struck_rows p m) before after → (r : ℕ) → r < 64 → is_free before r ≡ true → p r ≡ true → get_or after r 0 ≡ m
unfolding Changed
struck_row p m before after c r h f e = c r ∙ rw (lt-ltb r 64 h, f, e)

struck_own : (fixed nums marks : List ℕ) (id m : ℕ) (after : List ℕ) → Changed (struck_same fixed nums marks id m) marks after → 4160 ≤ id → id < 12352 → is_free marks id ≡ true → strikes fixed nums marks id id ≡ true
    → get_or after id 0 ≡ m
unfolding Changed
struck_own fixed nums marks id m after c l h f e = c id ∙ go (ltb id 8256) refl
  where
    kind : (b : Bool) → ltb id 8256 ≡ b → (ltb id (pick b 4160 8256) ≡ false) × (ltb id (pick b 4160 8256 + 4096) ≡ true)
    kind true q = (le-ltb id 4160 l, q)
    kind false q = (q, lt-ltb id (8256 + 4096) (omega arith))

    go : (b : Bool) → ltb id 8256 ≡ b → struck_same fixed nums marks id m id (get_or marks id 0) ≡ m
    go b q = let k = kind (ltb id 8256) refl in rw (k.0, k.1, f, e)

-- a mark that is no row's changes no row
pub rows_of_set : (l : List ℕ) (n m k : ℕ) → of_free_row (set l (64 + n) m) 0 k ≡ of_free_row l 0 k
rows_of_set l n m k = go (ltb k (0 + 4096)) refl
  where
    go : (b : Bool) → ltb k (0 + 4096) ≡ b → pick (ltb k 0) false (pick b (is_free (set l (64 + n) m) (row_of 0 k)) false) ≡ pick (ltb k 0) false (pick b (is_free l (row_of 0 k)) false)
    go true q = rw (get_or-set_other l (64 + n) (row_of 0 k) m 0 (λ e. omega (arith, e, ltb-true k (0 + 4096) q)))
    go false q = refl

-- ---- a test
module _ (fixed nums marks : List ℕ) (limit count at id : ℕ) (t : TestReady fixed nums marks limit count at id) where
  abbrev ready : TreeReady fixed nums marks limit count at
  ready = t.ready

  first_one : FirstLeft ready.book fixed nums marks count ready.path (first_row marks) (first_row_lem ready.book fixed nums marks count ready.path ready.stands t.first).rule
  first_one = first_test ready.book fixed nums marks count ready.path ready.stands t.first t.none_open (λ e. t.some_left (t.is ∙ e))

  test_id : (4160 ≤ id) × (id < 12352)
  test_id = (omega (arith, t.is, first_one.least), omega (arith, t.is, first_one.most))

  module _ (m : ℕ) (own : m ≡ at + 17) where
    real : m ≡ 0 → ⊥
    real e = omega (arith, e, own)

    below : (k : ℕ) → get_or marks k 0 < m
    below k = omega (arith, own, ready.older k)

    module _ (struck : List ℕ) (size : length struck ≡ length marks) (changed : Changed (struck_same fixed nums marks id m) marks struck) where
      yes_marked : Marked m marks struck
      yes_marked = same_marked fixed nums marks id m marks struck size changed

      changed_is : Changed (struck_same fixed nums marks (first_constraint fixed marks (first_row marks)) m) marks struck
      changed_is = rw t.is at changed

      pub yes_ready : (a : ℕ) → at < a → a ≤ limit + 5000 → TreeReady fixed nums struck limit count a
      yes_ready a h l =
          record {
            sizes = (ready.sizes.0, ready.sizes.1, size ∙ ready.sizes.2);
            within = (ready.within.0, l);
            older = marked_below m (a + 17) marks struck below yes_marked (omega (arith, own));
            inner = still_shut m marks struck yes_marked 64 ready.inner;
            book = ready.book;
            path = holding first_one.c ready.path;
            stands = first_one.yes_stands m struck real changed_is;
          }

      pub yes_less : left_in_rows fixed nums struck < left_in_rows fixed nums marks
      yes_less =
          yes_falls fixed nums marks struck m real yes_marked id test_id.0 test_id.1 own_free own_strikes
          (struck_own fixed nums marks id m struck changed test_id.0 test_id.1 own_free own_strikes)
        where
          own_free : is_free marks id ≡ true
          own_free = rw t.is first_one.own.1

          own_strikes : strikes fixed nums marks id id ≡ true
          own_strikes = rw t.is first_one.own.0

      pub yes_restored : (after last : List ℕ) → after ≡ struck → length last ≡ length after → Changed (only_at (of_free_row after (kind_from id)) (unmarked m)) after last → last ≡ marks
      yes_restored after last e l c =
          unmark_restores (of_free_row struck (kind_from id)) m marks struck last below yes_marked (same_apart fixed nums marks id m struck changed) (l ∙ ap length e) (rw e at c)

    module _ (dropped : List ℕ) (size : length dropped ≡ length marks) (changed : Changed (struck_rows (row_has fixed nums marks id) m) marks dropped) where
      no_marked : Marked m marks dropped
      no_marked = rows_marked (row_has fixed nums marks id) m marks dropped size changed

      pub no_ready : (a : ℕ) → at < a → a ≤ limit + 5000 → TreeReady fixed nums dropped limit count a
      no_ready a h l =
          record {
            sizes = (ready.sizes.0, ready.sizes.1, size ∙ ready.sizes.2);
            within = (ready.within.0, l);
            older = marked_below m (a + 17) marks dropped below no_marked (omega (arith, own));
            inner = still_shut m marks dropped no_marked 64 ready.inner;
            book = ready.book;
            path = ready.path;
            stands = struck_stands ready.book fixed nums marks count ready.path ready.stands (row_has fixed nums marks id) m dropped real changed;
          }

      pub no_less : left_in_rows fixed nums dropped < left_in_rows fixed nums marks
      no_less =
          no_falls fixed nums marks dropped m real no_marked id (first_row marks) test_id.0 test_id.1 t.first own_free own_row
          (struck_row (row_has fixed nums marks id) m marks dropped changed (first_row marks) t.first own_free own_row)
        where
          own_free : is_free marks (first_row marks) ≡ true
          own_free = (first_row_lem ready.book fixed nums marks count ready.path ready.stands t.first).free

          own_row : row_has fixed nums marks id (first_row marks) ≡ true
          own_row = rw t.is first_one.own_row

      pub no_restored : (after last : List ℕ) → after ≡ dropped → length last ≡ length after → Changed (only_at is_row (unmarked m)) after last → last ≡ marks
      no_restored after last e l c = unmark_restores is_row m marks dropped last below no_marked (rows_apart (row_has fixed nums marks id) m marks dropped changed) (l ∙ ap length e) (rw e at c)

-- ---- a Switch
module _ (fixed nums marks : List ℕ) (limit count at n : ℕ) (t : SwitchReady fixed nums marks limit count at n) where
  abbrev switch_ready : TreeReady fixed nums marks limit count at
  switch_ready = t.ready

  pub place_known : (n < count) × (is_free marks (64 + n) ≡ true)
  place_known = lowest_known fixed nums marks count switch_ready.stands.most (first_row marks * 64) n t.lowest

  pub place_small : n < 4096
  place_small = omega (arith, place_known.0, few_places fixed nums marks limit count at switch_ready)

  -- the first row has a head there
  first_head : is_head_word (head_word fixed nums (first_row marks) n) ≡ true
  first_head =
      let f = first_row_lem switch_ready.book fixed nums marks count switch_ready.path switch_ready.stands t.first in
      let o = open_at (left_in f.rule) switch_ready.path.uncovered n (lowest_open_lem switch_ready.book fixed nums marks count switch_ready.path switch_ready.stands t.first n t.lowest) in
      let w = row_head switch_ready.book fixed nums marks count switch_ready.path switch_ready.stands n place_known.0 (first_row marks) f.rule t.first f.free f.is in
      let l = head_kinds switch_ready.book fixed nums marks count switch_ready.path switch_ready.stands n place_known.0 (first_row marks) f.rule t.first f.free f.is o.head o.is in
      ap is_head_word (w ∙ ap head_or o.is) ∙ rw (ne_eqb (word o.head) 33554432 (head_there (word o.head) l))

  module _ (m : ℕ) (own : m ≡ at + 17) where
    switch_real : m ≡ 0 → ⊥
    switch_real e = omega (arith, e, own)

    switch_below : (k : ℕ) → get_or marks k 0 < m
    switch_below k = omega (arith, own, switch_ready.older k)

    pub cases_ready : (first : ℕ) → at < first → first ≤ limit + 5000 → CasesReady fixed nums marks limit count first m n
    cases_ready first h l =
        record {
          sizes = switch_ready.sizes;
          within = (switch_ready.within.0, l);
          older = switch_below;
          newer = omega (arith, own);
          inner = switch_ready.inner;
          known = place_known.0;
          unmarked_place = place_known.1;
          book = switch_ready.book;
          path = switch_ready.path;
          stands = switch_ready.stands;
        }

    module _ (dropped : List ℕ) (size : length dropped ≡ length marks) (changed : Changed (struck_rows (has_other fixed nums n 33554432) m) marks dropped) where
      default_marked : Marked m marks dropped
      default_marked = rows_marked (has_other fixed nums n 33554432) m marks dropped size changed

      pub default_ready : (a : ℕ) → at < a → a ≤ limit + 5000 → TreeReady fixed nums dropped limit count a
      default_ready a h l =
          record {
            sizes = (switch_ready.sizes.0, switch_ready.sizes.1, size ∙ switch_ready.sizes.2);
            within = (switch_ready.within.0, l);
            older = marked_below m (a + 17) marks dropped switch_below default_marked (omega (arith, own));
            inner = still_shut m marks dropped default_marked 64 switch_ready.inner;
            book = switch_ready.book;
            path = switch_ready.path;
            stands = struck_stands switch_ready.book fixed nums marks count switch_ready.path switch_ready.stands (has_other fixed nums n 33554432) m dropped switch_real changed;
          }

      pub default_less : left_in_rows fixed nums dropped < left_in_rows fixed nums marks
      default_less =
          default_falls fixed nums marks dropped m switch_real default_marked (first_row marks) n t.first own_free first_head place_known.1
          (struck_row (has_other fixed nums n 33554432) m marks dropped changed (first_row marks) t.first own_free (other (head_word fixed nums (first_row marks) n) first_head))
        where
          own_free : is_free marks (first_row marks) ≡ true
          own_free = (first_row_lem switch_ready.book fixed nums marks count switch_ready.path switch_ready.stands t.first).free

          other : (g : ℕ) → is_head_word g ≡ true → is_other 33554432 g ≡ true
          other g e = go (eqb g 33554432) e
            where
              go : (b : Bool) → pick b false true ≡ true → pick b false (pick b false true) ≡ true
              go true q = q
              go false q = refl

      pub default_restored : (after last : List ℕ) → after ≡ dropped → length last ≡ length after → Changed (only_at is_row (unmarked m)) after last → last ≡ marks
      default_restored after last e l c =
          unmark_restores is_row m marks dropped last switch_below default_marked (rows_apart (has_other fixed nums n 33554432) m marks dropped changed) (l ∙ ap length e) (rw e at c)

-- ---- a case
module _ (fixed nums marks : List ℕ) (limit count at m n w : ℕ) (t : CasesReady fixed nums marks limit count at m n) (of_row : HeadOfCase fixed nums marks n w) where
  pub case_places : count ≤ 4096
  case_places = count_most t.book fixed nums marks count t.path t.stands t.sizes.1

  pub case_place : n < 4096
  case_place = omega (arith, t.known, case_places)

  case_real : m ≡ 0 → ⊥
  case_real e = omega (arith, e, t.older 0)

  module _ (struck : List ℕ) (size : length struck ≡ length marks) (changed : Changed (struck_rows (has_other fixed nums n w) m) marks struck) where
    the_case : CaseIs t.book fixed nums marks count n w m case_real t.known t.inner t.unmarked_place of_row struck changed (size ∙ t.sizes.2, t.sizes.1, t.sizes.0) t.path
    the_case = case_is t.book fixed nums marks count n w m case_real t.known t.inner t.unmarked_place of_row struck changed (size ∙ t.sizes.2, t.sizes.1, t.sizes.0) t.path t.stands

    place_within : 64 + n < length struck
    place_within = omega (arith, t.known, case_places, size, t.sizes.2)

    place_open : get_or struck (64 + n) 0 ≡ 0
    place_open = struck_later (has_other fixed nums n w) m marks struck changed (64 + n) (omega arith) ∙ eqb-true (get_or marks (64 + n) 0) 0 t.unmarked_place

    rows_struck : Marked m marks struck
    rows_struck = rows_marked (has_other fixed nums n w) m marks struck size changed

    case_marked : Marked m marks (set struck (64 + n) m)
    case_marked = marked_join m marks struck (set struck (64 + n) m) rows_struck (set_marked m struck (64 + n) place_within place_open)

    pub case_ready : TreeReady fixed (rows_numbered fixed struck n count 0 64 nums) (set struck (64 + n) m) limit (count + count_of w) at
    case_ready =
        record {
          sizes = (t.sizes.0, the_case.grown.long ∙ t.sizes.1, length-set struck (64 + n) m ∙ size ∙ t.sizes.2);
          within = t.within;
          older = marked_below m (at + 17) marks (set struck (64 + n) m) t.older case_marked t.newer;
          inner = still_shut m marks (set struck (64 + n) m) case_marked 64 t.inner;
          book = t.book;
          path = entering n the_case.head t.path;
          stands = the_case.stands;
        }

    pub case_less : left_in_rows fixed (rows_numbered fixed struck n count 0 64 nums) (set struck (64 + n) m) < left_in_rows fixed nums marks
    case_less =
        let h = new_head_row fixed nums marks n of_row.row (ap is_head_word (sym of_row.is) ∙ of_row.head) in
        case_falls fixed nums marks (set struck (64 + n) m) m case_real case_marked (rows_numbered fixed struck n count 0 64 nums) count of_row.row n the_case.grown of_row.within h.0
        (ap is_head_word (h.1 ∙ sym of_row.is) ∙ of_row.head) t.unmarked_place (get_or-set_same struck (64 + n) m 0 place_within)

    pub case_marks_restored : (after last : List ℕ) → after ≡ set struck (64 + n) m → length last ≡ length (set after (64 + n) 0) → Changed (only_at is_row (unmarked m)) (set after (64 + n) 0) last → last ≡ marks
    case_marks_restored after last e l c =
        let z : set after (64 + n) 0 ≡ struck = ap (λ (x : List ℕ). set x (64 + n) 0) e ∙ set_back struck (64 + n) m place_within place_open in
        unmark_restores is_row m marks struck last t.older rows_struck (rows_apart (has_other fixed nums n w) m marks struck changed) (l ∙ ap length z) (rw z at c)

    pub case_nums_restored : (after marks-after last : List ℕ) → after ≡ rows_numbered fixed struck n count 0 64 nums → marks-after ≡ set struck (64 + n) m → length last ≡ length after
        → Changed (only_at (of_free_row marks-after 0) (forgotten count)) after last → last ≡ nums
    case_nums_restored after marks-after last e z l c =
        forget_restores (of_free_row (set struck (64 + n) m) 0) count nums (rows_numbered fixed struck n count 0 64 nums) last t.stands.most the_case.grown
        (λ k q. the_case.apart k (sym (rows_of_set struck n m k) ∙ q)) (l ∙ ap length e) (rw (e, z) at c)
