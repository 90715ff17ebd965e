-- One tree of a left side that stands: a symbol or abstraction is written before its children, a pattern variable's body in its place.
use mathlib.Core.Path.{◌≡◌, sym, ap, ◌∙◌}
use mathlib.Core.List.{List, ◌++◌}
use mathlib.Core.Option.{some}
use Prim.Native.Nat.{ℕ, ◌+◌, ◌-◌, ◌≤◌, ◌<◌}
use native.Mathlib.Omega.{arith}
use lib.ListN.{length, drop, get_or, set}
use Rattle.term.specs.Word
use Rattle.term.specs.Word.{Head, pattern, word, kind_of, count_of, ident_of}
use Rattle.term.specs.Row.{Row, nothing, node, width, words, nesting}
use Rattle.term.specs.Renumber.{GoodList, inside, to_term}
use Rattle.term.specs.Told.Walk.{inside_word}
use Rattle.term.proofs.Laws.{nesting_node, kind_word, count_word_lem, ident_word, inside_is, count_pattern, ident_pattern}
use Rattle.book.specs.Told.Ids.{list_in}
use Rattle.book.proofs.Laws.{ids_counted, list_found}
use Rattle.std.specs.Prelude.{Some, None}
use Rattle.fit.specs.Left.{left_of}
use Rattle.fit.specs.Fit.{build}
use Rattle.fit.specs.Told.Told.{LeftRow, LeftStands, Offsets}
use Rattle.fit.specs.Build.{given_bodies}
use Rattle.fit.specs.Told.BuildWalk.{HoleBuilt, BothBuilt, LeftBuilt}
use Rattle.fit.proofs.Basics.{single, Single}
use Rattle.fit.proofs.FitRow.{words_tree}
use Rattle.fit.proofs.Inner.{InnerRow, inner_row, head_at_lem}
use Rattle.fit.proofs.Hole.{hole_row}
use Rattle.fit.proofs.Building.{row_full, row_node}
use Rattle.fit.proofs.BuildRow.{build_part, build_hole, wide_built, given_one, in_table}

module _ (d levels : ℕ) (left : List ℕ) (at : ℕ) (la : at < length left) where
  record OneTree (vars : ℕ) (p : Row) (after : List ℕ) : Type 0 where
    head : Head
    kids : Row
    is : p ≡ node head kids nothing
    good : LeftRow vars d (node head kids nothing)
    low : nesting (node head kids nothing) ≤ levels
    word_is : word head ≡ get_or left at 0
    rest : drop (at + 1) left ≡ words kids ++ after
    long : length (words p) ≡ 1 + length (words kids)

  one_tree : (vars : ℕ) (p : Row) (after : List ℕ) → LeftStands vars d levels 1 left at p after → OneTree vars p after
  one_tree vars p after s = made (single p s.wide)
    where
      made : Single p → OneTree vars p after
      made x =
          let a = head_at_lem at left x.head x.children after la (s.same ∙ ap (λ (r : Row). words r ++ after) x.is) in
          record {
            head = x.head;
            kids = x.children;
            is = x.is;
            good = rw x.is at s.good;
            low = rw x.is at s.low;
            word_is = a.0;
            rest = a.1;
            long = ap (λ (r : Row). length (words r)) x.is ∙ ap length (words_tree x.head x.children) ∙ omega arith;
          }

  -- ---- a symbol or abstraction
  module _ (bodies lengths out : List ℕ) (to : ℕ) (inner : kind_of (get_or left at 0) ≡ 3 → ⊥) where
    inner_is : (vars : ℕ) (p : Row) (after : List ℕ) (x : OneTree vars p after) → InnerRow vars d x.head x.kids
    inner_is vars p after x =
        inner_row vars d x.head x.kids (λ e. inner (ap kind_of (sym x.word_is) ∙ kind_word x.head (in_table vars d x.head x.kids x.good) ∙ e)) x.good

    pub build_full : (done : List ℕ) → 4096 ≤ to → LeftBuilt d levels 1 left at bodies lengths out to done None
    unfolding LeftBuilt
    build_full done h vars p after s g l = shown (one_tree vars p after s)
      where
        shown : OneTree vars p after → BothBuilt levels out to done (build (given_bodies bodies lengths) d (left_of p)) (at + length (words p)) None
        shown x =
            let e : build (given_bodies bodies lengths) d (left_of p) ≡ _ = ap (λ (r : Row). build (given_bodies bodies lengths) d (left_of r)) x.is ∙ ap (build (given_bodies bodies lengths) d) (inner_is vars p after x).is ∙ build_part (given_bodies bodies lengths) d x.head (left_of x.kids) in
            rw e (row_full levels out to x.head (build (given_bodies bodies lengths) (inside x.head d) (left_of x.kids)) done h)

    both_node : (h : Head) (kids : Row) (i j : ℕ) → Word.InTable h → width kids ≡ Word.count h → 1 ≤ levels → i ≡ j → (done : List ℕ) (r : Offsets)
        → BothBuilt (levels - 1) (set out to (word h)) (to + 1) done kids i r → BothBuilt levels out to done (node h kids nothing) j r
    both_node h kids i j t w l e done (Some (a, b)) r = (r.0 ∙ e, row_node levels out to h kids t w l done (Some b) r.1)
    both_node h kids i j t w l e done None r = row_node levels out to h kids t w l done None r

    pub build_inner : 1 ≤ levels → to < 4096 → (done : List ℕ) (r : Offsets)
        → LeftBuilt (inside_word (get_or left at 0) d) (levels - 1) (count_of (get_or left at 0)) left (at + 1) bodies lengths (set out to (get_or left at 0)) (to + 1) done r
        → LeftBuilt d levels 1 left at bodies lengths out to done r
    unfolding LeftBuilt
    build_inner one room done r told vars p after s g l = shown (one_tree vars p after s)
      where
        shown : OneTree vars p after → BothBuilt levels out to done (build (given_bodies bodies lengths) d (left_of p)) (at + length (words p)) r
        shown x =
            let b = given_bodies bodies lengths in
            let i = inner_is vars p after x in
            let passed : inside x.head d ≡ inside_word (get_or left at 0) d = sym (inside_is x.head d i.table) ∙ ap (λ (w : ℕ). inside_word w d) x.word_is in
            let counted : Word.count x.head ≡ count_of (get_or left at 0) = sym (count_word_lem x.head i.table) ∙ ap count_of x.word_is in
            let below : LeftStands vars (inside_word (get_or left at 0) d) (levels - 1) (count_of (get_or left at 0)) left (at + 1) x.kids after = record { good = rw (← passed) i.below; low = omega (arith, x.low, nesting_node x.head x.kids nothing); wide = i.full ∙ counted; same = x.rest } in
            let e : build b d (left_of p) ≡ node x.head (build b (inside x.head d) (left_of x.kids)) nothing = ap (λ (r : Row). build b d (left_of r)) x.is ∙ ap (build b d) i.is ∙ build_part b d x.head (left_of x.kids) in
            let w : width (build b (inside x.head d) (left_of x.kids)) ≡ Word.count x.head = wide_built vars b (given_one vars bodies lengths g) (inside x.head d) x.kids i.below ∙ i.full in
            rw e
            (both_node x.head (build b (inside x.head d) (left_of x.kids)) (at + 1 + length (words x.kids)) (at + length (words p)) i.table w one (omega (arith, x.long)) done r
            (rw (passed, x.word_is) (told vars x.kids after below g (omega arith))))

  -- ---- a pattern variable with its list
  module _ (bodies lengths out : List ℕ) (to : ℕ) (three : kind_of (get_or left at 0) ≡ 3) where
    record HoleTree (vars : ℕ) (p : Row) : Type 0 where
      list : List ℕ
      low : ident_of (get_or left at 0) < vars
      listed : list_in (count_of (get_or left at 0)) (drop (at + 1) left) ≡ some list
      good : GoodList d list
      long : length (words p) ≡ 1 + count_of (get_or left at 0)
      builds : (b : ℕ → Row) → build b d (left_of p) ≡ to_term d list (b (ident_of (get_or left at 0)))

    hole_tree : (vars : ℕ) (p : Row) (after : List ℕ) → OneTree vars p after → HoleTree vars p
    hole_tree vars p after x =
        let r = hole_row vars d x.head x.kids (ap kind_of x.word_is ∙ three) x.good in
        let w : word (pattern r.var r.count) ≡ get_or left at 0 = ap word (sym r.head_is) ∙ x.word_is in
        let i : ident_of (get_or left at 0) ≡ r.var = ap ident_of (sym w) ∙ ident_word (pattern r.var r.count) r.table ∙ ident_pattern r.var r.count in
        let c : count_of (get_or left at 0) ≡ r.count = ap count_of (sym w) ∙ count_word_lem (pattern r.var r.count) r.table ∙ count_pattern r.var r.count in
        let n = ids_counted x.kids r.formed r.list r.ids in
        let f = list_found x.kids r.formed (omega (arith, n.0, r.good.few)) after in
        record {
          list = r.list;
          low = rw i r.low;
          listed = rw (c, x.rest, ← r.full) (f ∙ r.ids);
          good = r.good;
          long = omega (arith, x.long, n.1, r.full, c);
          builds = λ b. ap (λ (q : Row). build b d (left_of q)) x.is ∙ ap (build b d) r.is ∙ build_hole b d r.var r.list ∙ ap (λ (v : ℕ). to_term d r.list (b v)) (sym i);
        }

    module _ (done : List ℕ) where
      pub build_body : (b : ℕ) → HoleBuilt (get_or left at 0) (drop (at + 1) left) d levels bodies lengths out to done (Some b)
          → LeftBuilt d levels 1 left at bodies lengths out to done (Some (at + 1 + count_of (get_or left at 0), b))
      unfolding LeftBuilt HoleBuilt
      build_body b told vars p after s g l = shown (hole_tree vars p after (one_tree vars p after s))
        where
          shown : HoleTree vars p → BothBuilt levels out to done (build (given_bodies bodies lengths) d (left_of p)) (at + length (words p)) (Some (at + 1 + count_of (get_or left at 0), b))
          shown x = rw (x.builds (given_bodies bodies lengths)) (omega (arith, x.long), told vars x.list g x.low x.listed x.good)

      pub build_no_body : HoleBuilt (get_or left at 0) (drop (at + 1) left) d levels bodies lengths out to done None
          → LeftBuilt d levels 1 left at bodies lengths out to done None
      unfolding LeftBuilt HoleBuilt
      build_no_body told vars p after s g l = shown (hole_tree vars p after (one_tree vars p after s))
        where
          shown : HoleTree vars p → BothBuilt levels out to done (build (given_bodies bodies lengths) d (left_of p)) (at + length (words p)) None
          shown x = rw (x.builds (given_bodies bodies lengths)) (told vars x.list g x.low x.listed x.good)
