-- Rows of trees that stand in words: their first tree, and what each way through a walk's loop tells.
use mathlib.Core.Path.{◌≡◌, refl, sym, ap, ap₂, ◌∙◌}
use mathlib.Core.Bool.{Bool, true, false, ◌&&◌}
use mathlib.Core.List.{List, [], ◌∷◌, ◌++◌, append_assoc}
use mathlib.Core.Option.{some}
use Prim.Native.Nat.{ℕ, suc, ◌+◌, ◌-◌, ◌≤◌, ◌<◌, max}
use native.Mathlib.Omega.{arith}
use native.Mathlib.Nat.{add-zero, suc-add, add-suc, le-max_left, le-max_right}
use native.Mathlib.Numerals.{add-one}
use lib.ListN.{length, drop, get_or, set, length-append, length-drop}
use lib.Seq.{sets, drop-cons, drop-drop, drop_at}
use Rattle.std.specs.Prelude.{Some, None, Option}
use Rattle.term.specs.Word
use Rattle.term.specs.Word.{Head, rank, word, InTable, count_of, head_of}
use Rattle.term.specs.Row.{Row, nothing, node, width, words, nesting, ranks, Formed}
use Rattle.term.specs.Renumber.{inside, renumber, named_head, named}
use Rattle.term.specs.Told.Walk.{image_of, inside_word, Stands, RowTold}
use Rattle.term.proofs.Words.{never, and_both, head_is_lem, head_word_lem, count_word_lem}
use Rattle.term.proofs.Rows.{words_unique}
use Rattle.term.proofs.Renumbers.{length_renumber}
use Rattle.term.proofs.Images.{Imaged, imaged, no_image, inside_is, inside_imaged}

-- ---- the first tree of a row that stands
pub record First (levels count : ℕ) (ws : List ℕ) (at : ℕ) (f : Row) (after : List ℕ) : Type 0 where
  pub head : Head
  pub children : Row
  pub right : Row
  pub is : f ≡ node head children right
  pub word_is : word head ≡ get_or ws at 0
  pub table : InTable head
  pub low : rank head ≤ 2
  pub below : Stands (levels - 1) (count_of (get_or ws at 0)) ws (at + 1) children (words right ++ after)
  pub beside : Stands levels (count - 1) ws (at + 1 + length (words children)) right after
  pub within : at < length ws
  pub levelled : 1 ≤ levels

further : (at n : ℕ) (ws x y : List ℕ) → drop at ws ≡ x ++ y → length x ≡ n → drop (at + n) ws ≡ y
further at n ws x y e h = sym (drop-drop n at ws) ∙ rw e (drop_at x y n h)

first_of_lem : (levels count : ℕ) (ws : List ℕ) (at : ℕ) (h : Head) (kids rest : Row) (after : List ℕ) → at < length ws → Stands levels count ws at (node h kids rest) after
    → First levels count ws at (node h kids rest) after
unfolding words width Formed nesting ranks
first_of_lem levels count ws at h kids rest after l s =
    let c : drop at ws ≡ get_or ws at 0 ∷ drop (suc at) ws = drop-cons ws at 0 l in
    let e : drop at ws ≡ (word h ∷ (words kids ++ words rest)) ++ after = s.same in
    let w : word h ≡ get_or ws at 0 = cc in
    let q : drop (suc at) ws ≡ (words kids ++ words rest) ++ after = cc in
    let k : drop (at + 1) ws ≡ words kids ++ (words rest ++ after) = rw add-one (q ∙ append_assoc (words kids) (words rest) after) in
    let p = s.formed in
    let a : suc (nesting kids) ≤ max (suc (nesting kids)) (nesting rest) = le-max_left _ _ in
    let b : nesting rest ≤ max (suc (nesting kids)) (nesting rest) = le-max_right _ _ in
    record {
      head = h;
      children = kids;
      right = rest;
      is = refl;
      word_is = w;
      table = p.0;
      low = omega (arith, s.few);
      below = record { formed = p.2; few = omega (arith, s.few); low = omega (arith, s.low); wide = p.1 ∙ sym (count_word_lem h p.0) ∙ ap count_of w; same = k };
      beside = record { formed = p.3; few = omega (arith, s.few); low = omega (arith, s.low); wide = omega (arith, s.wide); same = further (at + 1) (length (words kids)) ws (words kids) (words rest ++ after) k refl };
      within = l;
      levelled = omega (arith, s.low);
    }

module _ (levels count : ℕ) (ws : List ℕ) (at : ℕ) (z : count ≡ 0 → ⊥) where
  pub first : (f : Row) (after : List ℕ) → Stands levels count ws at f after → First levels count ws at f after
  unfolding words width
  first nothing after s = absurd (z (sym s.wide))
  first (node h kids rest) after s =
      first_of_lem levels count ws at h kids rest after (omega (arith, length-drop at ws, ap length s.same)) s

  -- a head before its children and the trees to its right
  pub put_first : (h : Head) (kids rest : Row) (after beyond : List ℕ) → head_of (get_or ws at 0) ≡ some h → rank h ≤ 2 → 1 ≤ levels → at < length ws
      → Stands (levels - 1) (count_of (get_or ws at 0)) ws (at + 1) kids after
      → Stands levels (count - 1) ws (at + 1 + length (words kids)) rest beyond
      → Stands levels count ws at (node h kids rest) beyond
  unfolding words width Formed nesting ranks
  put_first h kids rest after beyond e k l w b s =
      let i = head_is_lem (get_or ws at 0) h e in
      let t : drop (at + 1 + length (words kids)) ws ≡ after = further (at + 1) (length (words kids)) ws (words kids) after b.same refl in
      let y : after ≡ words rest ++ beyond = sym t ∙ s.same in
      let c : count_of (get_or ws at 0) ≡ Word.count h = sym (ap count_of i.0) ∙ count_word_lem h i.1 in
      record {
        formed = (i.1, b.wide ∙ c, b.formed, s.formed);
        few = omega (arith, b.few, s.few);
        low = omega (arith, b.low, s.low);
        wide = omega (arith, s.wide, z);
        same = drop-cons ws at 0 w ∙ ap₂ ◌∷◌ (sym i.0) (rw add-one at b.same ∙ rw y (sym (append_assoc (words kids) (words rest) beyond)));
      }

-- ---- images written
sets_append : (us vs l : List ℕ) (i : ℕ) → sets l i (us ++ vs) ≡ sets (sets l i us) (i + length us) vs
sets_append [] vs l i = rw add-zero
sets_append (u ∷ us) vs l i = rw (add-suc i (length us), ← suc-add i (length us)) (sets_append us vs (set l i u) (suc i))

-- a word, the words after it, and those after these
written_more : (out : List ℕ) (at v a : ℕ) (xs ys done last : List ℕ) → done ≡ sets (set out at v) (at + 1) xs → a ≡ at + 1 + length xs → last ≡ sets done a ys
    → last ≡ sets (set out at v) (suc at) (xs ++ ys)
written_more out at v a xs ys done last p q r =
    r ∙ rw (p, q, add-one at) (sym (sets_append xs ys (set out at v) (suc at)))

-- two rows that stand at one offset are one row
pub same_row : (levels other count : ℕ) (ws : List ℕ) (at : ℕ) (f g : Row) (after beyond : List ℕ) → Stands levels count ws at f after → Stands other count ws at g beyond → f ≡ g
same_row levels other count ws at f g after beyond s t =
    (words_unique f g after beyond s.formed t.formed (s.wide ∙ sym t.wide) (sym s.same ∙ t.same)).0

and_false_left : (a b : Bool) → a ≡ false → a && b ≡ false
and_false_left true b e = never (cc)
and_false_left false b e = refl

and_false_right : (a b : Bool) → b ≡ false → a && b ≡ false
and_false_right true b e = e
and_false_right false b e = refl

module _ (m : ℕ → ℕ → ℕ) (e levels count : ℕ) (ws : List ℕ) (at : ℕ) (out : List ℕ) where
  pub row_done : count ≡ 0 → RowTold m e levels count ws at out out (Some at)
  unfolding RowTold words width Formed nesting ranks renumber named
  row_done z =
      (nothing, drop at ws, record { formed = tt; few = omega arith; low = omega arith; wide = sym z; same = refl }, refl, omega arith, refl)

  module _ (z : count ≡ 0 → ⊥) where
    pub row_deep : (done : List ℕ) → levels ≡ 0 → RowTold m e levels count ws at out done None
    unfolding RowTold
    row_deep done l f after s = absurd (omega (arith, l, (first levels count ws at z f after s).levelled))

    pub row_ended : (done : List ℕ) → length ws ≤ at → RowTold m e levels count ws at out done None
    unfolding RowTold
    row_ended done l f after s = absurd (omega (arith, l, (first levels count ws at z f after s).within))

    -- the word has no image
    pub row_no_image : (done : List ℕ) → image_of m e (head_of (get_or ws at 0)) ≡ None → RowTold m e levels count ws at out done None
    unfolding RowTold named
    row_no_image done q f after s = shown (first levels count ws at z f after s)
      where
        shown : First levels count ws at f after → named m e f ≡ false
        shown g =
            rw g.is
            (and_false_left (named_head m e g.head) _ (no_image m e g.head g.table g.low (rw g.word_is q)))

    module _ (v : ℕ) (q : image_of m e (head_of (get_or ws at 0)) ≡ Some v) (l : 1 ≤ levels) (w : at < length ws) (done : List ℕ) where
      -- a head that stands there is the one with the image
      same_head : (f : Row) (after : List ℕ) (g : First levels count ws at f after) (i : Imaged m e (get_or ws at 0) v) → g.head ≡ i.head
      same_head f after g i =
          let a : some g.head ≡ some i.head = sym (head_word_lem g.head g.table) ∙ ap head_of g.word_is ∙ i.is in cc

      -- its children have none
      pub row_stuck : RowTold m (inside_word (get_or ws at 0) e) (levels - 1) (count_of (get_or ws at 0)) ws (at + 1) (set out at v) done None
          → RowTold m e levels count ws at out done None
      unfolding RowTold named
      row_stuck told f after s = shown (first levels count ws at z f after s)
        where
          shown : First levels count ws at f after → named m e f ≡ false
          shown g =
              let n : named m (inside_word (get_or ws at 0) e) g.children ≡ false = told g.children (words g.right ++ after) g.below in
              let n2 : named m (inside g.head e) g.children ≡ false = rw (← g.word_is, inside_is g.head e g.table) at n in
              rw g.is (and_false_right (named_head m e g.head) _ (and_false_left (named m (inside g.head e) g.children) _ n2))

      -- its children have images, and so the answer is that of the trees to its right
      pub row_more : (a : ℕ) → RowTold m (inside_word (get_or ws at 0) e) (levels - 1) (count_of (get_or ws at 0)) ws (at + 1) (set out at v) done (Some a)
          → (last : List ℕ) (r : Option ℕ) → RowTold m e levels (count - 1) ws a done last r → RowTold m e levels count ws at out last r
      unfolding RowTold named renumber words
      row_more a told last r rest = shown (imaged m e (get_or ws at 0) v q) r rest
        where
          inner : (i : Imaged m e (get_or ws at 0) v) → inside_word (get_or ws at 0) e ≡ inside i.head e
          inner = inside_imaged m e (get_or ws at 0) v

          right_stuck : RowTold m e levels (count - 1) ws a done last None → (f : Row) (after : List ℕ) → First levels count ws at f after → named m e f ≡ false
          right_stuck rest f after g =
              let k : g.children ≡ told.0 = same_row (levels - 1) (levels - 1) (count_of (get_or ws at 0)) ws (at + 1) g.children told.0 _ told.1 g.below told.2 in
              let b : Stands levels (count - 1) ws a g.right after = rw (told.4, ← k) g.beside in
              rw g.is
              (and_false_right (named_head m e g.head) _ (and_false_right (named m (inside g.head e) g.children) _ (rest g.right after b)))

          shown : Imaged m e (get_or ws at 0) v → (r : Option ℕ) → RowTold m e levels (count - 1) ws a done last r → RowTold m e levels count ws at out last r
          shown i (Some b) rest =
              let n : named m (inside i.head e) told.0 ≡ true = rw (inner i) at told.3 in
              let k = renumber m (inside i.head e) told.0 in
              let beside : Stands levels (count - 1) ws (at + 1 + length (words told.0)) rest.0 rest.1 = rw told.4 at rest.2 in (
                node i.head told.0 rest.0,
                rest.1,
                put_first levels count ws at z i.head told.0 rest.0 told.1 rest.1 i.is i.low l w told.2 beside,
                and_both _ _ i.some_id (and_both _ _ n rest.3),
                omega (arith, rest.4, told.4, length-append (words told.0) (words rest.0)),
                rw (← i.out)
                    (written_more out at v a (words k) (words (renumber m e rest.0)) done last (rw (inner i) at told.5)
                    (told.4 ∙ rw (length_renumber m (inside i.head e) told.0)) rest.5),
              )
          shown i None rest = λ f after s. right_stuck rest f after (first levels count ws at z f after s)
