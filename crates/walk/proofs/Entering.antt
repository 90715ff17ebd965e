-- Entering a place: its children stand one after the other, each is appended where the one before it ends, and no more words are uncovered than the place had.
use mathlib.Core.Path.{◌≡◌, refl, sym, ap, ◌∙◌}
use mathlib.Core.Bool.{Bool, true, false}
use mathlib.Core.List.{List, [], ◌∷◌, ◌++◌, append_assoc, append-nil}
use Prim.Native.Nat.{ℕ, suc, ◌+◌, ◌-◌, ◌≤◌, ◌<◌}
use native.Mathlib.Omega.{arith}
use native.Mathlib.Numerals.{add-one}
use lib.ListN.{length, get_or, drop, set, length-append, length-drop, length-set}
use lib.Seq.{drop-cons, get_or-set_same, get_or-set_other, drop-drop, drop-append_seam}
use lib.Dec.{ltb}
use borrow.Author.Tests.{ltb-true, ltb-false}
use Rattle.term.specs.Word.{Head, word, count, count_of}
use Rattle.term.specs.Row.{Row, nothing, node, width, words, nesting, ranks, Formed}
use Rattle.term.specs.Renumber.{inside}
use Rattle.term.specs.Told.Walk.{Stands, inside_word}
use Rattle.term.specs.Part.{part_end}
use Rattle.term.proofs.Laws.{words_nothing, words_node, width_nothing, width_node, nesting_nothing, nesting_node, ranks_nothing, ranks_node, formed_nothing, formed_node, node_formed, count_word_lem, inside_is, inside_le, part_ends}
use Rattle.fit.specs.Constraint.{children_of}
use Rattle.fit.proofs.Laws.{children_node}
use Rattle.tree.specs.Find.{PartAt, part_of, marked_part, child_parts, inside_of, enter_part, total}
use Rattle.tree.proofs.Laws.{child_parts_none, child_parts_more, inside_of_lem, enter_is, length_total, total_entered}
use Rattle.walk.specs.declared.state.Walk.{Walk}
use Rattle.walk.specs.declared.state.Stands as state
use Rattle.walk.specs.Told.State.{part_from, place_in, places_from, places_of, Parted, Holds, EnterTold}
use Rattle.walk.proofs.Uncovered.{length_places, places_agree, places_more, entered_part, places_marked, length_children, one_tree, from_stands, place_depth, place_entered, place_part, place_stands, place_tree}

-- what is left to append: the trees of a row that stands at an offset
pub record Entering (term : List ℕ) (target : List PartAt) (inner : ℕ) (offsets depths : List ℕ) (entered : List Bool) (count from more : ℕ) : Type 0 where
  pub offsets_long : length offsets ≡ 4096
  pub depths_long : length depths ≡ 4096
  pub entered_long : length entered ≡ 4096
  pub within : (n : ℕ) → n < count → get_or offsets n 0 < length term
  pub low : (n : ℕ) → n < count → get_or depths n 0 + nesting (part_from term (get_or offsets n 0)) ≤ 64
  pub row : Row
  pub after : List ℕ
  pub formed : Formed row
  pub few : ranks row ≤ 2
  pub deep : inner + nesting row ≤ 64
  pub wide : width row ≡ more
  pub same : drop from term ≡ words row ++ after
  pub told : places_from (place_in term offsets depths entered) 0 count ++ child_parts inner row ≡ target
  pub room : total target ≤ length term

-- a tree of a row stands alone
stands_first : (term : List ℕ) (from : ℕ) (h : Head) (kids rest : Row) (after : List ℕ) → Formed (node h kids rest) → ranks (node h kids rest) ≤ 2 → nesting (node h kids rest) ≤ 64
    → drop from term ≡ words (node h kids rest) ++ after → Stands 64 1 (drop from term) 0 (node h kids nothing) (words rest ++ after)
stands_first term from h kids rest after f k n e =
    let q = formed_node h kids rest f in
    record {
      formed = node_formed h kids nothing (record { table = q.table; full = q.full; below = q.below; beside = formed_nothing });
      few = rw (ranks_node h kids nothing, ranks_nothing) (omega (arith, rw (ranks_node h kids rest) at k));
      low = rw (nesting_node h kids nothing, nesting_nothing) (omega (arith, rw (nesting_node h kids rest) at n));
      wide = rw (width_node h kids nothing, width_nothing);
      same =
          e ∙ rw (words_node h kids rest, words_node h kids nothing, words_nothing, append-nil (words kids)) (ap (word h ∷◌) (append_assoc (words kids) (words rest) after));
    }

first_long : (h : Head) (kids rest : Row) → words (node h kids rest) ≡ words (node h kids nothing) ++ words rest
first_long h kids rest = rw (words_node h kids rest, words_node h kids nothing, words_nothing, append-nil (words kids))

some_words : (h : Head) (kids rest : Row) → 1 ≤ length (words (node h kids rest))
some_words h kids rest = rw (words_node h kids rest) (omega arith)

-- the arrays after one more place
module _ (term offsets depths : List ℕ) (entered : List Bool) (count from inner : ℕ) (a : length offsets ≡ 4096) (b : length depths ≡ 4096) (c : length entered ≡ 4096) (l : count < 4096) where
  new_offset : get_or (set offsets count from) count 0 ≡ from
  new_offset = get_or-set_same offsets count from 0 (omega (arith, a))

  new_depth : get_or (set depths count inner) count 0 ≡ inner
  new_depth = get_or-set_same depths count inner 0 (omega (arith, b))

  old_offset : (n : ℕ) → n < count → get_or (set offsets count from) n 0 ≡ get_or offsets n 0
  old_offset n h = get_or-set_other offsets count n from 0 (λ q. omega (arith, q))

  old_depth : (n : ℕ) → n < count → get_or (set depths count inner) n 0 ≡ get_or depths n 0
  old_depth n h = get_or-set_other depths count n inner 0 (λ q. omega (arith, q))

  new_place : (f : Row) → part_from term from ≡ f → place_in term (set offsets count from) (set depths count inner) (set entered count false) count ≡ record { part = f; depth = inner; entered = false }
  unfolding place_in
  new_place f e = rw (new_offset, new_depth, get_or-set_same entered count false false (omega (arith, c)), e)

  old_place : (n : ℕ) → n < count → place_in term offsets depths entered n ≡ place_in term (set offsets count from) (set depths count inner) (set entered count false) n
  unfolding place_in
  old_place n h = rw (old_offset n h, old_depth n h, get_or-set_other entered count n false false (λ q. omega (arith, q)))

  one_more_lem : (f : Row) → part_from term from ≡ f
      → places_from (place_in term (set offsets count from) (set depths count inner) (set entered count false)) 0 (count + 1)
      ≡ places_from (place_in term offsets depths entered) 0 count ++ (record { part = f; depth = inner; entered = false } ∷ [])
  one_more_lem f e =
      let z : 0 + count ≡ count = omega arith in
      rw (
        add-one count,
        places_more (place_in term (set offsets count from) (set depths count inner) (set entered count false)) 0 count,
        z,
        new_place f e,
        ← places_agree (place_in term offsets depths entered) (place_in term (set offsets count from) (set depths count inner) (set entered count false)) 0 count (λ j h. old_place j (omega (arith, h))),
      )

abbrev Lower : List ℕ → List ℕ → List ℕ → ℕ → Type 0
Lower term offsets depths n = get_or depths n 0 + nesting (part_from term (get_or offsets n 0)) ≤ 64

-- the first tree of the row is appended
entering_next : (term : List ℕ) (target : List PartAt) (inner : ℕ) (offsets depths : List ℕ) (entered : List Bool) (count from more : ℕ) (h : Head) (kids rest : Row) (after : List ℕ)
    → Entering term target inner offsets depths entered count from more → count < 4096 → length term ≤ 4096 → from < length term → (more ≡ 0 → ⊥)
    → Formed (node h kids rest) → ranks (node h kids rest) ≤ 2 → inner + nesting (node h kids rest) ≤ 64 → width (node h kids rest) ≡ more
    → drop from term ≡ words (node h kids rest) ++ after → places_from (place_in term offsets depths entered) 0 count ++ child_parts inner (node h kids rest) ≡ target
    → Stands 64 1 (drop from term) 0 (node h kids nothing) (words rest ++ after) → part_end (drop from term) ≡ length (words (node h kids nothing))
    → Entering term target inner (set offsets count from) (set depths count inner) (set entered count false) (count + 1) (from + part_end (drop from term)) (more - 1)
entering_next term target inner offsets depths entered count from more h kids rest after e c small within left f k n w s t st ends =
    let q = formed_node h kids rest f in
    let is : part_from term from ≡ node h kids nothing = from_stands term from (node h kids nothing) (words rest ++ after) small st in
    let kn : ranks rest ≤ 2 = omega (arith, rw (ranks_node h kids rest) at k) in
    let dn : inner + nesting rest ≤ 64 = omega (arith, rw (nesting_node h kids rest) at n) in
    let wn : suc (width rest) ≡ more = rw (width_node h kids rest) at w in
    record {
      offsets_long = length-set offsets count from ∙ e.offsets_long;
      depths_long = length-set depths count inner ∙ e.depths_long;
      entered_long = length-set entered count false ∙ e.entered_long;
      within = λ m l. inside m l;
      low = λ m l. lower m l is;
      row = rest;
      after = after;
      formed = q.beside;
      few = kn;
      deep = dn;
      wide = omega (arith, wn);
      same = moved;
      told = next is;
      room = e.room;
    }
  where
    inside : (m : ℕ) → m < count + 1 → get_or (set offsets count from) m 0 < length term
    inside m l = go (ltb m count) refl
      where
        go : (b : Bool) → ltb m count ≡ b → get_or (set offsets count from) m 0 < length term
        go true z = rw (old_offset term offsets depths entered count from inner e.offsets_long e.depths_long e.entered_long c m (ltb-true m count z)) (e.within m (ltb-true m count z))
        go false z = let y : m ≡ count = omega (arith, ltb-false m count z) in rw (y, new_offset term offsets depths entered count from inner e.offsets_long e.depths_long e.entered_long c) within

    lower : (m : ℕ) → m < count + 1 → part_from term from ≡ node h kids nothing → Lower term (set offsets count from) (set depths count inner) m
    lower m l is = go (ltb m count) refl
      where
        go : (b : Bool) → ltb m count ≡ b → Lower term (set offsets count from) (set depths count inner) m
        go true z =
            rw (
              old_offset term offsets depths entered count from inner e.offsets_long e.depths_long e.entered_long c m (ltb-true m count z),
              old_depth term offsets depths entered count from inner e.offsets_long e.depths_long e.entered_long c m (ltb-true m count z),
            ) (e.low m (ltb-true m count z))
        go false z =
            let y : m ≡ count = omega (arith, ltb-false m count z) in
            let v : inner + nesting (node h kids nothing) ≤ 64 = rw (nesting_node h kids nothing, nesting_nothing) (omega (arith, rw (nesting_node h kids rest) at n)) in
            rw (
              y,
              new_offset term offsets depths entered count from inner e.offsets_long e.depths_long e.entered_long c,
              new_depth term offsets depths entered count from inner e.offsets_long e.depths_long e.entered_long c,
              is,
            ) v

    moved : drop (from + part_end (drop from term)) term ≡ words rest ++ after
    moved =
        sym (drop-drop (part_end (drop from term)) from term) ∙ rw (ends, s, first_long h kids rest, append_assoc (words (node h kids nothing)) (words rest) after)
        (drop-append_seam (words (node h kids nothing)) (words rest ++ after))

    next : part_from term from ≡ node h kids nothing
        → places_from (place_in term (set offsets count from) (set depths count inner) (set entered count false)) 0 (count + 1) ++ child_parts inner rest ≡ target
    next is =
        rw (one_more_lem term offsets depths entered count from inner e.offsets_long e.depths_long e.entered_long c (node h kids nothing) is)
        (append_assoc (places_from (place_in term offsets depths entered) 0 count) (record { part = node h kids nothing; depth = inner; entered = false } ∷ []) (child_parts inner rest)
        ∙ rw (← child_parts_more inner h kids rest) t)

module _ (term : List ℕ) (target : List PartAt) (inner : ℕ) (offsets depths : List ℕ) (entered : List Bool) (count from more : ℕ)
    (p : Parted term) (e : Entering term target inner offsets depths entered count from more) where
  pub entering_count : count + more ≤ 4096
  entering_count =
      let l = ap length e.told in
      let a = length-append (places_from (place_in term offsets depths entered) 0 count) (child_parts inner e.row) in
      omega (arith, l, a, length_places (place_in term offsets depths entered) 0 count, length_children inner e.row, e.wide, length_total target, e.room, p.short)

  module _ (left : more ≡ 0 → ⊥) where
    pub entering_from : from < length term
    entering_from = go e.row e.wide e.same
      where
        go : (g : Row) → width g ≡ more → drop from term ≡ words g ++ e.after → from < length term
        go nothing w s = absurd (left (sym w ∙ width_nothing))
        go (node h kids rest) w s =
            omega (arith, ap length s, length-append (words (node h kids rest)) e.after, some_words h kids rest, length-drop from term)

    abbrev offsets' : List ℕ
    offsets' = set offsets count from

    abbrev depths' : List ℕ
    depths' = set depths count inner

    abbrev entered' : List Bool
    entered' = set entered count false

    -- the first tree ends inside the words
    pub entering_past : from + part_end (drop from term) ≤ length term
    entering_past = go e.row e.formed e.few e.deep e.wide e.same
      where
        go : (g : Row) → Formed g → ranks g ≤ 2 → inner + nesting g ≤ 64 → width g ≡ more → drop from term ≡ words g ++ e.after → from + part_end (drop from term) ≤ length term
        go nothing f k n w s = absurd (left (sym w ∙ width_nothing))
        go (node h kids rest) f k n w s =
            let st = stands_first term from h kids rest e.after f k (omega (arith, n)) s in
            let ends = part_ends 64 (drop from term) (node h kids nothing) (words rest ++ e.after) st in
            omega (arith, ends, ap length st.same, length-append (words (node h kids nothing)) (words rest ++ e.after), length-drop from term, entering_from)

    entered_one : Entering term target inner (set offsets count from) (set depths count inner) (set entered count false) (count + 1) (from + part_end (drop from term)) (more - 1)
    entered_one = go e.row e.formed e.few e.deep e.wide e.same e.told
      where
        go : (g : Row) → Formed g → ranks g ≤ 2 → inner + nesting g ≤ 64 → width g ≡ more → drop from term ≡ words g ++ e.after
            → places_from (place_in term offsets depths entered) 0 count ++ child_parts inner g ≡ target
            → Entering term target inner offsets' depths' entered' (count + 1) (from + part_end (drop from term)) (more - 1)
        go nothing f k n w s t = absurd (left (sym w ∙ width_nothing))
        go (node h kids rest) f k n w s t =
            let low : nesting (node h kids rest) ≤ 64 = omega (arith, n) in
            let st = stands_first term from h kids rest e.after f k low s in
            let ends : part_end (drop from term) ≡ length (words (node h kids nothing)) = part_ends 64 (drop from term) (node h kids nothing) (words rest ++ e.after) st in
            let c : count < 4096 = omega (arith, entering_count, left) in
            entering_next term target inner offsets depths entered count from more h kids rest e.after e c p.short entering_from left f k n w s t st ends

    pub entering_more : (end : ℕ) → end ≡ part_end (drop from term) → Entering term target inner (set offsets count from) (set depths count inner) (set entered count false) (count + 1) (from + end) (more - 1)
    entering_more end is-end = rw is-end (entered_one)

-- ---- a place that is held, and one that is open
module _ (term : List ℕ) (s : Walk) (p : Parted term) (h : Holds term s) (n : ℕ) (i : n < s.count) where
  abbrev at_offset : ℕ
  at_offset = get_or s.offsets n 0

  abbrev at_depth : ℕ
  at_depth = get_or s.depths n 0

  abbrev held : List PartAt
  held = places_of term s

  pub enter_offset : at_offset < length term
  enter_offset = h.within n i

  -- its word, and the row of its children
  pub record Opened : Type 0 where
    pub head : Head
    pub kids : Row
    pub after : List ℕ
    pub is : (part_of n held).part ≡ node head kids nothing
    pub formed : Formed (node head kids nothing)
    pub few : ranks (node head kids nothing) ≤ 2
    pub first : get_or term at_offset 0 ≡ word head
    pub same : drop (at_offset + 1) term ≡ words kids ++ after

  opened_as : (f : Row) (after : List ℕ) → Stands 64 1 (drop at_offset term) 0 f after → (part_of n held).part ≡ f → (g : Head) (kids : Row) → f ≡ node g kids nothing → Opened
  opened_as f after st is g kids e =
      let u : Stands 64 1 (drop at_offset term) 0 (node g kids nothing) after = rw e at st in
      let v : drop at_offset term ≡ word g ∷ (words kids ++ after) = u.same ∙ rw (words_node g kids nothing, words_nothing, append-nil (words kids)) in
      let d : get_or term at_offset 0 ∷ drop (suc at_offset) term ≡ word g ∷ (words kids ++ after) = sym (drop-cons term at_offset 0 enter_offset) ∙ v in
      let z : at_offset + 1 ≡ suc at_offset = omega arith in
      record {
        head = g;
        kids = kids;
        after = after;
        is = is ∙ e;
        formed = u.formed;
        few = u.few;
        first = cc;
        same = rw z (cc);
      }

  pub opened : Opened
  opened =
      let st = place_stands term s p h n i in
      let t = one_tree st.0 st.2.wide in
      opened_as st.0 st.1 st.2 (place_tree term s p h n i) t.0 t.1 t.2

  -- ---- the children are those that the word counts
  abbrev inner : ℕ
  inner = inside_word (get_or term at_offset 0) at_depth

  inner_is : (q : Opened) → inner ≡ inside q.head at_depth
  inner_is q = rw q.first (inside_is q.head at_depth (formed_node q.head q.kids nothing q.formed).table)

  pub enter_depth : at_depth ≤ 63
  enter_depth = shown opened
    where
      shown : Opened → at_depth ≤ 63
      shown q =
          let e : part_from term at_offset ≡ node q.head q.kids nothing = sym (place_part term s p h n i) ∙ q.is in
          let l : at_depth + nesting (node q.head q.kids nothing) ≤ 64 = rw e at (h.low n i) in
          omega (arith, rw (nesting_node q.head q.kids nothing) at l)

  pub enter_target : (q : Opened) → enter_part n held ≡ marked_part n held ++ child_parts inner q.kids
  enter_target q =
      let d : inside_of (part_of n held).part (part_of n held).depth ≡ inner = rw (q.is, place_depth term s p h n i, inside_of_lem q.head q.kids nothing at_depth) (sym (inner_is q)) in
      let k : children_of (part_of n held).part ≡ q.kids = rw q.is (children_node q.head q.kids nothing) in
      enter_is n held ∙ rw (d, k)

  marked_is : places_from (place_in term s.offsets s.depths (set s.entered n true)) 0 s.count ≡ marked_part n held
  unfolding place_in
  marked_is =
      let z : 0 + n ≡ n = omega arith in
      sym (places_marked (place_in term s.offsets s.depths s.entered) (place_in term s.offsets s.depths (set s.entered n true)) 0 s.count n i (rw z here) (λ j w. other j (rw z at w)))
    where
      here : place_in term s.offsets s.depths (set s.entered n true) n ≡ entered_part (place_in term s.offsets s.depths s.entered n)
      here = rw (get_or-set_same s.entered n true false (omega (arith, h.entered_long, h.few, p.short)))

      other : (j : ℕ) → (j ≡ n → ⊥) → place_in term s.offsets s.depths (set s.entered n true) j ≡ place_in term s.offsets s.depths s.entered j
      other j w = rw (get_or-set_other s.entered n j true false w)

  module _ (o : get_or s.entered n false ≡ false) where
    held_room : total (enter_part n held) ≤ length term
    held_room = omega (arith, total_entered held n (place_entered term s p h n i ∙ o), h.room)

    pub entering_start : (v : ℕ) → v ≡ inner → (k : ℕ) → k ≡ count_of (get_or term at_offset 0)
        → Entering term (enter_part n held) v s.offsets s.depths (set s.entered n true) s.count (at_offset + 1) k
    entering_start v is_inner k counted = rw (is_inner, counted) (shown opened)
      where
        shown : Opened → Entering term (enter_part n held) inner s.offsets s.depths (set s.entered n true) s.count (at_offset + 1) (count_of (get_or term at_offset 0))
        shown q =
            let f = formed_node q.head q.kids nothing q.formed in
            let e : part_from term at_offset ≡ node q.head q.kids nothing = sym (place_part term s p h n i) ∙ q.is in
            let l : at_depth + nesting (node q.head q.kids nothing) ≤ 64 = rw e at (h.low n i) in
            let il : inner ≤ suc at_depth = rw (inner_is q) (inside_le q.head at_depth) in
            record {
              offsets_long = h.offsets_long;
              depths_long = h.depths_long;
              entered_long = length-set s.entered n true ∙ h.entered_long;
              within = h.within;
              low = h.low;
              row = q.kids;
              after = q.after;
              formed = f.below;
              few = omega (arith, rw (ranks_node q.head q.kids nothing) at q.few);
              deep = omega (arith, il, rw (nesting_node q.head q.kids nothing) at l);
              wide = f.full ∙ rw q.first (sym (count_word_lem q.head f.table));
              same = q.same;
              told = rw (marked_is) (sym (enter_target q));
              room = held_room;
            }

  -- all are appended
  module _ (v : ℕ) (offsets depths : List ℕ) (entered : List Bool) (count from more : ℕ) (e : Entering term (enter_part n held) v offsets depths entered count from more) (z : more ≡ 0) where
    none_left : child_parts v e.row ≡ []
    none_left = go e.row (e.wide ∙ z)
      where
        go : (g : Row) → width g ≡ 0 → child_parts v g ≡ []
        go nothing w = child_parts_none v
        go (node k kids rest) w = absurd (omega (arith, rw (width_node k kids rest) at w))

    pub entering_places : places_from (place_in term offsets depths entered) 0 count ≡ enter_part n held
    entering_places =
        sym (append-nil (places_from (place_in term offsets depths entered) 0 count))
        ∙ ap (λ (l : List PartAt). places_from (place_in term offsets depths entered) 0 count ++ l) (sym none_left) ∙ e.told

    pub entering_told : (at : ℕ) (how : state.Stands) (visits : ℕ) → how ≡ s.stands → visits ≡ s.visits
        → EnterTold term s n at (record { offsets = offsets; depths = depths; entered = entered; count = count; at = at; stands = how; visits = visits })
    entering_told at how visits same visited =
        let l = ap length entering_places in
        record {
          holds =
              record {
                offsets_long = e.offsets_long;
                depths_long = e.depths_long;
                entered_long = e.entered_long;
                within = e.within;
                low = e.low;
                few = omega (arith, l, length_places (place_in term offsets depths entered) 0 count, length_total (enter_part n held), e.room);
                room = rw entering_places e.room;
              };
          places = entering_places;
          there = refl;
          same = same;
          visited = visited;
        }
