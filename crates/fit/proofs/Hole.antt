-- One pattern variable of a left side, over one tree of the term: the tree has a body, and it is that of the variable's first occurrence.
use mathlib.Core.Path.{◌≡◌, refl, sym, ap, ap₂, ◌∙◌}
use mathlib.Core.Bool.{Bool, true, false}
use mathlib.Core.List.{List, [], ◌∷◌, ◌++◌}
use mathlib.Core.Option.{Option, none, some}
use Prim.Native.Nat.{ℕ, suc, ◌+◌, ◌-◌, ◌≤◌, ◌<◌}
use native.Mathlib.Omega.{arith}
use lib.ListN.{length, length-append, length-drop, drop, get_or}
use borrow.Author.Tests.{eq-eqb}
use Rattle.term.specs.Word.{Head, symbol, abstraction, variable, pattern, kind_of, count_of, ident_of, word, InTable}
use Rattle.term.specs.Row.{Row, nothing, node, width, words, Formed}
use Rattle.term.specs.Renumber.{GoodList, to_body}
use Rattle.term.specs.Part.{body_of, same_words, part_end}
use Rattle.term.specs.Told.Walk.{Stands}
use Rattle.term.proofs.Laws.{never, kind_word, count_word_lem, ident_word, kind_symbol, kind_abstraction, count_pattern, ident_pattern, abstraction_in_table, body_of_lem, body_stands, stands_short, part_ends, words_same}
use Rattle.book.specs.Rule.{ids_of}
use Rattle.book.specs.Told.Ids.{list_in}
use Rattle.book.proofs.Laws.{ids_counted, list_found}
use Rattle.std.specs.Prelude.{Some, None}
use Rattle.fit.specs.Left.{Left, end, hole, ids_or, left_of}
use Rattle.fit.specs.Fit.{Found, body_then, found, body_in}
use Rattle.fit.specs.Told.Told.{LeftRow, LeftStands, TermStands, slot, Knows, recorded, FirstSame, agreed_from, FitTold, VariableTold, shared_ends, SharesTold}
use Rattle.fit.proofs.Basics.{single, Single}
use Rattle.fit.proofs.FitRow.{words_tree}
use Rattle.fit.proofs.Inner.{head_at_lem}
use Rattle.fit.proofs.Agreed.{body_present, body_absent, first_agreed, first_disagreed}
use Rattle.fit.proofs.Variable.{knows_again, knows_new}

-- a part with a body ends inside the words
pub part_inside : (d : ℕ) (ys ws : List ℕ) (b : Row) → body_of d ys ws ≡ some b → part_end ws ≤ length ws
part_inside d ys ws b e =
    let i = body_of_lem d ys ws b e in
    omega (arith, part_ends 64 ws i.tree i.after i.stands, ap length i.stands.same, length-append (words i.tree) i.after)

-- a pattern variable with its list
pub record HoleRow (vars d : ℕ) (h : Head) (kids : Row) : Type 0 where
  pub var : ℕ
  pub count : ℕ
  pub head_is : h ≡ pattern var count
  pub table : InTable (pattern var count)
  pub low : var < vars
  pub full : width kids ≡ count
  pub formed : Formed kids
  pub list : List ℕ
  pub ids : ids_of kids ≡ some list
  pub good : GoodList d list
  pub is : left_of (node h kids nothing) ≡ hole var list end

pub hole_row : (vars d : ℕ) (h : Head) (kids : Row) → kind_of (word h) ≡ 3 → LeftRow vars d (node h kids nothing) → HoleRow vars d h kids
unfolding LeftRow left_of
hole_row vars d (symbol i c) kids e p = absurd (omega (arith, e, kind_word (symbol i c) p.0, kind_symbol i c))
hole_row vars d abstraction kids e p = absurd (omega (arith, e, kind_word abstraction abstraction_in_table, kind_abstraction))
hole_row vars d (variable i) kids e p = absurd p
hole_row vars d (pattern x c) kids e p =
    record {
      var = x;
      count = c;
      head_is = refl;
      table = p.0;
      low = p.1;
      full = p.2;
      formed = p.3;
      list = p.4.0;
      ids = p.4.1;
      good = p.4.2;
      is = ap (λ (o : Option (List ℕ)). hole x (ids_or o) end) p.4.1;
    }

found_hole : (d x : ℕ) (ys : List ℕ) (g : Head) (ts : Row) → found d (hole x ys end) (node g ts nothing) ≡ body_then x (to_body d ys (node g ts nothing)) (some [])
unfolding found
found_hole d x ys g ts = refl

module _ (vars d levels : ℕ) (left : List ℕ) (at : ℕ) (term : List ℕ) (to : ℕ) (table : List ℕ) (la : at < length left) (lt : to < length term) (short : length term ≤ 4096) (three : kind_of (get_or left at 0) ≡ 3) where
  record Here (p : Row) (after : List ℕ) (t : Row) (beyond : List ℕ) : Type 0 where
    list : List ℕ
    low : ident_of (get_or left at 0) < vars
    listed : list_in (count_of (get_or left at 0)) (drop (at + 1) left) ≡ some list
    long : length (words p) ≡ 1 + count_of (get_or left at 0)
    ends : part_end (drop to term) ≡ length (words t)
    finds : found d (left_of p) t ≡ body_then (ident_of (get_or left at 0)) (body_of d list (drop to term)) (some [])

  here : (p : Row) (after : List ℕ) (t : Row) (beyond : List ℕ) → LeftStands vars d levels 1 left at p after → TermStands 1 term to t beyond → Here p after t beyond
  here p after t beyond s u = made (single p s.wide) (single t u.wide)
    where
      made : Single p → Single t → Here p after t beyond
      made x y =
          let a = head_at_lem at left x.head x.children after la (s.same ∙ ap (λ (r : Row). words r ++ after) x.is) in
          let g : LeftRow vars d (node x.head x.children nothing) = rw x.is at s.good in
          let r = hole_row vars d x.head x.children (ap kind_of a.0 ∙ three) g in
          let w : word (pattern r.var r.count) ≡ get_or left at 0 = ap word (sym r.head_is) ∙ a.0 in
          let i : ident_of (get_or left at 0) ≡ r.var = ap ident_of (sym w) ∙ ident_word (pattern r.var r.count) r.table ∙ ident_pattern r.var r.count in
          let c : count_of (get_or left at 0) ≡ r.count = ap count_of (sym w) ∙ count_word_lem (pattern r.var r.count) r.table ∙ count_pattern r.var r.count in
          let n = ids_counted x.children r.formed r.list r.ids in
          let f = list_found x.children r.formed (omega (arith, n.0, r.good.few)) after in
          let z : Stands 64 1 (drop to term) 0 t beyond = record { formed = u.formed; few = u.few; low = u.low; wide = u.wide; same = u.same } in
          let b = body_stands d r.list (drop to term) t beyond r.good (stands_short 64 1 (drop to term) 0 t beyond z (omega (arith, length-drop to term, short))) z in
          record {
            list = r.list;
            low = rw i r.low;
            listed = rw (c, a.1, ← r.full) (f ∙ r.ids);
            long = ap (λ (q : Row). length (words q)) x.is ∙ ap length (words_tree x.head x.children) ∙ omega (arith, n.1, r.full, c);
            ends = part_ends 64 (drop to term) t beyond z;
            finds = ap₂ (λ (q : Left) (v : Row). found d q v) (ap left_of x.is ∙ r.is) y.is
                ∙ found_hole d r.var r.list y.head y.children
                ∙ ap₂ (λ (v : ℕ) (o : Option Row). body_then v o (some [])) (sym i) (sym (b ∙ ap (to_body d r.list) y.is));
          }

  -- every pattern variable has a list, and is one of the rule's
  pub hole_unlisted : (done : List ℕ) → list_in (count_of (get_or left at 0)) (drop (at + 1) left) ≡ none → FitTold vars d levels 1 left at term to table done None
  unfolding FitTold
  hole_unlisted done e p after t beyond l s u k = let h = here p after t beyond s u in let z = h.listed in never (cc)

  pub hole_beyond : (done : List ℕ) → vars ≤ ident_of (get_or left at 0) → FitTold vars d levels 1 left at term to table done None
  unfolding FitTold
  hole_beyond done e p after t beyond l s u k = absurd (omega (arith, e, (here p after t beyond s u).low))

  -- a tree that is not closed for the list has no body
  pub hole_open : (ys done : List ℕ) → list_in (count_of (get_or left at 0)) (drop (at + 1) left) ≡ some ys → body_of d ys (drop to term) ≡ none
      → FitTold vars d levels 1 left at term to table done None
  unfolding FitTold
  hole_open ys done e b p after t beyond l s u k = shown (here p after t beyond s u)
    where
      shown : Here p after t beyond → agreed_from l (found d (left_of p) t) ≡ none
      shown h =
          let q : ys ≡ h.list = let z = h.listed in cc in
          let n : body_of d h.list (drop to term) ≡ none = rw (← q) b in
          rw (h.finds, n)

  module _ (few : vars ≤ 16) (ys : List ℕ) (b : Row) (e : list_in (count_of (get_or left at 0)) (drop (at + 1) left) ≡ some ys) (body : body_of d ys (drop to term) ≡ some b) where
    -- what is found, and where both sides go on
    record Holds (l : Found) (p t : Row) : Type 0 where
      low : ident_of (get_or left at 0) < 16
      finds : found d (left_of p) t ≡ some ((ident_of (get_or left at 0), b) ∷ [])
      left_ends : at + 1 + count_of (get_or left at 0) ≡ at + length (words p)
      term_ends : to + part_end (drop to term) ≡ to + length (words t)

    holds : (p : Row) (after : List ℕ) (t : Row) (beyond : List ℕ) (l : Found) → LeftStands vars d levels 1 left at p after → TermStands 1 term to t beyond → Holds l p t
    holds p after t beyond l s u = shown (here p after t beyond s u)
      where
        shown : Here p after t beyond → Holds l p t
        shown h =
            let q : ys ≡ h.list = let z = h.listed in cc in
            let n : body_of d h.list (drop to term) ≡ some b = rw (← q) body in
            record {
              low = omega (arith, h.low, few);
              finds = rw (h.finds, n);
              left_ends = omega (arith, h.long);
              term_ends = omega (arith, h.ends);
            }

    -- the first occurrence of its variable is recorded
    pub hole_new : slot table (ident_of (get_or left at 0)) 0 ≡ 0
        → FitTold vars d levels 1 left at term to table (recorded table (ident_of (get_or left at 0)) (to + 1) at d) (Some (at + 1 + count_of (get_or left at 0), to + part_end (drop to term)))
    unfolding FitTold body_in
    hole_new z p after t beyond l s u k =
        let h = holds p after t beyond l s u in
        let v = ident_of (get_or left at 0) in
        let first : body_in (l ++ ((v, b) ∷ [])) v ≡ b = body_absent v l ((v, b) ∷ []) (k.new v h.low z) ∙ rw (eq-eqb v v refl) in
        let same : same_words (words (body_in (l ++ ((v, b) ∷ [])) v)) (words b) ≡ true = rw first (words_same (words b)) in (
          (v, b) ∷ [],
          rw h.finds (first_agreed l v b same),
          knows_new left term table l v to at d ys b h.low z k la (omega arith) e body,
          h.left_ends,
          h.term_ends,
        )

    -- a later one is compared with the first
    module _ (met : slot table (ident_of (get_or left at 0)) 0 ≡ 0 → ⊥) (same : Bool) (told : FirstSame left term table (ident_of (get_or left at 0)) d ys to same) where
      compared : (l : Found) → ident_of (get_or left at 0) < 16 → (first : ℕ) → slot table (ident_of (get_or left at 0)) 0 ≡ suc first → Knows left term table l
          → same ≡ same_words (words (body_in (l ++ ((ident_of (get_or left at 0), b) ∷ [])) (ident_of (get_or left at 0)))) (words b)
      unfolding FirstSame
      compared l low first z k =
          let v = ident_of (get_or left at 0) in
          let n = k.seen v first low z in
          told l b k n.here body ∙ ap (λ (r : Row). same_words (words r) (words b)) (sym (body_present v l ((v, b) ∷ []) n.here))

      first_slot : slot table (ident_of (get_or left at 0)) 0 ≡ suc (slot table (ident_of (get_or left at 0)) 0 - 1)
      first_slot = omega (arith, met)

      pub hole_again : same ≡ true → FitTold vars d levels 1 left at term to table table (Some (at + 1 + count_of (get_or left at 0), to + part_end (drop to term)))
      unfolding FitTold
      hole_again y p after t beyond l s u k =
          let h = holds p after t beyond l s u in
          let v = ident_of (get_or left at 0) in (
            (v, b) ∷ [],
            rw h.finds (first_agreed l v b (sym (compared l h.low (slot table v 0 - 1) first_slot k) ∙ y)),
            knows_again left term table l v (slot table v 0 - 1) b h.low first_slot k,
            h.left_ends,
            h.term_ends,
          )

      pub hole_differs : (done : List ℕ) → same ≡ false → FitTold vars d levels 1 left at term to table done None
      unfolding FitTold
      hole_differs done y p after t beyond l s u k =
          let h = holds p after t beyond l s u in
          let v = ident_of (get_or left at 0) in
          rw h.finds (first_disagreed l v b (sym (compared l h.low (slot table v 0 - 1) first_slot k) ∙ y))

-- ---- each way of a part whose variable's list was read
module _ (d : ℕ) (left : List ℕ) (at : ℕ) (term : List ℕ) (to : ℕ) (ys table : List ℕ) (la : at < length left) (lt : to < length term) (short : length term ≤ 4096) (three : kind_of (get_or left at 0) ≡ 3) where
  pub shares_open : (done : List ℕ) → body_of d ys (drop to term) ≡ none → SharesTold d left at term to ys table done false
  shares_open done b = record { inside = λ e. never (cc); told = λ vars few li levels. hole_open vars d levels left at term to table la lt short three ys done li b }

  module _ (x : ℕ) (var : x ≡ ident_of (get_or left at 0)) (b : Row) (body : body_of d ys (drop to term) ≡ some b) where
    pub shares_new : slot table x 0 ≡ 0 → SharesTold d left at term to ys table (recorded table x (to + 1) at d) true
    shares_new z =
        rw var
        (record {
          inside = λ e. part_inside d ys (drop to term) b body;
          told = λ vars few li levels. hole_new vars d levels left at term to table la lt short three few ys b li body (rw var at z);
        })

    pub shares_compared : (slot table x 0 ≡ 0 → ⊥) → (same : Bool) → FirstSame left term table x d ys to same → SharesTold d left at term to ys table table same
    shares_compared met true told =
        record {
          inside = λ e. part_inside d ys (drop to term) b body;
          told = λ vars few li levels. hole_again vars d levels left at term to table la lt short three few ys b li body (rw var at met) true (rw var at told) refl;
        }
    shares_compared met false told =
        record {
          inside = λ e. never (cc);
          told = λ vars few li levels. hole_differs vars d levels left at term to table la lt short three few ys b li body (rw var at met) false (rw var at told) table refl;
        }

-- what was told, once it is known whether the body is shared
pub shares_told : (d : ℕ) (left : List ℕ) (at : ℕ) (term : List ℕ) (to : ℕ) (ys table done : List ℕ) (r : Bool) → SharesTold d left at term to ys table done r → (c : Bool) → r ≡ c
    → (vars : ℕ) → vars ≤ 16 → (k : ℕ) → k ≡ count_of (get_or left at 0) → list_in k (drop (at + 1) left) ≡ some ys → VariableTold vars d left at term to table done (shared_ends left at term to c)
shares_told d left at term to ys table done r s c e vars few k z li = rw e at (s.told vars few (rw z at li))
