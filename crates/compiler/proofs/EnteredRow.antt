-- Numbering one row: where it has a head at the entered place its sub-patterns there get their numbers, and else it has no sub-pattern below the place.
use mathlib.Core.Path.{◌≡◌, refl, sym, ap, ◌∙◌}
use mathlib.Core.Bool.{Bool, true, false}
use mathlib.Core.List.{List, [], ◌∷◌}
use mathlib.Core.Option.{Option, none, some}
use Prim.Native.Nat.{ℕ, suc, ◌+◌, ◌-◌, ◌*◌, ◌/◌, ◌≤◌, ◌<◌}
use native.Mathlib.Omega.{arith}
use native.Mathlib.Decide.{dec_le}
use lib.Dec.{ltb}
use lib.ListN.{length, get_or}
use borrow.Author.Tests.{eqb-true, ltb-true}
use Rattle.term.specs.Word.{Head, word, count_of, pick}
use Rattle.term.proofs.Laws.{never}
use Rattle.fit.specs.Left.{Left, end, part, wide}
use Rattle.fit.specs.Constraint.{Place}
use Rattle.tree.specs.Told.Covered.{numbered_as}
use Rattle.tree.specs.Path.{Uncovered, place_numbered, enter}
use Rattle.tree.specs.Rows.{sub, subs_under, sub_at, head_here, head_at}
use Rattle.compiler.specs.Told.Tables.{first_at, is_free, spot_in, spot_at, head_word, children_numbered, row_numbered}
use Rattle.compiler.specs.Told.Stands.{spread, LeftAt, BlankAt, HeadKinds}
use Rattle.tree.proofs.Laws.{sub_end, from_start, subs_root, sub_child, head_sub, none_below, enter_other}
use Rattle.compiler.proofs.Sweeps.{first_true}
use Rattle.compiler.proofs.TableLaws.{at_place, head_there}
use Rattle.compiler.proofs.NumberLaws.{row_unheaded, row_numbered_lem, headed_spot}
use Rattle.compiler.proofs.SpotHeads.{is_end, sub_word, head_or, blank_none, at_spot, head_is_word}
use Rattle.compiler.proofs.Strikes.{kinds_at, kinds_sub, head_kind_lem}
use Rattle.compiler.proofs.EnteredSpots.{sub_places, kept_blank, kept_left}
use Rattle.compiler.proofs.EnteredCounts.{Counts}
use Rattle.compiler.proofs.EnteredChildren.{Numbered, numbered_none, children_numbered_lem}
use Rattle.compiler.proofs.EnteredLeft.{Spotted, spotted_high, spotted_inner, spotted_counts, locate, enter_left}

-- ---- the spot of a row at a place
spot_numbered_lem : (nums : List ℕ) (r n : ℕ) → (spot_at nums r n ≡ 4096 → ⊥) → (o : ℕ) × (o < 64) × (spot_at nums r n ≡ r * 64 + o) × (get_or nums (r * 64 + o) 0 ≡ suc n)
unfolding spot_at
spot_numbered_lem nums r n d = go (first_at (at_place nums r n) 0 64) refl d
  where
    go : (o : ℕ) → first_at (at_place nums r n) 0 64 ≡ o → (spot_in r o ≡ 4096 → ⊥) → (x : ℕ) × (x < 64) × (spot_in r o ≡ r * 64 + x) × (get_or nums (r * 64 + x) 0 ≡ suc n)
    go o e f = inner (ltb o 64) refl f
      where
        inner : (b : Bool) → ltb o 64 ≡ b → (pick b (r * 64 + o) 4096 ≡ 4096 → ⊥) → (x : ℕ) × (x < 64) × (pick b (r * 64 + o) 4096 ≡ r * 64 + x) × (get_or nums (r * 64 + x) 0 ≡ suc n)
        inner true q f =
            let t : at_place nums r n o ≡ true = rw e at (first_true (at_place nums r n) 64 0 (omega (arith, e, ltb-true o 64 q))) in
            (o, ltb-true o 64 q, refl, eqb-true (get_or nums (r * 64 + o) 0) (n + 1) t ∙ omega arith)
        inner false q f = absurd (f refl)

-- numbers in fewer spots, seen from more
wider_numbered : (count c t : ℕ) (nums next : List ℕ) (k e from to : ℕ) → from ≤ k → e ≤ to → Numbered count c t nums next k e 0 → Numbered count c t nums next from to 0
wider_numbered count c t nums next k e from to a b m =
    record {
      grown = m.grown;
      before = λ o l. m.before o (omega arith);
      after = λ o l. m.after o (omega arith);
      most = m.most;
      used = λ i f g. let u = m.used i f g in (u.0, omega (arith, a, u.1), omega (arith, b, u.2), u.3);
    }

-- how many were given is not asked
nothing_used : (count c t : ℕ) (nums next : List ℕ) (k e : ℕ) → Numbered count c t nums next k e 0 → Numbered count c 0 nums next k e 0
nothing_used count c t nums next k e m = record { grown = m.grown; before = m.before; after = m.after; most = m.most; used = λ i f g. absurd (omega arith) }

same_numbered : (fixed nums : List ℕ) (t v k m t' v' k' m' : ℕ) → t ≡ t' → v ≡ v' → k ≡ k' → m ≡ m' → children_numbered fixed t v k m nums ≡ children_numbered fixed t' v' k' m' nums
same_numbered fixed nums t v k m t' v' k' m' a b c d = rw (a, b, c, d)

no_child_there : (left : Left) (p : Place) (j : ℕ) → subs_under left p ≡ end → sub_at left (j ∷ p) ≡ end
no_child_there left p j e = sub_child left j p ∙ ap (λ (x : Left). sub x j) e ∙ sub_end j

module _ (fixed : List ℕ) (us : List Uncovered) (n c count : ℕ) where
  pub record RowDone (nums next : List ℕ) (r : ℕ) (left : Left) : Type 0 where
    pub numbered : Numbered count c 0 nums next (r * 64) (r * 64 + 64) 0
    pub here : LeftAt fixed next (enter n c us) (r * 64) [] 0 0 left
    pub blank : (more : ℕ) → spread left + more ≡ 64 → BlankAt fixed next (r * 64 + spread left) more
    pub used : (g : Head) → head_at left (place_numbered n us) ≡ some g → (i : ℕ) → i < count_of (word g) → (o : ℕ) × (r * 64 ≤ o) × (o < r * 64 + 64) × (get_or next o 0 ≡ suc (count + i))

module _ (fixed : List ℕ) (long : length fixed ≡ 8256) (us : List Uncovered) (n c count : ℕ) (counted : length us ≡ count) (own : numbered_as (place_numbered n us) us ≡ suc n)
    (only : (p : Place) → numbered_as p us ≡ suc n → p ≡ place_numbered n us) (new : (j : ℕ) → numbered_as (j ∷ place_numbered n us) us ≡ 0) (top : ℕ) (rest-place : Place) (rooted : place_numbered n us ≡ top ∷ rest-place)
    (struck : List ℕ) (r : ℕ) (few : r < 64) (free : is_free struck r ≡ true) (left : Left) (nums : List ℕ) (spots : length nums ≡ 4096)
    (short : spread left ≤ 64) (here : LeftAt fixed nums us (r * 64) [] 0 0 left) (blank : (more : ℕ) → spread left + more ≡ 64 → BlankAt fixed nums (r * 64 + spread left) more) (kinds-row : HeadKinds left) (counts : Counts left) where
  abbrev P : Place
  P = place_numbered n us

  head_word_lem : head_word fixed nums r n ≡ head_or (head_at left P)
  head_word_lem = head_is_word fixed nums us r n left P only own here short blank few (kinds_sub (sub_at left P) (kinds_at left P kinds-row))

  -- ---- without a head at the place
  no_child : head_at left P ≡ none → (i : ℕ) (p : Place) → is_end (sub_at left (i ∷ p)) ≡ false → numbered_as (i ∷ p) (enter n c us) ≡ numbered_as (i ∷ p) us
  no_child e i p f =
      enter_other us n c (i ∷ p)
      (λ j z. let y : is_end (sub_at left (i ∷ p)) ≡ true = ap is_end (ap (sub_at left) z ∙ no_child_there left P j under_none) in never (cc))
    where
      under_none : subs_under left P ≡ end
      under_none = ap (subs_under left) rooted ∙ none_below left top rest-place (ap (head_at left) (sym rooted) ∙ e)

  pub row_without : head_at left P ≡ none → RowDone fixed us n c count nums (row_numbered fixed struck n count r nums) r left
  row_without e =
      rw (← row_unheaded fixed struck n count r nums (head_word fixed nums r n) refl (head_word_lem ∙ ap head_or e))
      (record {
        numbered = numbered_none count c 0 nums (r * 64) (r * 64 + 64) 0 (omega arith);
        here = kept_left fixed nums nums us (enter n c us) left (r * 64) [] 0 0 (λ o a b. refl)
            (sub_places left (λ q. numbered_as q (enter n c us) ≡ numbered_as q us) (no_child e) [] 0 left (from_start (subs_under left []) ∙ subs_root left)) here;
        blank = blank;
        used = λ g q. never (cc);
      })

  -- ---- with a head there, at the spot r * 64 + o
  module _ (g : Head) (kids other : Left) (is : sub_at left P ≡ part g kids other) (full : wide kids ≤ c) (counts-so : count_of (word g) ≡ wide kids) where
    head_is_lem : head_at left P ≡ some g
    head_is_lem = head_sub left P ∙ ap head_here is

    same_count : (f : Head) → ◌≡◌ {A = Option Head} (some f) (some g) → count_of (word f) ≡ count_of (word g)
    same_count f e = let z : f ≡ g = cc in ap (λ (h : Head). count_of (word h)) z

    headed : head_word fixed nums r n ≡ 33554432 → ⊥
    headed e =
        let l = head_kind_lem (sub_at left P) (kinds_sub (sub_at left P) (kinds_at left P kinds-row)) g (ap head_here is) in
        head_there (word g) l (sym (head_word_lem ∙ ap head_or head_is_lem) ∙ e)

    module _ (o : ℕ) (inside-row : o < 64) (at : spot_at nums r n ≡ r * 64 + o) (numbered-there : get_or nums (r * 64 + o) 0 ≡ suc n) where
      not_blank : o < spread left
      not_blank = go (dec_le (suc o) (spread left))
        where
          go : Dec (suc o ≤ spread left) → o < spread left
          go (yes q) = q
          go (no q) =
              let z : spread left + (64 - spread left) ≡ 64 = omega (arith, short) in
              absurd (omega (arith, numbered-there, blank_none fixed nums (64 - spread left) (r * 64 + spread left) (r * 64 + o) (blank (64 - spread left) z) (omega arith) (omega (arith, short))))

      spotted : Spotted (r * 64 + o) P kids (r * 64) [] 0 left
      spotted = locate fixed nums us left P n only g kids other is (r * 64 + o) numbered-there left (r * 64) [] 0 0 (from_start (subs_under left []) ∙ subs_root left) here (omega arith) (omega (arith, not_blank))

      abbrev next : List ℕ
      next = children_numbered fixed (r * 64 + 64) (count + 1 + 0) (suc (r * 64 + o)) (wide kids) nums

      children : (d : ℕ) → LeftAt fixed nums us (suc (r * 64 + o)) P 0 d kids
          → Numbered count c (wide kids) nums next (suc (r * 64 + o)) (suc (r * 64 + o) + spread kids) 0 × LeftAt fixed next (enter n c us) (suc (r * 64 + o)) P 0 d kids
      children d l =
          children_numbered_lem fixed (r * 64 + 64) (omega (arith, long, few)) us n c (wide kids) count full counted new kids nums (suc (r * 64 + o)) 0 d (spotted_counts (r * 64 + o) P kids left (r * 64) [] 0 spotted counts) (omega arith)
          (omega (arith, spotted_high (r * 64 + o) P kids left (r * 64) [] 0 spotted, short)) (omega (arith, spots, few)) l

      given : Numbered count c (wide kids) nums next (suc (r * 64 + o)) (suc (r * 64 + o) + spread kids) 0
      given = let l = spotted_inner (r * 64 + o) P kids fixed nums us left (r * 64) [] 0 0 spotted here in (children l.0 l.1).0

      given_row : Numbered count c (wide kids) nums next (r * 64) (r * 64 + 64) 0
      given_row =
          wider_numbered count c (wide kids) nums next (suc (r * 64 + o)) (suc (r * 64 + o) + spread kids) (r * 64) (r * 64 + 64) (omega arith)
          (omega (arith, spotted_high (r * 64 + o) P kids left (r * 64) [] 0 spotted, short)) given

      word_there : get_or fixed (r * 64 + o) 0 ≡ word g
      word_there = (at_spot fixed nums us r n left P only own here short blank few o inside-row numbered-there).0 ∙ ap sub_word is

      next_is : next ≡ row_numbered fixed struck n count r nums
      next_is =
          row_numbered_lem fixed struck n count r nums (head_word fixed nums r n) (r * 64 + o) next (eqb-true (get_or struck r 0) 0 free) refl headed (sym at)
          (same_numbered fixed nums (r * 64 + 64) (count + 1 + 0) (suc (r * 64 + o)) (wide kids) ((r * 64 + o) / 64 * 64 + 64) (count + 1) (r * 64 + o + 1) (count_of (get_or fixed (r * 64 + o) 0)) (omega (arith, inside-row)) (omega arith) (omega arith)
          (sym counts-so ∙ ap count_of (sym word_there)))

      row_at : RowDone fixed us n c count nums next r left
      row_at =
          record {
            numbered = nothing_used count c (wide kids) nums next (r * 64) (r * 64 + 64) given_row;
            here = enter_left fixed nums next us (enter n c us) (r * 64 + o) P kids (enter_other us n c) given.before given.after (λ d l. (children d l).1) left (r * 64) [] 0 0 spotted here;
            blank = λ more z. kept_blank fixed nums next more (r * 64 + spread left) (λ k a b. given.after k (omega (arith, a, spotted_high (r * 64 + o) P kids left (r * 64) [] 0 spotted))) (blank more z);
            used = λ f q i l. given_row.used i (omega arith) (omega (arith, l, same_count f (sym q ∙ head_is_lem), counts-so));
          }

    pub row_with_lem : RowDone fixed us n c count nums (row_numbered fixed struck n count r nums) r left
    row_with_lem =
        let x = spot_numbered_lem nums r n (headed_spot fixed nums r n (head_word fixed nums r n) refl headed) in
        rw (← next_is x.0 x.1 x.2 x.3) (row_at x.0 x.1 x.2 x.3)
