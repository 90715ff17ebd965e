-- A body written in its place: it is over the limits just where it nests too deep there, an id passes 65,535 or the words run over.
use mathlib.Core.Path.{◌≡◌, refl, sym, ap, ◌∙◌}
use mathlib.Core.Bool.{Bool, true, false}
use mathlib.Core.List.{List, [], ◌∷◌, ◌++◌, append-nil}
use mathlib.Core.Option.{none, some}
use Prim.Native.Nat.{ℕ, zero, suc, ◌+◌, ◌-◌, ◌≤◌, ◌<◌}
use native.Mathlib.Omega.{arith}
use native.Mathlib.Nat.{zero-add, suc-add}
use lib.Dec.{leb}
use lib.ListN.{length, set, take, drop, length-drop}
use lib.Seq.{sets, length-take-le, set_out, take-length, drop-length}
use borrow.Author.Tests.{leb-true, leb-false}
use Rattle.std.specs.Prelude.{Ok, Option, Some, None}
use Rattle.term.specs.Word.{count_of, ident_of}
use Rattle.term.specs.Row.{Row, words, nesting, Formed}
use Rattle.term.specs.Check.{check, term_limits}
use Rattle.term.specs.Renumber.{to_term, ids_within}
use Rattle.term.specs.Part.{below_came, write_below_gives}
use Rattle.term.specs.Told.Walk.{Stands}
use Rattle.term.proofs.Laws.{never, words_unique, term_keeps, within_formed, formed_within, below_wrote, below_none}
use Rattle.book.specs.Told.Ids.{list_in}
use Rattle.fit.specs.Match.{tree_of}
use Rattle.fit.specs.Build.{start_of, words_at, given_bodies}
use Rattle.fit.specs.Told.BuildWalk.{RowBuilt, BodyBuilt, HoleBuilt}
use Rattle.fit.proofs.Standing.{term_standing}
use Rattle.fit.proofs.Lengths.{start_below}

-- ---- stores from an offset on are stores in the part from there on
sets_cons : (x : ℕ) (l : List ℕ) (i : ℕ) (ws : List ℕ) → sets (x ∷ l) (suc i) ws ≡ x ∷ sets l i ws
sets_cons x l i [] = refl
sets_cons x l i (w ∷ ws) = sets_cons x (set l i w) (suc i) ws

sets_part : (n : ℕ) (l : List ℕ) (i : ℕ) (ws : List ℕ) → n ≤ length l → take n l ++ sets (drop n l) i ws ≡ sets l (n + i) ws
sets_part zero l i ws h = rw (zero-add i)
sets_part (suc n) [] i ws h = absurd (omega arith)
sets_part (suc n) (x ∷ l) i ws h = rw (suc-add n i) (ap (x ∷◌) (sets_part n l i ws (omega arith)) ∙ sym (sets_cons x l (n + i) ws))

sets_nil : (i : ℕ) (ws : List ℕ) → sets [] i ws ≡ []
sets_nil i [] = refl
sets_nil i (w ∷ ws) = sets_nil (suc i) ws

sets_out : (l : List ℕ) (i : ℕ) (ws : List ℕ) → length l ≤ i → sets l i ws ≡ l
sets_out l i [] h = refl
sets_out l i (w ∷ ws) h = rw (set_out l i w h) (sets_out l (suc i) ws (omega arith))

pub spliced : (out ws : List ℕ) (to from : ℕ) → from ≡ length out - (length out - to) → take from out ++ sets (drop from out) 0 ws ≡ sets out to ws
spliced out ws to from e = go (leb to (length out)) refl
  where
    go : (b : Bool) → leb to (length out) ≡ b → take from out ++ sets (drop from out) 0 ws ≡ sets out to ws
    go true q =
        let h : to ≤ length out = leb-true to (length out) q in
        let f : from ≡ to = omega (arith, e, h) in
        let z : to + 0 ≡ to = omega arith in
        rw f (rw z at (sets_part to out 0 ws h))
    go false q =
        let h : length out < to = leb-false to (length out) q in
        let f : from ≡ length out = omega (arith, e, h) in
        rw (f, take-length out, drop-length out, sets_nil 0 ws, append-nil out) (sym (sets_out out to ws (omega arith)))

-- the part from an offset on goes to the end
pub put_back : (out last : List ℕ) (from : ℕ) → take from out ++ (last ++ drop (length out - from) (drop from out)) ≡ take from out ++ last
put_back out last from =
    let e : drop (length out - from) (drop from out) ≡ [] = ap (λ (k : ℕ). drop k (drop from out)) (sym (length-drop from out)) ∙ drop-length (drop from out) in
    rw (e, append-nil last)

-- ---- a body that was written
module _ (d : ℕ) (ys : List ℕ) (levels : ℕ) (body out : List ℕ) (to : ℕ) where
  pub part_beyond : (done : List ℕ) → 4096 < to → BodyBuilt d ys levels body out to done None
  unfolding BodyBuilt
  part_beyond done h g c = λ p n l. omega (arith, h, l)

  -- the one tree that stands there is the body
  same_tree : (b : Row) (after : List ℕ) → check term_limits body ≡ Ok tt → Stands levels 1 body 0 b after → b ≡ tree_of body
  same_tree b after c s =
      let t = term_standing body c in
      (words_unique b (tree_of body) after [] s.formed t.formed (s.wide ∙ sym t.wide) (sym s.same ∙ t.same)).0

  module _ (from : ℕ) (e : from ≡ length out - (length out - to)) (small : to ≤ 4096) (last : List ℕ) where
    module _ (n : ℕ) (told : below_came (Some n) last ≡ write_below_gives levels d ys body (drop from out)) where
      record Wrote : Type 0 where
        is : ids_within d ys (tree_of body) ≡ true
        formed : Formed (tree_of body)
        low : nesting (tree_of body) ≤ levels
        long : n ≡ length (words (tree_of body))
        written : last ≡ sets (drop from out) 0 (words (to_term d ys (tree_of body)))

      wrote : check term_limits body ≡ Ok tt → Wrote
      wrote c =
          let t = below_wrote levels d ys body (drop from out) last n told in
          let q : t.0 ≡ tree_of body = same_tree t.0 t.1 c t.2 in
          record {
            is = rw q at t.3;
            formed = rw q at t.2.formed;
            low = rw q at t.2.low;
            long = rw q at t.4;
            written = rw q at t.5;
          }

      pub part_wrote : n ≤ 4096 - to → BodyBuilt d ys levels body out to (take from out ++ last) (Some (to + n))
      unfolding BodyBuilt
      part_wrote h g c = shown (wrote c)
        where
          shown : Wrote → RowBuilt levels out to (take from out ++ last) (to_term d ys (tree_of body)) (Some (to + n))
          shown w =
              let k = term_keeps d ys (tree_of body) in (
                within_formed d ys (tree_of body) w.formed w.is,
                omega (arith, k.deep, w.low),
                omega (arith, k.long, w.long),
                omega (arith, h, small),
                ap (λ (l : List ℕ). take from out ++ l) w.written ∙ spliced out (words (to_term d ys (tree_of body))) to from e,
              )

      pub part_long : 4096 - to < n → (done : List ℕ) → BodyBuilt d ys levels body out to done None
      unfolding BodyBuilt
      part_long h done g c = shown (wrote c)
        where
          shown : Wrote → RowBuilt levels out to done (to_term d ys (tree_of body)) None
          shown w = λ p q l. omega (arith, h, small, l, w.long, (term_keeps d ys (tree_of body)).long)

    pub part_over : below_came None last ≡ write_below_gives levels d ys body (drop from out) → (done : List ℕ) → BodyBuilt d ys levels body out to done None
    unfolding BodyBuilt
    part_over told done g c p n l =
        let t = term_standing body c in
        let s : Stands levels 1 body 0 (tree_of body) [] = record { formed = t.formed; few = t.few; low = omega (arith, n, (term_keeps d ys (tree_of body)).deep); wide = t.wide; same = t.same } in
        let f = below_none levels d ys body (drop from out) last told (tree_of body) [] s in
        let w = formed_within d ys (tree_of body) p in
        never (cc)

-- ---- a pattern variable's word, and the list after it
pub few_taken : (k : ℕ) (ids : List ℕ) → length ids ≡ 4 → k ≤ 4 → length (take k ids) ≤ 4
few_taken k ids e h = omega (arith, length-take-le k ids (omega (arith, e, h)), h)

module _ (w : ℕ) (after : List ℕ) (d levels : ℕ) (bodies lengths out : List ℕ) (to : ℕ) (done : List ℕ) where
  -- no list stands there, no such variable is given, or its body runs past the words: not where the bodies were judged good
  pub hole_no_list : list_in (count_of w) after ≡ none → HoleBuilt w after d levels bodies lengths out to done None
  unfolding HoleBuilt
  hole_no_list e vars ys g x l k = never (cc)

  pub hole_no_variable : 16 ≤ ident_of w → HoleBuilt w after d levels bodies lengths out to done None
  unfolding HoleBuilt
  hole_no_variable h vars ys g x l k = absurd (omega (arith, h, x, g.few))

  pub hole_past : length bodies < start_of lengths (ident_of w + 1) → HoleBuilt w after d levels bodies lengths out to done None
  unfolding HoleBuilt
  hole_past h vars ys g x l k = absurd (omega (arith, h, g.sums, start_below lengths (ident_of w + 1) 16 (omega (arith, x, g.few))))

  pub hole_wrote : (zs : List ℕ) → list_in (count_of w) after ≡ some zs → (r : Option ℕ) → BodyBuilt d zs levels (words_at bodies lengths (ident_of w)) out to done r
      → HoleBuilt w after d levels bodies lengths out to done r
  unfolding HoleBuilt BodyBuilt given_bodies
  hole_wrote zs e r told vars ys g x l k =
      let q : zs ≡ ys = cc in
      rw (← q) (told (rw q k) (g.terms (ident_of w) x))
