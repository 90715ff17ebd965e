-- The spot of a rule at a place has the word of its sub-pattern there: so what the tables say of heads is what the rows have.
use mathlib.Core.Path.{◌≡◌, refl, sym, ap, ◌∙◌}
use mathlib.Core.Bool.{Bool, true, false}
use mathlib.Core.List.{List, [], ◌∷◌}
use mathlib.Core.Option.{Option, none, some}
use Prim.Native.Nat.{ℕ, zero, suc, ◌+◌, ◌*◌, ◌-◌, ◌≤◌, ◌<◌}
use native.Mathlib.Omega.{arith}
use native.Mathlib.Decide.{dec_le}
use lib.Dec.{eqb, ltb}
use lib.ListN.{length, get_or}
use Rattle.term.specs.Word.{Head, pattern, word, pick}
use Rattle.term.specs.Renumber.{inside}
use Rattle.term.proofs.Laws.{never}
use Rattle.fit.specs.Left.{Left, end, hole, part}
use Rattle.fit.specs.Constraint.{Place}
use Rattle.tree.specs.Told.Covered.{numbered_as}
use Rattle.tree.specs.Path.{Uncovered}
use Rattle.tree.specs.Rows.{sub, below, subs_under, sub_at, head_here, head_at}
use Rattle.compiler.specs.Told.Stands.{spread, ListAt, LeftAt, BlankAt}
use borrow.Author.Tests.{eqb-true, eq-eqb, ne_eqb, ltb-true, ltb-false}
use Rattle.compiler.specs.Told.Tables.{first_at, spot_in, spot_at, head_kind, head_is, head_word}
use Rattle.tree.proofs.Laws.{sub_end, sub_hole, sub_part, sub_root, subs_child, below_end, below_hole, below_part, subs_from, from_hole, from_part, from_start, subs_root, sub_child, head_sub, headed_below}
use Rattle.compiler.proofs.Sweeps.{first_true, first_false}
use Rattle.compiler.proofs.TableLaws.{at_place}

-- the first word of a sub-pattern
abbrev pub sub_word : Left → ℕ
sub_word end = 33554432
sub_word (hole x ys rest) = word (pattern x (length ys))
sub_word (part h kids rest) = word h

abbrev pub is_end : Left → Bool
is_end end = true
is_end (hole x ys rest) = false
is_end (part h kids rest) = false

list_none : (fixed nums ys : List ℕ) (k o : ℕ) → ListAt fixed nums k ys → k ≤ o → o < k + length ys → get_or nums o 0 ≡ 0
unfolding ListAt
list_none fixed nums [] k o l a b = absurd (omega arith)
list_none fixed nums (y ∷ ys) k o l a b = go (dec_le (suc k) o) (λ q. list_none fixed nums ys (suc k) o l.2 q (omega arith))
  where
    go : Dec (suc k ≤ o) → (suc k ≤ o → get_or nums o 0 ≡ 0) → get_or nums o 0 ≡ 0
    go (yes q) r = r q
    go (no q) r = let z : o ≡ k = omega arith in rw z l.1

pub blank_none : (fixed nums : List ℕ) (more k o : ℕ) → BlankAt fixed nums k more → k ≤ o → o < k + more → get_or nums o 0 ≡ 0
unfolding BlankAt
blank_none fixed nums zero k o l a b = absurd (omega arith)
blank_none fixed nums (suc more) k o l a b = go (dec_le (suc k) o) (λ q. blank_none fixed nums more (suc k) o l.2 q (omega arith))
  where
    go : Dec (suc k ≤ o) → (suc k ≤ o → get_or nums o 0 ≡ 0) → get_or nums o 0 ≡ 0
    go (yes q) r = r q
    go (no q) r = let z : o ≡ k = omega arith in rw z l.1

pub left_hole : (fixed nums : List ℕ) (us : List Uncovered) (k : ℕ) (p : Place) (i d x : ℕ) (ys : List ℕ) (rest : Left) → LeftAt fixed nums us k p i d (hole x ys rest)
    → (get_or fixed k 0 ≡ word (pattern x (length ys))) × (get_or fixed (4096 + k) 0 ≡ d) × (get_or nums k 0 ≡ numbered_as (i ∷ p) us)
    × ListAt fixed nums (suc k) ys × LeftAt fixed nums us (k + 1 + length ys) p (suc i) d rest
unfolding LeftAt
left_hole fixed nums us k p i d x ys rest l = l

pub left_part : (fixed nums : List ℕ) (us : List Uncovered) (k : ℕ) (p : Place) (i d : ℕ) (h : Head) (kids rest : Left) → LeftAt fixed nums us k p i d (part h kids rest)
    → (get_or fixed k 0 ≡ word h) × (get_or nums k 0 ≡ numbered_as (i ∷ p) us)
    × LeftAt fixed nums us (suc k) (i ∷ p) 0 (inside h d) kids × LeftAt fixed nums us (k + 1 + spread kids) p (suc i) d rest
unfolding LeftAt
left_part fixed nums us k p i d h kids rest l = l

pub spread_end : spread end ≡ 0
unfolding spread
spread_end = refl

pub spread_hole : (x : ℕ) (ys : List ℕ) (rest : Left) → spread (hole x ys rest) ≡ 1 + length ys + spread rest
unfolding spread
spread_hole x ys rest = refl

pub spread_part : (h : Head) (kids rest : Left) → spread (part h kids rest) ≡ 1 + spread kids + spread rest
unfolding spread
spread_part h kids rest = refl

-- ---- a spot with the number of a place has the word of the sub-pattern at that place
module _ (fixed nums : List ℕ) (us : List Uncovered) (left : Left) (q : Place) (n : ℕ) (only : (p : Place) → numbered_as p us ≡ suc n → p ≡ q) where
  abbrev FoundAt : ℕ → Type 0
  FoundAt o = (get_or fixed o 0 ≡ sub_word (sub_at left q)) × (is_end (sub_at left q) ≡ false)

  found_here : (p : Place) (k : ℕ) (y : Left) → sub_at left p ≡ y → get_or nums k 0 ≡ numbered_as p us → get_or nums k 0 ≡ suc n → get_or fixed k 0 ≡ sub_word y → is_end y ≡ false → FoundAt k
  found_here p k y s a b w e =
      let z : q ≡ p = sym (only p (sym a ∙ b)) in
      let t : sub_at left q ≡ y = ap (sub_at left) z ∙ s in
      rw t (w, e)

  pub found : (k : ℕ) (p : Place) (i d : ℕ) (x : Left) → subs_from i (subs_under left p) ≡ x → LeftAt fixed nums us k p i d x
      → (o : ℕ) → k ≤ o → o < k + spread x → get_or nums o 0 ≡ suc n → FoundAt o
  found k p i d end e l o a b c = absurd (omega (arith, a, b, spread_end))
  found k p i d (hole x ys rest) e l o a b c =
      let f = from_hole (subs_under left p) i x ys rest e in
      let t = left_hole fixed nums us k p i d x ys rest l in
      go f.0 (dec_le (suc k) o) (dec_le (k + 1 + length ys) o) t (λ r. found (k + 1 + length ys) p (suc i) d rest f.1 t.4 o r (omega (arith, b, spread_hole x ys rest)) c)
    where
      go : sub (subs_under left p) i ≡ hole x ys end → Dec (suc k ≤ o) → Dec (k + 1 + length ys ≤ o)
          → (get_or fixed k 0 ≡ word (pattern x (length ys))) × (get_or fixed (4096 + k) 0 ≡ d) × (get_or nums k 0 ≡ numbered_as (i ∷ p) us)
          × ListAt fixed nums (suc k) ys × LeftAt fixed nums us (k + 1 + length ys) p (suc i) d rest
          → (k + 1 + length ys ≤ o → FoundAt o) → FoundAt o
      go s g (yes r) t f = f r
      go s (yes g) (no r) t f = absurd (omega (arith, c, list_none fixed nums ys (suc k) o t.3 g (omega arith)))
      go s (no g) (no r) t f =
          let z : o ≡ k = omega arith in
          let y : get_or nums k 0 ≡ suc n = rw z at c in
          rw z (found_here (i ∷ p) k (hole x ys end) (sub_child left i p ∙ s) t.2 y t.0 refl)
  found k p i d (part h kids rest) e l o a b c =
      let f = from_part (subs_under left p) i h kids rest e in
      let t = left_part fixed nums us k p i d h kids rest l in
      let s : sub_at left (i ∷ p) ≡ part h kids end = sub_child left i p ∙ f.0 in
      let u : subs_under left (i ∷ p) ≡ kids = headed_below left i p h (record { kids = kids; rest = end; is = s }) in
      go s (dec_le (suc k) o) (dec_le (k + 1 + spread kids) o) t.0 t.1
      (λ g r. found (suc k) (i ∷ p) 0 (inside h d) kids (from_start (subs_under left (i ∷ p)) ∙ u) t.2 o g r c)
      (λ r. found (k + 1 + spread kids) p (suc i) d rest f.1 t.3 o r (omega (arith, b, spread_part h kids rest)) c)
    where
      go : sub_at left (i ∷ p) ≡ part h kids end → Dec (suc k ≤ o) → Dec (k + 1 + spread kids ≤ o) → get_or fixed k 0 ≡ word h → get_or nums k 0 ≡ numbered_as (i ∷ p) us
          → (suc k ≤ o → o < suc k + spread kids → FoundAt o) → (k + 1 + spread kids ≤ o → FoundAt o) → FoundAt o
      go s g (yes r) w m f1 f2 = f2 r
      go s (yes g) (no r) w m f1 f2 = f1 g (omega arith)
      go s (no g) (no r) w m f1 f2 =
          let z : o ≡ k = omega arith in
          let y : get_or nums k 0 ≡ suc n = rw z at c in
          rw z (found_here (i ∷ p) k (part h kids end) s m y w refl)

-- ---- a sub-pattern has a spot
pub record SpotOf (fixed nums : List ℕ) (us : List Uncovered) (from to : ℕ) (p : Place) (y : Left) : Type 0 where
  pub spot : ℕ
  pub depth : ℕ
  pub low : from ≤ spot
  pub high : suc spot + spread (below y) ≤ to
  pub number : get_or nums spot 0 ≡ numbered_as p us
  pub words : get_or fixed spot 0 ≡ sub_word y
  pub inner : LeftAt fixed nums us (suc spot) p 0 depth (below y)

wider : (fixed nums : List ℕ) (us : List Uncovered) (from to from' to' : ℕ) (p : Place) (y : Left) → from' ≤ from → to ≤ to' → SpotOf fixed nums us from to p y → SpotOf fixed nums us from' to' p y
wider fixed nums us from to from' to' p y a b s =
    record { spot = s.spot; depth = s.depth; low = omega (arith, s.low); high = omega (arith, s.high); number = s.number; words = s.words; inner = s.inner }

left_end : (fixed nums : List ℕ) (us : List Uncovered) (k : ℕ) (p : Place) (i d : ℕ) → LeftAt fixed nums us k p i d end
unfolding LeftAt
left_end fixed nums us k p i d = tt

sub_spot : (fixed nums : List ℕ) (us : List Uncovered) (x : Left) (k : ℕ) (p : Place) (i d j : ℕ) → LeftAt fixed nums us k p i d x → is_end (sub x j) ≡ false
    → SpotOf fixed nums us k (k + spread x) ((i + j) ∷ p) (sub x j)
sub_spot fixed nums us end k p i d j l e = let z : is_end (sub end j) ≡ true = ap is_end (sub_end j) in never (cc)
sub_spot fixed nums us (hole x ys rest) k p i d zero l e =
    let t = left_hole fixed nums us k p i d x ys rest l in
    let z : i + 0 ≡ i = omega arith in
    rw (sub_hole x ys rest).0
    record {
      spot = k;
      depth = d;
      low = omega arith;
      high = rw (below_hole x ys end, spread_end, spread_hole x ys rest) (omega arith);
      number = rw z t.2;
      words = t.0;
      inner = rw (below_hole x ys end) (left_end fixed nums us (suc k) ((i + 0) ∷ p) 0 d);
    }
sub_spot fixed nums us (hole x ys rest) k p i d (suc j) l e =
    let t = left_hole fixed nums us k p i d x ys rest l in
    let z : i + suc j ≡ suc i + j = omega arith in
    let s = sub_spot fixed nums us rest (k + 1 + length ys) p (suc i) d j t.4 (sym (ap is_end ((sub_hole x ys rest).1 j)) ∙ e) in
    rw (z, (sub_hole x ys rest).1 j) (wider fixed nums us (k + 1 + length ys) (k + 1 + length ys + spread rest) k (k + spread (hole x ys rest)) ((suc i + j) ∷ p) (sub rest j) (omega arith) (omega (arith, spread_hole x ys rest)) s)
sub_spot fixed nums us (part h kids rest) k p i d zero l e =
    let t = left_part fixed nums us k p i d h kids rest l in
    let z : i + 0 ≡ i = omega arith in
    rw (sub_part h kids rest).0
    record {
      spot = k;
      depth = inside h d;
      low = omega arith;
      high = rw (below_part h kids end, spread_part h kids rest) (omega arith);
      number = rw z t.1;
      words = t.0;
      inner = rw (below_part h kids end, z) t.2;
    }
sub_spot fixed nums us (part h kids rest) k p i d (suc j) l e =
    let t = left_part fixed nums us k p i d h kids rest l in
    let z : i + suc j ≡ suc i + j = omega arith in
    let s = sub_spot fixed nums us rest (k + 1 + spread kids) p (suc i) d j t.3 (sym (ap is_end ((sub_part h kids rest).1 j)) ∙ e) in
    rw (z, (sub_part h kids rest).1 j) (wider fixed nums us (k + 1 + spread kids) (k + 1 + spread kids + spread rest) k (k + spread (part h kids rest)) ((suc i + j) ∷ p) (sub rest j) (omega arith) (omega (arith, spread_part h kids rest)) s)

-- what stands below a place, from some spot on
record UnderAt (fixed nums : List ℕ) (us : List Uncovered) (from to : ℕ) (p : Place) (y : Left) : Type 0 where
  spot : ℕ
  depth : ℕ
  low : from ≤ spot
  high : spot + spread y ≤ to
  inner : LeftAt fixed nums us spot p 0 depth y

under_end : (fixed nums : List ℕ) (us : List Uncovered) (from to : ℕ) (p : Place) (y : Left) → from ≤ to → y ≡ end → UnderAt fixed nums us from to p y
under_end fixed nums us from to p y h e =
    rw e (record { spot = from; depth = 0; low = omega arith; high = omega (arith, spread_end); inner = left_end fixed nums us from p 0 0 })

under_at : (fixed nums : List ℕ) (us : List Uncovered) (left : Left) (k d : ℕ) → LeftAt fixed nums us k [] 0 d left → (p : Place) → UnderAt fixed nums us k (k + spread left) p (subs_under left p)
under_at fixed nums us left k d l [] = rw (subs_root left) (record { spot = k; depth = d; low = omega arith; high = omega arith; inner = l })
under_at fixed nums us left k d l (j ∷ p) = rw (subs_child left j p) (go (under_at fixed nums us left k d l p) (sub (subs_under left p) j) refl)
  where
    go : UnderAt fixed nums us k (k + spread left) p (subs_under left p) → (y : Left) → sub (subs_under left p) j ≡ y → UnderAt fixed nums us k (k + spread left) (j ∷ p) (below y)
    go u y e = inner (is_end y) refl
      where
        there : is_end y ≡ false → UnderAt fixed nums us k (k + spread left) (j ∷ p) (below y)
        there f =
            let s = sub_spot fixed nums us (subs_under left p) u.spot p 0 u.depth j u.inner (ap is_end e ∙ f) in
            let z : 0 + j ≡ j = omega arith in
            let t : SpotOf fixed nums us u.spot (u.spot + spread (subs_under left p)) (j ∷ p) y = rw (z, e) at s in
            record { spot = suc t.spot; depth = t.depth; low = omega (arith, u.low, t.low); high = omega (arith, u.high, t.high); inner = t.inner }

        ended : (y : Left) → is_end y ≡ true → below y ≡ end
        ended end f = below_end
        ended (hole x ys rest) f = never (cc)
        ended (part h kids rest) f = never (cc)

        inner : (b : Bool) → is_end y ≡ b → UnderAt fixed nums us k (k + spread left) (j ∷ p) (below y)
        inner false f = there f
        inner true f = under_end fixed nums us k (k + spread left) (j ∷ p) (below y) (omega arith) (ended y f)

pub spot_exists : (fixed nums : List ℕ) (us : List Uncovered) (left : Left) (k d : ℕ) → LeftAt fixed nums us k [] 0 d left → (q : Place) → is_end (sub_at left q) ≡ false
    → SpotOf fixed nums us k (k + spread left) q (sub_at left q)
spot_exists fixed nums us left k d l [] e = let z : is_end (sub_at left []) ≡ true = ap is_end (sub_root left) in never (cc)
spot_exists fixed nums us left k d l (i ∷ p) e =
    let u = under_at fixed nums us left k d l p in
    let s = sub_spot fixed nums us (subs_under left p) u.spot p 0 u.depth i u.inner (sym (ap is_end (sub_child left i p)) ∙ e) in
    let z : 0 + i ≡ i = omega arith in
    let t : SpotOf fixed nums us u.spot (u.spot + spread (subs_under left p)) (i ∷ p) (sub (subs_under left p) i) = rw z at s in
    rw (sub_child left i p) (wider fixed nums us u.spot (u.spot + spread (subs_under left p)) k (k + spread left) (i ∷ p) (sub (subs_under left p) i) u.low u.high t)

-- ---- THE LAW of heads: what the tables say of a rule's head at a place is what its left side has there
abbrev pub head_or : Option Head → ℕ
head_or none = 33554432
head_or (some h) = word h

-- what the words of a left side are: heads are symbols and abstractions, and pattern variables are neither
pub record SubKinds (y : Left) : Type 0 where
  pub heads : (h : Head) (kids rest : Left) → y ≡ part h kids rest → head_kind (word h) ≡ true
  pub holes : (x : ℕ) (ys : List ℕ) (rest : Left) → y ≡ hole x ys rest → head_kind (word (pattern x (length ys))) ≡ false

sub_head : (y : Left) → SubKinds y → is_end y ≡ false → head_is (sub_word y) ≡ head_or (head_here y)
sub_head end s e = never (cc)
sub_head (hole x ys rest) s e = rw (s.holes x ys rest refl)
sub_head (part h kids rest) s e = rw (s.heads h kids rest refl)

end_head : (y : Left) → is_end y ≡ true → 33554432 ≡ head_or (head_here y)
end_head end e = refl
end_head (hole x ys rest) e = never (cc)
end_head (part h kids rest) e = never (cc)

module _ (fixed nums : List ℕ) (us : List Uncovered) (r n : ℕ) (left : Left) (q : Place) (only : (p : Place) → numbered_as p us ≡ suc n → p ≡ q) (numbered : numbered_as q us ≡ suc n)
    (here : LeftAt fixed nums us (r * 64) [] 0 0 left) (short : spread left ≤ 64) (blank : (more : ℕ) → spread left + more ≡ 64 → BlankAt fixed nums (r * 64 + spread left) more) (rule : r < 64) where
  pub at_spot : (o : ℕ) → o < 64 → get_or nums (r * 64 + o) 0 ≡ suc n → (get_or fixed (r * 64 + o) 0 ≡ sub_word (sub_at left q)) × (is_end (sub_at left q) ≡ false)
  at_spot o h e = go (dec_le (spread left) o)
    where
      go : Dec (spread left ≤ o) → (get_or fixed (r * 64 + o) 0 ≡ sub_word (sub_at left q)) × (is_end (sub_at left q) ≡ false)
      go (yes g) =
          let z : spread left + (64 - spread left) ≡ 64 = omega (arith, short) in
          absurd (omega (arith, e, blank_none fixed nums (64 - spread left) (r * 64 + spread left) (r * 64 + o) (blank (64 - spread left) z) (omega arith) (omega (arith, short))))
      go (no g) = found fixed nums us left q n only (r * 64) [] 0 0 left (from_start (subs_under left []) ∙ subs_root left) here (r * 64 + o) (omega arith) (omega arith) e

  no_spot : 64 ≤ first_at (at_place nums r n) 0 64 → is_end (sub_at left q) ≡ true
  no_spot h = go (is_end (sub_at left q)) refl
    where
      go : (b : Bool) → is_end (sub_at left q) ≡ b → b ≡ true
      go true e = refl
      go false e =
          let s = spot_exists fixed nums us left (r * 64) 0 here q e in
          let z : r * 64 + (s.spot - r * 64) ≡ s.spot = omega (arith, s.low) in
          let f = first_false (at_place nums r n) 64 0 (omega arith) (s.spot - r * 64) (omega arith) (omega (arith, s.high, short)) in
          let g : get_or nums (r * 64 + (s.spot - r * 64)) 0 ≡ n + 1 = rw z (s.number ∙ numbered ∙ omega arith) in
          let x : true ≡ false = sym (eq-eqb (get_or nums (r * 64 + (s.spot - r * 64)) 0) (n + 1) g) ∙ f in
          never (cc)

  pub head_is_word : SubKinds (sub_at left q) → head_word fixed nums r n ≡ head_or (head_at left q)
  unfolding head_word spot_at
  head_is_word kinds = rw (head_sub left q) (go (first_at (at_place nums r n) 0 64) refl)
    where
      go : (o : ℕ) → first_at (at_place nums r n) 0 64 ≡ o → pick (eqb (spot_in r o) 4096) 33554432 (head_is (get_or fixed (spot_in r o) 0)) ≡ head_or (head_here (sub_at left q))
      go o e = inner (ltb o 64) refl
        where
          inner : (b : Bool) → ltb o 64 ≡ b → pick (eqb (pick b (r * 64 + o) 4096) 4096) 33554432 (head_is (get_or fixed (pick b (r * 64 + o) 4096) 0)) ≡ head_or (head_here (sub_at left q))
          inner true f =
              let l = ltb-true o 64 f in
              let t : at_place nums r n o ≡ true = rw e at (first_true (at_place nums r n) 64 0 (omega (arith, e))) in
              let s = at_spot o l (eqb-true (get_or nums (r * 64 + o) 0) (n + 1) t ∙ omega arith) in
              rw (ne_eqb (r * 64 + o) 4096 (λ x. omega (arith, x, l, rule)), s.0) (sub_head (sub_at left q) kinds s.1)
          inner false f = end_head (sub_at left q) (no_spot (omega (arith, e, ltb-false o 64 f)))
