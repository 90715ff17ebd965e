-- A left side stands at its spots on the path with one of its places entered: only what stands right below that place has new numbers.
use mathlib.Core.Path.{◌≡◌, sym, ap, ◌∙◌}
use mathlib.Core.List.{List, [], ◌∷◌}
use mathlib.Core.Logic.{◌⊎◌, inl, inr}
use Prim.Native.Nat.{ℕ, suc, ◌+◌, ◌≤◌, ◌<◌}
use native.Mathlib.Omega.{arith}
use native.Mathlib.Decide.{dec_le}
use lib.ListN.{length, get_or}
use Rattle.term.specs.Word.{Head}
use Rattle.term.specs.Renumber.{inside}
use Rattle.term.proofs.Laws.{never}
use Rattle.fit.specs.Left.{Left, end, hole, part}
use Rattle.fit.specs.Constraint.{Place}
use Rattle.tree.specs.Told.Covered.{numbered_as}
use Rattle.tree.specs.Path.{Uncovered}
use Rattle.tree.specs.Rows.{sub, subs_under, sub_at}
use Rattle.compiler.specs.Told.Stands.{spread, ListAt, LeftAt}
use Rattle.tree.proofs.Laws.{subs_from, from_hole, from_part, from_start, sub_child, headed_below, child_number}
use Rattle.compiler.proofs.EnteredCounts.{Counts}
use Rattle.compiler.proofs.EnteredSpots.{Under, under_longer, under_own, under_above, under_child, under_one, under_places, kept_list, kept_left}

-- spot s has the place P and what stands below it is `kids`, in the sub-patterns i, i+1, .. below p from spot k on
abbrev pub Spotted : ℕ → Place → Left → ℕ → Place → ℕ → Left → Type 0
Spotted s P kids k p i end = ⊥
Spotted s P kids k p i (hole x ys rest) = Spotted s P kids (k + 1 + length ys) p (suc i) rest
Spotted s P kids k p i (part h ks rest) =
    ((s ≡ k) × (P ≡ i ∷ p) × (ks ≡ kids)) ⊎ (Spotted s P kids (suc k) (i ∷ p) 0 ks ⊎ Spotted s P kids (k + 1 + spread ks) p (suc i) rest)

module _ (s : ℕ) (P : Place) (kids : Left) where
  pub spotted_low : (x : Left) (k : ℕ) (p : Place) (i : ℕ) → Spotted s P kids k p i x → k ≤ s
  spotted_low end k p i f = absurd f
  spotted_low (hole x ys rest) k p i f = omega (arith, spotted_low rest (k + 1 + length ys) p (suc i) f)
  spotted_low (part h ks rest) k p i (inl f) = omega (arith, f.0)
  spotted_low (part h ks rest) k p i (inr (inl f)) = omega (arith, spotted_low ks (suc k) (i ∷ p) 0 f)
  spotted_low (part h ks rest) k p i (inr (inr f)) = omega (arith, spotted_low rest (k + 1 + spread ks) p (suc i) f)

  pub spotted_high : (x : Left) (k : ℕ) (p : Place) (i : ℕ) → Spotted s P kids k p i x → suc s + spread kids ≤ k + spread x
  unfolding spread
  spotted_high end k p i f = absurd f
  spotted_high (hole x ys rest) k p i f = omega (arith, spotted_high rest (k + 1 + length ys) p (suc i) f)
  spotted_high (part h ks rest) k p i (inl f) = omega (arith, f.0, ap spread f.2)
  spotted_high (part h ks rest) k p i (inr (inl f)) = omega (arith, spotted_high ks (suc k) (i ∷ p) 0 f)
  spotted_high (part h ks rest) k p i (inr (inr f)) = omega (arith, spotted_high rest (k + 1 + spread ks) p (suc i) f)

  pub spotted_under : (x : Left) (k : ℕ) (p : Place) (i : ℕ) → Spotted s P kids k p i x → (j : ℕ) × (i ≤ j) × Under j p P
  spotted_under end k p i f = absurd f
  spotted_under (hole x ys rest) k p i f = let r = spotted_under rest (k + 1 + length ys) p (suc i) f in (r.0, omega (arith, r.1), r.2)
  spotted_under (part h ks rest) k p i (inl f) = (i, omega arith, rw f.1 (under_own i p))
  spotted_under (part h ks rest) k p i (inr (inl f)) = let r = spotted_under ks (suc k) (i ∷ p) 0 f in (i, omega arith, under_above i r.0 p P r.2)
  spotted_under (part h ks rest) k p i (inr (inr f)) = let r = spotted_under rest (k + 1 + spread ks) p (suc i) f in (r.0, omega (arith, r.1), r.2)

  pub spotted_inner : (fixed nums : List ℕ) (us : List Uncovered) (x : Left) (k : ℕ) (p : Place) (i d : ℕ) → Spotted s P kids k p i x → LeftAt fixed nums us k p i d x
      → (e : ℕ) × LeftAt fixed nums us (suc s) P 0 e kids
  unfolding LeftAt
  spotted_inner fixed nums us end k p i d f l = absurd f
  spotted_inner fixed nums us (hole x ys rest) k p i d f l = spotted_inner fixed nums us rest (k + 1 + length ys) p (suc i) d f l.4
  spotted_inner fixed nums us (part h ks rest) k p i d (inl f) l = (inside h d, rw (f.0, f.1, ← f.2) l.2)
  spotted_inner fixed nums us (part h ks rest) k p i d (inr (inl f)) l = spotted_inner fixed nums us ks (suc k) (i ∷ p) 0 (inside h d) f l.2
  spotted_inner fixed nums us (part h ks rest) k p i d (inr (inr f)) l = spotted_inner fixed nums us rest (k + 1 + spread ks) p (suc i) d f l.3

  pub spotted_counts : (x : Left) (k : ℕ) (p : Place) (i : ℕ) → Spotted s P kids k p i x → Counts x → Counts kids
  spotted_counts end k p i f c = absurd f
  spotted_counts (hole x ys rest) k p i f c = spotted_counts rest (k + 1 + length ys) p (suc i) f c.2
  spotted_counts (part h ks rest) k p i (inl f) c = rw (← f.2) c.1
  spotted_counts (part h ks rest) k p i (inr (inl f)) c = spotted_counts ks (suc k) (i ∷ p) 0 f c.1
  spotted_counts (part h ks rest) k p i (inr (inr f)) c = spotted_counts rest (k + 1 + spread ks) p (suc i) f c.2

-- ---- a spot with the number of a place that has a head
list_zero : (fixed nums ys : List ℕ) (k o : ℕ) → ListAt fixed nums k ys → k ≤ o → o < k + length ys → get_or nums o 0 ≡ 0
unfolding ListAt
list_zero fixed nums [] k o l a b = absurd (omega arith)
list_zero fixed nums (y ∷ ys) k o l a b = go (dec_le (suc k) o) (λ q. list_zero fixed nums ys (suc k) o l.2 q (omega arith))
  where
    go : Dec (suc k ≤ o) → (suc k ≤ o → get_or nums o 0 ≡ 0) → get_or nums o 0 ≡ 0
    go (yes q) r = r q
    go (no q) r = let z : o ≡ k = omega arith in rw z l.1

module _ (fixed nums : List ℕ) (us : List Uncovered) (left : Left) (P : Place) (n : ℕ) (only : (p : Place) → numbered_as p us ≡ suc n → p ≡ P)
    (g : Head) (kids other : Left) (is : sub_at left P ≡ part g kids other) (s : ℕ) (numbered : get_or nums s 0 ≡ suc n) where
  own_place : (k : ℕ) (q : Place) → s ≡ k → get_or nums k 0 ≡ numbered_as q us → P ≡ q
  own_place k q z e = sym (only q (sym e ∙ ap (λ (o : ℕ). get_or nums o 0) (sym z) ∙ numbered))

  same_kids : (q : Place) (h : Head) (ks : Left) → P ≡ q → sub_at left q ≡ part h ks end → ks ≡ kids
  same_kids q h ks z e = let w : part h ks end ≡ part g kids other = sym e ∙ ap (sub_at left) (sym z) ∙ is in cc

  no_hole : (q : Place) (x : ℕ) (ys : List ℕ) → P ≡ q → sub_at left q ≡ hole x ys end → ⊥
  no_hole q x ys z e = let w : hole x ys end ≡ part g kids other = sym e ∙ ap (sub_at left) (sym z) ∙ is in never (cc)

  pub locate : (x : Left) (k : ℕ) (p : Place) (i d : ℕ) → subs_from i (subs_under left p) ≡ x → LeftAt fixed nums us k p i d x → k ≤ s → s < k + spread x → Spotted s P kids k p i x
  unfolding LeftAt spread
  locate end k p i d e l a b = absurd (omega arith)
  locate (hole x ys rest) k p i d e l a b =
      let f = from_hole (subs_under left p) i x ys rest e in
      go f.0 (dec_le (suc k) s) (dec_le (k + 1 + length ys) s) (λ q. locate rest (k + 1 + length ys) p (suc i) d f.1 l.4 q (omega arith))
    where
      go : sub (subs_under left p) i ≡ hole x ys end → Dec (suc k ≤ s) → Dec (k + 1 + length ys ≤ s) → (k + 1 + length ys ≤ s → Spotted s P kids (k + 1 + length ys) p (suc i) rest) → Spotted s P kids (k + 1 + length ys) p (suc i) rest
      go z u (yes q) r = r q
      go z (yes u) (no q) r = absurd (omega (arith, numbered, list_zero fixed nums ys (suc k) s l.3 u (omega arith)))
      go z (no u) (no q) r = let w : s ≡ k = omega arith in absurd (no_hole (i ∷ p) x ys (own_place k (i ∷ p) w l.2) (sub_child left i p ∙ z))
  locate (part h ks rest) k p i d e l a b =
      let f = from_part (subs_under left p) i h ks rest e in
      let t : sub_at left (i ∷ p) ≡ part h ks end = sub_child left i p ∙ f.0 in
      let u : subs_under left (i ∷ p) ≡ ks = headed_below left i p h (record { kids = ks; rest = end; is = t }) in
      go t (dec_le (suc k) s) (dec_le (k + 1 + spread ks) s) (λ v q. locate ks (suc k) (i ∷ p) 0 (inside h d) (from_start (subs_under left (i ∷ p)) ∙ u) l.2 v q)
      (λ q. locate rest (k + 1 + spread ks) p (suc i) d f.1 l.3 q (omega arith))
    where
      go : sub_at left (i ∷ p) ≡ part h ks end → Dec (suc k ≤ s) → Dec (k + 1 + spread ks ≤ s) → (suc k ≤ s → s < suc k + spread ks → Spotted s P kids (suc k) (i ∷ p) 0 ks)
          → (k + 1 + spread ks ≤ s → Spotted s P kids (k + 1 + spread ks) p (suc i) rest) → Spotted s P kids k p i (part h ks rest)
      go z u (yes q) f1 f2 = inr (inr (f2 q))
      go z (yes u) (no q) f1 f2 = inr (inl (f1 u (omega arith)))
      go z (no u) (no q) f1 f2 =
          let w : s ≡ k = omega arith in
          let v = own_place k (i ∷ p) w l.1 in
          inl (w, v, same_kids (i ∷ p) h ks v z)

-- ---- the place is entered
module _ (fixed nums next : List ℕ) (us vs : List Uncovered) (s : ℕ) (P : Place) (kids : Left) (other : (q : Place) → ((j : ℕ) → q ≡ j ∷ P → ⊥) → numbered_as q vs ≡ numbered_as q us)
    (before : (o : ℕ) → o < suc s → get_or next o 0 ≡ get_or nums o 0) (after : (o : ℕ) → suc s + spread kids ≤ o → get_or next o 0 ≡ get_or nums o 0)
    (inner : (d : ℕ) → LeftAt fixed nums us (suc s) P 0 d kids → LeftAt fixed next vs (suc s) P 0 d kids) where
  -- what stands beside the tree with the place keeps its number
  beside : (i j : ℕ) (p q : Place) → Under i p P → Under j p q → (i ≡ j → ⊥) → numbered_as q vs ≡ numbered_as q us
  beside i j p q u v d = other q (λ x e. d (under_one i j p q (rw e (under_child i x p P u)) v))

  -- and what stands above the place or at it
  not_below : (i j : ℕ) (p : Place) → Under j p P → numbered_as (i ∷ p) vs ≡ numbered_as (i ∷ p) us
  not_below i j p u = other (i ∷ p) (λ x e. omega (arith, under_longer j p P u, ap length (child_number i x p P e).1))

  kids_here : (k : ℕ) (q : Place) (ks : Left) → s ≡ k → P ≡ q → ks ≡ kids → (d : ℕ) → LeftAt fixed nums us (suc k) q 0 d ks → LeftAt fixed next vs (suc k) q 0 d ks
  kids_here k q ks a b e = rw (← a, ← b, e) inner

  rest_kept : (x : Left) (k : ℕ) (p : Place) (i j d : ℕ) → suc s + spread kids ≤ k → Under j p P → j < i → LeftAt fixed nums us k p i d x → LeftAt fixed next vs k p i d x
  rest_kept x k p i j d h u f l =
      kept_left fixed nums next us vs x k p i d (λ o a b. after o (omega arith)) (under_places (λ q. numbered_as q vs ≡ numbered_as q us) x p i (λ m q a v. beside j m p q u v (λ e. omega (arith, e, f, a)))) l

  kids_kept : (x : Left) (k : ℕ) (p : Place) (i j d : ℕ) → k + spread x ≤ s → Under j p P → i < j → LeftAt fixed nums us k (i ∷ p) 0 d x → LeftAt fixed next vs k (i ∷ p) 0 d x
  kids_kept x k p i j d h u f l =
      kept_left fixed nums next us vs x k (i ∷ p) 0 d (λ o a b. before o (omega arith))
      (under_places (λ q. numbered_as q vs ≡ numbered_as q us) x (i ∷ p) 0 (λ m q a v. beside j i p q u (under_above i m p q v) (λ e. omega (arith, e, f)))) l

  enter_hole : (x : ℕ) (ys : List ℕ) (rest : Left) (k : ℕ) (p : Place) (i d : ℕ) → Spotted s P kids (k + 1 + length ys) p (suc i) rest
      → (LeftAt fixed nums us (k + 1 + length ys) p (suc i) d rest → LeftAt fixed next vs (k + 1 + length ys) p (suc i) d rest) → LeftAt fixed nums us k p i d (hole x ys rest) → LeftAt fixed next vs k p i d (hole x ys rest)
  unfolding LeftAt
  enter_hole x ys rest k p i d f r l =
      let a = spotted_low s P kids rest (k + 1 + length ys) p (suc i) f in
      let u = spotted_under s P kids rest (k + 1 + length ys) p (suc i) f in
      (l.0, l.1, before k (omega (arith, a)) ∙ l.2 ∙ sym (not_below i u.0 p u.2), kept_list fixed nums next ys (suc k) (λ o b c. before o (omega (arith, a))) l.3, r l.4)

  enter_here : (h : Head) (ks rest : Left) (k : ℕ) (p : Place) (i d : ℕ) → s ≡ k → P ≡ i ∷ p → ks ≡ kids → LeftAt fixed nums us k p i d (part h ks rest) → LeftAt fixed next vs k p i d (part h ks rest)
  unfolding LeftAt
  enter_here h ks rest k p i d a b e l =
      let u : Under i p P = rw b (under_own i p) in
      (l.0, before k (omega (arith, a)) ∙ l.1 ∙ sym (not_below i i p u), kids_here k (i ∷ p) ks a b e (inside h d) l.2, rest_kept rest (k + 1 + spread ks) p (suc i) i d (omega (arith, a, ap spread e)) u (omega arith) l.3)

  enter_kids : (h : Head) (ks rest : Left) (k : ℕ) (p : Place) (i d : ℕ) → Spotted s P kids (suc k) (i ∷ p) 0 ks
      → (LeftAt fixed nums us (suc k) (i ∷ p) 0 (inside h d) ks → LeftAt fixed next vs (suc k) (i ∷ p) 0 (inside h d) ks) → LeftAt fixed nums us k p i d (part h ks rest) → LeftAt fixed next vs k p i d (part h ks rest)
  unfolding LeftAt
  enter_kids h ks rest k p i d f r l =
      let a = spotted_low s P kids ks (suc k) (i ∷ p) 0 f in
      let b = spotted_high s P kids ks (suc k) (i ∷ p) 0 f in
      let v = spotted_under s P kids ks (suc k) (i ∷ p) 0 f in
      let u : Under i p P = under_above i v.0 p P v.2 in
      (l.0, before k (omega (arith, a)) ∙ l.1 ∙ sym (not_below i i p u), r l.2, rest_kept rest (k + 1 + spread ks) p (suc i) i d (omega (arith, b)) u (omega arith) l.3)

  enter_rest : (h : Head) (ks rest : Left) (k : ℕ) (p : Place) (i d : ℕ) → Spotted s P kids (k + 1 + spread ks) p (suc i) rest
      → (LeftAt fixed nums us (k + 1 + spread ks) p (suc i) d rest → LeftAt fixed next vs (k + 1 + spread ks) p (suc i) d rest) → LeftAt fixed nums us k p i d (part h ks rest) → LeftAt fixed next vs k p i d (part h ks rest)
  unfolding LeftAt
  enter_rest h ks rest k p i d f r l =
      let a = spotted_low s P kids rest (k + 1 + spread ks) p (suc i) f in
      let u = spotted_under s P kids rest (k + 1 + spread ks) p (suc i) f in
      (l.0, before k (omega (arith, a)) ∙ l.1 ∙ sym (not_below i u.0 p u.2), kids_kept ks (suc k) p i u.0 (inside h d) (omega (arith, a)) u.2 (omega (arith, u.1)) l.2, r l.3)

  pub enter_left : (x : Left) (k : ℕ) (p : Place) (i d : ℕ) → Spotted s P kids k p i x → LeftAt fixed nums us k p i d x → LeftAt fixed next vs k p i d x
  enter_left end k p i d f = absurd f
  enter_left (hole x ys rest) k p i d f = enter_hole x ys rest k p i d f (enter_left rest (k + 1 + length ys) p (suc i) d f)
  enter_left (part h ks rest) k p i d (inl f) = enter_here h ks rest k p i d f.0 f.1 f.2
  enter_left (part h ks rest) k p i d (inr (inl f)) = enter_kids h ks rest k p i d f (enter_left ks (suc k) (i ∷ p) 0 (inside h d) f)
  enter_left (part h ks rest) k p i d (inr (inr f)) = enter_rest h ks rest k p i d f (enter_left rest (k + 1 + spread ks) p (suc i) d f)
