-- The lowest open place of a row, in the tables and on the path.
use mathlib.Core.Path.{◌≡◌, refl, ◌∙◌}
use mathlib.Core.Bool.{Bool, true, false}
use mathlib.Core.List.{List}
use mathlib.Core.Option.{Option, none, some}
use mathlib.Core.Logic.{◌⊎◌, inl, inr}
use Prim.Native.Nat.{ℕ, zero, suc, ◌+◌, ◌-◌, ◌≤◌, ◌<◌}
use native.Mathlib.Omega.{arith}
use native.Mathlib.Decide.{dec_le}
use lib.Dec.{eqb, ltb}
use lib.ListN.{get_or}
use borrow.Author.Tests.{eqb-true, eqb-false, ne_eqb, ltb-true, ltb-false}
use Rattle.term.specs.Word.{pick}
use Rattle.term.proofs.Laws.{never}
use Rattle.fit.specs.Left.{Left}
use Rattle.tree.specs.Path.{Uncovered}
use Rattle.tree.specs.Rows.{lowest_open}
use Rattle.compiler.specs.Told.Tables.{is_free, head_kind, lower_of, lower_at, lowest_from}
use Rattle.tree.proofs.Laws.{least_open, OpenAt, open_at}

-- ---- on the path: no open place with a head is lower
-- ---- in the tables: the lowest number of the spots that have a head and are open
module _ (fixed nums marks : List ℕ) where
  pub record Candidate (k v : ℕ) : Type 0 where
    pub head : head_kind (get_or fixed k 0) ≡ true
    pub number : get_or nums k 0 ≡ suc v
    pub free : is_free marks (64 + v) ≡ true

  record StepIs (k best y : ℕ) : Type 0 where
    from : (y ≡ best) ⊎ ((v : ℕ) × Candidate k v × (y ≡ suc v))
    keep : 1 ≤ best → (1 ≤ y) × (y ≤ best)
    least : (v : ℕ) → Candidate k v → (1 ≤ y) × (y ≤ suc v)

  same_step : (k best : ℕ) → ((v : ℕ) → Candidate k v → ⊥) → StepIs k best best
  same_step k best n = record { from = inl refl; keep = λ h. (h, omega arith); least = λ v c. absurd (n v c) }

  lower_step : (k best : ℕ) → head_kind (get_or fixed k 0) ≡ true → (n : ℕ) → get_or nums k 0 ≡ n → StepIs k best (lower_of marks n best)
  unfolding lower_of
  lower_step k best h zero e = same_step k best (λ v c. omega (arith, e, c.number))
  lower_step k best h (suc v) e =
      let z : 64 + suc v - 1 ≡ 64 + v = omega arith in
      rw (ne_eqb (suc v) 0 (λ x. omega (arith, x)), z) (go (is_free marks (64 + v)) refl)
    where
      mine : is_free marks (64 + v) ≡ true → Candidate k v
      mine f = record { head = h; number = e; free = f }

      go : (b : Bool) → is_free marks (64 + v) ≡ b → StepIs k best (pick b (pick (eqb best 0) (suc v) (pick (ltb best (suc v)) best (suc v))) best)
      go false f = same_step k best (λ w c. other w c)
        where
          other : (w : ℕ) → Candidate k w → ⊥
          other w c = let x : w ≡ v = omega (arith, e, c.number) in let y : is_free marks (64 + v) ≡ true = rw x at c.free in never (cc)
      go true f = first (eqb best 0) refl
        where
          second : (b : Bool) → ltb best (suc v) ≡ b → (best ≡ 0 → ⊥) → StepIs k best (pick b best (suc v))
          second true q n = record { from = inl refl; keep = λ l. (l, omega arith); least = λ w c. (omega (arith, n), omega (arith, ltb-true best (suc v) q, e, c.number)) }
          second false q n = record { from = inr (v, mine f, refl); keep = λ l. (omega arith, ltb-false best (suc v) q); least = λ w c. (omega arith, omega (arith, e, c.number)) }

          first : (b : Bool) → eqb best 0 ≡ b → StepIs k best (pick b (suc v) (pick (ltb best (suc v)) best (suc v)))
          first true q = record { from = inr (v, mine f, refl); keep = λ l. absurd (omega (arith, eqb-true best 0 q)); least = λ w c. (omega arith, omega (arith, e, c.number)) }
          first false q = second (ltb best (suc v)) refl (eqb-false best 0 q)

  spot_step : (k best : ℕ) → StepIs k best (lower_at fixed nums marks k best)
  spot_step k best = go (head_kind (get_or fixed k 0)) refl
    where
      go : (b : Bool) → head_kind (get_or fixed k 0) ≡ b → StepIs k best (pick b (lower_of marks (get_or nums k 0) best) best)
      go true e = lower_step k best e (get_or nums k 0) refl
      go false e = same_step k best (λ v c. never (let h = c.head in cc))

  pub record RangeIs (k more best y : ℕ) : Type 0 where
    pub from : (y ≡ best) ⊎ ((j : ℕ) × (v : ℕ) × (k ≤ j) × (j < k + more) × Candidate j v × (y ≡ suc v))
    pub keep : 1 ≤ best → (1 ≤ y) × (y ≤ best)
    pub least : (j v : ℕ) → k ≤ j → j < k + more → Candidate j v → (1 ≤ y) × (y ≤ suc v)

  range_join : (k more best mid y : ℕ) → StepIs k best mid → RangeIs (suc k) more mid y → RangeIs k (suc more) best y
  range_join k more best mid y s r =
      record { from = from_of s.from r.from; keep = λ l. keep_of (s.keep l) (r.keep (s.keep l).0); least = λ j v a b c. least_of j v a b c (dec_le (suc k) j) }
    where
      from_of : (mid ≡ best) ⊎ ((v : ℕ) × Candidate k v × (mid ≡ suc v)) → (y ≡ mid) ⊎ ((j : ℕ) × (v : ℕ) × (suc k ≤ j) × (j < suc k + more) × Candidate j v × (y ≡ suc v))
          → (y ≡ best) ⊎ ((j : ℕ) × (v : ℕ) × (k ≤ j) × (j < k + suc more) × Candidate j v × (y ≡ suc v))
      from_of (inl p) (inl q) = inl (q ∙ p)
      from_of (inr p) (inl q) = inr (k, p.0, omega arith, omega arith, p.1, q ∙ p.2)
      from_of p (inr q) = inr (q.0, q.1, omega (arith, q.2), omega (arith, q.3), q.4, q.5)

      keep_of : (1 ≤ mid) × (mid ≤ best) → (1 ≤ y) × (y ≤ mid) → (1 ≤ y) × (y ≤ best)
      keep_of p q = (q.0, omega (arith, p.1, q.1))

      least_of : (j v : ℕ) → k ≤ j → j < k + suc more → Candidate j v → Dec (suc k ≤ j) → (1 ≤ y) × (y ≤ suc v)
      least_of j v a b c (yes g) = r.least j v g (omega arith) c
      least_of j v a b c (no g) =
          let z : j ≡ k = omega arith in
          let d : Candidate k v = rw z at c in
          let m = s.least v d in
          let n = r.keep m.0 in
          (n.0, omega (arith, m.1, n.1))

  pub range : (more k best : ℕ) → RangeIs k more best (lowest_from fixed nums marks k more best)
  unfolding lowest_from
  range zero k best = record { from = inl refl; keep = λ l. (l, omega arith); least = λ j v a b c. absurd (omega arith) }
  range (suc more) k best =
      range_join k more best (lower_at fixed nums marks k best) (lowest_from fixed nums marks (suc k) more (lower_at fixed nums marks k best)) (spot_step k best) (range more (suc k) (lower_at fixed nums marks k best))

  -- ---- THE LAW of the lowest open place, where the spots that have a head and are open are just the open places of the row
  abbrev pub low_or : Option ℕ → ℕ
  low_or none = 0
  low_or (some n) = suc n

  pub lowest_is : (left : Left) (us : List Uncovered) (from : ℕ) → ((j v : ℕ) → from ≤ j → j < from + 64 → Candidate j v → OpenAt left us v)
      → ((m : ℕ) → OpenAt left us m → (j : ℕ) × (from ≤ j) × (j < from + 64) × Candidate j m) → lowest_from fixed nums marks from 64 0 ≡ low_or (lowest_open left us)
  lowest_is left us from there back = go (lowest_open left us) refl (lowest_from fixed nums marks from 64 0) (range 64 from 0)
    where
      none_is : (v : ℕ) → lowest_open left us ≡ none → OpenAt left us v → ⊥
      none_is v e a = rw e at (least_open left us v a)

      some_is : (n v : ℕ) → lowest_open left us ≡ some n → OpenAt left us v → n ≤ v
      some_is n v e a = rw e at (least_open left us v a)

      go : (o : Option ℕ) → lowest_open left us ≡ o → (y : ℕ) → RangeIs from 64 0 y → y ≡ low_or o
      go none e y r = ended r.from
        where
          ended : (y ≡ 0) ⊎ ((j : ℕ) × (v : ℕ) × (from ≤ j) × (j < from + 64) × Candidate j v × (y ≡ suc v)) → y ≡ 0
          ended (inl q) = q
          ended (inr q) = absurd (none_is q.1 e (there q.0 q.1 q.2 q.3 q.4))
      go (some n) e y r =
          let b = back n (open_at left us n e) in
          let l = r.least b.0 n b.1 b.2 b.3 in
          met l.0 l.1 r.from
        where
          met : 1 ≤ y → y ≤ suc n → (y ≡ 0) ⊎ ((j : ℕ) × (v : ℕ) × (from ≤ j) × (j < from + 64) × Candidate j v × (y ≡ suc v)) → y ≡ suc n
          met a c (inl q) = absurd (omega arith)
          met a c (inr q) = omega (arith, q.5, some_is n q.1 e (there q.0 q.1 q.2 q.3 q.4))
