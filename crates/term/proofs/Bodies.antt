-- The law of renumbering: body to term and back, term to body and back, and what a body and a term keep of each other.
use mathlib.Core.Path.{◌≡◌, refl, ap, ◌∙◌}
use mathlib.Core.Bool.{Bool, true, false}
use mathlib.Core.List.{List}
use mathlib.Core.Option.{none, some}
use mathlib.Core.Logic.{◌↔◌}
use Prim.Native.Nat.{ℕ, zero, suc, ◌+◌, ◌-◌, ◌≤◌, ◌<◌}
use native.Mathlib.Omega.{arith}
use lib.Dec.{leb}
use lib.ListN.{length, get_or}
use borrow.Author.Tests.{leb-true, leb-false, le-leb, lt-leb}
use Rattle.term.specs.Word.{pick}
use Rattle.term.specs.Row.{Row, width, words, nesting, ranks, Formed}
use Rattle.term.specs.Renumber.{position, Listed, GoodList, id_term, parameter, id_body, renumber, to_term, closed, to_body, within, id_term_within, ids_within}
use Rattle.term.proofs.Words.{never}
use Rattle.term.proofs.Lists.{position_is, position_at, listed_range, at_most, all_there}
use Rattle.term.proofs.Renumbers.{implied, both, everywhere, shallow, agree, unmoved, twice, named_true, true_named, every_renumber, IsId, formed_ids, formed_renumber, formed_renumbered, width_renumber, length_renumber, nesting_renumber, ranks_renumber}

-- ---- ids: the three cases, as laws
pub data Case (e u i : ℕ) : Type 0 where
  own : i ≤ e → Case e u i
  inner : e < i → i ≤ u → Case e u i
  outside : e < i → u < i → Case e u i

pub case_of_lem : (e u i : ℕ) → Case e u i
case_of_lem e u i = go (leb i e) (leb i u) refl refl
  where
    go : (a b : Bool) → leb i e ≡ a → leb i u ≡ b → Case e u i
    go true b p q = own (leb-true i e p)
    go false true p q = inner (leb-false i e p) (leb-true i u q)
    go false false p q = outside (leb-false i e p) (leb-false i u q)

module _ (d : ℕ) (ys : List ℕ) (e i : ℕ) where
  pub term_own : i ≤ e → id_term d ys e i ≡ i
  unfolding id_term
  term_own h = rw (le-leb i e h)

  pub term_inner : e < i → i ≤ e + length ys → id_term d ys e i ≡ e + get_or ys (i - e - 1) 0
  unfolding id_term
  term_inner h l = rw (lt-leb i e h, le-leb i (e + length ys) l)

  pub term_outside : e + length ys < i → id_term d ys e i ≡ i - length ys + d
  unfolding id_term
  term_outside h = rw (lt-leb i e (omega arith), lt-leb i (e + length ys) h)

  pub body_own : i ≤ e → id_body d ys e i ≡ i
  unfolding id_body
  body_own h = rw (le-leb i e h)

  pub body_inner : e < i → i ≤ e + d → id_body d ys e i ≡ parameter e (position (i - e) ys)
  unfolding id_body
  body_inner h l = rw (lt-leb i e h, le-leb i (e + d) l)

  pub body_outside : e + d < i → id_body d ys e i ≡ i - d + length ys
  unfolding id_body
  body_outside h = rw (lt-leb i e (omega arith), lt-leb i (e + d) h)

module _ (d : ℕ) (ys : List ℕ) where
  -- a body's id becomes the term's, and comes back: the list's ids are distinct, and lie within 1..d
  pub back_to_body : Listed d ys → (e i : ℕ) → id_body d ys e (id_term d ys e i) ≡ i
  back_to_body l e i = go (case_of_lem e (e + length ys) i)
    where
      go : Case e (e + length ys) i → id_body d ys e (id_term d ys e i) ≡ i
      go (own h) = rw (term_own d ys e i h) (body_own d ys e i h)
      go (inner h g) =
          let j = i - e - 1 in
          let y = get_or ys j 0 in
          let r = listed_range d ys l j (omega arith) in
          let q : e + y - e ≡ y = omega arith in
          rw (term_inner d ys e i h g, body_inner d ys e (e + y) (omega arith) (omega arith), q, position_at d ys l j (omega arith)) (omega arith)
      go (outside h g) = rw (term_outside d ys e i g, body_outside d ys e (i - length ys + d) (omega arith)) (omega arith)

  -- a term's id that has a place in the body comes back
  pub back_to_term : (e i : ℕ) → 1 ≤ id_body d ys e i → id_term d ys e (id_body d ys e i) ≡ i
  back_to_term e i one = go (case_of_lem e (e + d) i)
    where
      at_position : e < i → (p : ℕ) → position (i - e) ys ≡ p → 1 ≤ parameter e p → id_term d ys e (parameter e p) ≡ i
      at_position h zero q o = absurd (omega arith)
      at_position h (suc j) q o =
          let s = position_is (i - e) ys j q in
          let z : e + suc j - e - 1 ≡ j = omega arith in
          rw (term_inner d ys e (e + suc j) (omega arith) (omega arith), z) (omega arith)

      go : Case e (e + d) i → id_term d ys e (id_body d ys e i) ≡ i
      go (own h) = rw (body_own d ys e i h) (term_own d ys e i h)
      go (inner h g) =
          let o = rw (body_inner d ys e i h g) at one in
          rw (body_inner d ys e i h g) (at_position h (position (i - e) ys) refl o)
      go (outside h g) = rw (body_outside d ys e i g, term_outside d ys e (i - d + length ys) (omega arith)) (omega arith)

  -- a part's id within the limit becomes a body's within the limit: the body has no more parameters than the part had abstractions around it
  pub body_id_within : GoodList d ys → (e i : ℕ) → e < 64 → i ≤ 65535 → id_body d ys e i ≤ 65535
  body_id_within l e i s t = go (case_of_lem e (e + d) i)
    where
      at_position : (p : ℕ) → position (i - e) ys ≡ p → parameter e p ≤ 65535
      at_position zero q = omega arith
      at_position (suc j) q = let r = position_is (i - e) ys j q in let f = l.few in omega arith

      go : Case e (e + d) i → id_body d ys e i ≤ 65535
      go (own h) = rw (body_own d ys e i h) t
      go (inner h g) = rw (body_inner d ys e i h g) (at_position (position (i - e) ys) refl)
      go (outside h g) = rw (body_outside d ys e i g) (omega (arith, at_most d ys l.listed))

  pub term_id_some : Listed d ys → (e i : ℕ) → 1 ≤ i → 1 ≤ id_term d ys e i
  term_id_some l e i t = go (case_of_lem e (e + length ys) i)
    where
      go : Case e (e + length ys) i → 1 ≤ id_term d ys e i
      go (own h) = rw (term_own d ys e i h) t
      go (inner h g) = let r = listed_range d ys l (i - e - 1) (omega arith) in rw (term_inner d ys e i h g) (omega arith)
      go (outside h g) = rw (term_outside d ys e i g) (omega arith)

  -- the exact condition: only an outside id passes 65,535, and does so where i−k+d does
  pub term_id_passes : Listed d ys → (e i : ℕ) → e + d ≤ 65535 → i ≤ 65535
      → (65535 < id_term d ys e i) ↔ (e + length ys < i) × (65535 < i - length ys + d)
  term_id_passes l e i s t = (λ h. go (case_of_lem e (e + length ys) i) h, λ h. rw (term_outside d ys e i h.0) h.1)
    where
      go : Case e (e + length ys) i → 65535 < id_term d ys e i → (e + length ys < i) × (65535 < i - length ys + d)
      go (own a) h = absurd (let x = rw (term_own d ys e i a) at h in omega arith)
      go (inner a b) h =
          absurd (let x = rw (term_inner d ys e i a b) at h in let r = listed_range d ys l (i - e - 1) (omega arith) in omega arith)
      go (outside a b) h = (b, rw (term_outside d ys e i b) at h)

  -- ---- rows
  picked : (b : Bool) (x y : Row) → pick b (some x) none ≡ some y → (b ≡ true) × (x ≡ y)
  picked true x y q = (refl, cc)
  picked false x y q = never (cc)

  pub body_is : (t b : Row) → to_body d ys t ≡ some b → (closed d ys t ≡ true) × (renumber (id_body d ys) 0 t ≡ b)
  unfolding to_body
  body_is t b q = picked (closed d ys t) (renumber (id_body d ys) 0 t) b q

  pub closed_body : (t : Row) → closed d ys t ≡ true → to_body d ys t ≡ some (renumber (id_body d ys) 0 t)
  unfolding to_body
  closed_body t c = rw c

  pub open_body : (t : Row) → closed d ys t ≡ false → to_body d ys t ≡ none
  unfolding to_body
  open_body t c = rw c

  -- a body turned into a term and back is the body
  pub body_term : Listed d ys → (b : Row) → Formed b → to_body d ys (to_term d ys b) ≡ some b
  unfolding to_term closed
  body_term l b f =
      let stays = everywhere (λ e i. id_body d ys e (id_term d ys e i) ≡ i) (back_to_body l) 0 b in
      closed_body (renumber (id_term d ys) 0 b)
      (true_named (id_body d ys) 0 (renumber (id_term d ys) 0 b)
      (every_renumber (λ e i. 1 ≤ id_body d ys e i) (id_term d ys) 0 b
      (implied (λ e i. IsId i) (λ e i. 1 ≤ id_body d ys e (id_term d ys e i)) (λ e i p. rw (back_to_body l e i) p.0) 0 b (formed_ids 0 b f))))
      ∙ ap some (twice (id_term d ys) (id_body d ys) 0 b ∙ unmoved _ 0 b stays)

  -- a part turned into its body and back is the part
  pub term_body : (t b : Row) → to_body d ys t ≡ some b → to_term d ys b ≡ t
  unfolding to_term closed
  term_body t b q =
      let p = body_is t b q in
      rw (← p.1)
      (twice (id_body d ys) (id_term d ys) 0 t
      ∙ unmoved _ 0 t (implied (λ e i. 1 ≤ id_body d ys e i) (λ e i. id_term d ys e (id_body d ys e i) ≡ i) back_to_term 0 t (named_true (id_body d ys) 0 t p.0)))

  -- what a body keeps of its part
  pub record Keeps (f g : Row) : Type 0 where
    pub wide : width g ≡ width f
    pub long : length (words g) ≡ length (words f)
    pub deep : nesting g ≡ nesting f
    pub rank : ranks g ≡ ranks f

  keeps : (m : ℕ → ℕ → ℕ) (f : Row) → Keeps f (renumber m 0 f)
  keeps m f = record { wide = width_renumber m 0 f; long = length_renumber m 0 f; deep = nesting_renumber m 0 f; rank = ranks_renumber m 0 f }

  pub body_keeps : (t b : Row) → to_body d ys t ≡ some b → Keeps t b
  body_keeps t b q = rw (body_is t b q).1 at (keeps (id_body d ys) t)

  pub term_keeps : (b : Row) → Keeps b (to_term d ys b)
  unfolding to_term
  term_keeps b = keeps (id_term d ys) b

  pub body_formed : GoodList d ys → (t b : Row) → Formed t → nesting t ≤ 64 → to_body d ys t ≡ some b → Formed b
  unfolding closed
  body_formed l t b f n q =
      let p = body_is t b q in
      rw p.1 at
      (formed_renumber (id_body d ys) 0 t f
      (implied (λ e i. (1 ≤ id_body d ys e i) × (IsId i × (e < 64))) (λ e i. IsId (id_body d ys e i))
      (λ e i s. (s.0, body_id_within l e i s.1.1 s.1.0.1)) 0 t
      (both (λ e i. 1 ≤ id_body d ys e i) (λ e i. IsId i × (e < 64)) 0 t (named_true (id_body d ys) 0 t p.0)
      (both (λ e i. IsId i) (λ e i. e < 64) 0 t (formed_ids 0 t f) (shallow 64 0 t (omega arith))))))

  -- ---- the limit of ids
  within_some : (i : ℕ) → 1 ≤ within i → (i ≤ 65535) × (within i ≡ i)
  unfolding within
  within_some i = go (leb i 65535) refl
    where
      go : (b : Bool) → leb i 65535 ≡ b → 1 ≤ pick b i 0 → (i ≤ 65535) × (pick b i 0 ≡ i)
      go true e o = (leb-true i 65535 e, refl)
      go false e o = absurd (omega arith)

  some_within : (i : ℕ) → i ≤ 65535 → within i ≡ i
  unfolding within
  some_within i h = rw (le-leb i 65535 h)

  -- within the limit the term is formed, and it is formed only there
  pub within_formed : (b : Row) → Formed b → ids_within d ys b ≡ true → Formed (to_term d ys b)
  unfolding ids_within id_term_within to_term
  within_formed b f w =
      formed_renumber (id_term d ys) 0 b f
      (implied (λ e i. 1 ≤ within (id_term d ys e i)) (λ e i. IsId (id_term d ys e i))
      (λ e i o. let s = within_some (id_term d ys e i) o in (rw s.1 at o, s.0)) 0 b
      (named_true (λ e i. within (id_term d ys e i)) 0 b w))

  pub formed_within : (b : Row) → Formed (to_term d ys b) → ids_within d ys b ≡ true
  unfolding ids_within id_term_within to_term
  formed_within b f =
      true_named (λ e i. within (id_term d ys e i)) 0 b
      (implied (λ e i. IsId (id_term d ys e i)) (λ e i. 1 ≤ within (id_term d ys e i))
      (λ e i s. rw (some_within (id_term d ys e i) s.1) s.0) 0 b
      (formed_renumbered (id_term d ys) 0 b f))

  pub within_same : (b : Row) → ids_within d ys b ≡ true → renumber (id_term_within d ys) 0 b ≡ to_term d ys b
  unfolding ids_within id_term_within to_term
  within_same b w =
      agree (λ e i. within (id_term d ys e i)) (id_term d ys) 0 b
      (implied (λ e i. 1 ≤ within (id_term d ys e i)) (λ e i. within (id_term d ys e i) ≡ id_term d ys e i)
      (λ e i o. (within_some (id_term d ys e i) o).1) 0 b
      (named_true (λ e i. within (id_term d ys e i)) 0 b w))

  -- ---- closed
  -- as many ids as abstractions are all of them
  pub closed_all : Listed d ys → length ys ≡ d → (t : Row) → Formed t → closed d ys t ≡ true
  unfolding closed
  closed_all l k t f = true_named (id_body d ys) 0 t (implied (λ e i. IsId i) (λ e i. 1 ≤ id_body d ys e i) some_id 0 t (formed_ids 0 t f))
    where
      some_id : (e i : ℕ) → IsId i → 1 ≤ id_body d ys e i
      some_id e i o = go (case_of_lem e (e + d) i)
        where
          at_position : (p : ℕ) → 1 ≤ p → 1 ≤ parameter e p
          at_position zero h = h
          at_position (suc j) h = omega arith

          go : Case e (e + d) i → 1 ≤ id_body d ys e i
          go (own h) = rw (body_own d ys e i h) o.0
          go (inner h g) = rw (body_inner d ys e i h g) (at_position (position (i - e) ys) (all_there d ys l k (i - e) (omega arith) (omega arith)))
          go (outside h g) = rw (body_outside d ys e i g) (omega arith)

-- two lists are the same as sets
pub record SameSet (ys zs : List ℕ) : Type 0 where
  pub there : (y : ℕ) → 1 ≤ position y ys → 1 ≤ position y zs
  pub back : (y : ℕ) → 1 ≤ position y zs → 1 ≤ position y ys

-- closedness goes by the list as a set
module _ (d : ℕ) (ys zs : List ℕ) where
  as_set : ((y : ℕ) → 1 ≤ position y ys → 1 ≤ position y zs) → (e i : ℕ) → 1 ≤ id_body d ys e i → 1 ≤ id_body d zs e i
  as_set s e i o = go (case_of_lem e (e + d) i)
    where
      given : (p : ℕ) → 1 ≤ parameter e p → 1 ≤ p
      given zero h = h
      given (suc j) h = omega arith

      gives : (p : ℕ) → 1 ≤ p → 1 ≤ parameter e p
      gives zero h = h
      gives (suc j) h = omega arith

      go : Case e (e + d) i → 1 ≤ id_body d zs e i
      go (own h) = rw (body_own d zs e i h) (rw (body_own d ys e i h) at o)
      go (inner h g) =
          rw (body_inner d zs e i h g) (gives (position (i - e) zs) (s (i - e) (given (position (i - e) ys) (rw (body_inner d ys e i h g) at o))))
      go (outside h g) = rw (body_outside d zs e i g) (omega arith)

  pub closed_set : SameSet ys zs → (t : Row) → closed d ys t ≡ true → closed d zs t ≡ true
  unfolding closed
  closed_set s t c =
      true_named (id_body d zs) 0 t
      (implied (λ e i. 1 ≤ id_body d ys e i) (λ e i. 1 ≤ id_body d zs e i) (as_set s.there) 0 t (named_true (id_body d ys) 0 t c))
