-- A part of a term has a body just where it names no abstraction passed but those of its list: document 001's "FV(t) ∩ V ⊆ {y}". What is named is asked variable by variable, and each id is one of document 01's three cases.
use mathlib.Core.Path.{◌≡◌, refl, ◌∙◌}
use mathlib.Core.Bool.{Bool, true, false}
use mathlib.Core.List.{List, [], ◌∷◌, ◌++◌}
use mathlib.Core.Option.{some}
use Prim.Native.Nat.{ℕ, zero, suc, ◌+◌, ◌-◌, ◌≤◌, ◌<◌}
use native.Mathlib.Omega.{arith}
use lib.Dec.{leb, ltb}
use borrow.Author.Tests.{leb-true, leb-false, ltb-true, lt-ltb}
use Rattle.term.specs.Word.{Head, symbol, abstraction, variable, pattern, pick}
use Rattle.term.specs.Row.{Row, nothing, node, nesting, Formed}
use Rattle.term.specs.Renumber.{position, GoodList, parameter, id_body, id_term, inside, renumber, to_term, to_body}
use Rattle.term.proofs.Laws.{body_own, body_inner, body_outside, body_id_within, back_to_term, body_is, body_term, term_is, Every, EveryHead, implied, both, shallow, unmoved, twice, formed_ids, formed_renumber, formed_renumbered, IsId, every_nothing, every_node, every_parts}
use Rattle.fit.specs.Dedukti.{free_head, free, In, Within}

-- ---- what is asked of each id
abbrev Named : ℕ → List ℕ → ℕ → ℕ → Type 0
Named d ys e i = e < i → i ≤ e + d → In (i - e) ys

within_join : (d : ℕ) (ys xs zs : List ℕ) → Within d ys xs → Within d ys zs → Within d ys (xs ++ zs)
unfolding Within
within_join d ys [] zs p q = q
within_join d ys (x ∷ xs) zs p q = (p.0, within_join d ys xs zs p.1 q)

within_left : (d : ℕ) (ys xs zs : List ℕ) → Within d ys (xs ++ zs) → Within d ys xs
unfolding Within
within_left d ys [] zs p = tt
within_left d ys (x ∷ xs) zs p = (p.0, within_left d ys xs zs p.1)

within_right : (d : ℕ) (ys xs zs : List ℕ) → Within d ys (xs ++ zs) → Within d ys zs
unfolding Within
within_right d ys [] zs p = p
within_right d ys (x ∷ xs) zs p = within_right d ys xs zs p.1

-- ---- a variable: one's own names nothing outside
variable_within : (d : ℕ) (ys : List ℕ) (e i : ℕ) → Named d ys e i → Within d ys (pick (ltb e i) ((i - e) ∷ []) [])
unfolding Within
variable_within d ys e i n = go (ltb e i) refl
  where
    go : (c : Bool) → ltb e i ≡ c → Within d ys (pick c ((i - e) ∷ []) [])
    go true z = (λ h. n (ltb-true e i z) (omega (arith, ltb-true e i z, h)), tt)
    go false z = tt

within_variable : (d : ℕ) (ys : List ℕ) (e i : ℕ) → Within d ys (pick (ltb e i) ((i - e) ∷ []) []) → Named d ys e i
unfolding Within
within_variable d ys e i w h l = (rw (lt-ltb e i h) at w).0 (omega (arith, h, l))

head_within : (d : ℕ) (ys : List ℕ) (e : ℕ) (h : Head) → EveryHead (Named d ys) e h → Within d ys (free_head e h)
unfolding Within
head_within d ys e (symbol i c) p = tt
head_within d ys e abstraction p = tt
head_within d ys e (variable i) p = variable_within d ys e i p
head_within d ys e (pattern i c) p = tt

within_head : (d : ℕ) (ys : List ℕ) (e : ℕ) (h : Head) → Within d ys (free_head e h) → EveryHead (Named d ys) e h
within_head d ys e (symbol i c) p = tt
within_head d ys e abstraction p = tt
within_head d ys e (variable i) p = within_variable d ys e i p
within_head d ys e (pattern i c) p = tt

-- ---- a row
every_within : (d : ℕ) (ys : List ℕ) (e : ℕ) (t : Row) → Every (Named d ys) e t → Within d ys (free e t)
unfolding free Within
every_within d ys e nothing p = tt
every_within d ys e (node h kids rest) p =
    let q = every_parts (Named d ys) e h kids rest p in
    within_join d ys (free_head e h) (free (inside h e) kids ++ free e rest) (head_within d ys e h q.0)
    (within_join d ys (free (inside h e) kids) (free e rest) (every_within d ys (inside h e) kids q.1) (every_within d ys e rest q.2))

within_every : (d : ℕ) (ys : List ℕ) (e : ℕ) (t : Row) → Within d ys (free e t) → Every (Named d ys) e t
unfolding free
within_every d ys e nothing w = every_nothing (Named d ys) e
within_every d ys e (node h kids rest) w =
    let u = within_right d ys (free_head e h) (free (inside h e) kids ++ free e rest) w in
    every_node (Named d ys) e h kids rest (within_head d ys e h (within_left d ys (free_head e h) (free (inside h e) kids ++ free e rest) w))
    (within_every d ys (inside h e) kids (within_left d ys (free (inside h e) kids) (free e rest) u)) (within_every d ys e rest (within_right d ys (free (inside h e) kids) (free e rest) u))

-- ---- an id has a place in the body just where it is named
module _ (d : ℕ) (ys : List ℕ) where
  placed_named : (e i : ℕ) → 1 ≤ id_body d ys e i → Named d ys e i
  placed_named e i o h l = given (position (i - e) ys) (rw (body_inner d ys e i h l) at o)
    where
      given : (p : ℕ) → 1 ≤ parameter e p → 1 ≤ p
      given zero k = k
      given (suc j) k = omega arith

  named_placed : (e i : ℕ) → 1 ≤ i → Named d ys e i → 1 ≤ id_body d ys e i
  named_placed e i o n = go (leb i e) refl (leb i (e + d)) refl
    where
      gives : (p : ℕ) → 1 ≤ p → 1 ≤ parameter e p
      gives zero k = k
      gives (suc j) k = omega arith

      go : (a : Bool) → leb i e ≡ a → (b : Bool) → leb i (e + d) ≡ b → 1 ≤ id_body d ys e i
      go true p b q = rw (body_own d ys e i (leb-true i e p)) o
      go false p true q =
          let h = leb-false i e p in
          let l = leb-true i (e + d) q in
          rw (body_inner d ys e i h l) (gives (position (i - e) ys) (n h l))
      go false p false q = let h = leb-false i (e + d) q in rw (body_outside d ys e i h) (omega (arith, h))

  -- a part that has a body names nothing else
  pub body_free : (t b : Row) → to_body d ys t ≡ some b → Formed b → Within d ys (free 0 t)
  body_free t b e f =
      let g : Formed (renumber (id_body d ys) 0 t) = rw (body_is d ys t b e).1 f in
      every_within d ys 0 t
      (implied (λ e i. IsId (id_body d ys e i)) (Named d ys) (λ e i p. placed_named e i p.0) 0 t (formed_renumbered (id_body d ys) 0 t g))

  -- and one that names nothing else has a body
  module _ (good : GoodList d ys) (t : Row) (formed : Formed t) (low : nesting t ≤ 64) (w : Within d ys (free 0 t)) where
    placed : Every (λ e i. (1 ≤ id_body d ys e i) × (id_body d ys e i ≤ 65535)) 0 t
    placed =
        implied (λ e i. (IsId i × (e < 64)) × Named d ys e i) (λ e i. (1 ≤ id_body d ys e i) × (id_body d ys e i ≤ 65535))
        (λ e i p. (named_placed e i p.0.0.0 p.1, body_id_within d ys good e i p.0.1 p.0.0.1)) 0 t
        (both (λ e i. IsId i × (e < 64)) (Named d ys) 0 t (both (λ e i. IsId i) (λ e i. e < 64) 0 t (formed_ids 0 t formed) (shallow 64 0 t (omega (arith, low)))) (within_every d ys 0 t w))

    back : to_term d ys (renumber (id_body d ys) 0 t) ≡ t
    back =
        term_is d ys (renumber (id_body d ys) 0 t) ∙ twice (id_body d ys) (id_term d ys) 0 t
        ∙ unmoved (λ e i. id_term d ys e (id_body d ys e i)) 0 t
        (implied (λ e i. (1 ≤ id_body d ys e i) × (id_body d ys e i ≤ 65535)) (λ e i. id_term d ys e (id_body d ys e i) ≡ i) (λ e i p. back_to_term d ys e i p.0) 0 t placed)

    pub free_body : (b : Row) × (to_body d ys t ≡ some b)
    free_body =
        let b = renumber (id_body d ys) 0 t in
        (b, rw back at (body_term d ys good.listed (renumber (id_body d ys) 0 t) (formed_renumber (id_body d ys) 0 t formed placed)))
