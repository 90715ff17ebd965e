-- A row with a term's words is that term, also where its ids might pass 65,535: a word says its kind as long as the id is below 16,777,216.
use mathlib.Core.Path.{◌≡◌, refl, sym, ap, ap₂, ◌∙◌}
use mathlib.Core.List.{List, ◌++◌, append_assoc}
use Prim.Native.Nat.{ℕ, ◌+◌, ◌-◌, ◌≤◌, ◌<◌}
use native.Mathlib.Omega.{arith}
use lib.ListN.{length}
use Rattle.term.specs.Word.{Head, symbol, abstraction, variable, pattern, kind, rank, count, ident, word, InTable}
use Rattle.term.specs.Row.{Row, nothing, node, width, words, nesting, ranks, Formed, ◌⧺◌}
use Rattle.term.specs.Renumber.{GoodList, id_term, inside, renumber_head, renumber, to_term}
use Rattle.term.proofs.Lists.{listed_range}
use Rattle.term.proofs.Renumbers.{Every, EveryHead, implied, both, shallow, IsId, formed_ids, width_renumber, count_renumber}
use Rattle.term.proofs.Bodies.{Case, own, inner, outside, case_of_lem, term_own, term_inner, term_outside}

-- in the table but for the limit of ids
unfoldable pub NearHead : Head → Type 0
NearHead (symbol i c) = (c ≤ 15) × (i ≤ 1023)
NearHead abstraction = Unit {0}
NearHead (variable i) = i < 16777216
NearHead (pattern i c) = ⊥

unfoldable pub Near : Row → Type 0
Near nothing = Unit {0}
Near (node h kids rest) = NearHead h × (width kids ≡ count h) × Near kids × Near rest

near_head : (h g : Head) → NearHead h → InTable g → rank g ≤ 2 → word h ≡ word g → h ≡ g
unfolding NearHead InTable kind rank word count ident
near_head (symbol i c) (symbol j b) n t k e = let x : i ≡ j = omega arith in let y : c ≡ b = omega arith in ap₂ symbol x y
near_head (symbol i c) abstraction n t k e = absurd (omega arith)
near_head (symbol i c) (variable j) n t k e = absurd (omega arith)
near_head (symbol i c) (pattern j b) n t k e = absurd (omega arith)
near_head abstraction (symbol j b) n t k e = absurd (omega arith)
near_head abstraction abstraction n t k e = refl
near_head abstraction (variable j) n t k e = absurd (omega arith)
near_head abstraction (pattern j b) n t k e = absurd (omega arith)
near_head (variable i) (symbol j b) n t k e = absurd (omega arith)
near_head (variable i) abstraction n t k e = absurd (omega arith)
near_head (variable i) (variable j) n t k e = let x : i ≡ j = omega arith in ap variable x
near_head (variable i) (pattern j b) n t k e = absurd (omega arith)
near_head (pattern i c) g n t k e = absurd n

pub near_unique : (f t : Row) (s u : List ℕ) → Near f → Formed t → ranks t ≤ 2 → width f ≡ width t → words f ++ s ≡ words t ++ u → (f ≡ t) × (s ≡ u)
unfolding Near Formed ranks width words
near_unique nothing nothing s u n p k w e = (refl, e)
near_unique nothing (node g ks rs) s u n p k w e = absurd (omega arith)
near_unique (node h kids rest) nothing s u n p k w e = absurd (omega arith)
near_unique (node h kids rest) (node g ks rs) s u n p k w e =
    let a : word h ≡ word g = cc in
    let b : (words kids ++ words rest) ++ s ≡ (words ks ++ words rs) ++ u = cc in
    let c : h ≡ g = near_head h g n.0 p.0 (omega arith) a in
    let x = near_unique kids ks (words rest ++ s) (words rs ++ u) n.2 p.2 (omega arith) (n.1 ∙ ap count c ∙ sym p.1)
    (sym (append_assoc (words kids) (words rest) s) ∙ b ∙ append_assoc (words ks) (words rs) u) in
    let y = near_unique rest rs s u n.3 p.3 (omega arith) (omega arith) x.1 in
    (rw (c, x.0, y.0), y.1)

pub near_nothing : Near nothing
unfolding Near
near_nothing = tt

pub near_node : (h : Head) (kids rest : Row) → InTable h → rank h ≤ 1 → width kids ≡ count h → Near kids → Near rest → Near (node h kids rest)
unfolding Near NearHead InTable rank
near_node (symbol i c) kids rest t k w p q = (t, w, p, q)
near_node abstraction kids rest t k w p q = (tt, w, p, q)
near_node (variable i) kids rest t k w p q = absurd (omega arith)
near_node (pattern i c) kids rest t k w p q = absurd (omega arith)

pub near_join : (f g : Row) → Near f → Near g → Near (f ⧺ g)
unfolding Near ◌⧺◌
near_join nothing g p q = q
near_join (node h kids rest) g p q = (p.0, p.1, p.2, near_join rest g p.3 q)

near_renumbered_head : (m : ℕ → ℕ → ℕ) (e : ℕ) (h : Head) → InTable h → rank h ≤ 2 → EveryHead (λ e i. m e i < 16777216) e h → NearHead (renumber_head m e h)
unfolding NearHead InTable rank renumber_head
near_renumbered_head m e (symbol i c) t k p = t
near_renumbered_head m e abstraction t k p = tt
near_renumbered_head m e (variable i) t k p = p
near_renumbered_head m e (pattern i c) t k p = absurd (omega arith)

near_renumber : (m : ℕ → ℕ → ℕ) (e : ℕ) (r : Row) → Formed r → ranks r ≤ 2 → Every (λ e i. m e i < 16777216) e r → Near (renumber m e r)
unfolding Near Formed ranks Every renumber
near_renumber m e nothing p k q = tt
near_renumber m e (node h kids rest) p k q = (
  near_renumbered_head m e h p.0 (omega arith) q.0,
  width_renumber m (inside h e) kids ∙ p.1 ∙ sym (count_renumber m e h),
  near_renumber m (inside h e) kids p.2 (omega arith) q.1,
  near_renumber m e rest p.3 (omega arith) q.2,
)

-- a body turned into a term under few abstractions
pub term_near : (d : ℕ) (ys : List ℕ) → GoodList d ys → d ≤ 4096 → (b : Row) → Formed b → ranks b ≤ 2 → nesting b ≤ 64 → Near (to_term d ys b)
unfolding to_term
term_near d ys g l b f k n =
    near_renumber (id_term d ys) 0 b f k
    (implied (λ e i. IsId i × (e < 64)) (λ e i. id_term d ys e i < 16777216) small 0 b (both (λ e i. IsId i) (λ e i. e < 64) 0 b (formed_ids 0 b f) (shallow 64 0 b (omega arith))))
  where
    small : (e i : ℕ) → IsId i × (e < 64) → id_term d ys e i < 16777216
    small e i p = go (case_of_lem e (e + length ys) i)
      where
        go : Case e (e + length ys) i → id_term d ys e i < 16777216
        go (own h) = rw (term_own d ys e i h) (omega (arith, p.0.1))
        go (inner h u) = rw (term_inner d ys e i h u) (omega (arith, p.1, listed_range d ys g.listed (i - e - 1) (omega arith)))
        go (outside h u) = rw (term_outside d ys e i u) (omega (arith, p.0.1))
