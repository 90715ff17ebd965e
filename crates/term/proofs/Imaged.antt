-- A body in a place with so many levels left: what the walk tells there is what comes back, both ways; and the ids of what it writes.
use mathlib.Core.Path.{◌≡◌, refl, sym, ap, ap₂, ◌∙◌}
use mathlib.Core.Bool.{Bool, true, false, ◌&&◌}
use mathlib.Core.List.{List}
use mathlib.Core.Option.{none, some}
use Prim.Native.Nat.{ℕ, ◌≤◌}
use native.Mathlib.Omega.{arith}
use lib.Dec.{leb}
use lib.ListN.{length, replicate}
use lib.Seq.{sets}
use borrow.Author.Tests.{leb-true, le-leb}
use Rattle.term.specs.declared.image.Way.TheVariants.{ToTerm}
use Rattle.std.specs.Prelude.{Some, None}
use Rattle.term.specs.Word.{Head, symbol, abstraction, variable, pattern, pick}
use Rattle.term.specs.Row.{Row, nothing, node, words, nesting, ranks, Formed, Got, read}
use Rattle.term.specs.Renumber.{Listed, id_term, id_term_within, inside, renumber_head, renumber, to_term, ids_within}
use Rattle.term.specs.Told.Walk.{image, Stands, RowTold}
use Rattle.term.specs.Part.{below_o, term_below, BelowOutcome, below_came, wrote_below, write_below_gives}
use Rattle.term.proofs.Words.{never, and_left, and_right}
use Rattle.term.proofs.Rows.{Reads, words_read}
use Rattle.term.proofs.Renumbers.{length_renumber, inside_renumber, EveryHead, Every, implied, both, IsId, formed_ids, formed_renumber}
use Rattle.term.proofs.Bodies.{term_keeps, within_same, term_id_some}
use Rattle.term.proofs.Answers.{read_stands}

module _ (levels d : ℕ) (ys ws : List ℕ) where
  below_some : (b : Row) (after : List ℕ) → Stands levels 1 ws 0 b after → term_below levels d ys ws ≡ pick (ids_within d ys b) (some (to_term d ys b)) none
  unfolding term_below
  below_some b after s = rw (read_stands levels ws b after s, le-leb (ranks b) 2 s.few, le-leb (nesting b) levels s.low)

  module _ (out : List ℕ) where
    -- from what the walk tells to what comes back
    pub below_done : (done : List ℕ) (n : ℕ) → RowTold (image ToTerm d ys) 0 levels 1 ws 0 out done (Some n) → below_came (Some n) done ≡ write_below_gives levels d ys ws out
    unfolding RowTold ids_within image write_below_gives
    below_done done n told = rw (below_some told.0 told.1 told.2, told.3) (shown (to_term d ys told.0) (within_same d ys told.0 told.3))
      where
        shown : (t : Row) → renumber (id_term_within d ys) 0 told.0 ≡ t → below_came (Some n) done ≡ below_came (Some (length (words t))) (sets out 0 (words t))
        shown t e =
            let l : n ≡ length (words t) = omega (arith, told.4, length_renumber (id_term_within d ys) 0 told.0, ap (λ (r : Row). length (words r)) e) in
            ap₂ (λ (a : ℕ) (o : List ℕ). below_came (Some a) o) l (told.5 ∙ ap (λ (r : Row). sets out 0 (words r)) e)

    pub below_stuck : (done last : List ℕ) → RowTold (image ToTerm d ys) 0 levels 1 ws 0 out done None → last ≡ replicate (length out) 0 → below_came None last ≡ write_below_gives levels d ys ws out
    unfolding RowTold ids_within image write_below_gives term_below
    below_stuck done last told z = rw (found (read 1 ws) refl) (ap (below_came None) z)
      where
        picked : (p : Row × List ℕ) → Reads 1 ws p.0 p.1 → (b : Bool) → leb (ranks p.0) 2 && (leb (nesting p.0) levels && ids_within d ys p.0) ≡ b
            → pick b (some (to_term d ys p.0)) none ≡ none
        picked p r true e =
            let k = and_right (leb (ranks p.0) 2) _ e in
            let f = told p.0 p.1 (record { formed = r.formed; few = leb-true _ _ (and_left _ _ e); low = leb-true _ _ (and_left _ _ k); wide = r.wide; same = sym r.same }) in
            let w = and_right (leb (nesting p.0) levels) _ k in
            never (cc)
        picked p r false e = refl

        found : (o : Got) → read 1 ws ≡ o → below_o levels d ys o ≡ none
        found none e = refl
        found (some p) e = picked p (words_read 1 ws p.0 p.1 e) _ refl

    -- and from what comes back to the words that stand there
    pub below_wrote : (done : List ℕ) (n : ℕ) → below_came (Some n) done ≡ write_below_gives levels d ys ws out
        → (b : Row) × (after : List ℕ) × Stands levels 1 ws 0 b after × (ids_within d ys b ≡ true) × (n ≡ length (words b)) × (done ≡ sets out 0 (words (to_term d ys b)))
    unfolding write_below_gives term_below
    below_wrote done n told = found (read 1 ws) refl told
      where
        Wrote : Type 0
        Wrote = (b : Row) × (after : List ℕ) × Stands levels 1 ws 0 b after × (ids_within d ys b ≡ true) × (n ≡ length (words b)) × (done ≡ sets out 0 (words (to_term d ys b)))

        picked : (p : Row × List ℕ) → Reads 1 ws p.0 p.1 → (b : Bool) → leb (ranks p.0) 2 && (leb (nesting p.0) levels && ids_within d ys p.0) ≡ b
            → below_came (Some n) done ≡ wrote_below out (pick b (some (to_term d ys p.0)) none) → Wrote
        picked p r true e q =
            let k = and_right (leb (ranks p.0) 2) _ e in
            let l : Some n ≡ Some (length (words (to_term d ys p.0))) = ap (λ (o : BelowOutcome). o.said) q in (
              p.0,
              p.1,
              record { formed = r.formed; few = leb-true _ _ (and_left _ _ e); low = leb-true _ _ (and_left _ _ k); wide = r.wide; same = sym r.same },
              and_right (leb (nesting p.0) levels) _ k,
              (let z : n ≡ length (words (to_term d ys p.0)) = cc in z) ∙ (term_keeps d ys p.0).long,
              ap (λ (o : BelowOutcome). o.out) q,
            )
        picked p r false e q = let l : Some n ≡ None = ap (λ (o : BelowOutcome). o.said) q in never (cc)

        found : (o : Got) → read 1 ws ≡ o → below_came (Some n) done ≡ wrote_below out (below_o levels d ys o) → Wrote
        found none e q = let l : Some n ≡ None = ap (λ (o : BelowOutcome). o.said) q in never (cc)
        found (some p) e q = picked p (words_read 1 ws p.0 p.1 e) _ refl q

    -- an id passes 65,535, or no such tree stands there
    pub below_none : (done : List ℕ) → below_came None done ≡ write_below_gives levels d ys ws out → (b : Row) (after : List ℕ) → Stands levels 1 ws 0 b after → ids_within d ys b ≡ false
    unfolding write_below_gives
    below_none done told b after s = go (ids_within d ys b) (rw (below_some b after s) at told)
      where
        go : (x : Bool) → below_came None done ≡ wrote_below out (pick x (some (to_term d ys b)) none) → x ≡ false
        go true q = let l : None ≡ Some (length (words (to_term d ys b))) = ap (λ (o : BelowOutcome). o.said) q in never (cc)
        go false q = refl

-- ---- every variable of a row, node by node
pub every_nothing : (P : ℕ → ℕ → Type 0) (e : ℕ) → Every P e nothing
unfolding Every
every_nothing P e = tt

pub every_node : (P : ℕ → ℕ → Type 0) (e : ℕ) (h : Head) (kids rest : Row) → EveryHead P e h → Every P (inside h e) kids → Every P e rest → Every P e (node h kids rest)
unfolding Every
every_node P e h kids rest p q r = (p, q, r)

renumbered_head : (P : ℕ → ℕ → Type 0) (m : ℕ → ℕ → ℕ) (e : ℕ) (h : Head) → EveryHead P e (renumber_head m e h) → EveryHead (λ e i. P e (m e i)) e h
unfolding renumber_head
renumbered_head P m e (symbol i c) p = tt
renumbered_head P m e abstraction p = tt
renumbered_head P m e (variable i) p = p
renumbered_head P m e (pattern i c) p = tt

every_renumbered : (P : ℕ → ℕ → Type 0) (m : ℕ → ℕ → ℕ) (e : ℕ) (r : Row) → Every P e (renumber m e r) → Every (λ e i. P e (m e i)) e r
unfolding renumber Every
every_renumbered P m e nothing p = tt
every_renumbered P m e (node h kids rest) p =
    (renumbered_head P m e h p.0, every_renumbered P m (inside h e) kids (rw (inside_renumber m e h e) at p.1), every_renumbered P m e rest p.2)

-- a term of a body is formed where none of its ids passes 65,535
pub small_formed : (d : ℕ) (ys : List ℕ) → Listed d ys → (b : Row) → Formed b → Every (λ e i. i ≤ 65535) 0 (to_term d ys b) → Formed (to_term d ys b)
unfolding to_term
small_formed d ys l b f s =
    formed_renumber (id_term d ys) 0 b f
    (implied (λ e i. IsId i × (id_term d ys e i ≤ 65535)) (λ e i. IsId (id_term d ys e i)) (λ e i p. (term_id_some d ys l e i p.0.0, p.1)) 0 b
    (both (λ e i. IsId i) (λ e i. id_term d ys e i ≤ 65535) 0 b (formed_ids 0 b f) (every_renumbered (λ e i. i ≤ 65535) (id_term d ys) 0 b s)))
