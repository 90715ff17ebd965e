-- The limits of the whole term, seen from the part that is replaced: its ids, the levels above it and its own, and the words of all.
use mathlib.Core.Path.{◌≡◌, refl, sym, ap, ◌∙◌}
use mathlib.Core.Bool.{true}
use mathlib.Core.List.{List, [], ◌++◌}
use Prim.Native.Nat.{ℕ, zero, suc, ◌+◌, ◌-◌, ◌≤◌, ◌<◌, max}
use native.Mathlib.Omega.{arith}
use lib.Dec.{ltb}
use lib.ListN.{length}
use borrow.Author.Tests.{lt-ltb, le-ltb}
use Rattle.std.specs.Prelude.{Ok}
use Rattle.term.specs.Word.{Head, pick}
use Rattle.term.specs.Row.{Row, nothing, node, width, words, nesting, ranks, Formed, ◌⧺◌}
use Rattle.term.specs.Check.{check, term_limits}
use Rattle.term.proofs.Laws.{join_node, nesting_node, nesting_join, formed_nothing, formed_node, node_formed, formed_join, words_unique, tree_good, good_tree}
use Rattle.fit.specs.Fit.{IsBody}
use Rattle.fit.specs.Build.{within_limits}
use Rattle.fit.proofs.Laws.{within_limits_lem}
use Rattle.steps.specs.Offset.{spliced}
use Rattle.steps.proofs.Shaped.{Shaped, formed_shaped, limits_within}
use Rattle.steps.proofs.Offsets.{at_offset, splice_first, splice_below, splice_beside, splice_keeps}

-- how many nodes stand above the part at an offset
unfoldable pub levels_above : Row → ℕ → ℕ
levels_above nothing at = 0
levels_above (node h kids rest) zero = 0
levels_above (node h kids rest) (suc at) = pick (ltb at (length (words kids))) (suc (levels_above kids at)) (levels_above rest (at - length (words kids)))

-- ---- clauses
module _ (h : Head) (kids rest : Row) where
  pub levels_first : levels_above (node h kids rest) 0 ≡ 0
  unfolding levels_above
  levels_first = refl

  pub levels_below : (at : ℕ) → at < length (words kids) → levels_above (node h kids rest) (suc at) ≡ suc (levels_above kids at)
  unfolding levels_above
  levels_below at l = rw (lt-ltb at (length (words kids)) l)

  pub levels_beside : (at : ℕ) → length (words kids) ≤ at → levels_above (node h kids rest) (suc at) ≡ levels_above rest (at - length (words kids))
  unfolding levels_above
  levels_beside at l = rw (le-ltb at (length (words kids)) l)

-- ---- a row beside another is formed where both are
formed_first : (f g : Row) → Formed (f ⧺ g) → Formed f
formed_first nothing g p = formed_nothing
formed_first (node h kids rest) g p =
    let n = formed_node h kids (rest ⧺ g) (rw (join_node h kids rest g) at p) in
    node_formed h kids rest (record { table = n.table; full = n.full; below = n.below; beside = formed_first rest g n.beside })

pub record Nests (levels : ℕ) (t u v : Row) : Type 0 where
  pub most : nesting v ≤ max (nesting t) (levels + nesting u)
  pub least : levels + nesting u ≤ nesting v
  pub formed : Formed t → Formed u → width u ≡ 1 → Formed v
  pub new : Formed v → Formed u

abbrev NestsThere : Row → ℕ → Type 0
NestsThere t at = (u : Row) → Nests (levels_above t at) t u (spliced t at u)

nests_here : (h : Head) (kids rest : Row) → NestsThere (node h kids rest) 0
nests_here h kids rest u =
    let j = nesting_join u rest in
    rw (levels_first h kids rest, splice_first h kids rest u)
    (record {
      most = omega (arith, j, nesting_node h kids rest);
      least = omega (arith, j);
      formed = λ f g w. formed_join u rest g (formed_node h kids rest f).beside;
      new = λ f. formed_first u rest f;
    })

nests_kids : (h : Head) (kids rest : Row) (at : ℕ) → at < length (words kids) → NestsThere kids at → NestsThere (node h kids rest) (suc at)
nests_kids h kids rest at l p u =
    let q = p u in
    let n = nesting_node h (spliced kids at u) rest in
    rw (levels_below h kids rest at l, splice_below h kids rest at l u)
    (record {
      most = omega (arith, n, nesting_node h kids rest, q.most);
      least = omega (arith, n, q.least);
      formed = λ f g w.
          let m = formed_node h kids rest f in
          node_formed h (spliced kids at u) rest
          (record { table = m.table; full = (splice_keeps kids at l u).wide w ∙ m.full; below = q.formed m.below g w; beside = m.beside });
      new = λ f. q.new (formed_node h (spliced kids at u) rest f).below;
    })

nests_rest : (h : Head) (kids rest : Row) (at : ℕ) → length (words kids) ≤ at → NestsThere rest (at - length (words kids)) → NestsThere (node h kids rest) (suc at)
nests_rest h kids rest at l p u =
    let q = p u in
    let n = nesting_node h kids (spliced rest (at - length (words kids)) u) in
    rw (levels_beside h kids rest at l, splice_beside h kids rest at l u)
    (record {
      most = omega (arith, n, nesting_node h kids rest, q.most);
      least = omega (arith, n, q.least);
      formed = λ f g w.
          let m = formed_node h kids rest f in
          node_formed h kids (spliced rest (at - length (words kids)) u) (record { table = m.table; full = m.full; below = m.below; beside = q.formed m.beside g w });
      new = λ f. q.new (formed_node h kids (spliced rest (at - length (words kids)) u) f).beside;
    })

pub splice_nests : (t : Row) (at : ℕ) → at < length (words t) → (u : Row) → Nests (levels_above t at) t u (spliced t at u)
splice_nests = at_offset NestsThere nests_here nests_kids nests_rest

-- ---- the whole is within the limits just where the new part is formed, has levels enough, and the words of all are few enough
module _ (t : Row) (i : IsBody t) (at : ℕ) (l : at < length (words t)) (u : Row) (one : width u ≡ 1) where
  pub part_within : Formed u → levels_above t at + nesting u ≤ 64 → length (words (spliced t at u)) ≤ 4096 → within_limits (spliced t at u) ≡ true
  part_within f n w =
      let s = splice_nests t at l u in
      within_limits_lem (spliced t at u) (s.formed i.within.formed f one) (omega (arith, s.most, i.within.low, n)) w

  pub within_part : Shaped u → within_limits (spliced t at u) ≡ true → Formed u × (levels_above t at + nesting u ≤ 64) × (length (words (spliced t at u)) ≤ 4096)
  within_part h e =
      let s = splice_nests t at l u in
      let n = limits_within (spliced t at u) ((splice_keeps t at l u).shaped (formed_shaped t i.within.formed) h one) e in
      (s.new n.0, omega (arith, s.least, n.1), n.2)

-- ---- where its ids are within the limit, checking its words judges the rest
pub check_within : (v : Row) → Formed v → width v ≡ 1 → check term_limits (words v) ≡ Ok tt → within_limits v ≡ true
check_within v f one g =
    let i = good_tree term_limits (omega arith) (words v) g in
    let e : v ≡ i.tree = (words_unique v i.tree [] [] f i.formed (one ∙ sym i.one) (ap (λ (ws : List ℕ). ws ++ []) i.same)).0 in
    within_limits_lem v f (rw (sym e) at i.low) i.short

pub within_check : (v : Row) → Shaped v → width v ≡ 1 → ranks v ≤ 2 → within_limits v ≡ true → check term_limits (words v) ≡ Ok tt
within_check v s one few e =
    let n = limits_within v s e in
    tree_good term_limits (words v) (record { tree = v; one = one; formed = n.0; few = few; low = n.1; short = n.2; same = refl })
