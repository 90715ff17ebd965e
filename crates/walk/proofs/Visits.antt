-- The visits are one node and then the visits from the next, whatever is asked of a Leaf: the walk ends there either way. Each address is later, so there are as many
-- at most as words, and one more.
use mathlib.Core.Path.{◌≡◌, refl, sym, ap, ◌∙◌}
use mathlib.Core.Bool.{Bool, true, false}
use mathlib.Core.List.{List, [], ◌∷◌}
use mathlib.Core.Option.{Option, none, some}
use Prim.Native.Nat.{ℕ, zero, suc, ◌-◌, ◌≤◌, ◌<◌}
use native.Mathlib.Omega.{arith}
use lib.Dec.{eqb, leb, ltb}
use lib.ListN.{length, drop}
use native.Mathlib.Decide.{dec_le}
use borrow.Author.Tests.{le-leb, lt-leb}
use Rattle.term.specs.Word.{pick}
use Rattle.term.specs.Row.{Row}
use Rattle.tree.specs.Tree.{LeafNode}
use Rattle.tree.specs.Find.{PartAt, root_part, leaf_fitting}
use Rattle.walk.specs.Walk.{NoneFits, RuleFits, DamagedAt, Next, Ends, Goes, unless, variables_in, sound_variables, leaf_read, leaf_with, leaf_node, switch_node, closed_node, same_node, node_at, next_at, visits_after, visits_by, visits_from, visits}
use Rattle.walk.proofs.Steps.{Later, later_next}

-- ---- what is asked of a Leaf is of no account
module _ (go : ℕ → List PartAt → ℕ) where
  none_after : (b : Bool) (at : ℕ) (next : Next) → visits_after go next ≡ 0 → visits_after go (unless b at next) ≡ 0
  none_after true at next e = e
  none_after false at next e = refl

  module _ (fits : LeafNode → Bool) (at : ℕ) (ps : List PartAt) where
    with_ends : (n : ℕ) (o : Option LeafNode) → visits_after go (leaf_with fits at ps n o) ≡ 0
    with_ends n none = refl
    with_ends n (some leaf) =
        none_after (sound_variables ps leaf.variables) at (unless (fits leaf) at (Ends (RuleFits (leaf_fitting ps leaf) n)))
        (none_after (fits leaf) at (Ends (RuleFits (leaf_fitting ps leaf) n)) refl)

    leaf_ends : (ws : List ℕ) → visits_after go (leaf_node fits at ps ws) ≡ 0
    unfolding leaf_node
    leaf_ends [] = refl
    leaf_ends (rule ∷ []) = refl
    leaf_ends (rule ∷ n ∷ []) = refl
    leaf_ends (rule ∷ n ∷ aside ∷ ws) =
        none_after (ltb rule 64) at (unless (leb n 16) at (leaf_with fits at ps n (leaf_read rule aside (variables_in n ws))))
        (none_after (leb n 16) at (leaf_with fits at ps n (leaf_read rule aside (variables_in n ws))) (with_ends n (leaf_read rule aside (variables_in n ws))))

  second_same : (b c : Bool) (x y z rest : Next) → visits_after go y ≡ visits_after go z → visits_after go (pick b x (pick c y rest)) ≡ visits_after go (pick b x (pick c z rest))
  second_same true c x y z rest e = refl
  second_same false true x y z rest e = e
  second_same false false x y z rest e = refl

  module _ (fits asked : LeafNode → Bool) (table : List ℕ) (at : ℕ) (ps : List PartAt) where
    node_same : (ws : List ℕ) → visits_after go (node_at fits table at ps ws) ≡ visits_after go (node_at asked table at ps ws)
    unfolding node_at
    node_same [] = refl
    node_same (tag ∷ ws) =
        let d : Next = pick (eqb tag 4) (same_node table at ps ws) (Ends (DamagedAt at)) in
        let c : Next = pick (eqb tag 3) (closed_node table at ps ws) d in
        second_same (eqb tag 0) (eqb tag 1) (Ends NoneFits) (leaf_node fits at ps ws) (leaf_node asked at ps ws) (pick (eqb tag 2) (switch_node table at ps ws) c)
        (leaf_ends fits at ps ws ∙ sym (leaf_ends asked at ps ws))

    next_same : visits_after go (next_at fits table at ps) ≡ visits_after go (next_at asked table at ps)
    unfolding next_at
    next_same = node_same (drop at table)

-- ---- the knot
module _ (table : List ℕ) where
  after_same : (at : ℕ) (f g : ℕ → List PartAt → ℕ) → ((to : ℕ) (ps : List PartAt) → at < to → to < length table → f to ps ≡ g to ps) → (next : Next) → Later table at next → visits_after f next ≡ visits_after g next
  after_same at f g e (Ends w) l = refl
  after_same at f g e (Goes to ps) l = e to ps l.0 l.1

  abbrev any : LeafNode → Bool
  any = λ leaf. true

  by_same : (n m at : ℕ) (ps : List PartAt) → length table - at < n → length table - at < m → visits_by n table at ps ≡ visits_by m table at ps
  unfolding visits_by
  by_same zero m at ps h l = absurd (omega arith)
  by_same (suc n) zero at ps h l = absurd (omega arith)
  by_same (suc n) (suc m) at ps h l =
      ap suc (after_same at (visits_by n table) (visits_by m table) (λ to qs p q. by_same n m to qs (omega arith) (omega arith)) (next_at any table at ps) (later_next any table at ps))

  -- one node, then the visits from the next, with anything that may be asked of a Leaf
  pub visits_is : (fits : LeafNode → Bool) (at : ℕ) (ps : List PartAt) → visits_from table at ps ≡ suc (visits_after (visits_from table) (next_at fits table at ps))
  unfolding visits_from visits_by
  visits_is fits at ps =
      ap suc
      (after_same at (visits_by (length table - at) table) (visits_from table)
      (λ to qs p q. by_same (length table - at) (suc (length table - to)) to qs (omega arith) (omega arith)) (next_at any table at ps) (later_next any table at ps)
      ∙ next_same (visits_from table) any fits table at ps)

  -- ---- how many there can be
  after_few : (n : ℕ) (f : ℕ → List PartAt → ℕ) → ((to : ℕ) (ps : List PartAt) → f to ps ≤ n) → (next : Next) → visits_after f next ≤ n
  after_few n f l (Ends w) = omega arith
  after_few n f l (Goes to ps) = l to ps

  by_few : (n at : ℕ) (ps : List PartAt) → visits_by n table at ps ≤ n
  unfolding visits_by
  by_few zero at ps = omega arith
  by_few (suc n) at ps = omega (arith, after_few n (visits_by n table) (by_few n) (next_at any table at ps))

  pub from_few : (at : ℕ) (ps : List PartAt) → visits_from table at ps ≤ suc (length table)
  unfolding visits_from
  from_few at ps = omega (arith, by_few (suc (length table - at)) at ps)

  module _ (t : Row) where
    pub visits_walked : length table ≤ 16384 → visits table t ≡ visits_from table 0 (root_part t)
    unfolding visits
    visits_walked l = rw (le-leb (length table) 16384 l)

    pub visits_long : 16384 < length table → visits table t ≡ 0
    unfolding visits
    visits_long l = rw (lt-leb (length table) 16384 l)

    pub visits_few : visits table t ≤ 16385
    visits_few = go (dec_le (length table) 16384)
      where
        go : Dec (length table ≤ 16384) → visits table t ≤ 16385
        go (yes l) = omega (arith, l, visits_walked l, from_few 0 (root_part t))
        go (no l) = omega (arith, visits_long (omega arith))
