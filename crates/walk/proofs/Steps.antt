-- The walk is one node and then the walk from the next: each address that is taken is later and inside, so the number of nodes is of no account.
use mathlib.Core.Path.{◌≡◌, refl}
use mathlib.Core.Bool.{Bool, true, false, ◌&&◌, not}
use mathlib.Core.List.{List, [], ◌∷◌}
use mathlib.Core.Option.{Option, none, some}
use Prim.Native.Nat.{ℕ, zero, suc, ◌+◌, ◌*◌, ◌-◌, ◌<◌}
use native.Mathlib.Omega.{arith}
use lib.Dec.{eqb, leb, ltb}
use lib.ListN.{length, get_or, take, drop}
use borrow.Author.Tests.{ltb-true}
use Rattle.term.specs.Word.{pick}
use Rattle.term.specs.Renumber.{good_list}
use Rattle.term.specs.Part.{is_some, same_o}
use Rattle.tree.specs.Tree.{LeafNode}
use Rattle.tree.specs.Find.{PartAt, part_of, enter_part, body_for, leaf_fitting}
use Rattle.walk.specs.Walk.{Walked, NoneFits, RuleFits, DamagedAt, Next, Ends, Goes, unless, go_to, variables_in, sound_variables, leaf_read, leaf_with, leaf_node, case_of, case_next, switch_node, closed_node, same_node, node_at, next_at, follow, walk_by, walk_from}

-- where the walk goes on, it is later and inside
abbrev pub Later : List ℕ → ℕ → Next → Type 0
Later table at (Ends w) = Unit {0}
Later table at (Goes to ps) = (at < to) × (to < length table)

later_to : (table : List ℕ) (at to : ℕ) (ps : List PartAt) → Later table at (go_to table at to ps)
unfolding go_to
later_to table at to ps = go (ltb at to) (ltb to (length table)) refl refl
  where
    go : (a b : Bool) → ltb at to ≡ a → ltb to (length table) ≡ b → Later table at (unless (a && b) at (Goes to ps))
    go true true p q = (ltb-true at to p, ltb-true to (length table) q)
    go true false p q = tt
    go false b p q = tt

later_unless : (table : List ℕ) (at : ℕ) (b : Bool) (next : Next) → Later table at next → Later table at (unless b at next)
later_unless table at true next l = l
later_unless table at false next l = tt

later_pick : (table : List ℕ) (at : ℕ) (b : Bool) (x y : Next) → Later table at x → Later table at y → Later table at (pick b x y)
later_pick table at true x y l m = l
later_pick table at false x y l m = m

later_with : (fits : LeafNode → Bool) (table : List ℕ) (at : ℕ) (ps : List PartAt) (n : ℕ) (o : Option LeafNode) → Later table at (leaf_with fits at ps n o)
later_with fits table at ps n none = tt
later_with fits table at ps n (some leaf) =
    later_unless table at (sound_variables ps leaf.variables) (unless (fits leaf) at (Ends (RuleFits (leaf_fitting ps leaf) n)))
    (later_unless table at (fits leaf) (Ends (RuleFits (leaf_fitting ps leaf) n)) tt)

later_leaf : (fits : LeafNode → Bool) (table : List ℕ) (at : ℕ) (ps : List PartAt) (ws : List ℕ) → Later table at (leaf_node fits at ps ws)
unfolding leaf_node
later_leaf fits table at ps [] = tt
later_leaf fits table at ps (rule ∷ []) = tt
later_leaf fits table at ps (rule ∷ n ∷ []) = tt
later_leaf fits table at ps (rule ∷ n ∷ aside ∷ ws) =
    later_unless table at (ltb rule 64) (unless (leb n 16) at (leaf_with fits at ps n (leaf_read rule aside (variables_in n ws))))
    (later_unless table at (leb n 16) (leaf_with fits at ps n (leaf_read rule aside (variables_in n ws))) (later_with fits table at ps n (leaf_read rule aside (variables_in n ws))))

later_case : (table : List ℕ) (at n : ℕ) (ps : List PartAt) (default : ℕ) (o : Option ℕ) → Later table at (case_next table at n ps default o)
later_case table at n ps default none = later_to table at default ps
later_case table at n ps default (some to) = later_unless table at (not (part_of n ps).entered) (go_to table at to (enter_part n ps)) (later_to table at to (enter_part n ps))

later_switch : (table : List ℕ) (at : ℕ) (ps : List PartAt) (ws : List ℕ) → Later table at (switch_node table at ps ws)
unfolding switch_node
later_switch table at ps [] = tt
later_switch table at ps (n ∷ []) = tt
later_switch table at ps (n ∷ cases ∷ ws) =
    let last = case_next table at n ps (get_or ws (2 * cases) 0) (case_of (part_of n ps).part cases ws) in
    later_unless table at (ltb n (length ps)) (unless (ltb (2 * cases) (length ws)) at last)
    (later_unless table at (ltb (2 * cases) (length ws)) last (later_case table at n ps (get_or ws (2 * cases) 0) (case_of (part_of n ps).part cases ws)))

later_closed : (table : List ℕ) (at : ℕ) (ps : List PartAt) (ws : List ℕ) → Later table at (closed_node table at ps ws)
unfolding closed_node
later_closed table at ps [] = tt
later_closed table at ps (n ∷ []) = tt
later_closed table at ps (n ∷ k ∷ ws) =
    let to = pick (is_some (body_for ps n (take k ws))) (get_or ws k 0) (get_or ws (k + 1) 0) in
    let d = go_to table at to ps in
    let c = unless (good_list (part_of n ps).depth (take k ws)) at d in
    let b = unless (ltb (k + 1) (length ws)) at c in
    later_unless table at (ltb n (length ps)) (unless (leb k 4) at b)
    (later_unless table at (leb k 4) b
    (later_unless table at (ltb (k + 1) (length ws)) c
    (later_unless table at (good_list (part_of n ps).depth (take k ws)) d (later_to table at to ps))))

later_same : (table : List ℕ) (at : ℕ) (ps : List PartAt) (ws : List ℕ) → Later table at (same_node table at ps ws)
unfolding same_node
later_same table at ps [] = tt
later_same table at ps (n ∷ []) = tt
later_same table at ps (n ∷ m ∷ []) = tt
later_same table at ps (n ∷ m ∷ k ∷ ws) =
    let to = pick (same_o (body_for ps n (take k ws)) (body_for ps m (take k (drop k ws)))) (get_or ws (k + k) 0) (get_or ws (k + k + 1) 0) in
    let f = go_to table at to ps in
    let e = unless (good_list (part_of m ps).depth (take k (drop k ws))) at f in
    let d = unless (good_list (part_of n ps).depth (take k ws)) at e in
    let c = unless (ltb (k + k + 1) (length ws)) at d in
    let b = unless (leb k 4) at c in
    later_unless table at (ltb n (length ps)) (unless (ltb m (length ps)) at b)
    (later_unless table at (ltb m (length ps)) b
    (later_unless table at (leb k 4) c
    (later_unless table at (ltb (k + k + 1) (length ws)) d
    (later_unless table at (good_list (part_of n ps).depth (take k ws)) e
    (later_unless table at (good_list (part_of m ps).depth (take k (drop k ws))) f (later_to table at to ps))))))

later_node : (fits : LeafNode → Bool) (table : List ℕ) (at : ℕ) (ps : List PartAt) (ws : List ℕ) → Later table at (node_at fits table at ps ws)
unfolding node_at
later_node fits table at ps [] = tt
later_node fits table at ps (tag ∷ ws) =
    let d : Next = pick (eqb tag 4) (same_node table at ps ws) (Ends (DamagedAt at)) in
    let c : Next = pick (eqb tag 3) (closed_node table at ps ws) d in
    let b : Next = pick (eqb tag 2) (switch_node table at ps ws) c in
    later_pick table at (eqb tag 0) (Ends NoneFits) (pick (eqb tag 1) (leaf_node fits at ps ws) b) tt
    (later_pick table at (eqb tag 1) (leaf_node fits at ps ws) b (later_leaf fits table at ps ws)
    (later_pick table at (eqb tag 2) (switch_node table at ps ws) c (later_switch table at ps ws)
    (later_pick table at (eqb tag 3) (closed_node table at ps ws) d (later_closed table at ps ws)
    (later_pick table at (eqb tag 4) (same_node table at ps ws) (Ends (DamagedAt at)) (later_same table at ps ws) tt))))

pub later_next : (fits : LeafNode → Bool) (table : List ℕ) (at : ℕ) (ps : List PartAt) → Later table at (next_at fits table at ps)
unfolding next_at
later_next fits table at ps = later_node fits table at ps (drop at table)

-- ---- the knot
module _ (fits : LeafNode → Bool) (table : List ℕ) where
  follow_same : (at : ℕ) (f g : ℕ → List PartAt → Walked) → ((to : ℕ) (ps : List PartAt) → at < to → to < length table → f to ps ≡ g to ps) → (next : Next) → Later table at next → follow f next ≡ follow g next
  follow_same at f g e (Ends w) l = refl
  follow_same at f g e (Goes to ps) l = e to ps l.0 l.1

  by_same : (n m at : ℕ) (ps : List PartAt) → length table - at < n → length table - at < m → walk_by n fits table at ps ≡ walk_by m fits table at ps
  unfolding walk_by
  by_same zero m at ps h l = absurd (omega arith)
  by_same (suc n) zero at ps h l = absurd (omega arith)
  by_same (suc n) (suc m) at ps h l =
      follow_same at (walk_by n fits table) (walk_by m fits table) (λ to qs p q. by_same n m to qs (omega arith) (omega arith)) (next_at fits table at ps) (later_next fits table at ps)

  -- one node, then the walk from the next
  pub walk_is : (at : ℕ) (ps : List PartAt) → walk_from fits table at ps ≡ follow (walk_from fits table) (next_at fits table at ps)
  unfolding walk_from walk_by
  walk_is at ps =
      follow_same at (walk_by (length table - at) fits table) (walk_from fits table)
      (λ to qs p q. by_same (length table - at) (suc (length table - to)) to qs (omega arith) (omega arith)) (next_at fits table at ps) (later_next fits table at ps)
