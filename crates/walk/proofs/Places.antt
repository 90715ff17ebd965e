-- On every walk, over whole words or damaged ones, no more places are uncovered than the term has words: a place is entered once.
use mathlib.Core.Path.{◌≡◌, refl}
use mathlib.Core.Bool.{Bool, true, false, ◌&&◌, not}
use mathlib.Core.List.{List, [], ◌∷◌}
use mathlib.Core.Option.{Option, none, some}
use Prim.Native.Nat.{ℕ, ◌+◌, ◌*◌}
use lib.Dec.{eqb, leb, ltb}
use lib.ListN.{length, get_or, take, drop}
use Rattle.term.specs.Word.{pick}
use Rattle.term.specs.Renumber.{good_list}
use Rattle.term.specs.Part.{is_some, same_o}
use Rattle.tree.specs.Tree.{LeafNode}
use Rattle.tree.specs.Find.{PartAt, part_of, enter_part, body_for, leaf_fitting, total}
use Rattle.tree.proofs.Laws.{total_entered}
use Rattle.walk.specs.Walk.{NoneFits, RuleFits, DamagedAt, Next, Ends, Goes, unless, go_to, variables_in, sound_variables, leaf_read, leaf_with, leaf_node, case_of, case_next, switch_node, closed_node, same_node, node_at, next_at}

-- where the walk goes on, it has as many places and words below them as before
abbrev pub Keeps : List PartAt → Next → Type 0
Keeps ps (Ends w) = Unit {0}
Keeps ps (Goes to qs) = total qs ≡ total ps

keeps_unless : (ps : List PartAt) (at : ℕ) (b : Bool) (next : Next) → Keeps ps next → Keeps ps (unless b at next)
keeps_unless ps at true next k = k
keeps_unless ps at false next k = tt

keeps_pick : (ps : List PartAt) (b : Bool) (x y : Next) → Keeps ps x → Keeps ps y → Keeps ps (pick b x y)
keeps_pick ps true x y k l = k
keeps_pick ps false x y k l = l

keeps_to : (ps : List PartAt) (table : List ℕ) (at to : ℕ) (qs : List PartAt) → total qs ≡ total ps → Keeps ps (go_to table at to qs)
unfolding go_to
keeps_to ps table at to qs e = keeps_unless ps at (ltb at to && ltb to (length table)) (Goes to qs) e

keeps_with : (fits : LeafNode → Bool) (at : ℕ) (ps : List PartAt) (n : ℕ) (o : Option LeafNode) → Keeps ps (leaf_with fits at ps n o)
keeps_with fits at ps n none = tt
keeps_with fits at ps n (some leaf) =
    keeps_unless ps at (sound_variables ps leaf.variables) (unless (fits leaf) at (Ends (RuleFits (leaf_fitting ps leaf) n)))
    (keeps_unless ps at (fits leaf) (Ends (RuleFits (leaf_fitting ps leaf) n)) tt)

keeps_leaf : (fits : LeafNode → Bool) (at : ℕ) (ps : List PartAt) (ws : List ℕ) → Keeps ps (leaf_node fits at ps ws)
unfolding leaf_node
keeps_leaf fits at ps [] = tt
keeps_leaf fits at ps (rule ∷ []) = tt
keeps_leaf fits at ps (rule ∷ n ∷ []) = tt
keeps_leaf fits at ps (rule ∷ n ∷ aside ∷ ws) =
    keeps_unless ps at (ltb rule 64) (unless (leb n 16) at (leaf_with fits at ps n (leaf_read rule aside (variables_in n ws))))
    (keeps_unless ps at (leb n 16) (leaf_with fits at ps n (leaf_read rule aside (variables_in n ws))) (keeps_with fits at ps n (leaf_read rule aside (variables_in n ws))))

keeps_case : (table : List ℕ) (at n : ℕ) (ps : List PartAt) (default : ℕ) (o : Option ℕ) → Keeps ps (case_next table at n ps default o)
keeps_case table at n ps default none = keeps_to ps table at default ps refl
keeps_case table at n ps default (some to) = go (part_of n ps).entered refl
  where
    go : (b : Bool) → (part_of n ps).entered ≡ b → Keeps ps (unless (not b) at (go_to table at to (enter_part n ps)))
    go true e = tt
    go false e = keeps_to ps table at to (enter_part n ps) (total_entered ps n e)

keeps_switch : (table : List ℕ) (at : ℕ) (ps : List PartAt) (ws : List ℕ) → Keeps ps (switch_node table at ps ws)
unfolding switch_node
keeps_switch table at ps [] = tt
keeps_switch table at ps (n ∷ []) = tt
keeps_switch table at ps (n ∷ cases ∷ ws) =
    let last = case_next table at n ps (get_or ws (2 * cases) 0) (case_of (part_of n ps).part cases ws) in
    keeps_unless ps at (ltb n (length ps)) (unless (ltb (2 * cases) (length ws)) at last)
    (keeps_unless ps at (ltb (2 * cases) (length ws)) last (keeps_case table at n ps (get_or ws (2 * cases) 0) (case_of (part_of n ps).part cases ws)))

keeps_closed : (table : List ℕ) (at : ℕ) (ps : List PartAt) (ws : List ℕ) → Keeps ps (closed_node table at ps ws)
unfolding closed_node
keeps_closed table at ps [] = tt
keeps_closed table at ps (n ∷ []) = tt
keeps_closed table at ps (n ∷ k ∷ ws) =
    let to = pick (is_some (body_for ps n (take k ws))) (get_or ws k 0) (get_or ws (k + 1) 0) in
    let d = go_to table at to ps in
    let c = unless (good_list (part_of n ps).depth (take k ws)) at d in
    let b = unless (ltb (k + 1) (length ws)) at c in
    keeps_unless ps at (ltb n (length ps)) (unless (leb k 4) at b)
    (keeps_unless ps at (leb k 4) b
    (keeps_unless ps at (ltb (k + 1) (length ws)) c
    (keeps_unless ps at (good_list (part_of n ps).depth (take k ws)) d (keeps_to ps table at to ps refl))))

keeps_same : (table : List ℕ) (at : ℕ) (ps : List PartAt) (ws : List ℕ) → Keeps ps (same_node table at ps ws)
unfolding same_node
keeps_same table at ps [] = tt
keeps_same table at ps (n ∷ []) = tt
keeps_same table at ps (n ∷ m ∷ []) = tt
keeps_same table at ps (n ∷ m ∷ k ∷ ws) =
    let to = pick (same_o (body_for ps n (take k ws)) (body_for ps m (take k (drop k ws)))) (get_or ws (k + k) 0) (get_or ws (k + k + 1) 0) in
    let f = go_to table at to ps in
    let e = unless (good_list (part_of m ps).depth (take k (drop k ws))) at f in
    let d = unless (good_list (part_of n ps).depth (take k ws)) at e in
    let c = unless (ltb (k + k + 1) (length ws)) at d in
    let b = unless (leb k 4) at c in
    keeps_unless ps at (ltb n (length ps)) (unless (ltb m (length ps)) at b)
    (keeps_unless ps at (ltb m (length ps)) b
    (keeps_unless ps at (leb k 4) c
    (keeps_unless ps at (ltb (k + k + 1) (length ws)) d
    (keeps_unless ps at (good_list (part_of n ps).depth (take k ws)) e
    (keeps_unless ps at (good_list (part_of m ps).depth (take k (drop k ws))) f (keeps_to ps table at to ps refl))))))

keeps_node : (fits : LeafNode → Bool) (table : List ℕ) (at : ℕ) (ps : List PartAt) (ws : List ℕ) → Keeps ps (node_at fits table at ps ws)
unfolding node_at
keeps_node fits table at ps [] = tt
keeps_node fits table at ps (tag ∷ ws) =
    let d : Next = pick (eqb tag 4) (same_node table at ps ws) (Ends (DamagedAt at)) in
    let c : Next = pick (eqb tag 3) (closed_node table at ps ws) d in
    let b : Next = pick (eqb tag 2) (switch_node table at ps ws) c in
    keeps_pick ps (eqb tag 0) (Ends NoneFits) (pick (eqb tag 1) (leaf_node fits at ps ws) b) tt
    (keeps_pick ps (eqb tag 1) (leaf_node fits at ps ws) b (keeps_leaf fits at ps ws)
    (keeps_pick ps (eqb tag 2) (switch_node table at ps ws) c (keeps_switch table at ps ws)
    (keeps_pick ps (eqb tag 3) (closed_node table at ps ws) d (keeps_closed table at ps ws)
    (keeps_pick ps (eqb tag 4) (same_node table at ps ws) (Ends (DamagedAt at)) (keeps_same table at ps ws) tt))))

pub keeps_next : (fits : LeafNode → Bool) (table : List ℕ) (at : ℕ) (ps : List PartAt) → Keeps ps (next_at fits table at ps)
unfolding next_at
keeps_next fits table at ps = keeps_node fits table at ps (drop at table)
