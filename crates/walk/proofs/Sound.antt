-- On every walk, over whole words or damaged ones, a rule that is found has bodies, and fits what is asked of it: each uncovered part is one term, and a Leaf is sound.
use mathlib.Core.Path.{◌≡◌, refl, ap}
use mathlib.Core.Bool.{Bool, true, false, ◌&&◌, not}
use mathlib.Core.List.{List, [], ◌∷◌}
use mathlib.Core.Option.{Option, none, some}
use Prim.Native.Nat.{ℕ, zero, suc, ◌+◌, ◌*◌, ◌-◌, ◌<◌}
use native.Mathlib.Omega.{arith}
use lib.Dec.{eqb, leb, ltb}
use lib.ListN.{length, get_or, take, drop}
use borrow.Author.Tests.{ltb-true, eqb-true}
use Rattle.term.specs.Word.{pick}
use Rattle.term.specs.Row.{Row}
use Rattle.term.specs.Renumber.{good_list}
use Rattle.term.specs.Part.{is_some, same_o}
use Rattle.term.proofs.Laws.{never, and_left, and_right, good_true}
use Rattle.book.specs.Book.{Rule, rule_at}
use Rattle.fit.specs.Fit.{IsBody}
use Rattle.tree.specs.Tree.{LeafVariable, LeafNode, counts_of}
use Rattle.tree.specs.Find.{PartAt, root_count, root_part, part_of, enter_part, body_for, leaf_fitting}
use Rattle.tree.proofs.Laws.{SoundVariable, AllSound, AllTerms, terms_root, terms_entered, leaf_terms}
use Rattle.walk.specs.Walk.{Walked, NoneFits, RuleFits, DamagedAt, Next, Ends, Goes, unless, go_to, variable_then, variables_in, sound_variable, sound_variables, leaf_read, leaf_with, leaf_node, case_of, case_next, switch_node, closed_node, same_node, node_at, next_at, follow, walk_by, walk_from, walk, counts_fit, left_count, rule_fits, book_fits}

-- a rule that is found has as many bodies as it has variables, and its Leaf fits
abbrev pub FoundSound : (LeafNode → Bool) → Walked → Type 0
FoundSound fits NoneFits = Unit {0}
FoundSound fits (RuleFits f n) = (vs : List LeafVariable) × (length vs ≡ n) × (fits (record { rule = f.number; aside = f.aside; variables = vs }) ≡ true) × ((x : ℕ) → x < n → IsBody (f.bodies x))
FoundSound fits (DamagedAt at) = Unit {0}

abbrev SoundNext : (LeafNode → Bool) → Next → Type 0
SoundNext fits (Ends w) = FoundSound fits w
SoundNext fits (Goes to qs) = AllTerms qs

-- ---- a Leaf
sound_one : (ps : List PartAt) (v : LeafVariable) → sound_variable ps v ≡ true → SoundVariable ps v
unfolding sound_variable
sound_one ps v e =
    let a = ltb v.at (length ps) in
    let b = leb (length v.list) 4 in
    let c = good_list (part_of v.at ps).depth v.list in
    let d = is_some (body_for ps v.at v.list) in
    let p : b && (c && d) ≡ true = and_right a (b && (c && d)) e in
    let q : c && d ≡ true = and_right b (c && d) p in
    record { here = ltb-true v.at (length ps) (and_left a (b && (c && d)) e); list = good_true (part_of v.at ps).depth v.list (and_left c d q); body = and_right c d q }

sound_all : (ps : List PartAt) (vs : List LeafVariable) → sound_variables ps vs ≡ true → AllSound ps vs
unfolding sound_variables
sound_all ps [] e = tt
sound_all ps (v ∷ vs) e = (sound_one ps v (and_left (sound_variable ps v) (sound_variables ps vs) e), sound_all ps vs (and_right (sound_variable ps v) (sound_variables ps vs) e))

abbrev pub AsMany : ℕ → Option (List LeafVariable) → Type 0
AsMany n none = Unit {0}
AsMany n (some vs) = length vs ≡ n

one_more_lem : (n : ℕ) (v : LeafVariable) (o : Option (List LeafVariable)) → AsMany n o → AsMany (suc n) (variable_then v o)
one_more_lem n v none a = tt
one_more_lem n v (some vs) a = ap suc a

pick_many : (n : ℕ) (b : Bool) (o : Option (List LeafVariable)) → AsMany n o → AsMany n (pick b o none)
pick_many n true o a = a
pick_many n false o a = tt

pub as_many : (n : ℕ) (ws : List ℕ) → AsMany n (variables_in n ws)
unfolding variables_in
as_many zero ws = refl
as_many (suc n) [] = tt
as_many (suc n) (p ∷ []) = tt
as_many (suc n) (p ∷ k ∷ ws) =
    pick_many (suc n) (leb k (length ws)) (variable_then (record { at = p; list = take k ws }) (variables_in n (drop k ws)))
    (one_more_lem n (record { at = p; list = take k ws }) (variables_in n (drop k ws)) (as_many n (drop k ws)))

module _ (fits : LeafNode → Bool) (ps : List PartAt) (terms : AllTerms ps) where
  sound_unless : (at : ℕ) (b : Bool) (next : Next) → SoundNext fits next → SoundNext fits (unless b at next)
  sound_unless at true next k = k
  sound_unless at false next k = tt

  sound_pick : (b : Bool) (x y : Next) → SoundNext fits x → SoundNext fits y → SoundNext fits (pick b x y)
  sound_pick true x y k l = k
  sound_pick false x y k l = l

  sound_to : (table : List ℕ) (at to : ℕ) (qs : List PartAt) → AllTerms qs → SoundNext fits (go_to table at to qs)
  unfolding go_to
  sound_to table at to qs a = sound_unless at (ltb at to && ltb to (length table)) (Goes to qs) a

  sound_with : (at rule aside n : ℕ) (o : Option (List LeafVariable)) → AsMany n o → SoundNext fits (leaf_with fits at ps n (leaf_read rule aside o))
  sound_with at rule aside n none m = tt
  sound_with at rule aside n (some vs) m = go (sound_variables ps vs) (fits leaf) refl refl
    where
      leaf : LeafNode
      leaf = record { rule = rule; aside = aside; variables = vs }

      go : (a b : Bool) → sound_variables ps vs ≡ a → fits leaf ≡ b → SoundNext fits (unless a at (unless b at (Ends (RuleFits (leaf_fitting ps leaf) n))))
      go true true p q = (vs, m, q, λ x h. leaf_terms ps terms vs (sound_all ps vs p) x (omega (arith, m, h)))
      go true false p q = tt
      go false b p q = tt

  sound_leaf_lem : (at : ℕ) (ws : List ℕ) → SoundNext fits (leaf_node fits at ps ws)
  unfolding leaf_node
  sound_leaf_lem at [] = tt
  sound_leaf_lem at (rule ∷ []) = tt
  sound_leaf_lem at (rule ∷ n ∷ []) = tt
  sound_leaf_lem at (rule ∷ n ∷ aside ∷ ws) =
      sound_unless at (ltb rule 64) (unless (leb n 16) at (leaf_with fits at ps n (leaf_read rule aside (variables_in n ws))))
      (sound_unless at (leb n 16) (leaf_with fits at ps n (leaf_read rule aside (variables_in n ws))) (sound_with at rule aside n (variables_in n ws) (as_many n ws)))

  -- ---- the other nodes go on with the parts, or with one of them entered
  module _ (table : List ℕ) (at : ℕ) where
    sound_case : (n default : ℕ) (o : Option ℕ) → SoundNext fits (case_next table at n ps default o)
    sound_case n default none = sound_to table at default ps terms
    sound_case n default (some to) =
        sound_unless at (not (part_of n ps).entered) (go_to table at to (enter_part n ps)) (sound_to table at to (enter_part n ps) (terms_entered n ps terms))

    sound_switch : (ws : List ℕ) → SoundNext fits (switch_node table at ps ws)
    unfolding switch_node
    sound_switch [] = tt
    sound_switch (n ∷ []) = tt
    sound_switch (n ∷ cases ∷ ws) =
        let last = case_next table at n ps (get_or ws (2 * cases) 0) (case_of (part_of n ps).part cases ws) in
        sound_unless at (ltb n (length ps)) (unless (ltb (2 * cases) (length ws)) at last)
        (sound_unless at (ltb (2 * cases) (length ws)) last (sound_case n (get_or ws (2 * cases) 0) (case_of (part_of n ps).part cases ws)))

    sound_closed : (ws : List ℕ) → SoundNext fits (closed_node table at ps ws)
    unfolding closed_node
    sound_closed [] = tt
    sound_closed (n ∷ []) = tt
    sound_closed (n ∷ k ∷ ws) =
        let to = pick (is_some (body_for ps n (take k ws))) (get_or ws k 0) (get_or ws (k + 1) 0) in
        let d = go_to table at to ps in
        let c = unless (good_list (part_of n ps).depth (take k ws)) at d in
        let b = unless (ltb (k + 1) (length ws)) at c in
        sound_unless at (ltb n (length ps)) (unless (leb k 4) at b)
        (sound_unless at (leb k 4) b
        (sound_unless at (ltb (k + 1) (length ws)) c
        (sound_unless at (good_list (part_of n ps).depth (take k ws)) d (sound_to table at to ps terms))))

    sound_same : (ws : List ℕ) → SoundNext fits (same_node table at ps ws)
    unfolding same_node
    sound_same [] = tt
    sound_same (n ∷ []) = tt
    sound_same (n ∷ m ∷ []) = tt
    sound_same (n ∷ m ∷ k ∷ ws) =
        let to = pick (same_o (body_for ps n (take k ws)) (body_for ps m (take k (drop k ws)))) (get_or ws (k + k) 0) (get_or ws (k + k + 1) 0) in
        let f = go_to table at to ps in
        let e = unless (good_list (part_of m ps).depth (take k (drop k ws))) at f in
        let d = unless (good_list (part_of n ps).depth (take k ws)) at e in
        let c = unless (ltb (k + k + 1) (length ws)) at d in
        let b = unless (leb k 4) at c in
        sound_unless at (ltb n (length ps)) (unless (ltb m (length ps)) at b)
        (sound_unless at (ltb m (length ps)) b
        (sound_unless at (leb k 4) c
        (sound_unless at (ltb (k + k + 1) (length ws)) d
        (sound_unless at (good_list (part_of n ps).depth (take k ws)) e
        (sound_unless at (good_list (part_of m ps).depth (take k (drop k ws))) f (sound_to table at to ps terms))))))

    sound_node : (ws : List ℕ) → SoundNext fits (node_at fits table at ps ws)
    unfolding node_at
    sound_node [] = tt
    sound_node (tag ∷ ws) =
        let d : Next = pick (eqb tag 4) (same_node table at ps ws) (Ends (DamagedAt at)) in
        let c : Next = pick (eqb tag 3) (closed_node table at ps ws) d in
        let b : Next = pick (eqb tag 2) (switch_node table at ps ws) c in
        sound_pick (eqb tag 0) (Ends NoneFits) (pick (eqb tag 1) (leaf_node fits at ps ws) b) tt
        (sound_pick (eqb tag 1) (leaf_node fits at ps ws) b (sound_leaf_lem at ws)
        (sound_pick (eqb tag 2) (switch_node table at ps ws) c (sound_switch ws)
        (sound_pick (eqb tag 3) (closed_node table at ps ws) d (sound_closed ws)
        (sound_pick (eqb tag 4) (same_node table at ps ws) (Ends (DamagedAt at)) (sound_same ws) tt))))

    sound_next : SoundNext fits (next_at fits table at ps)
    unfolding next_at
    sound_next = sound_node (drop at table)

-- ---- the whole walk
module _ (fits : LeafNode → Bool) (table : List ℕ) where
  sound_follow : (go : ℕ → List PartAt → Walked) → ((to : ℕ) (qs : List PartAt) → AllTerms qs → FoundSound fits (go to qs)) → (next : Next) → SoundNext fits next → FoundSound fits (follow go next)
  sound_follow go f (Ends w) s = s
  sound_follow go f (Goes to qs) s = f to qs s

  sound_by : (n at : ℕ) (ps : List PartAt) → AllTerms ps → FoundSound fits (walk_by n fits table at ps)
  unfolding walk_by
  sound_by zero at ps a = tt
  sound_by (suc n) at ps a = sound_follow (walk_by n fits table) (λ to qs b. sound_by n to qs b) (next_at fits table at ps) (sound_next fits ps a table at)

pub walk_sound : (fits : ℕ → LeafNode → Bool) (table : List ℕ) (t : Row) → IsBody t → FoundSound (fits (root_count t)) (walk fits table t)
unfolding walk walk_from
walk_sound fits table t i = go (leb (length table) 16384)
  where
    go : (b : Bool) → FoundSound (fits (root_count t)) (pick b (walk_by (suc (length table - 0)) (fits (root_count t)) table 0 (root_part t)) (DamagedAt 16384))
    go true = sound_by (fits (root_count t)) table (suc (length table - 0)) 0 (root_part t) (terms_root t i)
    go false = tt

-- ---- with a book the rule is one of the book's, with as many variables, and what the root has more than its left side is set aside
module _ (book : List ℕ) (a : ℕ) (leaf : LeafNode) (e : book_fits book a leaf ≡ true) where
  pub fits_rule : (rule : Rule) × (rule_at book leaf.rule ≡ some rule) × (length leaf.variables ≡ rule.vars) × (leaf.aside + left_count rule.left ≡ a)
  unfolding book_fits
  fits_rule = go (rule_at book leaf.rule) refl e
    where
      go : (o : Option Rule) → rule_at book leaf.rule ≡ o → rule_fits o a leaf ≡ true
          → (rule : Rule) × (rule_at book leaf.rule ≡ some rule) × (length leaf.variables ≡ rule.vars) × (leaf.aside + left_count rule.left ≡ a)
      go none q f = never (cc)
      go (some rule) q f =
          let x = eqb (length leaf.variables) rule.vars in
          let y = eqb (leaf.aside + left_count rule.left) a in
          let z = counts_fit rule.left 0 (counts_of leaf.variables) in (
            rule,
            q,
            eqb-true (length leaf.variables) rule.vars (and_left x (y && z) f),
            eqb-true (leaf.aside + left_count rule.left) a (and_left y z (and_right x (y && z) f)),
          )
