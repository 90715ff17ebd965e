-- The walk, node by node: the walk from here is the walk from the start, each node is one more visit, and it is later, so the walk ends.
use mathlib.Core.Path.{◌≡◌, refl, sym, ap, ◌∙◌}
use mathlib.Core.Bool.{Bool, true, false}
use mathlib.Core.List.{List, [], ◌∷◌}
use Prim.Native.Nat.{ℕ, suc, ◌+◌, ◌-◌, ◌≤◌, ◌<◌}
use native.Mathlib.Omega.{arith}
use Rattle.std.proofs.lemmas.List.{get_or_default}
use lib.ListN.{length, get_or, drop, replicate, length-replicate, get_or-replicate, length-append, drop_of_length-le}
use lib.Seq.{drop-cons}
use lib.Dec.{ltb}
use borrow.Author.Tests.{ne_eqb, ltb-true}
use Rattle.term.specs.Word.{pick}
use Rattle.term.specs.Row.{words}
use Rattle.tree.specs.Tree.{LeafNode}
use Rattle.tree.specs.Find.{PartAt, root_part}
use Rattle.tree.proofs.Laws.{total_root}
use Rattle.walk.specs.Walk.{Walked, DamagedAt, Next, Ends, unless, leaf_node, switch_node, closed_node, same_node, node_at, next_at, follow, walk_from, visits_after, visits_from}
use Rattle.walk.specs.declared.state.Walk.{Walk}
use Rattle.walk.specs.declared.state.Stands.{Stands}
use Rattle.walk.specs.declared.state.Stands.TheVariants as stands
use Rattle.walk.specs.declared.decide.Decision.{Decision}
use Rattle.walk.specs.declared.decide.Decision.TheVariants.{Stop}
use Rattle.walk.specs.Told.State.{entry_at, part_from, place_in, places_from, places_of, Parted, Holds, leaf_in, leaf_rule, Said, NodeDecided, SwitchDecided, ClosedDecided, SameDecided, LeafDecided, Stood, Standing, visits_here, goes_on, Visited, WalkTold}
use Rattle.walk.proofs.Steps.{later_next, walk_is}
use Rattle.walk.proofs.Visits.{visits_is, from_few}
use Rattle.walk.proofs.Tells.{Told, decided_same, decided_damaged, decided_no_rule}
use Rattle.walk.proofs.Uncovered.{from_stands}

-- ---- one node, by its tag
module _ (table term : List ℕ) (s : Walk) where
  abbrev ps : List PartAt
  ps = places_of term s

  pub node_past : length table ≤ s.at → NodeDecided table term s (Stop stands.Damaged)
  unfolding next_at node_at
  node_past l = decided_damaged table term (λ fits. next_at fits table s.at ps) s (λ fits. rw (drop_of_length-le table {i = s.at} l))

  module _ (inside : s.at < length table) where
    node_is : (fits : LeafNode → Bool) → next_at fits table s.at ps ≡ node_at fits table s.at ps (get_or table s.at 0 ∷ drop (s.at + 1) table)
    unfolding next_at
    node_is fits = let z : suc s.at ≡ s.at + 1 = omega arith in rw (drop-cons table s.at 0 inside, z)

    pub node_fail : get_or table s.at 0 ≡ 0 → NodeDecided table term s (Stop stands.NoRule)
    unfolding node_at
    node_fail t = decided_no_rule table term (λ fits. next_at fits table s.at ps) s (λ fits. node_is fits ∙ rw t)

    pub node_leaf : get_or table s.at 0 ≡ 1 → (d : Decision) → LeafDecided table term s d → NodeDecided table term s d
    unfolding node_at
    node_leaf t d e = decided_same table term _ (λ fits. leaf_node fits s.at ps (drop (s.at + 1) table)) s d (λ fits. node_is fits ∙ rw t) e

    pub node_switch : get_or table s.at 0 ≡ 2 → (d : Decision) → SwitchDecided table term s d → NodeDecided table term s d
    unfolding node_at
    node_switch t d e = decided_same table term _ (λ fits. switch_node table s.at ps (drop (s.at + 1) table)) s d (λ fits. node_is fits ∙ rw t) e

    pub node_closed : get_or table s.at 0 ≡ 3 → (d : Decision) → ClosedDecided table term s d → NodeDecided table term s d
    unfolding node_at
    node_closed t d e = decided_same table term _ (λ fits. closed_node table s.at ps (drop (s.at + 1) table)) s d (λ fits. node_is fits ∙ rw t) e

    pub node_same : get_or table s.at 0 ≡ 4 → (d : Decision) → SameDecided table term s d → NodeDecided table term s d
    unfolding node_at
    node_same t d e = decided_same table term _ (λ fits. same_node table s.at ps (drop (s.at + 1) table)) s d (λ fits. node_is fits ∙ rw t) e

    pub node_other : (get_or table s.at 0 ≡ 0 → ⊥) → (get_or table s.at 0 ≡ 1 → ⊥) → (get_or table s.at 0 ≡ 2 → ⊥) → (get_or table s.at 0 ≡ 3 → ⊥) → (get_or table s.at 0 ≡ 4 → ⊥)
        → NodeDecided table term s (Stop stands.Damaged)
    unfolding node_at
    node_other a b c d e =
        decided_damaged table term (λ fits. next_at fits table s.at ps) s
        (λ fits. node_is fits ∙ rw (ne_eqb (get_or table s.at 0) 0 a, ne_eqb (get_or table s.at 0) 1 b, ne_eqb (get_or table s.at 0) 2 c, ne_eqb (get_or table s.at 0) 3 d, ne_eqb (get_or table s.at 0) 4 e))

-- the tag at an address, as it is looked up
pub tag_there : (table : List ℕ) (at tag : ℕ) → true ≡ ltb at (length table) → tag ≡ get_or table at tag → (at < length table) × (get_or table at 0 ≡ tag)
tag_there table at tag t e = let h = ltb-true at (length table) (sym t) in (h, get_or_default table at 0 tag h ∙ sym e)

-- ---- the loop
abbrev pub left : List ℕ → Walk → ℕ
left table s = pick (goes_on s.stands) (suc (length table - s.at)) 0

module _ (table term : List ℕ) (s r : Walk) (going : s.stands ≡ stands.Going) (t : Told table term (λ fits. next_at fits table s.at (places_of term s)) r) where
  pub step_less : left table r < left table s
  unfolding Told
  step_less = rw going (go r.stands t.1)
    where
      go : (n : Stands) → Said table term (λ fits. next_at fits table s.at (places_of term s)) r n → pick (goes_on n) (suc (length table - r.at)) 0 < suc (length table - s.at)
      go stands.Going e =
          let l = rw (e (λ leaf. true)) at (later_next (λ leaf. true) table s.at (places_of term s)) in
          omega (arith, l.0, l.1)
      go stands.NoRule e = omega arith
      go stands.Rule e = omega arith
      go stands.Damaged e = omega arith

  pub step_stands : (walked : (LeafNode → Bool) → Walked) → Standing table term walked s → Standing table term walked r
  unfolding Told Standing
  step_stands walked q = (t.0, go r.stands t.1)
    where
      from : Stood table term walked s stands.Going
      from = rw going at q.1

      here : (fits : LeafNode → Bool) → walked fits ≡ follow (walk_from fits table) (next_at fits table s.at (places_of term s))
      here fits = from fits ∙ walk_is fits table s.at (places_of term s)

      chosen : (b : Bool) (f : ℕ → List PartAt → Walked) (at : ℕ) (w : Walked) → follow f (unless b at (Ends w)) ≡ pick b w (DamagedAt at)
      chosen true f at w = refl
      chosen false f at w = refl

      go : (n : Stands) → Said table term (λ fits. next_at fits table s.at (places_of term s)) r n → Stood table term walked r n
      go stands.Going e = λ fits. here fits ∙ ap (follow (walk_from fits table)) (e fits)
      go stands.NoRule e = λ fits. here fits ∙ ap (follow (walk_from fits table)) (e fits)
      go stands.Rule e =
          record {
            leaf = e.leaf;
            ends = λ fits.
                here fits ∙ ap (follow (walk_from fits table)) (e.ends fits)
                ∙ chosen (fits (leaf_in table r.at)) (walk_from fits table) r.at (leaf_rule table (places_of term r) r.at);
          }
      go stands.Damaged e = λ fits. here fits ∙ ap (follow (walk_from fits table)) (e fits)

  pub step_visits : r.visits ≡ s.visits + 1 → Visited table term s → Visited table term r
  unfolding Told Visited
  step_visits one v = go r.stands t.1
    where
      whole : s.visits + visits_from table s.at (places_of term s) ≡ visits_here table term
      whole = rw going at v

      from : (next : Next) → next_at (λ leaf. true) table s.at (places_of term s) ≡ next → visits_from table s.at (places_of term s) ≡ suc (visits_after (visits_from table) next)
      from next e = visits_is table (λ leaf. true) s.at (places_of term s) ∙ ap (λ (n : Next). suc (visits_after (visits_from table) n)) e

      go : (n : Stands) → Said table term (λ fits. next_at fits table s.at (places_of term s)) r n → r.visits + pick (goes_on n) (visits_from table r.at (places_of term r)) 0 ≡ visits_here table term
      go stands.Going e = omega (arith, one, whole, from _ (e (λ leaf. true)))
      go stands.NoRule e = omega (arith, one, whole, from _ (e (λ leaf. true)))
      go stands.Rule e = omega (arith, one, whole, from _ (e.ends (λ leaf. true)))
      go stands.Damaged e = omega (arith, one, whole, from _ (e (λ leaf. true)))

-- there is room to count one more
pub visits_room : (table term : List ℕ) (s : Walk) → Visited table term s → length table ≤ 16384 → s.visits ≤ 16385
unfolding Visited
visits_room table term s v l = omega (arith, v, l, from_few table 0 (root_part (part_from term 0)))

-- ---- the root
module _ (term : List ℕ) (p : Parted term) (some_words : 0 < length term) where
  entry_place : place_in term (replicate 4096 0) (replicate 4096 0) (replicate 4096 false) 0 ≡ record { part = part_from term 0; depth = 0; entered = false }
  unfolding place_in
  entry_place = rw (get_or-replicate {A = ℕ} 4096 0 0 0 (omega arith), get_or-replicate 4096 0 false false (omega arith))

  entry_places : places_of term entry_at ≡ root_part (part_from term 0)
  unfolding places_from
  entry_places = ap (λ (q : PartAt). q ∷ []) entry_place

  pub entry_holds : Holds term entry_at
  entry_holds =
      let b = p.begins 0 some_words in
      let f = from_stands term 0 b.0 b.1 p.short b.2 in
      let l : length (words b.0) ≤ length term = omega (arith, ap length b.2.same, length-append (words b.0) b.1) in
      record {
        offsets_long = length-replicate {A = ℕ} 4096 0;
        depths_long = length-replicate {A = ℕ} 4096 0;
        entered_long = length-replicate 4096 false;
        within = λ n i. let z : n ≡ 0 = omega arith in rw z some_words;
        low = λ n i. let z : n ≡ 0 = omega arith in rw (z, f) (omega (arith, b.2.low));
        few = omega (arith, some_words);
        room = rw (entry_places, f) (omega (arith, total_root b.0 b.2.wide, l));
      }

  pub entry_stands : (table : List ℕ) → Standing table term (λ fits. walk_from fits table 0 (root_part (part_from term 0))) entry_at
  unfolding Standing
  entry_stands table = (entry_holds, λ fits. rw (entry_places))

  pub entry_visits : (table : List ℕ) → Visited table term entry_at
  unfolding Visited
  entry_visits table = rw (entry_places) (omega arith)

pub walk_ended : (table term : List ℕ) (s : Walk) → Standing table term (λ fits. walk_from fits table 0 (root_part (part_from term 0))) s → Visited table term s → (s.stands ≡ stands.Going → ⊥) → WalkTold table term s
unfolding WalkTold Visited
walk_ended table term s t v n =
    (t, n, ended s.stands n v)
  where
    ended : (k : Stands) → (k ≡ stands.Going → ⊥) → s.visits + pick (goes_on k) (visits_from table s.at (places_of term s)) 0 ≡ visits_here table term → s.visits ≡ visits_here table term
    ended stands.Going z e = absurd (z refl)
    ended stands.NoRule z e = omega (arith, e)
    ended stands.Rule z e = omega (arith, e)
    ended stands.Damaged z e = omega (arith, e)

pub standing_holds : (table term : List ℕ) (walked : (LeafNode → Bool) → Walked) (s : Walk) → Standing table term walked s → Holds term s
unfolding Standing
standing_holds table term walked s t = t.0
