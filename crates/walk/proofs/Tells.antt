-- What is decided of a node: the same of what is the same; and what is told of the state once it was handed on as decided.
use mathlib.Core.Path.{◌≡◌, sym, ◌∙◌}
use mathlib.Core.Bool.{Bool, true, false, ◌&&◌}
use mathlib.Core.List.{List}
use Prim.Native.Nat.{ℕ, ◌+◌, ◌<◌}
use lib.Dec.{ltb}
use lib.ListN.{length, get_or}
use Rattle.std.specs.Bool.{then_some}
use Rattle.tree.specs.Tree.{LeafNode}
use Rattle.tree.specs.Find.{enter_part}
use Rattle.walk.specs.Walk.{NoneFits, DamagedAt, Next, Ends, Goes, go_to}
use Rattle.walk.specs.declared.state.Walk.{Walk}
use Rattle.walk.specs.declared.state.Stands.{Stands}
use Rattle.walk.specs.declared.state.Stands.TheVariants as stands
use Rattle.walk.specs.declared.decide.Decision.{Decision}
use Rattle.walk.specs.declared.decide.Decision.TheVariants.{Enter, Go, Stop}
use Rattle.walk.specs.Told.State.{stopped_as, moved_to, places_of, Holds, LeafAt, Said, EnterTold, Decided, or_damaged}

-- what a node says, as the state has it that was handed on
unfoldable pub Told : List ℕ → List ℕ → ((LeafNode → Bool) → Next) → Walk → Type 0
Told table term next s = Holds term s × Said table term next s s.stands

pub decided_same : (table term : List ℕ) (next other : (LeafNode → Bool) → Next) (s : Walk) (d : Decision) → ((fits : LeafNode → Bool) → next fits ≡ other fits)
    → Decided table term other s d → Decided table term next s d
unfolding Decided
decided_same table term next other s (Enter n to) e t = (t.0, t.1, λ fits. e fits ∙ t.2 fits)
decided_same table term next other s (Go to) e t = λ fits. e fits ∙ t fits
decided_same table term next other s (Stop stands.Going) e t = λ fits. e fits ∙ t fits
decided_same table term next other s (Stop stands.NoRule) e t = λ fits. e fits ∙ t fits
decided_same table term next other s (Stop stands.Rule) e t = record { leaf = t.leaf; ends = λ fits. e fits ∙ t.ends fits }
decided_same table term next other s (Stop stands.Damaged) e t = λ fits. e fits ∙ t fits

module _ (table term : List ℕ) (next : (LeafNode → Bool) → Next) (s : Walk) where
  pub decided_damaged : ((fits : LeafNode → Bool) → next fits ≡ Ends (DamagedAt s.at)) → Decided table term next s (Stop stands.Damaged)
  unfolding Decided
  decided_damaged e = e

  pub decided_no_rule : ((fits : LeafNode → Bool) → next fits ≡ Ends NoneFits) → Decided table term next s (Stop stands.NoRule)
  unfolding Decided
  decided_no_rule e = e

  pub decided_rule : LeafAt table term next s → Decided table term next s (Stop stands.Rule)
  unfolding Decided
  decided_rule l = l

-- ---- an address
module _ (table term : List ℕ) (s : Walk) (to : ℕ) where
  pub go_out : (ltb s.at to && ltb to (length table)) ≡ false → Decided table term (λ fits. go_to table s.at to (places_of term s)) s (Stop stands.Damaged)
  unfolding go_to
  go_out l = decided_damaged table term (λ fits. go_to table s.at to (places_of term s)) s (λ fits. rw l)

  pub go_in : (ltb s.at to && ltb to (length table)) ≡ true → Decided table term (λ fits. go_to table s.at to (places_of term s)) s (Go to)
  unfolding go_to Decided
  go_in l = λ fits. rw l

  pub go_told : (b : Bool) → b ≡ (ltb s.at to && ltb to (length table)) → Decided table term (λ fits. go_to table s.at to (places_of term s)) s (or_damaged (then_some b (Go to)))
  go_told true e = go_in (sym e)
  go_told false e = go_out (sym e)

-- ---- the state that is lent, and the state that is handed on
-- one more node is visited
abbrev pub counted : Walk → Walk
counted s = record { offsets = s.offsets; depths = s.depths; entered = s.entered; count = s.count; at = s.at; stands = s.stands; visits = s.visits + 1 }

pub holds_counted : (term : List ℕ) (s : Walk) → Holds term s → Holds term (counted s)
holds_counted term s h =
    record { offsets_long = h.offsets_long; depths_long = h.depths_long; entered_long = h.entered_long; within = h.within; low = h.low; few = h.few; room = h.room }

module _ (table term : List ℕ) (next : (LeafNode → Bool) → Next) (s : Walk) (h : Holds term s) (d : Decision) (decided : Decided table term next s d) where
  pub told_stop : (n : Stands) → d ≡ Stop n → (r : Walk) → r ≡ stopped_as (counted s) n → Told table term next r
  unfolding Told Decided
  told_stop n e r q = rw q (held, said n (rw e at decided))
    where
      held : Holds term (stopped_as (counted s) n)
      held = record { offsets_long = h.offsets_long; depths_long = h.depths_long; entered_long = h.entered_long; within = h.within; low = h.low; few = h.few; room = h.room }

      said : (k : Stands) → Said table term next s k → Said table term next (stopped_as (counted s) n) k
      said stands.Going t = t
      said stands.NoRule t = t
      said stands.Rule t = record { leaf = record { inside = t.leaf.inside; few = t.leaf.few; sound = t.leaf.sound }; ends = t.ends }
      said stands.Damaged t = t

  module _ (going : s.stands ≡ stands.Going) where
    pub told_go : (to : ℕ) → d ≡ Go to → (r : Walk) → r ≡ moved_to (counted s) to → Told table term next r
    unfolding Told Decided
    told_go to e r q = rw q (held, said s.stands going (rw e at decided))
      where
        held : Holds term (moved_to (counted s) to)
        held = record { offsets_long = h.offsets_long; depths_long = h.depths_long; entered_long = h.entered_long; within = h.within; low = h.low; few = h.few; room = h.room }

        said : (k : Stands) → k ≡ stands.Going → ((fits : LeafNode → Bool) → next fits ≡ Goes to (places_of term s)) → Said table term next (moved_to (counted s) to) k
        said k z t = rw z t

    pub told_enter : (n to : ℕ) → d ≡ Enter n to → (r : Walk) → EnterTold term (counted s) n to r → Told table term next r
    unfolding Told Decided
    told_enter n to e r q = (q.holds, said r.stands (q.same ∙ going) (rw e at decided))
      where
        said : (k : Stands) → k ≡ stands.Going → (n < s.count) × (get_or s.entered n false ≡ false) × ((fits : LeafNode → Bool) → next fits ≡ Goes to (enter_part n (places_of term s))) → Said table term next r k
        said k z t = rw z (λ fits. rw (q.there, q.places) (t.2 fits))

  -- the place that is entered is there, and was not entered
  pub enter_there : (n to : ℕ) → d ≡ Enter n to → (n < s.count) × (get_or s.entered n false ≡ false)
  unfolding Decided
  enter_there n to e = taken (rw e at decided)
    where
      taken : (n < s.count) × (get_or s.entered n false ≡ false) × ((fits : LeafNode → Bool) → next fits ≡ Goes to (enter_part n (places_of term s))) → (n < s.count) × (get_or s.entered n false ≡ false)
      taken t = (t.0, t.1)
