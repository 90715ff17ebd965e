-- What is decided of a node is told of the state that is handed on as decided: a step of the walk.
use Rattle.std.proofs.Common.{rules, arith, ap, sym, ◌∙◌, ◌≡◌, ℕ, List, Bool, true, false}
use denote.Enum.Bare.{sameb, same_true}
use Rattle.term.proofs.Laws.{never}
use Rattle.tree.specs.Tree.{LeafNode}
use Rattle.tree.specs.Find.{root_part}
use Rattle.walk.specs.Walk.{Next, next_at, walk_from}
use Rattle.walk.specs.contracts.state.Stands.{the_type}
use Rattle.walk.specs.declared.state.Stands.{Stands}
use Rattle.walk.specs.declared.state.Stands.TheVariants as stands
use Rattle.walk.specs.declared.state.Walk.{Walk}
use Rattle.walk.specs.declared.decide.Decision.{Decision}
use Rattle.walk.specs.declared.decide.Decision.TheVariants.{Enter, Go, Stop}
use Rattle.walk.specs.Told.State.{stopped_as, moved_to, part_from, places_of, Holds, EnterTold, NodeDecided, Standing}
use Rattle.walk.proofs.Tells.{Told, counted, holds_counted, told_stop, told_go, told_enter, enter_there}
use Rattle.walk.proofs.Walking.{step_less, step_stands, step_visits, visits_room, entry_stands, entry_visits, walk_ended, standing_holds}
use Rattle.walk.proofs.state.walk_tree.Goals as goal

-- ---- the loop's test
goes_on_lem : (s : Stands) (b : Bool) → b ≡ sameb the_type s stands.Going → b ≡ true → s ≡ stands.Going
goes_on_lem s b e t = same_true the_type (search rules) _ _ (sym e ∙ t)

ended_lem : (s : Stands) (b : Bool) → b ≡ sameb the_type s stands.Going → b ≡ false → s ≡ stands.Going → ⊥
ended_lem s b e f z = let q : b ≡ true = rw z at e in never (cc)

-- ---- each decision
module _ (tree term : List ℕ) (s : Walk) (q : Standing tree term (λ fits. walk_from fits tree 0 (root_part (part_from term 0))) s) (d : Decision) (decided : NodeDecided tree term s d) where
  abbrev next : (LeafNode → Bool) → Next
  next fits = next_at fits tree s.at (places_of term s)

  held : Holds term s
  held = standing_holds tree term (λ fits. walk_from fits tree 0 (root_part (part_from term 0))) s q

  stopped : (how : Stands) → d ≡ Stop how → (r : Walk) → r ≡ stopped_as (counted s) how → Told tree term next r
  stopped = told_stop tree term next s held d decided

  went_on : s.stands ≡ stands.Going → (to : ℕ) → d ≡ Go to → (r : Walk) → r ≡ moved_to (counted s) to → Told tree term next r
  went_on = told_go tree term next s held d decided

  entered : s.stands ≡ stands.Going → (n to : ℕ) → d ≡ Enter n to → (r : Walk) → EnterTold term (counted s) n to r → Told tree term next r
  entered = told_enter tree term next s held d decided

pub loop-walk-init : goal.loop-walk-init
loop-walk-init c =
    let s = c.args in
    rw c.new-walk.ensures (entry_stands s.term.now c.requires.0 c.requires.1 s.tree.now, entry_visits s.term.now c.requires.0 c.requires.1 s.tree.now)

pub decide-decision-requires : goal.decide-decision-requires
decide-decision-requires c = (c.requires.0, standing_holds _ _ _ _ c.loop-walk.invariant.0)

pub overflow_add-walk : goal.overflow_add-walk
overflow_add-walk c = omega (arith, visits_room c.args.tree.now c.args.term.now _ c.loop-walk.invariant.1 c.requires.2)

pub enter-walk-requires : goal.enter-walk-requires
enter-walk-requires c =
    let h = held c.args.tree.now c.args.term.now c.loop-walk.walk c.loop-walk.invariant.0 c.decide-decision.result c.decide-decision.ensures in
    let e = enter_there c.args.tree.now c.args.term.now _ c.loop-walk.walk h _ c.decide-decision.ensures _ _ c.in-Enter.is in
    (c.requires.0, holds_counted _ _ h, e.0, e.1)

pub loop-walk-smaller-in-Enter : goal.loop-walk-smaller-in-Enter
loop-walk-smaller-in-Enter c =
    let g = goes_on_lem _ _ c.eq.ensures c.loop-walk-test.true in
    step_less c.args.tree.now c.args.term.now c.loop-walk.walk _ g (entered c.args.tree.now c.args.term.now _ c.loop-walk.invariant.0 _ c.decide-decision.ensures g _ _ c.in-Enter.is _ c.enter-walk.ensures)

pub loop-walk-preserved-in-Enter : goal.loop-walk-preserved-in-Enter
loop-walk-preserved-in-Enter c =
    let g = goes_on_lem _ _ c.eq.ensures c.loop-walk-test.true in
    let t = entered c.args.tree.now c.args.term.now _ c.loop-walk.invariant.0 _ c.decide-decision.ensures g _ _ c.in-Enter.is _ c.enter-walk.ensures in
    (step_stands _ _ _ _ g t _ c.loop-walk.invariant.0, step_visits _ _ _ _ g t c.enter-walk.ensures.visited c.loop-walk.invariant.1)

pub loop-walk-smaller-in-Go : goal.loop-walk-smaller-in-Go
loop-walk-smaller-in-Go c =
    let g = goes_on_lem _ _ c.eq.ensures c.loop-walk-test.true in
    step_less c.args.tree.now c.args.term.now c.loop-walk.walk _ g (went_on c.args.tree.now c.args.term.now _ c.loop-walk.invariant.0 _ c.decide-decision.ensures g _ c.in-Go.is _ c.test-walk.ensures)

pub loop-walk-preserved-in-Go : goal.loop-walk-preserved-in-Go
loop-walk-preserved-in-Go c =
    let g = goes_on_lem _ _ c.eq.ensures c.loop-walk-test.true in
    let t = went_on c.args.tree.now c.args.term.now _ c.loop-walk.invariant.0 _ c.decide-decision.ensures g _ c.in-Go.is _ c.test-walk.ensures in
    (step_stands _ _ _ _ g t _ c.loop-walk.invariant.0, step_visits _ _ _ _ g t (ap (λ (w : Walk). w.visits) c.test-walk.ensures) c.loop-walk.invariant.1)

pub loop-walk-smaller : goal.loop-walk-smaller
loop-walk-smaller c =
    let g = goes_on_lem _ _ c.eq.ensures c.loop-walk-test.true in
    step_less c.args.tree.now c.args.term.now c.loop-walk.walk _ g (stopped c.args.tree.now c.args.term.now _ c.loop-walk.invariant.0 _ c.decide-decision.ensures _ c.in-Stop.is _ c.stop-walk.ensures)

pub loop-walk-preserved : goal.loop-walk-preserved
loop-walk-preserved c =
    let g = goes_on_lem _ _ c.eq.ensures c.loop-walk-test.true in
    let t = stopped c.args.tree.now c.args.term.now _ c.loop-walk.invariant.0 _ c.decide-decision.ensures _ c.in-Stop.is _ c.stop-walk.ensures in
    (step_stands _ _ _ _ g t _ c.loop-walk.invariant.0, step_visits _ _ _ _ g t (ap (λ (w : Walk). w.visits) c.stop-walk.ensures) c.loop-walk.invariant.1)

pub returns : goal.returns
returns c = walk_ended c.args.tree.now c.args.term.now _ c.loop-walk.invariant.0 c.loop-walk.invariant.1 (ended_lem _ _ c.eq.ensures c.loop-walk-test.false)
