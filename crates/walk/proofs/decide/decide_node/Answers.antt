-- One law for each tag.
use Rattle.std.proofs.Common.{arith, sym, ltb-false, ◌<◌, length, get_or, ◌≡◌, ◌∙◌}
use Rattle.walk.proofs.Walking.{tag_there, node_past, node_fail, node_leaf, node_switch, node_closed, node_same, node_other}
use Rattle.walk.proofs.decide.decide_node.Goals as goal
use Rattle.walk.proofs.decide.decide_node.Goals.{In_ok-get}

tag : (c : In_ok-get) → (c.args.walk.now.at < length c.args.tree.now) × (get_or c.args.tree.now c.args.walk.now.at 0 ≡ c.in_ok-get.field-0.now)
tag c = tag_there _ _ _ c.in_ok-get.ensures.lookup.0 c.in_ok-get.ensures.lookup.1

pub returns-in_err-get : goal.returns-in_err-get
returns-in_err-get c = let s = c.args in rw c.from_residual.ensures (node_past s.tree.now s.term.now s.walk.now (ltb-false _ _ (sym c.in_err-get.ensures.lookup.0)))

pub returns-in-0 : goal.returns-in-0
returns-in-0 c = let s = c.args in let t = tag (goal.at.returns-in-0 c).In_ok-get in node_fail s.tree.now s.term.now s.walk.now t.0 (t.1 ∙ c.in-0.is)

pub returns-in-1 : goal.returns-in-1
returns-in-1 c = let s = c.args in let t = tag (goal.at.returns-in-1 c).In_ok-get in node_leaf s.tree.now s.term.now s.walk.now t.0 (t.1 ∙ c.in-1.is) _ c.decide_leaf.ensures

pub returns-in-2 : goal.returns-in-2
returns-in-2 c = let s = c.args in let t = tag (goal.at.returns-in-2 c).In_ok-get in node_switch s.tree.now s.term.now s.walk.now t.0 (t.1 ∙ c.in-2.is) _ c.decide_switch.ensures

pub returns-in-3 : goal.returns-in-3
returns-in-3 c = let s = c.args in let t = tag (goal.at.returns-in-3 c).In_ok-get in node_closed s.tree.now s.term.now s.walk.now t.0 (t.1 ∙ c.in-3.is) _ c.decide_closed.ensures

pub returns-in-4 : goal.returns-in-4
returns-in-4 c = let s = c.args in let t = tag (goal.at.returns-in-4 c).In_ok-get in node_same s.tree.now s.term.now s.walk.now t.0 (t.1 ∙ c.in-4.is) _ c.decide_same.ensures

pub returns-in_default : goal.returns-in_default
returns-in_default c =
    let s = c.args in
    let t = tag (goal.at.returns-in_default c).In_ok-get in
    let h = c.in_default in
    node_other s.tree.now s.term.now s.walk.now t.0 (λ z. omega arith) (λ z. omega arith) (λ z. omega arith) (λ z. omega arith) (λ z. omega arith)
