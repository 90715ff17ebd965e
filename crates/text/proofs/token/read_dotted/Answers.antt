-- `token::read_dotted` meets its contract: each test tells whether the next piece stands there.
use Rattle.std.proofs.Common.{◌∙◌}
use Rattle.text.proofs.Letters.{no_id, id_last, no_dot, no_count, dotted_there}
use Rattle.text.proofs.Calls.{byte_there, byte_past}
use Rattle.text.proofs.token.read_dotted.Goals as goal

pub returns-in_err-i : goal.returns-in_err-i
returns-in_err-i c = rw c.from_residual.ensures (no_id c.args.ids c.args.counts c.args.text.now c.args.at c.in_err-i.ensures)

pub returns-in_err-get : goal.returns-in_err-get
returns-in_err-get c = rw c.from_residual-in_err-get.ensures (id_last c.args.ids c.args.counts c.args.text.now c.args.at c.in_ok-i.i c.in_ok-i.dot c.in_ok-i.ensures (byte_past _ _ c.in_err-get.ensures.lookup.0))

pub returns-then-branch-ne-DOT : goal.returns-then-branch-ne-DOT
returns-then-branch-ne-DOT c =
    let g = byte_there c.args.text.now c.in_ok-i.dot c.in_ok-get.field-0.now c.in_ok-get.ensures.lookup.0 c.in_ok-get.ensures.lookup.1 in
    no_dot c.args.ids c.args.counts c.args.text.now c.args.at c.in_ok-i.i c.in_ok-i.dot c.in_ok-i.ensures g.0 (rw g.1 c.if-branch-ne-DOT.true)

pub returns-in_err-c : goal.returns-in_err-c
returns-in_err-c c =
    let g = byte_there c.args.text.now c.in_ok-i.dot c.in_ok-get.field-0.now c.in_ok-get.ensures.lookup.0 c.in_ok-get.ensures.lookup.1 in
    rw c.from_residual-in_err-c.ensures
    (no_count c.args.ids c.args.counts c.args.text.now c.args.at c.in_ok-i.i c.in_ok-i.dot c.in_ok-i.ensures g.0 (g.1 ∙ c.if-branch-ne-DOT.false) c.in_err-c.ensures)

pub returns : goal.returns
returns c =
    let g = byte_there c.args.text.now c.in_ok-i.dot c.in_ok-get.field-0.now c.in_ok-get.ensures.lookup.0 c.in_ok-get.ensures.lookup.1 in
    dotted_there c.args.ids c.args.counts c.args.text.now c.args.at c.in_ok-i.i c.in_ok-i.dot c.in_ok-i.ensures g.0 (g.1 ∙ c.if-branch-ne-DOT.false) c.args.kind c.in_ok-c.c c.in_ok-c.next c.in_ok-c.ensures
