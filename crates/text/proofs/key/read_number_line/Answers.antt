-- `key::read_number_line` meets its contract: the key, the number and the end of the line stand there one after the other, or one does not.
use Rattle.std.proofs.Common.{◌∙◌}
use Rattle.text.proofs.KeySteps.{no_key, no_number, number_last, number_more, number_there}
use Rattle.text.proofs.Calls.{byte_there, byte_past}
use Rattle.text.proofs.key.read_number_line.Goals as goal

pub returns-in_err-a : goal.returns-in_err-a
returns-in_err-a c = rw c.from_residual.ensures (no_key c.args.key.now c.args.text.now c.args.at c.args.most c.in_err-a.ensures)

pub returns-in_err-n : goal.returns-in_err-n
returns-in_err-n c = rw c.from_residual-in_err-n.ensures (no_number c.args.key.now c.args.text.now c.args.at c.args.most c.in_ok-a.a c.in_ok-a.ensures c.in_err-n.ensures)

pub returns-in_err-get : goal.returns-in_err-get
returns-in_err-get c = rw c.from_residual-in_err-get.ensures (number_last c.args.key.now c.args.text.now c.args.at c.args.most c.in_ok-a.a c.in_ok-a.ensures c.in_ok-n.n c.in_ok-n.end c.in_ok-n.ensures (byte_past _ _ c.in_err-get.ensures.lookup.0))

pub returns-then-branch-ne-END : goal.returns-then-branch-ne-END
returns-then-branch-ne-END c =
    let g = byte_there c.args.text.now c.in_ok-n.end c.in_ok-get.field-0.now c.in_ok-get.ensures.lookup.0 c.in_ok-get.ensures.lookup.1 in
    number_more c.args.key.now c.args.text.now c.args.at c.args.most c.in_ok-a.a c.in_ok-a.ensures c.in_ok-n.n c.in_ok-n.end c.in_ok-n.ensures g.0 (rw g.1 c.if-branch-ne-END.true)

pub returns : goal.returns
returns c =
    let g = byte_there c.args.text.now c.in_ok-n.end c.in_ok-get.field-0.now c.in_ok-get.ensures.lookup.0 c.in_ok-get.ensures.lookup.1 in
    number_there c.args.key.now c.args.text.now c.args.at c.args.most c.in_ok-a.a c.in_ok-a.ensures c.in_ok-n.n c.in_ok-n.end c.in_ok-n.ensures g.0 (g.1 ∙ c.if-branch-ne-END.false)
