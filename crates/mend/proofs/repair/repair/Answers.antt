-- `repair::repair` meets its contract: what came is written, and a line that is not in form refuses the text.
use Rattle.std.proofs.Common.{arith, length}
use Rattle.std.proofs.lemmas.Result.{err_from_is_err_and}
use Rattle.mend.proofs.Repairing.{new_good, read_came, read_refused, repair_written}
use Rattle.mend.proofs.repair.repair.Goals as goal

pub returns-in_err-stated : goal.returns-in_err-stated
returns-in_err-stated c =
    let p = err_from_is_err_and c.from_residual.result c.from_residual.ensures.1 in
    rw (p.1, p.2) (read_refused c.args.text.now (length c.args.out.now) _ _ _ _ _ _ c.read_mail.ensures c.map_err.ensures.cases (λ e a p. p) _ c.in_err-stated.was c.clear_bytes.ensures)

pub write_repaired-requires : goal.write_repaired-requires
write_repaired-requires c =
    let t = read_came _ _ _ _ _ _ c.read_mail.ensures c.map_err.ensures.cases _ _ c.in_ok-stated.was in
    (rw t.words (new_good c.args.text.now 0 _ t.rules t.said), t.stated_few, omega (arith, t.few), rw c.clear_bytes.auto.out c.clear_bytes.ensures)

pub returns : goal.returns
returns c =
    let t = read_came _ _ _ _ _ _ c.read_mail.ensures c.map_err.ensures.cases _ _ c.in_ok-stated.was in
    repair_written c.args.text.now (length c.args.out.now) _ _ _ _ _ c.write_repaired.result t (rw c.clear_bytes.auto.out at c.write_repaired.ensures)
