-- `next::next_block` meets its contract: no line stands there, or the term that was read is refused or has a result.
use Rattle.std.proofs.Common.{arith}
use Rattle.term.proofs.Laws.{part_short}
use Rattle.steps.proofs.Laws.{came_simplify}
use Rattle.simplify.proofs.NextBlocks.{refused_there, result_there}
use Rattle.simplify.proofs.next.next_block.Goals as goal

pub returns-then-number-ge-FIRST_REFUSAL : goal.returns-then-number-ge-FIRST_REFUSAL
returns-then-number-ge-FIRST_REFUSAL c =
    let s = c.args in
    let run = c.simplify-run in
    let ended = came_simplify _ _ _ _ _ run.result run.new.out run.ensures in
    let lines = c.write_answer-start in
    refused_there s.book.now s.tree.now s.term s.text.now s.at _ c.read_term_line.new.words c.in-Some.n c.in-Some.next c.in-Some.ensures (omega arith) run.result.answer run.result.steps
    ended.0 ended.2 s.out.now lines.new.out _ lines.result c.put_key.result lines.ensures (omega (arith, c.number.ensures, c.if-number-ge-FIRST_REFUSAL.true)) c.put_key.ensures

pub returns : goal.returns
returns c =
    let s = c.args in
    let run = c.simplify-run in
    let ended = came_simplify _ _ _ _ _ run.result run.new.out run.ensures in
    let lines = c.write_answer-start in
    result_there s.book.now s.tree.now s.term s.text.now s.at _ c.read_term_line.new.words c.in-Some.n c.in-Some.next c.in-Some.ensures (omega arith) run.result.answer run.result.steps
    ended.0 ended.2 s.out.now lines.new.out _ lines.result c.write_result.result lines.ensures run.new.out (omega (arith, c.number.ensures, c.if-number-ge-FIRST_REFUSAL.false)) ended.1
    (omega arith) (part_short run.new.out) c.write_result.ensures
