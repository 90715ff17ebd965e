-- `notes::write_notes` meets its contract: what was written and what is left are the lines, at every turn.
use Rattle.std.proofs.Common.{arith, [], ◌++◌, sym, ◌∙◌}
use Rattle.text.proofs.Laws.{wrote_nothing, wrote_then}
use Rattle.mend.specs.Repair.{dropped, kept, note_text}
use Rattle.mend.proofs.Noting.{dropped_is, kept_short, dropped_short, lines_begun, lines_end, line_kept, line_dropped}
use Rattle.mend.proofs.notes.write_notes.Goals as goal
use Rattle.mend.proofs.notes.write_notes.Goals.{then-is_kept, else-is_kept}

pub loop-old-init : goal.loop-old-init
loop-old-init c = record { earlier = omega arith; near = omega arith; bs = []; wrote = wrote_nothing c.args.out.now c.args.at; lines = lines_begun c.args.present c.args.olds.now }

pub loop-old-preserved : goal.loop-old-preserved
loop-old-preserved c =
    let q = c.loop-old in
    elim c.if-is_kept.branch [
      | then-is_kept w ↦
          let z = w.write_kept-to.ensures in
          rw (w.out-is, w.to-is, w.new-is)
          (record {
            earlier = omega (arith, q.invariant.earlier);
            near = omega (arith, q.invariant.near, z.0, kept_short q.old q.new (omega (arith, c.loop-old-test.true, c.requires)) (omega (arith, q.invariant.earlier, c.loop-old-test.true, c.requires)));
            bs = q.invariant.bs ++ note_text (kept q.old q.new);
            wrote = wrote_then c.args.out.now c.args.at q.to _ q.out _ q.invariant.bs (note_text (kept q.old q.new)) q.invariant.wrote z;
            lines = line_kept c.args.present c.args.olds.now _ q.invariant.bs q.old q.new q.invariant.lines c.loop-old-test.true (sym c.is_kept.ensures ∙ w.if-is_kept.true);
          })
      | else-is_kept w ↦
          let z = rw (dropped_is q.old) at w.write_number_line-to.ensures in
          rw (w.out-is, w.to-is, w.new-is)
          (record {
            earlier = omega (arith, q.invariant.earlier);
            near = omega (arith, q.invariant.near, z.0, dropped_short q.old (omega (arith, c.loop-old-test.true, c.requires)));
            bs = q.invariant.bs ++ note_text (dropped q.old);
            wrote = wrote_then c.args.out.now c.args.at q.to _ q.out _ q.invariant.bs (note_text (dropped q.old)) q.invariant.wrote z;
            lines = line_dropped c.args.present c.args.olds.now _ q.invariant.bs q.old q.new q.invariant.lines c.loop-old-test.true (sym c.is_kept.ensures ∙ w.if-is_kept.false);
          })
    ]

pub returns : goal.returns
returns c =
    let q = c.loop-old in
    let e = lines_end c.args.present c.args.olds.now _ q.invariant.bs q.old q.new q.invariant.lines c.loop-old-test.false in
    (rw e q.invariant.wrote.0, rw e q.invariant.wrote.1, omega (arith, q.invariant.near, c.requires))
