-- One law for each way through the code: the list is too long, runs past the tree or is no list, or it closes the part or does not.
use Rattle.std.proofs.Common.{arith, sym, ◌∙◌}
use Rattle.walk.proofs.Addresses.{closed_over, closed_past, closed_list, closed_yes_lem, closed_no_lem}
use Rattle.walk.proofs.taken.closed_taken.Goals as goal
use Rattle.walk.proofs.taken.closed_taken.Goals.{then-is_closed, else-is_closed, then-k-gt-MOST_IDS-via-then-k-gt-MOST_IDS, then-k-gt-MOST_IDS-via-else-k-gt-MOST_IDS+then-tree-from}

pub returns-then-k-gt-MOST_IDS : goal.returns-then-k-gt-MOST_IDS
returns-then-k-gt-MOST_IDS c =
    let s = c.args in
    elim c.then-k-gt-MOST_IDS.branch [
      | then-k-gt-MOST_IDS-via-then-k-gt-MOST_IDS w ↦ closed_over s.d s.words.now s.tree.now s.from s.k w.if-k-gt-MOST_IDS.true
      | then-k-gt-MOST_IDS-via-else-k-gt-MOST_IDS+then-tree-from w ↦ closed_past s.d s.words.now s.tree.now s.from s.k (omega (arith, w.if-k-gt-MOST_IDS.false)) w.if-tree-from.true
    ]

pub returns-then-not-good_list : goal.returns-then-not-good_list
returns-then-not-good_list c =
    let s = c.args in
    closed_list s.d s.words.now s.tree.now s.from s.k (omega (arith, c.if-k-gt-MOST_IDS.false)) (omega (arith, c.if-tree-from.false))
    (sym c.if-not-good_list.true ∙ c.good_list.ensures)

pub returns : goal.returns
returns c =
    let s = c.args in
    elim c.if-is_closed.branch [
      | then-is_closed w ↦
          rw w.result-is
          (closed_yes_lem s.d s.words.now s.tree.now s.from s.k (omega (arith, c.if-k-gt-MOST_IDS.false)) (omega (arith, c.if-tree-from.false))
          (sym c.if-not-good_list.false ∙ c.good_list.ensures) (sym w.if-is_closed.true ∙ c.is_closed.ensures))
      | else-is_closed w ↦
          rw w.result-is
          (closed_no_lem s.d s.words.now s.tree.now s.from s.k (omega (arith, c.if-k-gt-MOST_IDS.false)) (omega (arith, c.if-tree-from.false))
          (sym c.if-not-good_list.false ∙ c.good_list.ensures) (sym w.if-is_closed.false ∙ c.is_closed.ensures))
    ]
