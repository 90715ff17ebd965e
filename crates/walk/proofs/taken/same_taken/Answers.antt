-- One law for each way through the code: a list is too long, runs past the tree or is no list, or the bodies are the same or are not.
use Rattle.std.proofs.Common.{arith, sym, ◌∙◌}
use Rattle.walk.proofs.Addresses.{same_over, same_past, same_list_lem, same_next_list, same_yes_lem, same_no_lem}
use Rattle.walk.proofs.taken.same_taken.Goals as goal
use Rattle.walk.proofs.taken.same_taken.Goals.{then-same, else-same, then-not-good_list-via-then-not-good_list, then-not-good_list-via-else-not-good_list+then-not-good_list-2, then-k-gt-MOST_IDS-via-then-k-gt-MOST_IDS, then-k-gt-MOST_IDS-via-else-k-gt-MOST_IDS+then-tree-from}

pub returns-then-k-gt-MOST_IDS : goal.returns-then-k-gt-MOST_IDS
returns-then-k-gt-MOST_IDS c =
    let s = c.args in
    elim c.then-k-gt-MOST_IDS.branch [
      | then-k-gt-MOST_IDS-via-then-k-gt-MOST_IDS w ↦ same_over s.d s.words.now s.e s.others.now s.tree.now s.from s.k w.if-k-gt-MOST_IDS.true
      | then-k-gt-MOST_IDS-via-else-k-gt-MOST_IDS+then-tree-from w ↦
          same_past s.d s.words.now s.e s.others.now s.tree.now s.from s.k (omega (arith, w.if-k-gt-MOST_IDS.false)) w.if-tree-from.true
    ]

pub returns-then-not-good_list : goal.returns-then-not-good_list
returns-then-not-good_list c =
    let s = c.args in
    elim c.then-not-good_list.branch [
      | then-not-good_list-via-then-not-good_list w ↦
          same_list_lem s.d s.words.now s.e s.others.now s.tree.now s.from s.k (omega (arith, c.if-k-gt-MOST_IDS.false)) (omega (arith, c.if-tree-from.false))
          (sym w.if-not-good_list.true ∙ c.good_list.ensures)
      | then-not-good_list-via-else-not-good_list+then-not-good_list-2 w ↦
          same_next_list s.d s.words.now s.e s.others.now s.tree.now s.from s.k (omega (arith, c.if-k-gt-MOST_IDS.false)) (omega (arith, c.if-tree-from.false))
          (sym w.if-not-good_list.false ∙ c.good_list.ensures) (sym w.if-not-good_list-2.true ∙ w.good_list-else-not-good_list.ensures)
    ]

pub returns : goal.returns
returns c =
    let s = c.args in
    elim c.if-same.branch [
      | then-same w ↦
          rw w.result-is
          (same_yes_lem s.d s.words.now s.e s.others.now s.tree.now s.from s.k (omega (arith, c.if-k-gt-MOST_IDS.false)) (omega (arith, c.if-tree-from.false))
          (sym c.if-not-good_list.false ∙ c.good_list.ensures) (sym c.if-not-good_list-2.false ∙ c.good_list-else-not-good_list.ensures) (sym w.if-same.true ∙ c.same_body-same.ensures))
      | else-same w ↦
          rw w.result-is
          (same_no_lem s.d s.words.now s.e s.others.now s.tree.now s.from s.k (omega (arith, c.if-k-gt-MOST_IDS.false)) (omega (arith, c.if-tree-from.false))
          (sym c.if-not-good_list.false ∙ c.good_list.ensures) (sym c.if-not-good_list-2.false ∙ c.good_list-else-not-good_list.ensures) (sym w.if-same.false ∙ c.same_body-same.ensures))
    ]
