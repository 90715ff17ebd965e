-- There is room, the first word is set, and the arguments are copied behind.
use Rattle.std.proofs.Common.{arith}
use Rattle.steps.proofs.AsideWords.{attach_over, attach_done}
use Rattle.steps.proofs.aside.attach.Goals as goal
use Rattle.steps.proofs.aside.attach.Goals.{then-n-gt-MOST_WORDS-via-then-n-gt-MOST_WORDS, then-n-gt-MOST_WORDS-via-else-n-gt-MOST_WORDS+then-n-arguments}

pub returns-then-n-gt-MOST_WORDS : goal.returns-then-n-gt-MOST_WORDS
returns-then-n-gt-MOST_WORDS c =
    let s = c.args in
    elim c.then-n-gt-MOST_WORDS.branch [
      | then-n-gt-MOST_WORDS-via-then-n-gt-MOST_WORDS w ↦ attach_over s.new.now s.n s.first s.arguments.now c.told-new (omega arith) _
      | then-n-gt-MOST_WORDS-via-else-n-gt-MOST_WORDS+then-n-arguments w ↦ attach_over s.new.now s.n s.first s.arguments.now c.told-new (omega arith) _
    ]

pub returns : goal.returns
returns c = let s = c.args in attach_done s.new.now s.n s.first s.arguments.now c.told-new (omega arith) (omega arith) _ c.copy.ensures
