-- A level less is left, and at most one abstraction more is around.
use Rattle.std.proofs.Common.{arith}
use Rattle.term.proofs.Laws.{inside_small}
use Rattle.steps.proofs.under.Within.inside.Goals as goal

pub invariant_of-self-2 : goal.invariant_of-self-2
invariant_of-self-2 c = record { shallow = omega (arith, c.requires, c.args.self.shallow, c.inside_word.ensures, inside_small c.args.w c.args.self.e) }
