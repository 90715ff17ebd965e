-- `kept::rule_stays` meets its contract: a rule that is not sound goes, and one that is stays while there is room.
use Rattle.std.proofs.Common.{refl, sym, ◌∙◌}
use Rattle.mend.proofs.Keeping.{unsound_goes, sound_stays}
use Rattle.mend.proofs.kept.rule_stays.Goals as goal

pub returns-then-sound_rule : goal.returns-then-sound_rule
returns-then-sound_rule c = sound_stays _ _ _ (sym c.sound_rule.ensures ∙ c.if-sound_rule.true) refl

pub returns-else-sound_rule : goal.returns-else-sound_rule
returns-else-sound_rule c = rw c.if-sound_rule.false (unsound_goes _ _ (sym c.sound_rule.ensures ∙ c.if-sound_rule.false))
