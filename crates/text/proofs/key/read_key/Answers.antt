-- `key::read_key` meets its contract: the text from `at` on begins with the key or does not.
use Rattle.std.proofs.Common.{arith}
use Rattle.text.proofs.KeySteps.{key_stands, key_misses}
use Rattle.text.proofs.key.read_key.Goals as goal

pub returns-then-not-starts_with : goal.returns-then-not-starts_with
returns-then-not-starts_with c = key_misses c.args.key.now c.args.text.now c.args.at _ c.starts_with.ensures.value c.if-not-starts_with.true

pub returns : goal.returns
returns c = (key_stands c.args.key.now c.args.text.now c.args.at _ c.starts_with.ensures.value c.if-not-starts_with.false, omega arith, omega (arith, c.if-not-starts_with.ensures.bound, c.requires))
