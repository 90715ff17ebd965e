-- The place that std finds is the first that has y, counted from 0.
use Rattle.std.proofs.Common.{rules, tests, ◌≡◌, ◌∙◌}
use Rattle.std.proofs.lemmas.Iterator.{YieldsList-from_slice}
use Rattle.std.proofs.lemmas.Iterator.Search.{position_from_yields_List}
use Rattle.term.proofs.Lists.{counted_from_1, counted_position}
use Rattle.term.proofs.list.position_of.Goals as goal

pub returns : goal.returns
returns c =
    let value : c.map_or.result ≡ counted_from_1 c.position.result = search rules in
    value
    ∙ counted_position c.args.y c.args.list.now c.position.result
    (position_from_yields_List _ _ _ c.position.result c.position.ensures.ran (YieldsList-from_slice c.args.list.now cc) (λ x b q k. search (rules, tests)))
