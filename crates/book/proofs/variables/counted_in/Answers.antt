-- The word that std finds is the variable's first occurrence.
use Rattle.std.proofs.Common.{rules, tests, ◌≡◌, ◌∙◌, ◌&&◌, ap, eqb}
use Rattle.std.specs.Option.{option_map}
use Rattle.std.proofs.lemmas.Iterator.{YieldsList-from_slice}
use Rattle.std.proofs.lemmas.Iterator.Search.{find_from_yields_List}
use Rattle.term.specs.Word.{kind_of, ident_of}
use Rattle.book.proofs.Counts.{count_after, count_found}
use Rattle.book.proofs.variables.counted_in.Goals as goal

pub returns : goal.returns
returns c =
    let i = c.args.i in
    let value : c.map_or.result ≡ count_after (option_map (λ x. x.now) c.find.result) = search rules in
    value
    ∙ ap count_after (find_from_yields_List (λ w. eqb (kind_of w) 3 && eqb (ident_of w) i) _ _ c.find.result c.find.ensures.ran (YieldsList-from_slice c.args.words.now cc) (λ x b q k. search (rules, tests)))
    ∙ count_found i c.args.words.now
