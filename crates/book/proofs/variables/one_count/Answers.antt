-- `variables::one_count` meets its contract: it asks each word what the definition asks of it.
use Rattle.std.proofs.Common.{sym, ◌∙◌, true, eqb, suc, rules, tests}
use Rattle.std.proofs.lemmas.Iterator.{YieldsList-from_slice}
use Rattle.std.proofs.lemmas.Iterator.Search.{all_from_yields_List}
use Rattle.term.specs.Word.{pick, kind_of, count_of, ident_of}
use Rattle.book.specs.Rule.{counted}
use Rattle.book.proofs.Counts.{one_count_all}
use Rattle.book.proofs.variables.one_count.Goals as goal

pub returns : goal.returns
returns c =
    all_from_yields_List (λ w. pick (eqb (kind_of w) 3) (eqb (counted (ident_of w) c.args.left.now) (suc (count_of w))) true)
    _ _ _ c.all.ensures.ran (YieldsList-from_slice c.args.words.now cc) (λ x b q k. search (rules, tests))
    ∙ sym (one_count_all c.args.left.now c.args.words.now)
