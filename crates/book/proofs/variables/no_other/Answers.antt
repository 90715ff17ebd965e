-- `variables::no_other` meets its contract: it asks each word what the definition asks of it.
use Rattle.std.proofs.Common.{sym, ◌∙◌, true, eqb, ltb, rules, tests}
use Rattle.std.proofs.lemmas.Iterator.{YieldsList-from_slice}
use Rattle.std.proofs.lemmas.Iterator.Search.{all_from_yields_List}
use Rattle.term.specs.Word.{pick, kind_of, ident_of}
use Rattle.book.proofs.Counts.{no_other_all}
use Rattle.book.proofs.variables.no_other.Goals as goal

pub returns : goal.returns
returns c =
    all_from_yields_List (λ w. pick (eqb (kind_of w) 3) (ltb (ident_of w) c.args.vars) true)
    _ _ _ c.all.ensures.ran (YieldsList-from_slice c.args.words.now cc) (λ x b q k. search (rules, tests))
    ∙ sym (no_other_all c.args.vars c.args.words.now)
