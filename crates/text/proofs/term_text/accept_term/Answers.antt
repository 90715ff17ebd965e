-- The words are a term or have a bad place, and the answer says which.
use Rattle.std.proofs.Common.{refl}
use Rattle.term.specs.declared.answer.Answer.TheVariants.{BadTerm}
use Rattle.book.proofs.Laws.{mapped}
use Rattle.text.specs.TermText.{judged_term, accept_term}
use Rattle.text.proofs.term_text.accept_term.Goals as goal

pub returns : goal.returns
unfolding accept_term
returns c = rw (← c.check_term.ensures) (mapped BadTerm _ _ _ c.map_err.ensures.cases (λ e a p. p) judged_term refl (λ e. refl))
