-- The words are a book or have a first bad rule, and the answer says which.
use Rattle.std.proofs.Common.{refl}
use Rattle.term.specs.declared.answer.Answer.TheVariants.{BadBook}
use Rattle.book.specs.Accept.{judged, accept}
use Rattle.book.proofs.Accepting.{mapped}
use Rattle.book.proofs.accept.accept_book.Goals as goal

pub returns : goal.returns
unfolding accept
returns c = rw (← c.check_book.ensures) (mapped BadBook _ _ _ c.map_err.ensures.cases (λ e a p. p) judged refl (λ e. refl))
