-- Matching one rule with another way to match a left side: what the wrong programs that match so share.
use Rattle.std.specs.Prelude.{ℕ, List, Result, Ok, Err}
use Rattle.std.proofs.Math.Option.{Option, none, some}
use Rattle.term.specs.declared.answer.Answer.{Answer}
use Rattle.term.specs.declared.answer.Answer.TheVariants.{BadTerm, NoRule}
use Rattle.term.specs.Row.{Row}
use Rattle.term.specs.Check.{check, term_limits}
use Rattle.book.specs.Book.{Rule, rule_at}
use Rattle.fit.specs.Left.{Left}
use Rattle.fit.specs.Front.{root_arguments, aside}
use Rattle.fit.specs.Match.{tree_of, left_in, Matched, refused, fitted_o}

abbrev pub by_term : (Left → Row → Option (ℕ → Row)) → Rule → List ℕ → Result (Unit {0}) ℕ → Matched
by_term matches rule term (Ok _) = fitted_o rule.vars (aside (root_arguments (left_in rule)) (tree_of term)) (matches (left_in rule) (tree_of term))
by_term matches rule term (Err at) = refused (BadTerm at)

abbrev pub by_rule : (Left → Row → Option (ℕ → Row)) → ℕ → List ℕ → Option Rule → Matched
by_rule matches number term none = refused (NoRule number)
by_rule matches number term (some rule) = by_term matches rule term (check term_limits term)

abbrev pub by_book : (Left → Row → Option (ℕ → Row)) → List ℕ → ℕ → List ℕ → Result (Unit {0}) Answer → Matched
by_book matches book number term (Ok _) = by_rule matches number term (rule_at book number)
by_book matches book number term (Err a) = refused a
