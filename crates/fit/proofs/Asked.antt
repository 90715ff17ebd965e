-- What matching one rule and building a left side ask, in order: whether the book is accepted, the rule, then the term or the lengths and the bodies. Each is one line of a definition.
use mathlib.Core.Path.{◌≡◌}
use mathlib.Core.Bool.{true, false}
use mathlib.Core.List.{List}
use mathlib.Core.Option.{none, some}
use Prim.Native.Nat.{ℕ}
use Rattle.std.specs.Prelude.{Ok, Err}
use Rattle.term.specs.declared.answer.Answer.{Answer}
use Rattle.term.specs.declared.answer.Answer.TheVariants.{BadTerm, NoRule}
use Rattle.term.specs.Check.{check, term_limits}
use Rattle.book.specs.Book.{Rule, check_book, rule_at}
use Rattle.book.specs.Accept.{accept}
use Rattle.book.proofs.Laws.{accepted_good}
use Rattle.fit.specs.Fit.{build}
use Rattle.fit.specs.Front.{root_arguments, aside, matching_front}
use Rattle.fit.specs.Match.{tree_of, left_in, refused, fitted_o, match_rule}
use Rattle.fit.specs.Build as building
use Rattle.fit.specs.Build.{given_bodies, good_lengths, check_bodies, limited, build_left}

-- a sound book is a good one
pub sound_good : (book : List ℕ) → accept book ≡ Ok tt → check_book book ≡ Ok tt
sound_good = accepted_good

-- ---- matching one rule
module _ (book : List ℕ) (number : ℕ) (ws : List ℕ) where
  pub match_refused : (a : Answer) → accept book ≡ Err a → match_rule book number ws ≡ refused a
  unfolding match_rule
  match_refused a e = rw e

  module _ (sound : accept book ≡ Ok tt) where
    pub match_unknown : rule_at book number ≡ none → match_rule book number ws ≡ refused (NoRule number)
    unfolding match_rule
    match_unknown e = rw (sound, e)

    module _ (rule : Rule) (found : rule_at book number ≡ some rule) where
      pub match_wrong : (at : ℕ) → check term_limits ws ≡ Err at → match_rule book number ws ≡ refused (BadTerm at)
      unfolding match_rule
      match_wrong at e = rw (sound, found, e)

      pub match_asked : check term_limits ws ≡ Ok tt → match_rule book number ws ≡ fitted_o rule.vars (aside (root_arguments (left_in rule)) (tree_of ws)) (matching_front (left_in rule) (tree_of ws))
      unfolding match_rule
      match_asked e = rw (sound, found, e)

-- ---- building a left side
module _ (book : List ℕ) (number : ℕ) (bodies lengths : List ℕ) where
  pub build_refused : (a : Answer) → accept book ≡ Err a → build_left book number bodies lengths ≡ building.refused a
  unfolding build_left
  build_refused a e = rw e

  module _ (sound : accept book ≡ Ok tt) where
    pub build_unknown : rule_at book number ≡ none → build_left book number bodies lengths ≡ building.refused (NoRule number)
    unfolding build_left
    build_unknown e = rw (sound, e)

    module _ (rule : Rule) (found : rule_at book number ≡ some rule) where
      pub build_wrong_lengths : good_lengths rule.vars bodies lengths ≡ false → build_left book number bodies lengths ≡ building.refused (BadTerm 16)
      unfolding build_left
      build_wrong_lengths e = rw (sound, found, e)

      pub build_wrong_body : good_lengths rule.vars bodies lengths ≡ true → (x : ℕ) → check_bodies bodies lengths 0 rule.vars ≡ Err x
          → build_left book number bodies lengths ≡ building.refused (BadTerm x)
      unfolding build_left
      build_wrong_body l x e = rw (sound, found, l, e)

      pub build_asked : good_lengths rule.vars bodies lengths ≡ true → check_bodies bodies lengths 0 rule.vars ≡ Ok tt
          → build_left book number bodies lengths ≡ limited (build (given_bodies bodies lengths) 0 (left_in rule))
      unfolding build_left
      build_asked l e = rw (sound, found, l, e)
