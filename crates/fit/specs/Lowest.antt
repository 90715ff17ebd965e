-- Document 01, "Fit": the lowest number wins.
use Rattle.std.specs.Prelude.{ℕ, zero, suc, List}
use Rattle.std.proofs.Math.Option.{Option, none, some}
use Rattle.term.specs.Row.{Row}
use Rattle.book.specs.Book.{Rule, rule_at}
use Rattle.fit.specs.Fit.{matching}
use Rattle.fit.specs.Match.{left_in}
use Rattle.fit.specs.Front.{root_arguments, aside, matching_front}

-- a rule's number, how many arguments are set aside for it (Front.antt), and its bodies
pub record Fitting : Type 0 where
  pub number : ℕ
  pub aside : ℕ
  pub bodies : ℕ → Row

abbrev pub or_next : ℕ → ℕ → Option (ℕ → Row) → Option Fitting → Option Fitting
or_next number aside none o = o
or_next number aside (some b) o = some (record { number = number; aside = aside; bodies = b })

abbrev pub matching_o : Option Rule → Row → Option (ℕ → Row)
matching_o none t = none
matching_o (some rule) t = matching (left_in rule) t

-- the lowest-numbered of so many rules from this number on that fits the whole term
unfoldable pub lowest : List ℕ → ℕ → ℕ → Row → Option Fitting
lowest book number zero t = none
lowest book number (suc more) t = or_next number 0 (matching_o (rule_at book number) t) (lowest book (suc number) more t)

-- ---- document 02: the lowest number wins among the rules for a front part of the arguments too
abbrev pub matching_front_o : Option Rule → Row → Option (ℕ → Row)
matching_front_o none t = none
matching_front_o (some rule) t = matching_front (left_in rule) t

abbrev pub aside_o : Option Rule → Row → ℕ
aside_o none t = 0
aside_o (some rule) t = aside (root_arguments (left_in rule)) t

-- the lowest-numbered of so many rules from this number on that fits the term without the arguments set aside
unfoldable pub lowest_front : List ℕ → ℕ → ℕ → Row → Option Fitting
lowest_front book number zero t = none
lowest_front book number (suc more) t =
    or_next number (aside_o (rule_at book number) t) (matching_front_o (rule_at book number) t) (lowest_front book (suc number) more t)
