-- The lowest rule that fits a term, in the demand's words: with the only bodies, and no other rule is the lowest.
use mathlib.Core.Path.{◌≡◌, sym, ap, ◌∙◌}
use mathlib.Core.List.{List}
use mathlib.Core.Option.{none, some}
use Prim.Native.Nat.{ℕ, suc, ◌≤◌, ◌<◌}
use native.Mathlib.Omega.{arith}
use native.Mathlib.Decide.{dec_le}
use lib.ListN.{get_or}
use Rattle.std.specs.Prelude.{Ok}
use Rattle.term.specs.Row.{Row, words}
use Rattle.term.specs.Check.{term_limits}
use Rattle.book.specs.Book.{Rule, check_book, rule_at}
use Rattle.book.proofs.Laws.{rule_number}
use Rattle.fit.specs.Fit.{IsBody}
use Rattle.fit.specs.Match.{tree_of, left_in}
use Rattle.fit.specs.Lowest.{Fitting}
use Rattle.fit.proofs.Laws.{front_unique, accepted_good, body_is_term, tree_of_lem, LowestFrontIs, LowestFrontFits}
use Rattle.walk.specs.Demand.{NothingFits, LowestFit, OnlyBodies}

module _ (book : List ℕ) (accepted : check_book book ≡ Ok tt) (t : Row) (i : IsBody t) where
  -- the words of a term are read back to it
  pub same_tree : tree_of (words t) ≡ t
  same_tree = tree_of_lem term_limits (words t) (body_is_term t i)

  pub nothing_fits : LowestFrontIs book 0 (get_or book 0 0) t none → NothingFits book (words t)
  nothing_fits l number rule q b f = l number (omega arith) (rule_number book number rule q) rule q b (rw same_tree at f)

  pub lowest_fit : (f : Fitting) → LowestFrontFits book 0 (get_or book 0 0) t f → (rule : Rule) × LowestFit book (words t) f.number rule f.bodies
  lowest_fit f s = (
    s.rule,
    record {
      is = s.found;
      fits = rw same_tree s.fits;
      lowest = λ m h rule q b k. s.earlier m (omega arith) h rule q b (rw same_tree at k);
    },
  )

  pub only_bodies : (number : ℕ) (rule : Rule) (b : ℕ → Row) → LowestFit book (words t) number rule b → OnlyBodies (words t) rule b
  only_bodies number rule b low c g x h =
      front_unique rule.vars (left_in rule) (accepted_good book accepted number rule low.is) t i c b (rw same_tree at g) (rw same_tree at low.fits) x h

-- ---- two that are the lowest are one
module _ (book ws : List ℕ) (n m : ℕ) (rule other : Rule) (b c : ℕ → Row) (low : LowestFit book ws n rule b) (also : LowestFit book ws m other c) where
  pub same_number_lem : n ≡ m
  same_number_lem = go (dec_le (suc n) m) (dec_le (suc m) n)
    where
      go : Dec (suc n ≤ m) → Dec (suc m ≤ n) → n ≡ m
      go (yes h) d = absurd (also.lowest n h rule low.is b low.fits)
      go (no h) (yes k) = absurd (low.lowest m k other also.is c also.fits)
      go (no h) (no k) = omega arith

  pub same_rule : rule ≡ other
  same_rule = let e : some rule ≡ some other = sym low.is ∙ ap (rule_at book) same_number_lem ∙ also.is in cc

  pub same_bodies : OnlyBodies ws other c → (x : ℕ) → x < rule.vars → b x ≡ c x
  same_bodies only x h = only b (rw same_rule at low.fits) x (rw same_rule at h)
