-- The clauses of building a left side, of the limits and of the lowest rule that fits, for a crate that does not open them.
use mathlib.Core.Path.{◌≡◌, refl}
use mathlib.Core.Bool.{◌&&◌}
use mathlib.Core.List.{List}
use mathlib.Core.Option.{none, some}
use Prim.Native.Nat.{ℕ, ◌≤◌, ◌<◌, max}
use lib.Dec.{leb}
use lib.ListN.{length}
use Rattle.term.specs.declared.answer.Answer.TheVariants.{Over}
use Rattle.term.specs.Word.{Head, pick}
use Rattle.term.specs.Row.{Row, nothing, node, words, nesting, ◌⧺◌}
use Rattle.term.specs.Renumber.{inside, to_term}
use Rattle.fit.specs.Left.{Left, end, hole, part}
use Rattle.book.specs.Book.{Rule, rule_at}
use Rattle.fit.specs.Fit.{build, Fits}
use Rattle.fit.specs.Match.{left_in}
use Rattle.fit.specs.Lowest.{Fitting}
use Rattle.fit.specs.Build.{id_in, largest, within_limits, refused, built, limited}
use Rattle.fit.proofs.Lowest.{NoFit, LowestIs}

module _ (b : ℕ → Row) (d : ℕ) where
  pub build_end : build b d end ≡ nothing
  unfolding build
  build_end = refl

  pub build_hole : (x : ℕ) (ys : List ℕ) (rest : Left) → build b d (hole x ys rest) ≡ to_term d ys (b x) ⧺ build b d rest
  unfolding build
  build_hole x ys rest = refl

  pub build_part : (h : Head) (kids rest : Left) → build b d (part h kids rest) ≡ node h (build b (inside h d) kids) (build b d rest)
  unfolding build
  build_part h kids rest = refl

pub largest_nothing : largest nothing ≡ 0
unfolding largest
largest_nothing = refl

pub largest_node : (h : Head) (kids rest : Row) → largest (node h kids rest) ≡ max (id_in h) (max (largest kids) (largest rest))
unfolding largest
largest_node h kids rest = refl

pub within_limits_is : (t : Row) → within_limits t ≡ leb (length (words t)) 4096 && (leb (nesting t) 64 && leb (largest t) 65535)
unfolding within_limits
within_limits_is t = refl

pub limited_is : (t : Row) → limited t ≡ pick (within_limits t) (built t) (refused Over)
unfolding limited
limited_is t = refl

-- ---- the lowest rule that fits
pub record LowestFits (book : List ℕ) (number last : ℕ) (t : Row) (f : Fitting) : Type 0 where
  pub rule : Rule
  pub found : rule_at book f.number ≡ some rule
  pub fits : Fits rule.vars (left_in rule) (words t) f.bodies
  pub later : number ≤ f.number
  pub below : f.number < last
  pub earlier : (r : ℕ) → number ≤ r → r < f.number → NoFit book r t

module _ (book : List ℕ) (number last : ℕ) (t : Row) where
  pub lowest_none : LowestIs book number last t none → (r : ℕ) → number ≤ r → r < last → NoFit book r t
  unfolding LowestIs
  lowest_none l = l

  pub lowest_some : (f : Fitting) → LowestIs book number last t (some f) → LowestFits book number last t f
  unfolding LowestIs
  lowest_some f l = record { rule = l.0; found = l.1; fits = l.2; later = l.3; below = l.4; earlier = l.5 }
