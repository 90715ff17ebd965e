-- The lowest rule that fits: it fits, with the only bodies, and no rule below it does; none only where no rule fits.
use mathlib.Core.Path.{◌≡◌, refl}
use mathlib.Core.List.{List}
use mathlib.Core.Option.{Option, none, some}
use Prim.Native.Nat.{ℕ, zero, suc, ◌+◌, ◌≤◌, ◌<◌}
use native.Mathlib.Omega.{arith}
use native.Mathlib.Decide.{dec_le}
use Rattle.term.specs.Row.{Row, width, words}
use Rattle.book.specs.Book.{Rule, rule_at}
use Rattle.term.proofs.Laws.{never}
use Rattle.fit.specs.Fit.{WithinTerm, Fits}
use Rattle.fit.specs.Match.{left_in}
use Rattle.fit.specs.Lowest.{Fitting, or_next, matching_o, lowest}
use Rattle.fit.proofs.Words.{GoodRule, sound, none_fits}

-- no bodies at all turn the left side of the rule of this number into the term
abbrev pub NoFit : List ℕ → ℕ → Row → Type 0
NoFit book number t = (rule : Rule) → rule_at book number ≡ some rule → (b : ℕ → Row) → Fits rule.vars (left_in rule) (words t) b → ⊥

-- the lowest of the rules from `number` to `last` that fits, with its bodies, or none
unfoldable pub LowestIs : List ℕ → ℕ → ℕ → Row → Option Fitting → Type 0
LowestIs book number last t none = (r : ℕ) → number ≤ r → r < last → NoFit book r t
LowestIs book number last t (some f) =
    (rule : Rule) × (rule_at book f.number ≡ some rule) × Fits rule.vars (left_in rule) (words t) f.bodies
    × (number ≤ f.number) × (f.number < last) × ((r : ℕ) → number ≤ r → r < f.number → NoFit book r t)

module _ (book : List ℕ) (t : Row) (w : WithinTerm t) (one : width t ≡ 1) (good : (r : ℕ) (rule : Rule) → rule_at book r ≡ some rule → GoodRule rule.vars (left_in rule)) where
  no_fit : (r : ℕ) (o : Option Rule) → rule_at book r ≡ o → matching_o o t ≡ none → NoFit book r t
  no_fit r none e m rule q b f = let z : ◌≡◌ {A = ℕ} 0 1 = cc in omega arith
  no_fit r (some p) e m rule q b f =
      let z : p ≡ rule = cc in
      none_fits p.vars (left_in p) (good r p e) t w one m b (rw z f)

  fit_here : (r : ℕ) (o : Option Rule) (b : ℕ → Row) → rule_at book r ≡ o → matching_o o t ≡ some b → (rule : Rule) × (rule_at book r ≡ some rule) × Fits rule.vars (left_in rule) (words t) b
  fit_here r none b e m = never (cc)
  fit_here r (some rule) b e m = (rule, e, sound rule.vars (left_in rule) (good r rule e) t w b m)

  from_next : (number last : ℕ) → NoFit book number t → (r : ℕ) → number ≤ r → ((s : ℕ) → suc number ≤ s → s < last → NoFit book s t) → r < last → NoFit book r t
  from_next number last here r l next h = go (dec_le (suc number) r)
    where
      go : Dec (suc number ≤ r) → NoFit book r t
      go (yes p) = next r p h
      go (no p) = let z : r ≡ number = omega arith in rw z here

  step : (number last : ℕ) → number < last → (o : Option (ℕ → Row)) → matching_o (rule_at book number) t ≡ o → (q : Option Fitting) → LowestIs book (suc number) last t q → LowestIs book number last t (or_next number 0 o q)
  unfolding LowestIs
  step number last l none e none h = λ r a b. from_next number last (no_fit number (rule_at book number) refl e) r a h b
  step number last l none e (some f) h =
      (h.0, h.1, h.2, omega (arith, h.3), h.4, λ r a b. from_next number f.number (no_fit number (rule_at book number) refl e) r a h.5 b)
  step number last l (some b) e q h =
      let x = fit_here number (rule_at book number) b refl e in
      (x.0, x.1, x.2, omega arith, l, λ r a c. absurd (omega arith))

  pub lowest_is : (more number : ℕ) → LowestIs book number (number + more) t (lowest book number more t)
  unfolding lowest LowestIs
  lowest_is zero number = λ r a b. absurd (omega arith)
  lowest_is (suc more) number =
      let e : suc number + more ≡ number + suc more = omega arith in
      step number (number + suc more) (omega arith) (matching_o (rule_at book number) t) refl (lowest book (suc number) more t) (rw e at (lowest_is more (suc number)))
