-- The promise of the walk with a book, read from its answer: each answer has one way that the walk ended, since the three ways answer differently.
use mathlib.Core.Path.{◌≡◌, refl, ap}
use mathlib.Core.List.{List, ◌++◌}
use Prim.Native.Nat.{ℕ, ◌-◌}
use lib.ListN.{length, replicate}
use Rattle.std.specs.Prelude.{Option, Some, None, Result, Ok, Err}
use Rattle.term.proofs.Laws.{never}
use Rattle.fit.specs.Match.{body_list, length_list}
use Rattle.fit.specs.Lowest.{Fitting}
use Rattle.walk.specs.Walk.{Walked, NoneFits, RuleFits, DamagedAt}
use Rattle.walk.specs.Told.WithBook.{BookWalked}

pub walked_none : (w : Walked) (bodies lengths : List ℕ) → BookWalked w (Ok None) bodies lengths → (w ≡ NoneFits) × (bodies ≡ replicate 65536 0) × (lengths ≡ replicate 16 0)
unfolding BookWalked
walked_none NoneFits bodies lengths b = (refl, b.1, b.2)
walked_none (RuleFits f n) bodies lengths b = let z : ◌≡◌ {A = Result (Option ℕ) ℕ} (Ok None) (Ok (Some f.number)) = b.0 in never (cc)
walked_none (DamagedAt at) bodies lengths b = let z : ◌≡◌ {A = Result (Option ℕ) ℕ} (Ok None) (Err at) = b.0 in never (cc)

pub walked_damaged : (w : Walked) (address : ℕ) (bodies lengths : List ℕ) → BookWalked w (Err address) bodies lengths → (w ≡ DamagedAt address) × (bodies ≡ replicate 65536 0) × (lengths ≡ replicate 16 0)
unfolding BookWalked
walked_damaged NoneFits address bodies lengths b = let z : ◌≡◌ {A = Result (Option ℕ) ℕ} (Err address) (Ok None) = b.0 in never (cc)
walked_damaged (RuleFits f n) address bodies lengths b = let z : ◌≡◌ {A = Result (Option ℕ) ℕ} (Err address) (Ok (Some f.number)) = b.0 in never (cc)
walked_damaged (DamagedAt at) address bodies lengths b = let z : ◌≡◌ {A = Result (Option ℕ) ℕ} (Err address) (Err at) = b.0 in let y : at ≡ address = cc in (ap DamagedAt y, b.1, b.2)

pub walked_rule_lem : (w : Walked) (number : ℕ) (bodies lengths : List ℕ) → BookWalked w (Ok (Some number)) bodies lengths
    → (f : Fitting) × (n : ℕ) × (w ≡ RuleFits f n) × (number ≡ f.number) × (bodies ≡ body_list f.bodies 0 n ++ replicate (65536 - length (body_list f.bodies 0 n)) 0)
    × (lengths ≡ length_list f.bodies 0 n ++ replicate (16 - n) 0)
unfolding BookWalked
walked_rule_lem NoneFits number bodies lengths b = let z : ◌≡◌ {A = Result (Option ℕ) ℕ} (Ok (Some number)) (Ok None) = b.0 in never (cc)
walked_rule_lem (RuleFits f n) number bodies lengths b = let z : ◌≡◌ {A = Result (Option ℕ) ℕ} (Ok (Some number)) (Ok (Some f.number)) = b.0 in let y : number ≡ f.number = cc in (f, n, refl, y, b.1, b.2)
walked_rule_lem (DamagedAt at) number bodies lengths b = let z : ◌≡◌ {A = Result (Option ℕ) ℕ} (Ok (Some number)) (Err at) = b.0 in never (cc)
