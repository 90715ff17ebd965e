-- One step of `scan` for each way through the loop of check_tree, whose array is the list of open levels.
use mathlib.Core.Path.{◌≡◌, refl, sym, ap, ◌∙◌}
use mathlib.Core.List.{List, [], ◌∷◌}
use mathlib.Core.Bool.{true, false}
use Prim.Native.Nat.{ℕ, zero, suc, ◌+◌, ◌-◌, ◌≤◌, ◌<◌}
use native.Mathlib.Omega.{arith}
use native.Mathlib.Numerals.{add-one}
use lib.ListN.{length, drop, get_or, set, length-set}
use lib.Seq.{drop-cons, drop-length, get_or-set_same, get_or-set_other}
use lib.Dec.{leb, ltb}
use borrow.Author.Tests.{leb-true}
use Rattle.std.specs.Prelude.{Ok, Err}
use Rattle.term.specs.Word.{count_of, head_of}
use Rattle.term.specs.Check.{Limits, rank_or, may_stand, scan, settle, check}
use Rattle.term.proofs.Words.{and_left, and_right}

-- the first n of the array, the last first
pub levels : ℕ → List ℕ → List ℕ
levels zero left = []
levels (suc n) left = get_or left n 0 ∷ levels n left

length_levels : (n : ℕ) (left : List ℕ) → length (levels n left) ≡ n
unfolding levels
length_levels zero left = refl
length_levels (suc n) left = ap suc (length_levels n left)

levels_set : (n : ℕ) (left : List ℕ) (m v : ℕ) → n ≤ m → levels n (set left m v) ≡ levels n left
unfolding levels
levels_set zero left m v h = refl
levels_set (suc n) left m v h = rw (get_or-set_other left m n v 0 (λ e. omega arith), levels_set n left m v (omega arith))

pub pop : (n : ℕ) (left : List ℕ) → (n ≡ 0 → ⊥) → get_or left (n - 1) 0 ≡ 0 → settle (levels n left) ≡ settle (levels (n - 1) left)
unfolding settle levels
pop zero left z e = absurd (z refl)
pop (suc m) left z e = let p : suc m - 1 ≡ m = omega arith in rw p (let q : get_or left m 0 ≡ 0 = rw p at e in rw q)

settled : (k : ℕ) (s : List ℕ) → (k ≡ 0 → ⊥) → settle (k ∷ s) ≡ k ∷ s
unfolding settle
settled zero s z = absurd (z refl)
settled (suc k) s z = refl

pub opened : (n : ℕ) (left : List ℕ) → (n ≡ 0 → ⊥) → (get_or left (n - 1) 0 ≡ 0 → ⊥) → settle (levels n left) ≡ get_or left (n - 1) 0 ∷ levels (n - 1) left
unfolding levels
opened zero left z e = absurd (z refl)
opened (suc m) left z e = let p : suc m - 1 ≡ m = omega arith in rw p (settled (get_or left m 0) (levels m left) (rw p at e))

push : (n : ℕ) (left : List ℕ) (u v : ℕ) → (n ≡ 0 → ⊥) → n < length left
    → levels (n + 1) (set (set left (n - 1) u) n v) ≡ v ∷ u ∷ levels (n - 1) left
unfolding levels
push zero left u v z h = absurd (z refl)
push (suc m) left u v z h =
    let p : suc m - 1 ≡ m = omega arith in
    rw (
      p,
      add-one (suc m),
      get_or-set_same (set left m u) (suc m) v 0 (simp length-set (omega arith)),
      get_or-set_other (set left m u) (suc m) m v 0 (λ e. omega arith),
      get_or-set_same left m u 0 (omega arith),
      levels_set m (set left m u) (suc m) v (omega arith),
      levels_set m left m u (omega arith),
    )

pub depth_within : (limits : Limits) (at n w : ℕ) → may_stand limits at n w ≡ true → n ≤ limits.nesting
unfolding may_stand
depth_within limits at n w e =
    leb-true n limits.nesting (and_left (leb n limits.nesting) (ltb at limits.length) (and_right (leb (rank_or 4 (head_of w)) limits.ranks) _ e))

module _ (limits : Limits) (ws : List ℕ) where
  pub start : (left : List ℕ) → check limits ws ≡ scan limits 0 (settle (levels 1 (1 ∷ left))) ws
  unfolding settle levels check
  start left = refl

  -- what is left to scan, where n levels lie in the array
  abbrev pub Rest : ℕ → ℕ → List ℕ → Type 0
  Rest at n left = check limits ws ≡ scan limits at (settle (levels n left)) (drop at ws)

  module _ (at n : ℕ) (left : List ℕ) (rest : Rest at n left) where
    pub whole : n ≡ 0 → at ≡ length ws → Ok tt ≡ check limits ws
    unfolding settle levels scan
    whole z e = sym (rest ∙ rw (z, e, drop-length))

    pub more : n ≡ 0 → at < length ws → Err at ≡ check limits ws
    unfolding settle levels scan
    more z h = sym (rest ∙ rw (z, drop-cons ws at 0 h))

    module _ (z : n ≡ 0 → ⊥) (k : get_or left (n - 1) 0 ≡ 0 → ⊥) where
      open_level : check limits ws ≡ scan limits at (get_or left (n - 1) 0 ∷ levels (n - 1) left) (drop at ws)
      open_level = rest ∙ rw (opened n left z k)

      depth : length (get_or left (n - 1) 0 ∷ levels (n - 1) left) ≡ n
      depth = omega (arith, length_levels (n - 1) left, z)

      pub run_out : at ≡ length ws → Err at ≡ check limits ws
      unfolding scan
      run_out e = sym (open_level ∙ rw (e, drop-length))

      pub refused : at < length ws → may_stand limits at n (get_or ws at 0) ≡ false → Err at ≡ check limits ws
      unfolding scan
      refused h e = sym (open_level ∙ rw (drop-cons ws at 0 h, depth, e))

      pub entered : at < length ws → may_stand limits at n (get_or ws at 0) ≡ true → n < length left
          → Rest (at + 1) (n + 1) (set (set left (n - 1) (get_or left (n - 1) 0 - 1)) n (count_of (get_or ws at 0)))
      unfolding scan
      entered h e l =
          open_level ∙ rw (drop-cons ws at 0 h, depth, e, push n left (get_or left (n - 1) 0 - 1) (count_of (get_or ws at 0)) z l, add-one at)
