-- What the tests of the root Switch say of the tables, one law for each way through a function.
use mathlib.Core.Path.{◌≡◌, refl, sym, ap, ◌∙◌}
use mathlib.Core.Bool.{Bool, true, false}
use mathlib.Core.List.{List}
use Prim.Native.Nat.{ℕ, zero, suc, min, ◌+◌, ◌-◌, ◌*◌, ◌≤◌, ◌<◌}
use native.Mathlib.Omega.{arith}
use lib.Dec.{leb}
use borrow.Author.Tests.{leb-true, leb-false}
use Rattle.term.specs.Word.{pick}
use Rattle.compiler.specs.Told.Tables.{many_at, is_head_word, size_at, has_symbol, lesser_of, smallest_from, root_word, count_roots}

-- ---- the smallest count
-- the lesser of three counts, whichever two are met first
lesser_min : (a b : ℕ) → lesser_of true a b ≡ min a b
lesser_min a b = go (leb a b) refl
  where
    go : (t : Bool) → leb a b ≡ t → pick t a b ≡ min a b
    go true e = omega (arith, leb-true a b e)
    go false e = omega (arith, leb-false a b e)

lesser_swap : (b : Bool) (c x n : ℕ) → lesser_of true x (lesser_of b c n) ≡ lesser_of true (lesser_of b c x) n
lesser_swap true c x n =
    let d : min x (min c n) ≡ min (min c x) n = omega arith in
    ap (lesser_of true x) (lesser_min c n) ∙ lesser_min x (min c n) ∙ d ∙ sym (ap (λ (y : ℕ). lesser_of true y n) (lesser_min c x) ∙ lesser_min (min c x) n)
lesser_swap false c x n = refl

pub lesser_most : (b : Bool) (c n : ℕ) → lesser_of b c n ≤ n
lesser_most true c n = let e : lesser_of true c n ≡ min c n = lesser_min c n in omega (arith, e)
lesser_most false c n = omega arith

module _ (fixed marks : List ℕ) (i : ℕ) where
  smallest_within : (more r : ℕ) → smallest_from fixed marks i r more ≤ 16
  unfolding smallest_from
  smallest_within zero r = omega arith
  smallest_within (suc more) r = omega (arith, smallest_within more (suc r), lesser_most (has_symbol fixed marks i r) (size_at fixed (r * 64)) (smallest_from fixed marks i (suc r) more))

  pub smallest_start : lesser_of true 16 (smallest_from fixed marks i 0 64) ≡ smallest_from fixed marks i 0 64
  smallest_start =
      let l : smallest_from fixed marks i 0 64 ≤ 16 = smallest_within 64 0 in
      let e : min 16 (smallest_from fixed marks i 0 64) ≡ smallest_from fixed marks i 0 64 = omega (arith, l) in
      lesser_min 16 (smallest_from fixed marks i 0 64) ∙ e

  smallest_more : (r more : ℕ) → smallest_from fixed marks i r (suc more) ≡ lesser_of (has_symbol fixed marks i r) (size_at fixed (r * 64)) (smallest_from fixed marks i (suc r) more)
  unfolding smallest_from
  smallest_more r more = refl

  -- the lesser of what the rows passed have and of what is left stays the same
  pub smallest_step : (all r best x : ℕ) → r < 64 → lesser_of true best (smallest_from fixed marks i r (64 - r)) ≡ all → x ≡ lesser_of (has_symbol fixed marks i r) (size_at fixed (r * 64)) best
      → lesser_of true x (smallest_from fixed marks i (r + 1) (64 - (r + 1))) ≡ all
  smallest_step all r best x h e q =
      let z : 64 - r ≡ suc (64 - (r + 1)) = omega arith in
      let y : r + 1 ≡ suc r = omega arith in
      ap (λ (k : ℕ). lesser_of true k (smallest_from fixed marks i (r + 1) (64 - (r + 1)))) q ∙ ap (λ (k : ℕ). lesser_of true (lesser_of (has_symbol fixed marks i r) (size_at fixed (r * 64)) best) (smallest_from fixed marks i k (64 - (r + 1)))) y
      ∙ sym (lesser_swap (has_symbol fixed marks i r) (size_at fixed (r * 64)) best (smallest_from fixed marks i (suc r) (64 - (r + 1))))
      ∙ sym (ap (lesser_of true best) (ap (smallest_from fixed marks i r) z ∙ smallest_more r (64 - (r + 1)))) ∙ e

  smallest_none : (r : ℕ) → smallest_from fixed marks i r 0 ≡ 16
  unfolding smallest_from
  smallest_none r = refl

  pub smallest_all : (all r best : ℕ) → 64 ≤ r → best ≤ 16 → lesser_of true best (smallest_from fixed marks i r (64 - r)) ≡ all → best ≡ all
  smallest_all all r best h l e =
      let z : 64 - r ≡ 0 = omega arith in
      let d : best ≡ min best 16 = omega arith in
      d ∙ sym (lesser_min best 16) ∙ sym (ap (lesser_of true best) (ap (smallest_from fixed marks i r) z ∙ smallest_none r)) ∙ e

-- ---- cases of the root
abbrev pub root_here : List ℕ → List ℕ → ℕ → Bool
root_here fixed marks k = is_head_word (root_word fixed marks k)

pub roots_are : (fixed marks : List ℕ) (c : ℕ) → c ≡ many_at (root_here fixed marks) 0 1024 → c ≡ count_roots fixed marks
unfolding count_roots
roots_are fixed marks c e = e
