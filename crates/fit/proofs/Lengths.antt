-- Bodies as one list with lengths beside it: where each begins, and that judging them one after the other judges them all.
use mathlib.Core.Path.{◌≡◌, refl, sym, ap, ◌∙◌}
use mathlib.Core.Bool.{Bool, true, false, ◌&&◌}
use Rattle.std.specs.List.{list_all, sum_by}
use Rattle.std.proofs.lemmas.List.Sums.{fold_more}
use mathlib.Core.List.{List, [], ◌∷◌}
use Prim.Native.Nat.{ℕ, zero, suc, ◌+◌, ◌-◌, ◌*◌, ◌≤◌, ◌<◌}
use native.Mathlib.Omega.{arith}
use native.Mathlib.Numerals.{add-one}
use lib.Dec.{eqb}
use lib.ListN.{length, get_or, take, drop}
use borrow.Author.Tests.{eq-eqb, ne_eqb, eqb-true}
use Rattle.std.specs.Prelude.{Result, Ok, Err, Option, Some, None, is_ok}
use Rattle.std.specs.Borrow.{Bor}
use Rattle.term.specs.Check.{check, term_limits}
use Rattle.term.proofs.Laws.{never, and_left, and_right}
use Rattle.fit.specs.Build.{start_of, words_at, all_zero, good_lengths, body_next, check_bodies}
use Rattle.fit.specs.Told.BuildWalk.{Given, BodyAt}

-- ---- no length at an unused variable
pub zeros_all : (l : List ℕ) → list_all (λ n. eqb n 0) l ≡ all_zero l
unfolding all_zero
zeros_all [] = refl
zeros_all (n ∷ l) = ap (λ b. eqb n 0 && b) (zeros_all l)

module _ (vars : ℕ) (bodies lengths : List ℕ) where
  pub lengths_other : (start_of lengths 16 ≡ length bodies → ⊥) → false ≡ good_lengths vars bodies lengths
  unfolding good_lengths
  lengths_other n = sym (rw (ne_eqb (start_of lengths 16) (length bodies) n))

  pub lengths_sum : start_of lengths 16 ≡ length bodies → good_lengths vars bodies lengths ≡ all_zero (drop vars lengths)
  unfolding good_lengths
  lengths_sum e = rw (eq-eqb (start_of lengths 16) (length bodies) e)

  pub sum_lengths : good_lengths vars bodies lengths ≡ true → (start_of lengths 16 ≡ length bodies) × (all_zero (drop vars lengths) ≡ true)
  unfolding good_lengths
  sum_lengths e =
      (eqb-true (start_of lengths 16) (length bodies) (and_left (eqb (start_of lengths 16) (length bodies)) (all_zero (drop vars lengths)) e), and_right (eqb (start_of lengths 16) (length bodies)) (all_zero (drop vars lengths)) e)

-- ---- where the bodies begin
pub start_next : (lengths : List ℕ) (x : ℕ) → start_of lengths (x + 1) ≡ start_of lengths x + get_or lengths x 0
unfolding start_of
start_next lengths x = rw (add-one x)

-- the sum of the lengths before, and that it is small where each is a word
pub summed : (lengths : List ℕ) (x : ℕ) → x ≤ length lengths → sum_by (λ n. n) (take x lengths) ≡ start_of lengths x
unfolding start_of
summed lengths zero h = refl
summed lengths (suc x) h =
    rw (← add-one x) (fold_more (λ a n. a + n) 0 lengths x 0 (omega arith) ∙ ap (λ (a : ℕ). a + get_or lengths x 0) (summed lengths x (omega arith)))

pub start_small : (lengths : List ℕ) (x : ℕ) → ((i : ℕ) → get_or lengths i 0 < 4294967296) → start_of lengths x ≤ x * 4294967295
unfolding start_of
start_small lengths zero h = omega arith
start_small lengths (suc x) h = omega (arith, start_small lengths x h, h x)

start_rises : (lengths : List ℕ) (x k : ℕ) → start_of lengths x ≤ start_of lengths (k + x)
unfolding start_of
start_rises lengths x zero = let e : 0 + x ≡ x = omega arith in rw e (omega arith)
start_rises lengths x (suc k) =
    let e : suc k + x ≡ suc (k + x) = omega arith in
    rw e (omega (arith, start_rises lengths x k))

pub start_below : (lengths : List ℕ) (x y : ℕ) → x ≤ y → start_of lengths x ≤ start_of lengths y
start_below lengths x y h = let e : y - x + x ≡ y = omega arith in rw e at (start_rises lengths x (y - x))

-- a body as the code hands it over
pub body_words_lem : (bodies lengths : List ℕ) (x : ℕ) → take (start_of lengths (x + 1) - start_of lengths x) (drop (start_of lengths x) bodies) ≡ words_at bodies lengths x
unfolding words_at
body_words_lem bodies lengths x =
    let e : start_of lengths (x + 1) - start_of lengths x ≡ get_or lengths x 0 = omega (arith, start_next lengths x) in rw e

pub found_body : (bodies lengths : List ℕ) (x : ℕ) (body : Bor (List ℕ)) → BodyAt bodies lengths x (Some body) → body.now ≡ words_at bodies lengths x
unfolding BodyAt
found_body bodies lengths x body told = told

pub past_body : (bodies lengths : List ℕ) (x : ℕ) → BodyAt bodies lengths x None → length bodies < start_of lengths (x + 1)
unfolding BodyAt
past_body bodies lengths x told = told

-- ---- the first bad body
module _ (bodies lengths : List ℕ) (vars x : ℕ) (h : x < vars) where
  one_more_lem : vars - x ≡ suc (vars - (x + 1))
  one_more_lem = omega arith

  pub body_good : check term_limits (words_at bodies lengths x) ≡ Ok tt → check_bodies bodies lengths x (vars - x) ≡ check_bodies bodies lengths (x + 1) (vars - (x + 1))
  unfolding check_bodies
  body_good e = rw (one_more_lem, e, add-one x)

  pub body_bad : (at : ℕ) → check term_limits (words_at bodies lengths x) ≡ Err at → check_bodies bodies lengths x (vars - x) ≡ Err x
  unfolding check_bodies
  body_bad at e = rw (one_more_lem, e)

pub bodies_end : (bodies lengths : List ℕ) (vars x : ℕ) → vars ≤ x → check_bodies bodies lengths x (vars - x) ≡ Ok tt
unfolding check_bodies
bodies_end bodies lengths vars x h = let e : vars - x ≡ 0 = omega arith in rw e

next_good : (x : ℕ) (c later : Result (Unit {0}) ℕ) → body_next x c later ≡ Ok tt → (c ≡ Ok tt) × (later ≡ Ok tt)
next_good x (Ok _) later e = (refl, e)
next_good x (Err at) later e = never (cc)

all_good : (bodies lengths : List ℕ) (more from : ℕ) → check_bodies bodies lengths from more ≡ Ok tt → (x : ℕ) → from ≤ x → x < from + more → check term_limits (words_at bodies lengths x) ≡ Ok tt
unfolding check_bodies
all_good bodies lengths zero from e x l h = absurd (omega arith)
all_good bodies lengths (suc more) from e x l h =
    go (eqb x from) refl (next_good from (check term_limits (words_at bodies lengths from)) (check_bodies bodies lengths (suc from) more) e)
    (λ q m. all_good bodies lengths more (suc from) q x m (omega arith))
  where
    go : (b : Bool) → eqb x from ≡ b → (check term_limits (words_at bodies lengths from) ≡ Ok tt) × (check_bodies bodies lengths (suc from) more ≡ Ok tt)
        → (check_bodies bodies lengths (suc from) more ≡ Ok tt → suc from ≤ x → check term_limits (words_at bodies lengths x) ≡ Ok tt) → check term_limits (words_at bodies lengths x) ≡ Ok tt
    go true q g f = rw (eqb-true x from q) g.0
    go false q g f = f g.1 (let n : x ≡ from → ⊥ = other q in omega arith)
      where
        other : eqb x from ≡ false → x ≡ from → ⊥
        other q r = never (let z = eq-eqb x from r in cc)

-- bodies that were judged good
pub given_good : (vars : ℕ) (bodies lengths : List ℕ) → vars ≤ 16 → start_of lengths 16 ≡ length bodies → check_bodies bodies lengths 0 vars ≡ Ok tt → Given vars bodies lengths
given_good vars bodies lengths few sums e =
    record { few = few; sums = sums; terms = λ x h. all_good bodies lengths vars 0 e x (omega arith) (omega (arith, h)) }

-- ---- what the test of one body says
abbrev pub Judged : Option (Bor (List ℕ)) → Bool → Type 0
Judged None b = b ≡ false
Judged (Some body) b = b ≡ is_ok (check term_limits body.now)

good_is : (c : Result (Unit {0}) ℕ) → is_ok c ≡ true → c ≡ Ok tt
good_is (Ok _) e = refl
good_is (Err at) e = never (cc)

bad_is : (c : Result (Unit {0}) ℕ) → is_ok c ≡ false → (at : ℕ) × (c ≡ Err at)
bad_is (Ok _) e = never (cc)
bad_is (Err at) e = (at, refl)

module _ (bodies lengths : List ℕ) (x : ℕ) where
  pub judged_good : (o : Option (Bor (List ℕ))) (b : Bool) → BodyAt bodies lengths x o → Judged o b → b ≡ true → check term_limits (words_at bodies lengths x) ≡ Ok tt
  judged_good None b told j e = never (cc)
  judged_good (Some body) b told j e = rw (found_body bodies lengths x body told) at (good_is (check term_limits body.now) (sym j ∙ e))

  pub judged_bad : (o : Option (Bor (List ℕ))) (b : Bool) → BodyAt bodies lengths x o → Judged o b → b ≡ false → x < 16 → start_of lengths 16 ≡ length bodies
      → (at : ℕ) × (check term_limits (words_at bodies lengths x) ≡ Err at)
  judged_bad None b told j e h sums = absurd (omega (arith, sums, past_body bodies lengths x told, start_below lengths (x + 1) 16 (omega arith)))
  judged_bad (Some body) b told j e h sums = rw (found_body bodies lengths x body told) at (bad_is (check term_limits body.now) (sym j ∙ e))
