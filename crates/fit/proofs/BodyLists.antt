-- Bodies as one list with their lengths beside it, taken apart and put together again.
use mathlib.Core.Path.{◌≡◌, refl, sym, ap, ap₂, ◌∙◌}
use mathlib.Core.Bool.{true}
use mathlib.Core.List.{List, [], ◌∷◌, ◌++◌, append_assoc, append-nil}
use Prim.Native.Nat.{ℕ, zero, suc, ◌+◌, ◌-◌, ◌≤◌, ◌<◌}
use native.Mathlib.Omega.{arith}
use native.Mathlib.Nat.{zero-add, add-zero, suc-add, add-suc}
use native.Mathlib.Numerals.{add-one}
use lib.Dec.{eqb}
use lib.ListN.{length, get_or, take, drop, replicate, length-append, length-drop, take-append-drop}
use lib.Seq.{take-add, drop-drop, drop-cons, drop_at, take_at, take_all, length-take-le, get_or-drop}
use borrow.Author.Tests.{eqb-true, eq-eqb}
use Rattle.std.specs.Prelude.{Ok}
use Rattle.term.specs.Row.{Row, words}
use Rattle.term.specs.Check.{check, term_limits}
use Rattle.term.proofs.Laws.{and_left, and_right}
use Rattle.fit.specs.Match.{body_list, length_list}
use Rattle.fit.specs.Build.{start_of, words_at, all_zero, good_lengths, check_bodies}
use Rattle.fit.specs.Told.BuildWalk.{Given}
use Rattle.fit.proofs.Lengths.{start_next, start_below}

-- ---- no length at an unused variable
zeros : (l : List ℕ) → all_zero l ≡ true → l ≡ replicate (length l) 0
unfolding all_zero
zeros [] e = refl
zeros (n ∷ l) e = ap₂ ◌∷◌ (eqb-true n 0 (and_left (eqb n 0) (all_zero l) e)) (zeros l (and_right (eqb n 0) (all_zero l) e))

zero_at : (l : List ℕ) → all_zero l ≡ true → (i : ℕ) → get_or l i 0 ≡ 0
unfolding all_zero
zero_at [] e i = refl
zero_at (n ∷ l) e zero = eqb-true n 0 (and_left (eqb n 0) (all_zero l) e)
zero_at (n ∷ l) e (suc i) = zero_at l (and_right (eqb n 0) (all_zero l) e) i

all_zeros : (n : ℕ) → all_zero (replicate n 0) ≡ true
unfolding all_zero
all_zeros zero = refl
all_zeros (suc n) = all_zeros n

start_stays : (lengths : List ℕ) (vars : ℕ) → all_zero (drop vars lengths) ≡ true → (k : ℕ) → start_of lengths (vars + k) ≡ start_of lengths vars
unfolding start_of
start_stays lengths vars z zero = ap (start_of lengths) (add-zero vars)
start_stays lengths vars z (suc k) =
    let g : get_or lengths (vars + k) 0 ≡ 0 = sym (get_or-drop vars lengths k 0) ∙ zero_at (drop vars lengths) z k in
    rw (add-suc vars k) (omega (arith, g, start_stays lengths vars z k))

pub start_all : (lengths : List ℕ) (vars : ℕ) → vars ≤ 16 → all_zero (drop vars lengths) ≡ true → start_of lengths vars ≡ start_of lengths 16
start_all lengths vars h z =
    let e : vars + (16 - vars) ≡ 16 = omega arith in
    sym (rw e at (start_stays lengths vars z (16 - vars)))

-- ---- taken apart, they are what was given
module _ (vars : ℕ) (bodies lengths : List ℕ) (g : Given vars bodies lengths) (b : ℕ → Row) (is : (x : ℕ) → x < vars → words (b x) ≡ words_at bodies lengths x) where
  long : (x : ℕ) → x < vars → length (words (b x)) ≡ get_or lengths x 0
  unfolding words_at
  long x h =
      let n : start_of lengths (x + 1) ≤ start_of lengths 16 = start_below lengths (x + 1) 16 (omega (arith, g.few)) in
      let l : get_or lengths x 0 ≤ length (drop (start_of lengths x) bodies) = omega (arith, n, g.sums, start_next lengths x, length-drop (start_of lengths x) bodies) in
      ap length (is x h) ∙ length-take-le (get_or lengths x 0) (drop (start_of lengths x) bodies) l

  listed : (more x : ℕ) → x + more ≤ vars → body_list b x more ≡ take (start_of lengths (x + more) - start_of lengths x) (drop (start_of lengths x) bodies)
  unfolding body_list words_at
  listed zero x h =
      let e : start_of lengths (x + 0) - start_of lengths x ≡ 0 = omega (arith, ap (start_of lengths) (add-zero x)) in rw e
  listed (suc more) x h =
      let s = start_of lengths x in
      let n = get_or lengths x 0 in
      let q : x + suc more ≡ suc x + more = omega arith in
      let u : start_of lengths (suc x) ≡ start_of lengths x + get_or lengths x 0 = ap (start_of lengths) (sym (add-one x)) ∙ start_next lengths x in
      let m : start_of lengths (suc x) ≤ start_of lengths (suc x + more) = start_below lengths (suc x) (suc x + more) (omega arith) in
      let e : start_of lengths (x + suc more) - start_of lengths x ≡ get_or lengths x 0 + (start_of lengths (suc x + more) - start_of lengths (suc x)) = omega (arith, u, m, ap (start_of lengths) q) in
      let r : body_list b (suc x) more ≡ take (start_of lengths (suc x + more) - start_of lengths (suc x)) (drop (get_or lengths x 0) (drop (start_of lengths x) bodies)) = listed more (suc x) (omega (arith, h)) ∙ ap (take (start_of lengths (suc x + more) - start_of lengths (suc x))) (ap (λ (k : ℕ). drop k bodies) u ∙ sym (drop-drop (get_or lengths x 0) (start_of lengths x) bodies)) in
      ap₂ ◌++◌ (is x (omega (arith, h))) r ∙ sym (take-add n (start_of lengths (suc x + more) - start_of lengths (suc x)) (drop s bodies)) ∙ ap (λ (k : ℕ). take k (drop s bodies)) (sym e)

  measured : (more x : ℕ) → x + more ≤ vars → vars ≤ length lengths → length_list b x more ≡ take more (drop x lengths)
  unfolding length_list
  measured zero x h l = refl
  measured (suc more) x h l =
      rw (drop-cons lengths x 0 (omega arith)) (ap₂ ◌∷◌ (long x (omega (arith, h))) (measured more (suc x) (omega (arith, h)) l))

  module _ (z : all_zero (drop vars lengths) ≡ true) where
    pub bodies_back : body_list b 0 vars ≡ bodies
    unfolding start_of
    bodies_back =
        let e : 0 + vars ≡ vars = omega arith in
        let n : start_of lengths (0 + vars) - start_of lengths 0 ≡ length bodies = omega (arith, ap (start_of lengths) e, start_all lengths vars g.few z, g.sums) in
        listed vars 0 (omega arith) ∙ rw n (take_all (length bodies) bodies (omega arith))

    pub lengths_back : length lengths ≡ 16 → length_list b 0 vars ++ replicate (16 - vars) 0 ≡ lengths
    lengths_back l =
        let n : length (drop vars lengths) ≡ 16 - vars = length-drop vars lengths ∙ ap (λ (k : ℕ). k - vars) l in
        let r : replicate (16 - vars) 0 ≡ drop vars lengths = ap (λ (k : ℕ). replicate k 0) (sym n) ∙ sym (zeros (drop vars lengths) z) in
        ap₂ ◌++◌ (measured vars 0 (omega arith) (omega (arith, l, g.few))) r ∙ take-append-drop vars lengths

-- ---- put together, they are taken apart again
body_split : (b : ℕ → Row) (m y n : ℕ) → body_list b y (m + n) ≡ body_list b y m ++ body_list b (y + m) n
unfolding body_list
body_split b zero y n = rw (zero-add n, add-zero y)
body_split b (suc m) y n =
    rw (suc-add m n) (ap (words (b y) ++◌) (body_split b m (suc y) n) ∙ sym (append_assoc (words (b y)) (body_list b (suc y) m) (body_list b (suc y + m) n)) ∙ ap (λ (k : ℕ). (words (b y) ++ body_list b (suc y) m) ++ body_list b k n) (suc-add y m ∙ sym (add-suc y m)))

length_list_lem : (b : ℕ → Row) (more x : ℕ) → length (length_list b x more) ≡ more
unfolding length_list
length_list_lem b zero x = refl
length_list_lem b (suc more) x = ap suc (length_list_lem b more (suc x))

list_at : (b : ℕ → Row) (more x i : ℕ) (l : List ℕ) → i < more → get_or (length_list b x more ++ l) i 0 ≡ length (words (b (x + i)))
unfolding length_list
list_at b zero x i l h = absurd (omega arith)
list_at b (suc more) x zero l h = ap (λ (k : ℕ). length (words (b k))) (sym (add-zero x))
list_at b (suc more) x (suc i) l h = list_at b more (suc x) i l (omega arith) ∙ ap (λ (k : ℕ). length (words (b k))) (suc-add x i ∙ sym (add-suc x i))

module _ (vars : ℕ) (b : ℕ → Row) (few : vars ≤ 16) where
  abbrev bodies : List ℕ
  bodies = body_list b 0 vars

  abbrev lengths : List ℕ
  lengths = length_list b 0 vars ++ replicate (16 - vars) 0

  at_variable : (x : ℕ) → x < vars → get_or lengths x 0 ≡ length (words (b x))
  at_variable x h = list_at b vars 0 x (replicate (16 - vars) 0) h ∙ ap (λ (k : ℕ). length (words (b k))) (zero-add x)

  starts : (k : ℕ) → k ≤ vars → start_of lengths k ≡ length (body_list b 0 k)
  unfolding start_of body_list
  starts zero h = refl
  starts (suc k) h =
      let e : body_list b 0 (suc k) ≡ body_list b 0 k ++ (words (b k) ++ []) = ap (body_list b 0) (sym (add-one k)) ∙ body_split b k 0 1 ∙ ap (λ (j : ℕ). body_list b 0 k ++ (words (b j) ++ [])) (zero-add k) in
      let n : length (body_list b 0 (suc k)) ≡ length (body_list b 0 k) + length (words (b k)) = ap length e ∙ length-append (body_list b 0 k) (words (b k) ++ []) ∙ ap (λ (l : List ℕ). length (body_list b 0 k) + length l) (append-nil (words (b k))) in
      omega (arith, n, starts k (omega (arith, h)), at_variable k h)

  unused : all_zero (drop vars lengths) ≡ true
  unused = rw (drop_at (length_list b 0 vars) (replicate (16 - vars) 0) vars (length_list_lem b vars 0)) (all_zeros (16 - vars))

  pub list_lengths : good_lengths vars bodies lengths ≡ true
  unfolding good_lengths
  list_lengths =
      rw (eq-eqb (start_of lengths 16) (length bodies) (sym (start_all lengths vars few unused) ∙ starts vars (omega arith))) unused

  pub list_words : (x : ℕ) → x < vars → words_at bodies lengths x ≡ words (b x)
  unfolding words_at body_list
  list_words x h =
      let q : x + suc (vars - suc x) ≡ vars = omega (arith, h) in
      let e : bodies ≡ body_list b 0 x ++ (words (b x) ++ body_list b (suc x) (vars - suc x)) = ap (body_list b 0) (sym q) ∙ body_split b x 0 (suc (vars - suc x)) ∙ ap (λ (k : ℕ). body_list b 0 x ++ (words (b k) ++ body_list b (suc k) (vars - suc x))) (zero-add x) in
      let d : drop (start_of lengths x) bodies ≡ words (b x) ++ body_list b (suc x) (vars - suc x) = ap (drop (start_of lengths x)) e ∙ drop_at (body_list b 0 x) (words (b x) ++ body_list b (suc x) (vars - suc x)) (start_of lengths x) (sym (starts x (omega (arith, h)))) in
      ap (take (get_or lengths x 0)) d ∙ take_at (words (b x)) (body_list b (suc x) (vars - suc x)) (get_or lengths x 0) (sym (at_variable x h))

  judged : ((x : ℕ) → x < vars → check term_limits (words (b x)) ≡ Ok tt) → (more x : ℕ) → x + more ≤ vars → check_bodies bodies lengths x more ≡ Ok tt
  unfolding check_bodies
  judged good zero x h = refl
  judged good (suc more) x h =
      let c : check term_limits (words_at bodies lengths x) ≡ Ok tt = ap (check term_limits) (list_words x (omega (arith, h))) ∙ good x (omega (arith, h)) in
      rw c (judged good more (suc x) (omega (arith, h)))

  pub list_bodies : ((x : ℕ) → x < vars → check term_limits (words (b x)) ≡ Ok tt) → check_bodies bodies lengths 0 vars ≡ Ok tt
  list_bodies good = judged good vars 0 (omega arith)
