-- Writing the words of nodes, as its loops meet it.
use mathlib.Core.Path.{◌≡◌, refl, sym, ap, ◌∙◌}
use mathlib.Core.Bool.{Bool, true, false}
use mathlib.Core.List.{List, [], ◌∷◌, ◌++◌}
use Prim.Native.Nat.{ℕ, zero, suc, ◌+◌, ◌-◌, ◌*◌, ◌≤◌, ◌<◌}
use native.Mathlib.Omega.{arith}
use lib.Dec.{ltb}
use lib.ListN.{length, get_or, set, drop, length-append}
use lib.Seq.{sets, get_or-drop}
use borrow.Author.Tests.{lt-ltb, le-ltb, ltb-true}
use Rattle.term.specs.Word.{pick, ident_of}
use Rattle.std.proofs.lemmas.List.{length-take-le, get_or-take}
use Rattle.std.proofs.Common.{length-drop}
use Rattle.compiler.specs.Told.Tables.{words_at, first_at, is_variable, listed, size_at, ids_from, ids_at, number_at, occurrence_words, variable_spot, leaf_from, aside_at, leaf_words, same_words_of, front_words, first_spot}

-- words are set one after the other
pub sets_join : (us vs l : List ℕ) (i : ℕ) → sets l i (us ++ vs) ≡ sets (sets l i us) (i + length us) vs
sets_join [] vs l i = let z : i + 0 ≡ i = omega arith in rw z
sets_join (u ∷ us) vs l i = let z : i + suc (length us) ≡ suc i + length us = omega arith in sets_join us vs (set l i u) (suc i) ∙ rw z

-- ---- lists
ids_step : (fixed : List ℕ) (k j m : ℕ) → ids_from fixed k j (suc m) ≡ ident_of (listed fixed k j) ∷ ids_from fixed k (suc j) m
unfolding ids_from
ids_step fixed k j m = refl

pub length_ids : (fixed : List ℕ) (k j m : ℕ) → length (ids_from fixed k j m) ≡ m
unfolding ids_from
length_ids fixed k j zero = refl
length_ids fixed k j (suc m) = ap suc (length_ids fixed k (suc j) m)

pub ids_next : (fixed : List ℕ) (k at j c : ℕ) (out all : List ℕ) → j < c → all ≡ sets out (at + j) (ids_from fixed k j (c - j))
    → (next : List ℕ) → next ≡ set out (at + j) (ident_of (listed fixed k j)) → all ≡ sets next (at + (j + 1)) (ids_from fixed k (j + 1) (c - (j + 1)))
ids_next fixed k at j c out all h e next q =
    let z : c - j ≡ suc (c - (j + 1)) = omega arith in
    let y : at + (j + 1) ≡ suc (at + j) = omega arith in
    let x : j + 1 ≡ suc j = omega arith in
    e ∙ ap (sets out (at + j)) (ap (ids_from fixed k j) z ∙ ids_step fixed k j (c - (j + 1))) ∙ rw (q, y, x)

pub ids_end : (fixed : List ℕ) (k at j m : ℕ) (out all : List ℕ) → all ≡ sets out (at + j) (ids_from fixed k j m) → m ≡ 0 → out ≡ all
unfolding ids_from
ids_end fixed k at j m out all e h = sym (rw h at e)

pub words_long : (fixed : List ℕ) (k : ℕ) → k + 1 + size_at fixed k ≤ length fixed → length (words_at fixed k) ≡ size_at fixed k
words_long fixed k h = length-take-le (size_at fixed k) (drop (k + 1) fixed) (omega (arith, length-drop (k + 1) fixed))

pub words_listed : (fixed : List ℕ) (k j : ℕ) → j < size_at fixed k → get_or (words_at fixed k) j 0 ≡ listed fixed k j
words_listed fixed k j h = get_or-take (size_at fixed k) (drop (k + 1) fixed) j 0 h ∙ get_or-drop (k + 1) fixed j 0

-- ---- the first spot of a variable
abbrev pub variable_in : List ℕ → ℕ → ℕ → ℕ → Bool
variable_in fixed r x o = is_variable fixed x (r * 64 + o)

pub variable_within : (fixed : List ℕ) (r x : ℕ) → r < 64 → variable_spot fixed r x < 4096
unfolding variable_spot
variable_within fixed r x h = go (first_at (variable_in fixed r x) 0 64)
  where
    go : (o : ℕ) → pick (ltb o 64) (r * 64 + o) (r * 64) < 4096
    go o = inner (ltb o 64) refl
      where
        inner : (b : Bool) → ltb o 64 ≡ b → pick b (r * 64 + o) (r * 64) < 4096
        inner true e = omega (arith, ltb-true o 64 e)
        inner false e = omega arith

-- ---- a Leaf
leaf_step : (fixed nums : List ℕ) (r x m : ℕ) → leaf_from fixed nums r x (suc m) ≡ occurrence_words fixed nums (variable_spot fixed r x) ++ leaf_from fixed nums r (suc x) m
unfolding leaf_from
leaf_step fixed nums r x m = refl

pub record Leafing (fixed nums out₀ : List ℕ) (at r vars : ℕ) (out : List ℕ) (a x : ℕ) : Type 0 where
  pub within : x ≤ vars
  pub small : a ≤ at + 257 * x
  pub wrote : sets out₀ at (leaf_from fixed nums r 0 vars) ≡ sets out a (leaf_from fixed nums r x (vars - x))
  pub long : a + length (leaf_from fixed nums r x (vars - x)) ≡ at + length (leaf_from fixed nums r 0 vars)

pub leaf_next : (fixed nums out₀ : List ℕ) (at r vars : ℕ) (out : List ℕ) (a x : ℕ) → Leafing fixed nums out₀ at r vars out a x → x < vars → (k : ℕ) → k ≡ variable_spot fixed r x
    → (next : List ℕ) (b : ℕ) → next ≡ sets out a (occurrence_words fixed nums k) → b ≡ a + 2 + size_at fixed k → Leafing fixed nums out₀ at r vars next b (x + 1)
leaf_next fixed nums out₀ at r vars out a x s h k e next b q t =
    let z : vars - x ≡ suc (vars - (x + 1)) = omega arith in
    let y : x + 1 ≡ suc x = omega arith in
    let l : leaf_from fixed nums r x (vars - x) ≡ occurrence_words fixed nums k ++ leaf_from fixed nums r (x + 1) (vars - (x + 1)) =
    ap (leaf_from fixed nums r x) z ∙ leaf_step fixed nums r x (vars - (x + 1)) ∙ rw (e, y) in
    let n : length (occurrence_words fixed nums k) ≡ 2 + size_at fixed k = omega (arith, length_ids fixed k 0 (size_at fixed k)) in
    let u : b ≡ a + length (occurrence_words fixed nums k) = omega (arith, t, n) in
    record {
      within = omega arith;
      small = omega (arith, s.small, t);
      wrote = s.wrote ∙ ap (sets out a) l ∙ sets_join (occurrence_words fixed nums k) (leaf_from fixed nums r (x + 1) (vars - (x + 1))) out a ∙ rw (q, u);
      long = omega (arith, s.long, ap length l, length-append (occurrence_words fixed nums k) (leaf_from fixed nums r (x + 1) (vars - (x + 1))), u);
    }

leaf_none : (fixed nums : List ℕ) (r x : ℕ) → leaf_from fixed nums r x 0 ≡ []
unfolding leaf_from
leaf_none fixed nums r x = refl

pub leaf_end : (fixed nums out₀ : List ℕ) (at r vars : ℕ) (out : List ℕ) (a x : ℕ) → Leafing fixed nums out₀ at r vars out a x → vars ≤ x
    → (out ≡ sets out₀ at (leaf_from fixed nums r 0 vars)) × (a ≡ at + length (leaf_from fixed nums r 0 vars))
leaf_end fixed nums out₀ at r vars out a x s h =
    let z : vars - x ≡ 0 = omega arith in
    let l : leaf_from fixed nums r x (vars - x) ≡ [] = ap (leaf_from fixed nums r x) z ∙ leaf_none fixed nums r x in
    (sym (s.wrote ∙ ap (sets out a) l), omega (arith, s.long, ap length l))

pub leaf_put : (fixed nums marks out : List ℕ) (at r : ℕ) (a b c d done : List ℕ) (k n : ℕ) → k ≡ aside_at fixed marks r → a ≡ set out at 1 → b ≡ set a (at + 1) r
    → c ≡ set b (at + 2) (get_or fixed (8192 + r) 0) → d ≡ set c (at + 3) k
    → done ≡ sets d (at + 4) (leaf_from fixed nums r 0 (get_or fixed (8192 + r) 0)) → n ≡ at + 4 + length (leaf_from fixed nums r 0 (get_or fixed (8192 + r) 0))
    → (done ≡ sets out at (leaf_words fixed nums marks r)) × (n ≡ at + length (leaf_words fixed nums marks r))
unfolding leaf_words
leaf_put fixed nums marks out at r a b c d done k n e p q s v t u =
    let x : at + 1 ≡ suc at = omega arith in
    let y : at + 2 ≡ suc (suc at) = omega arith in
    let z : at + 3 ≡ suc (suc (suc at)) = omega arith in
    let w : at + 4 ≡ suc (suc (suc (suc at))) = omega arith in
    (t ∙ rw (v, s, q, p, e, x, y, z, w), omega (arith, u))

-- ---- a test up to its addresses
pub front_closed : (fixed nums out : List ℕ) (at id : ℕ) (first done : List ℕ) (a : ℕ) → id < 8256 → first ≡ set out at 3 → done ≡ sets first (at + 1) (occurrence_words fixed nums (id - 4160))
    → a ≡ at + 1 + 2 + size_at fixed (id - 4160) → (done ≡ sets out at (front_words fixed nums id)) × (a ≡ at + length (front_words fixed nums id))
unfolding front_words
front_closed fixed nums out at id first done a h p q s =
    let x : at + 1 ≡ suc at = omega arith in
    rw (lt-ltb id 8256 h) (q ∙ rw (p, x), omega (arith, s, length_ids fixed (id - 4160) 0 (size_at fixed (id - 4160))))

pub front_same : (fixed nums out : List ℕ) (at id f : ℕ) (a b c d e done : List ℕ) (n m g h : ℕ) → 8256 ≤ id → f ≡ first_spot fixed (id - 8256)
    → g ≡ number_at nums f → h ≡ number_at nums (id - 8256) → a ≡ set out at 4 → b ≡ set a (at + 1) g → c ≡ set b (at + 2) h → d ≡ set c (at + 3) (size_at fixed f)
    → e ≡ sets d (at + 4) (ids_at fixed f) → n ≡ at + 4 + size_at fixed f → done ≡ sets e n (ids_at fixed (id - 8256)) → m ≡ n + size_at fixed (id - 8256)
    → (done ≡ sets out at (front_words fixed nums id)) × (m ≡ at + length (front_words fixed nums id))
unfolding front_words
front_same fixed nums out at id f a b c d e done n m g h i z g1 h1 p q r s t u v w =
    let k = id - 8256 in
    let x1 : at + 1 ≡ suc at = omega arith in
    let x2 : at + 2 ≡ suc (suc at) = omega arith in
    let x3 : at + 3 ≡ suc (suc (suc at)) = omega arith in
    let x4 : at + 4 ≡ suc (suc (suc (suc at))) = omega arith in
    let l : n ≡ at + 4 + length (ids_at fixed f) = omega (arith, u, length_ids fixed f 0 (size_at fixed f)) in
    let j : sets d (at + 4) (ids_at fixed f ++ ids_at fixed k) ≡ done = sets_join (ids_at fixed f) (ids_at fixed k) d (at + 4) ∙ rw (← l, ← t) (sym v) in
    let o : sets out at (same_words_of fixed nums f k) ≡ sets d (at + 4) (ids_at fixed f ++ ids_at fixed k) = rw (s, r, q, p, g1, h1, x1, x2, x3, x4) in
    rw (le-ltb id 8256 i, ← z) (sym (o ∙ j), omega (arith, w, l, length_ids fixed k 0 (size_at fixed k), length-append (ids_at fixed f) (ids_at fixed k)))

-- ---- an occurrence
