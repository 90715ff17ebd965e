-- Changing a table word by word: a law for each way through the body of a loop; and what a search says of its test.
use mathlib.Core.Path.{◌≡◌, refl, sym, ap, ◌∙◌}
use mathlib.Core.Bool.{Bool, true, false}
use mathlib.Core.List.{List, ◌++◌}
use Prim.Native.Nat.{ℕ, zero, suc, ◌+◌, ◌-◌, ◌≤◌, ◌<◌}
use native.Mathlib.Omega.{arith}
use native.Mathlib.Decide.{dec_le}
use lib.Dec.{eqb, ltb}
use lib.ListN.{length, get_or, set, take, drop, length-set, get_or-append}
use lib.Seq.{get_or-set_same, get_or-set_other, get_or-drop}
use borrow.Author.Tests.{ltb-true, ltb-false, lt-ltb, le-ltb, eqb-true, eqb-false}
use Rattle.term.specs.Word.{pick}
use Rattle.std.proofs.lemmas.List.{length-take-le, get_or-take, get_or-append_right}
use Rattle.compiler.specs.Told.Tables.{first_at, Changed}

-- ---- changing: the words passed are changed, the others are as they came
pub record Sweeping (f : ℕ → ℕ → ℕ) (before after : List ℕ) (i : ℕ) : Type 0 where
  pub long : length after ≡ length before
  pub changed : (k : ℕ) → get_or after k 0 ≡ pick (ltb k i) (f k (get_or before k 0)) (get_or before k 0)

pub sweep_start : (f : ℕ → ℕ → ℕ) (l : List ℕ) (i : ℕ) → ((k : ℕ) → k < i → f k (get_or l k 0) ≡ get_or l k 0) → Sweeping f l l i
sweep_start f l i e = record { long = refl; changed = λ k. go k (ltb k i) refl }
  where
    go : (k : ℕ) (b : Bool) → ltb k i ≡ b → get_or l k 0 ≡ pick b (f k (get_or l k 0)) (get_or l k 0)
    go k true q = sym (e k (ltb-true k i q))
    go k false q = refl

pub sweep_here : (f : ℕ → ℕ → ℕ) (before after : List ℕ) (i : ℕ) → Sweeping f before after i → (k : ℕ) → i ≤ k → get_or after k 0 ≡ get_or before k 0
sweep_here f before after i s k h = s.changed k ∙ ap (λ (b : Bool). pick b (f k (get_or before k 0)) (get_or before k 0)) (le-ltb k i h)

sweep_point : (f : ℕ → ℕ → ℕ) (before : List ℕ) (i k : ℕ) → (k ≡ i → ⊥)
    → pick (ltb k i) (f k (get_or before k 0)) (get_or before k 0) ≡ pick (ltb k (i + 1)) (f k (get_or before k 0)) (get_or before k 0)
sweep_point f before i k n = go (ltb k i) refl
  where
    go : (b : Bool) → ltb k i ≡ b → pick b (f k (get_or before k 0)) (get_or before k 0) ≡ pick (ltb k (i + 1)) (f k (get_or before k 0)) (get_or before k 0)
    go true q = rw (lt-ltb k (i + 1) (omega (arith, ltb-true k i q)))
    go false q = rw (le-ltb k (i + 1) (omega (arith, ltb-false k i q, n)))

last_point : (f : ℕ → ℕ → ℕ) (before : List ℕ) (i : ℕ) → pick (ltb i (i + 1)) (f i (get_or before i 0)) (get_or before i 0) ≡ f i (get_or before i 0)
last_point f before i = rw (lt-ltb i (i + 1) (omega arith))

pub sweep_set : (f : ℕ → ℕ → ℕ) (before after : List ℕ) (i v : ℕ) → Sweeping f before after i → i < length after → v ≡ f i (get_or before i 0) → Sweeping f before (set after i v) (i + 1)
sweep_set f before after i v s h e = record { long = simp length-set s.long; changed = λ k. go k (eqb k i) refl }
  where
    go : (k : ℕ) (b : Bool) → eqb k i ≡ b → get_or (set after i v) k 0 ≡ pick (ltb k (i + 1)) (f k (get_or before k 0)) (get_or before k 0)
    go k true q = rw (eqb-true k i q) (get_or-set_same after i v 0 h ∙ e ∙ sym (last_point f before i))
    go k false q = get_or-set_other after i k v 0 (eqb-false k i q) ∙ s.changed k ∙ sweep_point f before i k (eqb-false k i q)

-- the word at hand becomes what the function makes of it
pub sweep_next : {f : ℕ → ℕ → ℕ} {before after : List ℕ} {i v : ℕ} → Sweeping f before after i → i < length after → v ≡ f i (get_or after i 0) → Sweeping f before (set after i v) (i + 1)
sweep_next {f} {before} {after} {i} {v} s h e = sweep_set f before after i v s h (e ∙ ap (f i) (sweep_here f before after i s i (omega arith)))

-- the first words of a table were passed, and the function leaves the others as they are
pub part_changed : (f : ℕ → ℕ → ℕ) (l part : List ℕ) (n i : ℕ) → n ≤ length l → Sweeping f (take n l) part i → n ≤ i → ((k : ℕ) → n ≤ k → f k (get_or l k 0) ≡ get_or l k 0)
    → Changed f l (part ++ drop n l)
unfolding Changed
part_changed f l part n i h s far e k = go (ltb k n) refl
  where
    long : length part ≡ n
    long = s.long ∙ length-take-le n l h

    go : (b : Bool) → ltb k n ≡ b → get_or (part ++ drop n l) k 0 ≡ f k (get_or l k 0)
    go true q =
        let few : k < n = ltb-true k n q in
        get_or-append part (drop n l) 0 k (omega (arith, long, few)) ∙ s.changed k ∙ rw (lt-ltb k i (omega (arith, few, far)), get_or-take n l k 0 few)
    go false q =
        let past : n ≤ k = ltb-false k n q in
        let z : n + (k - n) ≡ k = omega (arith, past) in
        get_or-append_right part (drop n l) n k 0 long past ∙ get_or-drop n l (k - n) 0 ∙ rw z (sym (e k past))

-- words that stay as they are may be passed over
pub sweep_skip : (f : ℕ → ℕ → ℕ) (before after : List ℕ) (i j : ℕ) → Sweeping f before after i → i ≤ j → ((k : ℕ) → i ≤ k → k < j → f k (get_or before k 0) ≡ get_or before k 0) → Sweeping f before after j
sweep_skip f before after i j s h e = record { long = s.long; changed = λ k. go k (ltb k i) refl (ltb k j) refl }
  where
    go : (k : ℕ) (a : Bool) → ltb k i ≡ a → (b : Bool) → ltb k j ≡ b → get_or after k 0 ≡ pick b (f k (get_or before k 0)) (get_or before k 0)
    go k true p true q = s.changed k ∙ ap (λ (b : Bool). pick b (f k (get_or before k 0)) (get_or before k 0)) p
    go k true p false q = absurd (omega (arith, ltb-true k i p, ltb-false k j q, h))
    go k false p true q = sweep_here f before after i s k (ltb-false k i p) ∙ sym (e k (ltb-false k i p) (ltb-true k j q))
    go k false p false q = sweep_here f before after i s k (ltb-false k i p)

-- and are so all the while
pub sweep_fixed : (f : ℕ → ℕ → ℕ) (before after : List ℕ) (i k : ℕ) → Sweeping f before after i → f k (get_or before k 0) ≡ get_or before k 0 → get_or after k 0 ≡ get_or before k 0
sweep_fixed f before after i k s e = s.changed k ∙ go (ltb k i)
  where
    go : (b : Bool) → pick b (f k (get_or before k 0)) (get_or before k 0) ≡ get_or before k 0
    go true = e
    go false = refl

pub sweep_end : (f : ℕ → ℕ → ℕ) (before after : List ℕ) (i : ℕ) → Sweeping f before after i → ((k : ℕ) → i ≤ k → f k (get_or before k 0) ≡ get_or before k 0) → Changed f before after
unfolding Changed
sweep_end f before after i s e k = s.changed k ∙ go (ltb k i) refl
  where
    go : (b : Bool) → ltb k i ≡ b → pick b (f k (get_or before k 0)) (get_or before k 0) ≡ f k (get_or before k 0)
    go true q = refl
    go false q = sym (e k (ltb-false k i q))

-- ---- what a search says of the test
pub first_true : (p : ℕ → Bool) (more i : ℕ) → first_at p i more < i + more → p (first_at p i more) ≡ true
unfolding first_at
first_true p zero i h = absurd (omega arith)
first_true p (suc more) i h = go (p i) refl (first_true p more (suc i)) h
  where
    go : (b : Bool) → p i ≡ b → (first_at p (suc i) more < suc i + more → p (first_at p (suc i) more) ≡ true) → pick b i (first_at p (suc i) more) < i + suc more → p (pick b i (first_at p (suc i) more)) ≡ true
    go true e r l = e
    go false e r l = r (omega arith)

pub first_false : (p : ℕ → Bool) (more i : ℕ) → i + more ≤ first_at p i more → (j : ℕ) → i ≤ j → j < i + more → p j ≡ false
unfolding first_at
first_false p zero i h j a b = absurd (omega arith)
first_false p (suc more) i h j a b = go (p i) refl h (first_false p more (suc i)) (dec_le (suc i) j)
  where
    go : (b : Bool) → p i ≡ b → i + suc more ≤ pick b i (first_at p (suc i) more) → (suc i + more ≤ first_at p (suc i) more → (j : ℕ) → suc i ≤ j → j < suc i + more → p j ≡ false) → Dec (suc i ≤ j) → p j ≡ false
    go true e l r d = absurd (omega arith)
    go false e l r (yes q) = r (omega arith) j q (omega arith)
    go false e l r (no q) = let z : j ≡ i = omega arith in rw z e
