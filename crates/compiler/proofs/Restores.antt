-- A call leaves the tables as it found them: a node's marks are its own, and taking them away leaves what stood there before.
use mathlib.Core.Path.{◌≡◌, refl, sym, ap, ap₂, ◌∙◌}
use mathlib.Core.Bool.{Bool, true, false, ◌&&◌}
use mathlib.Core.List.{List, [], ◌∷◌}
use mathlib.Core.Logic.{◌⊎◌, inl, inr}
use Prim.Native.Nat.{ℕ, suc, ◌+◌, ◌≤◌, ◌<◌}
use native.Mathlib.Omega.{arith}
use lib.Dec.{eqb, ltb}
use lib.ListN.{length, get_or, set, length-set}
use lib.Seq.{get_or-set_same, get_or-set_other}
use borrow.Author.Tests.{eqb-true, eqb-false, eq-eqb, ne_eqb, ltb-true, ltb-false, lt-ltb, le-ltb}
use Rattle.term.specs.Word.{pick}
use Rattle.compiler.specs.Told.Tables.{Changed, only_at, unmarked, forgotten, is_free, is_row, row_of, of_free_row, struck_rows, struck_same, strikes, kind_from}
use Rattle.compiler.proofs.TableLaws.{kind_within, before_kind, after_kind, same_row_struck}

-- lists of one length with the same words are the same
pub same_words_same : (a b : List ℕ) → length a ≡ length b → ((k : ℕ) → get_or a k 0 ≡ get_or b k 0) → a ≡ b
same_words_same [] [] l e = refl
same_words_same [] (y ∷ b) l e = absurd (omega (arith, l))
same_words_same (x ∷ a) [] l e = absurd (omega (arith, l))
same_words_same (x ∷ a) (y ∷ b) l e = ap₂ ◌∷◌ (e 0) (same_words_same a b (omega (arith, l)) (λ k. e (suc k)))

-- every mark is below this one
abbrev pub Below : ℕ → List ℕ → Type 0
Below m l = (k : ℕ) → get_or l k 0 < m

abbrev pub MarkedAt : ℕ → ℕ → ℕ → Type 0
MarkedAt m x y = (y ≡ x) ⊎ ((x ≡ 0) × (y ≡ m))

-- where nothing stood there may be a mark now, and all else is as it was
pub record Marked (m : ℕ) (before after : List ℕ) : Type 0 where
  pub long : length after ≡ length before
  pub each : (k : ℕ) → MarkedAt m (get_or before k 0) (get_or after k 0)

marked_twice : (m x y z : ℕ) → MarkedAt m x y → MarkedAt m y z → MarkedAt m x z
marked_twice m x y z (inl p) (inl q) = inl (q ∙ p)
marked_twice m x y z (inl p) (inr q) = inr (sym p ∙ q.0, q.1)
marked_twice m x y z (inr p) (inl q) = inr (p.0, q ∙ p.1)
marked_twice m x y z (inr p) (inr q) = inr (p.0, q.1)

pub marked_join : (m : ℕ) (a b c : List ℕ) → Marked m a b → Marked m b c → Marked m a c
marked_join m a b c p q = record { long = q.long ∙ p.long; each = λ k. marked_twice m (get_or a k 0) (get_or b k 0) (get_or c k 0) (p.each k) (q.each k) }

picked_mark : (m x : ℕ) (b : Bool) → MarkedAt m x (pick (eqb x 0 && b) m x)
picked_mark m x b = go (eqb x 0) refl b
  where
    go : (a : Bool) → eqb x 0 ≡ a → (b : Bool) → MarkedAt m x (pick (a && b) m x)
    go true e true = inr (eqb-true x 0 e, refl)
    go true e false = inl refl
    go false e b = inl refl

-- striking rows and striking a constraint set the node's mark alone
pub rows_marked : (p : ℕ → Bool) (m : ℕ) (before after : List ℕ) → length after ≡ length before → Changed (struck_rows p m) before after → Marked m before after
unfolding Changed
rows_marked p m before after l c = record { long = l; each = λ k. rw (c k) (go k (ltb k 64)) }
  where
    go : (k : ℕ) (b : Bool) → MarkedAt m (get_or before k 0) (pick b (pick (eqb (get_or before k 0) 0 && p k) m (get_or before k 0)) (get_or before k 0))
    go k true = picked_mark m (get_or before k 0) (p k)
    go k false = inl refl

pub same_marked : (fixed nums marks : List ℕ) (id m : ℕ) (before after : List ℕ) → length after ≡ length before → Changed (struck_same fixed nums marks id m) before after → Marked m before after
unfolding Changed
same_marked fixed nums marks id m before after l c = record { long = l; each = λ k. rw (c k) (go k (ltb k (kind_from id)) (ltb k (kind_from id + 4096))) }
  where
    go : (k : ℕ) (a b : Bool)
        → MarkedAt m (get_or before k 0) (pick a (get_or before k 0) (pick b (pick (eqb (get_or before k 0) 0 && strikes fixed nums marks id k) m (get_or before k 0)) (get_or before k 0)))
    go k true b = inl refl
    go k false true = picked_mark m (get_or before k 0) (strikes fixed nums marks id k)
    go k false false = inl refl

-- entering a place that was open
pub set_marked : (m : ℕ) (l : List ℕ) (i : ℕ) → i < length l → get_or l i 0 ≡ 0 → Marked m l (set l i m)
set_marked m l i h e = record { long = length-set l i m; each = λ k. go k (eqb k i) refl }
  where
    go : (k : ℕ) (b : Bool) → eqb k i ≡ b → MarkedAt m (get_or l k 0) (get_or (set l i m) k 0)
    go k true q = rw (eqb-true k i q) (inr (e, get_or-set_same l i m 0 h))
    go k false q = inl (get_or-set_other l i k m 0 (eqb-false k i q))

-- a later node's mark is new again
pub marked_below : (m n : ℕ) (before after : List ℕ) → Below m before → Marked m before after → m < n → Below n after
marked_below m n before after b p h k = go (get_or before k 0) (get_or after k 0) (b k) (p.each k)
  where
    go : (x y : ℕ) → x < m → MarkedAt m x y → y < n
    go x y l (inl e) = omega arith
    go x y l (inr e) = omega (arith, e.1)

-- a place that was entered stays so
pub still_shut : (m : ℕ) (before after : List ℕ) → Marked m before after → (k : ℕ) → is_free before k ≡ false → is_free after k ≡ false
still_shut m before after p k e = go (get_or before k 0) (get_or after k 0) (eqb-false (get_or before k 0) 0 e) (p.each k)
  where
    go : (x y : ℕ) → (x ≡ 0 → ⊥) → MarkedAt m x y → eqb y 0 ≡ false
    go x y d (inl z) = ne_eqb y 0 (λ q. d (sym z ∙ q))
    go x y d (inr z) = absurd (d z.0)

-- what a test does not pick is as it was
abbrev pub Apart : (ℕ → Bool) → List ℕ → List ℕ → Type 0
Apart p before after = (k : ℕ) → p k ≡ false → get_or after k 0 ≡ get_or before k 0

pub rows_apart : (p : ℕ → Bool) (m : ℕ) (before after : List ℕ) → Changed (struck_rows p m) before after → Apart is_row before after
unfolding Changed
rows_apart p m before after c k e = c k ∙ ap (λ (b : Bool). pick b (pick (eqb (get_or before k 0) 0 && p k) m (get_or before k 0)) (get_or before k 0)) e

same_there : (fixed nums marks after : List ℕ) (id m k : ℕ) → get_or after (row_of (kind_from id) k) 0 ≡ struck_same fixed nums marks id m (row_of (kind_from id) k) (get_or marks (row_of (kind_from id) k) 0)
    → of_free_row after (kind_from id) k ≡ false → struck_same fixed nums marks id m k (get_or marks k 0) ≡ get_or marks k 0
same_there fixed nums marks after id m k row e = go (ltb k (kind_from id)) refl (ltb k (kind_from id + 4096)) refl e
  where
    go : (a : Bool) → ltb k (kind_from id) ≡ a → (b : Bool) → ltb k (kind_from id + 4096) ≡ b → pick a false (pick b (is_free after (row_of (kind_from id) k)) false) ≡ false
        → struck_same fixed nums marks id m k (get_or marks k 0) ≡ get_or marks k 0
    go true p b q f = before_kind fixed nums marks id m k (get_or marks k 0) (ltb-true k (kind_from id) p)
    go false p false q f = after_kind fixed nums marks id m k (get_or marks k 0) (ltb-false k (kind_from id + 4096) q)
    go false p true q f =
        let h = ltb-true k (kind_from id + 4096) q in
        let same : get_or after (row_of (kind_from id) k) 0 ≡ get_or marks (row_of (kind_from id) k) 0 =
        row ∙ before_kind fixed nums marks id m (row_of (kind_from id) k) (get_or marks (row_of (kind_from id) k) 0) (omega (arith, h, (kind_within id).0)) in
        sym (same_row_struck fixed nums marks id m (row_of (kind_from id) k) k (get_or marks k 0) (ltb-false k (kind_from id) p) h refl (λ z. eqb-false (get_or after (row_of (kind_from id) k) 0) 0 f (same ∙ z)))

-- the constraints of the rows that are not struck alone are struck
pub same_apart : (fixed nums marks : List ℕ) (id m : ℕ) (after : List ℕ) → Changed (struck_same fixed nums marks id m) marks after → Apart (of_free_row after (kind_from id)) marks after
unfolding Changed
same_apart fixed nums marks id m after c k e = c k ∙ same_there fixed nums marks after id m k (c (row_of (kind_from id) k)) e

-- leaving a place that was open before it was entered
pub set_back : (l : List ℕ) (i m : ℕ) → i < length l → get_or l i 0 ≡ 0 → set (set l i m) i 0 ≡ l
set_back l i m h e = same_words_same (set (set l i m) i 0) l (length-set (set l i m) i 0 ∙ length-set l i m) (λ k. go k (eqb k i) refl)
  where
    go : (k : ℕ) (b : Bool) → eqb k i ≡ b → get_or (set (set l i m) i 0) k 0 ≡ get_or l k 0
    go k true q = rw (eqb-true k i q) (get_or-set_same (set l i m) i 0 0 (omega (arith, length-set l i m)) ∙ sym e)
    go k false q = get_or-set_other (set l i m) i k 0 0 (eqb-false k i q) ∙ get_or-set_other l i k m 0 (eqb-false k i q)

-- THE LAW of marks: taking the node's mark away where it set one leaves the marks as they were
pub unmark_restores : (p : ℕ → Bool) (m : ℕ) (before after last : List ℕ) → Below m before → Marked m before after → Apart p before after → length last ≡ length after → Changed (only_at p (unmarked m)) after last
    → last ≡ before
unfolding Changed
unmark_restores p m before after last b q a l c = same_words_same last before (l ∙ q.long) (λ k. c k ∙ go k (p k) refl)
  where
    back : (x y : ℕ) → x < m → MarkedAt m x y → pick (eqb y m) 0 y ≡ x
    back x y h (inl e) = rw (e, ne_eqb x m (omega arith))
    back x y h (inr e) = rw (e.1, eq-eqb m m refl) (sym e.0)

    go : (k : ℕ) (t : Bool) → p k ≡ t → pick t (pick (eqb (get_or after k 0) m) 0 (get_or after k 0)) (get_or after k 0) ≡ get_or before k 0
    go k true e = back (get_or before k 0) (get_or after k 0) (b k) (q.each k)
    go k false e = a k e

-- ---- numbers: those that were given here are over the count
abbrev pub AtMost : ℕ → List ℕ → Type 0
AtMost count l = (k : ℕ) → get_or l k 0 ≤ count

abbrev pub GrownAt : ℕ → ℕ → ℕ → Type 0
GrownAt count x y = (y ≡ x) ⊎ ((x ≡ 0) × (count < y))

pub record Grown (count : ℕ) (before after : List ℕ) : Type 0 where
  pub long : length after ≡ length before
  pub each : (k : ℕ) → GrownAt count (get_or before k 0) (get_or after k 0)

pub grown_none : (count : ℕ) (l : List ℕ) → Grown count l l
grown_none count l = record { long = refl; each = λ k. inl refl }

grown_twice : (count x y z : ℕ) → GrownAt count x y → GrownAt count y z → GrownAt count x z
grown_twice count x y z (inl p) (inl q) = inl (q ∙ p)
grown_twice count x y z (inl p) (inr q) = inr (sym p ∙ q.0, q.1)
grown_twice count x y z (inr p) (inl q) = inr (p.0, omega (arith, p.1, q))
grown_twice count x y z (inr p) (inr q) = inr (p.0, q.1)

pub grown_join : (count : ℕ) (a b c : List ℕ) → Grown count a b → Grown count b c → Grown count a c
grown_join count a b c p q = record { long = q.long ∙ p.long; each = λ k. grown_twice count (get_or a k 0) (get_or b k 0) (get_or c k 0) (p.each k) (q.each k) }

pub set_grown : (count : ℕ) (l : List ℕ) (i v : ℕ) → i < length l → get_or l i 0 ≡ 0 → count < v → Grown count l (set l i v)
set_grown count l i v h e c = record { long = length-set l i v; each = λ k. go k (eqb k i) refl }
  where
    go : (k : ℕ) (b : Bool) → eqb k i ≡ b → GrownAt count (get_or l k 0) (get_or (set l i v) k 0)
    go k true q = rw (eqb-true k i q) (inr (e, omega (arith, get_or-set_same l i v 0 h)))
    go k false q = inl (get_or-set_other l i k v 0 (eqb-false k i q))

-- THE LAW of numbers: forgetting those over the count where some were given leaves the numbers as they were
pub forget_restores : (p : ℕ → Bool) (count : ℕ) (before after last : List ℕ) → AtMost count before → Grown count before after → Apart p before after → length last ≡ length after
    → Changed (only_at p (forgotten count)) after last → last ≡ before
unfolding Changed
forget_restores p count before after last b q a l c = same_words_same last before (l ∙ q.long) (λ k. c k ∙ go k (p k) refl)
  where
    back : (x y : ℕ) → x ≤ count → GrownAt count x y → pick (ltb count y) 0 y ≡ x
    back x y h (inl e) = rw (e, le-ltb count x h)
    back x y h (inr e) = rw (lt-ltb count y e.1) (sym e.0)

    go : (k : ℕ) (t : Bool) → p k ≡ t → pick t (pick (ltb count (get_or after k 0)) 0 (get_or after k 0)) (get_or after k 0) ≡ get_or before k 0
    go k true e = back (get_or before k 0) (get_or after k 0) (b k) (q.each k)
    go k false e = a k e
