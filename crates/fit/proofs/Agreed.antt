-- Bodies found after others: what was found first decides, and more behind it changes nothing.
use mathlib.Core.Path.{◌≡◌, refl, ◌∙◌}
use mathlib.Core.Bool.{Bool, true, false, ◌&&◌, ◌||◌}
use mathlib.Core.List.{[], ◌∷◌, ◌++◌, append_assoc}
use mathlib.Core.Option.{Option, none, some}
use Prim.Native.Nat.{ℕ}
use lib.Dec.{eqb}
use borrow.Author.Tests.{eq-eqb}
use Rattle.term.specs.Word.{pick}
use Rattle.term.specs.Row.{Row, words}
use Rattle.term.specs.Part.{same_words}
use Rattle.fit.specs.Fit.{Found, body_then, both_found, body_b, body_in, all_same}
use Rattle.fit.specs.Told.Told.{present, agreed_from}
use Rattle.term.proofs.Laws.{never, and_both}

-- ---- the first body of a variable in a list and more behind it
pub body_present : (x : ℕ) (l m : Found) → present x l ≡ true → body_in (l ++ m) x ≡ body_in l x
unfolding present body_in
body_present x [] m e = never (cc)
body_present x (p ∷ l) m e = go (eqb x p.0) (body_present x l m) e
  where
    go : (b : Bool) → (present x l ≡ true → body_in (l ++ m) x ≡ body_in l x) → b || present x l ≡ true → body_b b p.1 (body_in (l ++ m) x) ≡ body_b b p.1 (body_in l x)
    go true r q = refl
    go false r q = r q

pub body_absent : (x : ℕ) (l m : Found) → present x l ≡ false → body_in (l ++ m) x ≡ body_in m x
unfolding present body_in
body_absent x [] m e = refl
body_absent x (p ∷ l) m e = go (eqb x p.0) (body_absent x l m) e
  where
    go : (b : Bool) → (present x l ≡ false → body_in (l ++ m) x ≡ body_in m x) → b || present x l ≡ false → body_b b p.1 (body_in (l ++ m) x) ≡ body_in m x
    go true r q = never (cc)
    go false r q = r q

pub present_join : (x : ℕ) (l m : Found) → present x (l ++ m) ≡ present x l || present x m
unfolding present
present_join x [] m = refl
present_join x (p ∷ l) m = rw (present_join x l m) (go (eqb x p.0))
  where
    go : (b : Bool) → b || (present x l || present x m) ≡ (b || present x l) || present x m
    go true = refl
    go false = refl

abbrev AllPresent : Found → Found → Type 0
AllPresent l [] = Unit {0}
AllPresent l (p ∷ k) = (present p.0 l ≡ true) × AllPresent l k

present_later : (x : ℕ) (l m : Found) → present x m ≡ true → present x (l ++ m) ≡ true
present_later x l m e = present_join x l m ∙ rw e (go (present x l))
  where
    go : (b : Bool) → b || true ≡ true
    go true = refl
    go false = refl

all_later : (l k m : Found) → AllPresent m k → AllPresent (l ++ m) k
all_later l [] m a = tt
all_later l (p ∷ k) m a = (present_later p.0 l m a.0, all_later l k m a.1)

all_cons : (p : ℕ × Row) (m k : Found) → AllPresent m k → AllPresent (p ∷ m) k
unfolding present
all_cons p m [] a = tt
all_cons p m (q ∷ k) a = (go (eqb q.0 p.0), all_cons p m k a.1)
  where
    go : (b : Bool) → b || present q.0 m ≡ true
    go true = refl
    go false = a.0

all_self : (k : Found) → AllPresent k k
unfolding present
all_self [] = tt
all_self (p ∷ k) = (rw (eq-eqb p.0 p.0 refl), all_cons p k k (all_self k))

same_present : (l m k : Found) → AllPresent l k → all_same (l ++ m) k ≡ all_same l k
unfolding all_same
same_present l m [] a = refl
same_present l m (p ∷ k) a = rw (body_present p.0 l m a.0, same_present l m k a.1)

same_join : (l k m : Found) → all_same l (k ++ m) ≡ all_same l k && all_same l m
unfolding all_same
same_join l [] m = refl
same_join l (p ∷ k) m = rw (same_join l k m) (go (same_words (words (body_in l p.0)) (words p.1)))
  where
    go : (b : Bool) → b && (all_same l k && all_same l m) ≡ (b && all_same l k) && all_same l m
    go true = refl
    go false = refl

-- ---- two lists found one after the other
both_same : (l k m : Found) → all_same (l ++ (k ++ m)) (k ++ m) ≡ all_same (l ++ k) k && all_same ((l ++ k) ++ m) m
both_same l k m =
    same_join (l ++ (k ++ m)) k m
    ∙ rw (← append_assoc l k m, same_present (l ++ k) m k (all_later l k k (all_self k)))

pub both_agreed : (l k : Found) (o q : Option Found) → agreed_from l o ≡ some k → (m : Found) → agreed_from (l ++ k) q ≡ some m → agreed_from l (both_found o q) ≡ some (k ++ m)
both_agreed l k none q e m f = never (cc)
both_agreed l k (some a) none e m f = never (cc)
both_agreed l k (some a) (some b) e m f = go (all_same (l ++ a) a) (all_same ((l ++ k) ++ b) b) refl refl e f
  where
    go : (x y : Bool) → all_same (l ++ a) a ≡ x → all_same ((l ++ k) ++ b) b ≡ y → pick x (some a) none ≡ some k → pick y (some b) none ≡ some m
        → pick (all_same (l ++ (a ++ b)) (a ++ b)) (some (a ++ b)) none ≡ some (k ++ m)
    go true true i j p r =
        let u : a ≡ k = cc in
        let w : b ≡ m = cc in
        let z : all_same (l ++ (a ++ b)) (a ++ b) ≡ true = both_same l a b ∙ and_both _ _ i (rw u j) in
        rw (z, u, w)
    go true false i j p r = never (cc)
    go false y i j p r = never (cc)

pub left_disagreed : (l : Found) (o q : Option Found) → agreed_from l o ≡ none → agreed_from l (both_found o q) ≡ none
left_disagreed l none q e = refl
left_disagreed l (some a) none e = refl
left_disagreed l (some a) (some b) e = go (all_same (l ++ a) a) refl e
  where
    go : (x : Bool) → all_same (l ++ a) a ≡ x → pick x (some a) none ≡ none → pick (all_same (l ++ (a ++ b)) (a ++ b)) (some (a ++ b)) none ≡ none
    go true i p = never (cc)
    go false i p = rw (both_same l a b, i)

pub right_disagreed : (l k : Found) (o q : Option Found) → agreed_from l o ≡ some k → agreed_from (l ++ k) q ≡ none → agreed_from l (both_found o q) ≡ none
right_disagreed l k none q e f = refl
right_disagreed l k (some a) none e f = refl
right_disagreed l k (some a) (some b) e f = go (all_same (l ++ a) a) (all_same ((l ++ k) ++ b) b) refl refl e f
  where
    go : (x y : Bool) → all_same (l ++ a) a ≡ x → all_same ((l ++ k) ++ b) b ≡ y → pick x (some a) none ≡ some k → pick y (some b) none ≡ none
        → pick (all_same (l ++ (a ++ b)) (a ++ b)) (some (a ++ b)) none ≡ none
    go true true i j p r = never (cc)
    go true false i j p r = let u : a ≡ k = cc in rw (both_same l a b, i, u, j)
    go false y i j p r = never (cc)

-- one body, and what is found after it
pub then_both : (x : ℕ) (b : Row) (o : Option Found) → body_then x (some b) o ≡ both_found (some ((x, b) ∷ [])) o
then_both x b none = refl
then_both x b (some l) = refl

pub first_agreed : (l : Found) (x : ℕ) (b : Row) → same_words (words (body_in (l ++ ((x, b) ∷ [])) x)) (words b) ≡ true → agreed_from l (some ((x, b) ∷ [])) ≡ some ((x, b) ∷ [])
unfolding all_same
first_agreed l x b e = rw e

pub first_disagreed : (l : Found) (x : ℕ) (b : Row) → same_words (words (body_in (l ++ ((x, b) ∷ [])) x)) (words b) ≡ false → agreed_from l (some ((x, b) ∷ [])) ≡ none
unfolding all_same
first_disagreed l x b e = rw e
