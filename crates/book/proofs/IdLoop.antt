-- The loop of ids_of: what is left of the words gives the ids.
use mathlib.Core.Path.{◌≡◌, refl, sym, ap, ◌∙◌}
use mathlib.Core.Bool.{Bool, true, false}
use mathlib.Core.List.{List, [], ◌∷◌, ◌++◌, append_assoc, append-nil}
use mathlib.Core.Option.{Option, none, some}
use Prim.Native.Nat.{ℕ, zero, suc, ◌+◌, ◌-◌, ◌≤◌, ◌<◌}
use native.Mathlib.Omega.{arith}
use native.Mathlib.Numerals.{add-one}
use lib.Dec.{leb}
use lib.ListN.{length, length-append, take, drop, get_or, set, replicate, length-set, length-replicate, take-append-drop}
use lib.Seq.{drop-cons, take-suc-set, drop-set-lt, length-take-le, take_at}
use borrow.Author.Tests.{le-leb, lt-leb, leb-true}
use Rattle.std.specs.Prelude.{Some, None}
use Rattle.std.specs.List.{slice_range}
use Rattle.std.proofs.lemmas.List.{get_or-take}
use mathlib.Core.Logic.{◌⊎◌, inl, inr}
use Rattle.term.specs.Word.{Head, symbol, abstraction, variable, pattern, pick, ident_of, head_of}
use Rattle.term.specs.Check.{rank_or}
use Rattle.term.proofs.Laws.{never, variable_word, rank_variable}
use Rattle.book.specs.Rule.{id_before}
use Rattle.book.specs.Told.Ids.{id_before_o, variable_ids, list_in, four_of}

abbrev pub ids_then : List ℕ → Option (List ℕ) → Option (List ℕ)
ids_then xs none = none
ids_then xs (some ys) = some (xs ++ ys)

-- no id where another head stands
other_head : (o : Option Head) (r : Option (List ℕ)) → (rank_or 4 o ≡ 2 → ⊥) → id_before_o o r ≡ none
other_head none r n = refl
other_head (some (symbol i c)) r n = refl
other_head (some abstraction) r n = refl
other_head (some (variable i)) r n = absurd (n (rank_variable i))
other_head (some (pattern i c)) r n = refl

then_more : (xs : List ℕ) (i : ℕ) (o : Option (List ℕ)) → ids_then xs (id_before (variable i) o) ≡ ids_then (xs ++ (i ∷ [])) o
then_more xs i none = refl
then_more xs i (some ys) = ap some (sym (append_assoc xs (i ∷ []) ys))

-- none where there are fewer words
few_ids : (k : ℕ) (ws : List ℕ) → length ws < k → variable_ids k ws ≡ none
unfolding variable_ids
few_ids zero ws h = absurd (omega arith)
few_ids (suc k) [] h = refl
few_ids (suc k) (w ∷ ws) h = rw (few_ids k ws (omega arith)) (before (head_of w))
  where
    before : (o : Option Head) → id_before_o o none ≡ none
    before none = refl
    before (some (symbol i c)) = refl
    before (some abstraction) = refl
    before (some (variable i)) = refl
    before (some (pattern i c)) = refl

-- ---- as many ids as were asked for
abbrev LongO : ℕ → Option (List ℕ) → Type 0
LongO k none = Unit {0}
LongO k (some ys) = length ys ≡ k

long_before : (k : ℕ) (h : Option Head) (o : Option (List ℕ)) → LongO k o → LongO (suc k) (id_before_o h o)
long_before k none o l = tt
long_before k (some (symbol i c)) o l = tt
long_before k (some abstraction) o l = tt
long_before k (some (variable i)) none l = tt
long_before k (some (variable i)) (some ys) l = ap suc l
long_before k (some (pattern i c)) o l = tt

long_ids : (k : ℕ) (ws : List ℕ) → LongO k (variable_ids k ws)
unfolding variable_ids
long_ids zero ws = refl
long_ids (suc k) [] = tt
long_ids (suc k) (w ∷ ws) = long_before k (head_of w) (variable_ids k ws) (long_ids k ws)

list_length : (k : ℕ) (ws ys : List ℕ) → list_in k ws ≡ some ys → (length ys ≡ k) × (k ≤ 4)
unfolding list_in
list_length k ws ys e = go (leb k 4) refl e
  where
    go : (b : Bool) → leb k 4 ≡ b → pick b (variable_ids k ws) none ≡ some ys → (length ys ≡ k) × (k ≤ 4)
    go true q z = (rw z at (long_ids k ws), leb-true k 4 q)
    go false q z = never (cc)

-- what is told where there is no list
pub no_list : (k : ℕ) (ws : List ℕ) → list_in k ws ≡ none → None ≡ four_of (list_in k ws)
unfolding four_of
no_list k ws e = rw e

module _ (k : ℕ) (ws : List ℕ) (few : k ≤ 4) where
  -- what was read, and what is left
  abbrev pub Sofar : ℕ → List ℕ → Type 0
  Sofar j ids = (length ids ≡ 4) × (j ≤ k) × (list_in k ws ≡ ids_then (take j ids) (variable_ids (k - j) (drop j ws))) × (drop j ids ≡ replicate (4 - j) 0)

  pub ids_start : Sofar 0 (replicate 4 0)
  unfolding list_in
  ids_start = (refl, omega arith, rw (le-leb k 4 few) (let z : k - 0 ≡ k = omega arith in rw z (begun (variable_ids k ws))), refl)
    where
      begun : (o : Option (List ℕ)) → o ≡ ids_then [] o
      begun none = refl
      begun (some ys) = refl

  left_suc : (j : ℕ) → j < k → k - j ≡ suc (k - (j + 1))
  left_suc j h = omega arith

  module _ (j : ℕ) (ids : List ℕ) (s : Sofar j ids) where
    pub ids_ended : k ≤ j → Some ids ≡ four_of (list_in k ws)
    unfolding four_of variable_ids
    ids_ended h =
        let z : k - j ≡ 0 = omega arith in
        let e : list_in k ws ≡ some (take j ids) = s.2 ∙ rw z (ap some (append-nil (take j ids))) in
        let l : length (take j ids) ≡ j = length-take-le j ids (omega (arith, s.0, s.1)) in
        let q : take j ids ++ replicate (4 - j) 0 ≡ ids = ap (λ (r : List ℕ). take j ids ++ r) (sym s.3) ∙ take-append-drop j ids in
        rw (e, l) (ap Some (sym q))

    pub ids_other : j < k → j < length ws → (rank_or 4 (head_of (get_or ws j 0)) ≡ 2 → ⊥) → list_in k ws ≡ none
    unfolding variable_ids
    ids_other h l n = s.2 ∙ rw (left_suc j h, drop-cons ws j 0 l, other_head (head_of (get_or ws j 0)) (variable_ids (k - (j + 1)) (drop (suc j) ws)) n)

    zeros_left : j < 4 → drop (suc j) ids ≡ replicate (4 - suc j) 0
    zeros_left h =
        let z : 4 - j ≡ suc (4 - suc j) = omega arith in
        ap tail (sym (drop-cons ids j 0 (omega (arith, s.0))) ∙ s.3 ∙ ap (λ (n : ℕ). replicate n 0) z)
      where
        tail : List ℕ → List ℕ
        tail [] = []
        tail (x ∷ xs) = xs

    pub ids_more : j < k → j < length ws → rank_or 4 (head_of (get_or ws j 0)) ≡ 2 → Sofar (j + 1) (set ids j (ident_of (get_or ws j 0)))
    unfolding variable_ids
    ids_more h l e = (
      simp length-set s.0,
      omega arith,
      s.2
          ∙ rw (left_suc j h, drop-cons ws j 0 l, variable_word (get_or ws j 0) e)
          (then_more (take j ids) (ident_of (get_or ws j 0)) (variable_ids (k - (j + 1)) (drop (suc j) ws))
          ∙ rw (add-one j, take-suc-set ids j (ident_of (get_or ws j 0)) (omega (arith, s.0)))),
      rw (add-one j) (drop-set-lt (suc j) ids j (ident_of (get_or ws j 0)) (omega arith) ∙ zeros_left (omega arith)),
    )

pub ids_few : (k : ℕ) (ws : List ℕ) → length ws < k → list_in k ws ≡ none
unfolding list_in
ids_few k ws h = go (leb k 4)
  where
    go : (b : Bool) → pick b (variable_ids k ws) none ≡ none
    go true = few_ids k ws h
    go false = refl

-- the words that `get` gives
pub ended_before : (k n : ℕ) → (k < 0) ⊎ (n < k) → n < k
ended_before k n (inl h) = absurd (omega arith)
ended_before k n (inr h) = h

pub taken : (k : ℕ) (ws us : List ℕ) → us ≡ slice_range ws 0 k → (j : ℕ) → j < k → get_or us j 0 ≡ get_or ws j 0
taken k ws us e j h = let z : k - 0 ≡ k = omega arith in rw (e, z) (get_or-take k ws j 0 h)

pub ids_many : (k : ℕ) (ws : List ℕ) → 4 < k → list_in k ws ≡ none
unfolding list_in
ids_many k ws h = rw (lt-leb k 4 h)

-- what was told, for a caller
pub told_list : (k : ℕ) (ws ids : List ℕ) → Some ids ≡ four_of (list_in k ws) → (list_in k ws ≡ some (take k ids)) × (length ids ≡ 4) × (k ≤ 4)
unfolding four_of
told_list k ws ids t = go (list_in k ws) refl t
  where
    go : (o : Option (List ℕ)) → list_in k ws ≡ o → Some ids ≡ four_of o → (o ≡ some (take k ids)) × (length ids ≡ 4) × (k ≤ 4)
    go none q z = never (cc)
    go (some ys) q z =
        let i : ids ≡ ys ++ replicate (4 - length ys) 0 = cc in
        let l = list_length k ws ys q in
        let n : length (ys ++ replicate (4 - length ys) 0) ≡ 4 =
        length-append ys (replicate (4 - length ys) 0) ∙ rw (length-replicate {A = ℕ} (4 - length ys) 0) (omega (arith, l.0, l.1)) in
        (ap some (sym (ap (take k) i ∙ take_at ys (replicate (4 - length ys) 0) k l.0)), ap length i ∙ n, l.1)

pub told_none : (k : ℕ) (ws : List ℕ) → None ≡ four_of (list_in k ws) → list_in k ws ≡ none
unfolding four_of
told_none k ws t = go (list_in k ws) t
  where
    go : (o : Option (List ℕ)) → None ≡ four_of o → o ≡ none
    go none z = refl
    go (some ys) z = never (cc)
