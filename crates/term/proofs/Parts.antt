-- Parts of terms: where one ends, and that each offset of a term begins one.
use mathlib.Core.Path.{◌≡◌, refl, sym, ap, ◌∙◌}
use mathlib.Core.Bool.{Bool, true, false}
use mathlib.Core.List.{List, [], ◌∷◌, ◌++◌, append_assoc, append-nil}
use Prim.Native.Nat.{ℕ, zero, suc, ◌+◌, ◌-◌, ◌≤◌, ◌<◌}
use native.Mathlib.Omega.{arith}
use native.Mathlib.Nat.{suc-add, zero-add}
use native.Mathlib.Numerals.{add-one}
use lib.ListN.{length, drop, get_or, length-append, length-drop, drop_of_length-le}
use lib.Seq.{drop-cons, drop-append-add}
use lib.Dec.{ltb}
use borrow.Author.Tests.{ltb-true, ltb-false}
use Rattle.term.specs.Word.{count_of, word}
use Rattle.term.specs.Row.{Row, nothing, node, width, words, nesting, ranks, Formed}
use Rattle.term.specs.Check.{IsTerm}
use Rattle.term.specs.Told.Walk.{Stands}
use Rattle.term.specs.Part.{past, part_end}
use Rattle.term.proofs.Words.{count_word_lem}

-- ---- where a part ends
pub past_none : (ws : List ℕ) → past 0 ws ≡ 0
unfolding past
past_none [] = refl
past_none (w ∷ ws) = refl

-- every tree has a word of its own
past_all : (n : ℕ) (ws : List ℕ) → length ws < n → past n ws ≡ length ws
unfolding past
past_all n [] h = refl
past_all zero (w ∷ ws) h = absurd (omega arith)
past_all (suc n) (w ∷ ws) h = ap suc (past_all (count_of w + n) ws (omega arith))

past_joined : (f : Row) → Formed f → (n : ℕ) (ws : List ℕ) → past (width f + n) (words f ++ ws) ≡ length (words f) + past n ws
unfolding past width words Formed
past_joined nothing p n ws = rw (zero-add n, zero-add (past n ws))
past_joined (node h kids rest) p n ws =
    rw (suc-add (width rest) n, append_assoc (words kids) (words rest) ws, count_word_lem h p.0, ← p.1)
    (rw (past_joined kids p.2 (width rest + n) (words rest ++ ws), past_joined rest p.3 n ws)
    (omega (arith, length-append (words kids) (words rest))))

-- the words of a row are passed whole
pub past_words : (f : Row) → Formed f → (ws : List ℕ) → past (width f) (words f ++ ws) ≡ length (words f)
past_words f p ws =
    let e : width f + 0 ≡ width f = omega arith in
    let q : past (width f) (words f ++ ws) ≡ length (words f) + past 0 ws = rw e at (past_joined f p 0 ws) in
    omega (arith, q, past_none ws)

-- what the loop of part_end has left to pass gives the answer
module _ (ws : List ℕ) (at n : ℕ) (rest : part_end ws ≡ at + past n (drop at ws)) where
  pub passed_all : at ≤ length ws → length ws - at < n → length ws ≡ part_end ws
  passed_all l h =
      let q = past_all n (drop at ws) (rw length-drop (omega arith)) in
      omega (arith, rest, q, length-drop at ws)

  pub passed_none : n ≡ 0 → at ≡ part_end ws
  passed_none z = sym (rest ∙ rw (z, past_none (drop at ws)) (omega arith))

  pub passed_end : at ≡ length ws → length ws ≡ part_end ws
  unfolding past
  passed_end h = let e : part_end ws ≡ at + 0 = rw (drop_of_length-le ws {i = at} (omega arith)) at rest in omega arith

  pub passed_one : at < length ws → (n ≡ 0 → ⊥) → part_end ws ≡ at + 1 + past (count_of (get_or ws at 0) + (n - 1)) (drop (at + 1) ws)
  unfolding past
  passed_one h z = rest ∙ one n z
    where
      one : (n : ℕ) → (n ≡ 0 → ⊥) → at + past n (drop at ws) ≡ at + 1 + past (count_of (get_or ws at 0) + (n - 1)) (drop (at + 1) ws)
      one zero z = absurd (z refl)
      one (suc m) z =
          let p : suc m - 1 ≡ m = omega arith in
          rw (p, add-one at, drop-cons ws at 0 h) (omega arith)

pub passed_first : (ws : List ℕ) → part_end ws ≡ 0 + past 1 (drop 0 ws)
unfolding part_end
passed_first ws = omega arith

-- ---- every offset of a term begins a part of it
abbrev Begins : ℕ → List ℕ → ℕ → Type 0
Begins n ws at = (g : Row) × (after : List ℕ) × Stands n 1 ws at g after

moved : (n : ℕ) (ws vs : List ℕ) (at to : ℕ) → drop to vs ≡ drop at ws → Begins n ws at → Begins n vs to
moved n ws vs at to e b =
    let s = b.2 in
    (b.0, b.1, record { formed = s.formed; few = s.few; low = s.low; wide = s.wide; same = e ∙ s.same })

-- an offset after the first word is one of the children's or one to their right
after_first : (n w : ℕ) (xs ys more : List ℕ) (i : ℕ) → (i < length xs → Begins n (xs ++ (ys ++ more)) i) → (length xs ≤ i → Begins n (ys ++ more) (i - length xs))
    → Begins n (w ∷ ((xs ++ ys) ++ more)) (suc i)
after_first n w xs ys more i below beside = go (ltb i (length xs)) refl
  where
    go : (b : Bool) → ltb i (length xs) ≡ b → Begins n (w ∷ ((xs ++ ys) ++ more)) (suc i)
    go true e =
        moved n (xs ++ (ys ++ more)) (w ∷ ((xs ++ ys) ++ more)) i (suc i) (ap (drop i) (append_assoc xs ys more)) (below (ltb-true _ _ e))
    go false e =
        let l : length xs ≤ i = ltb-false i (length xs) e in
        let k : length xs + (i - length xs) ≡ i = omega arith in
        moved n (ys ++ more) (w ∷ ((xs ++ ys) ++ more)) (i - length xs) (suc i)
        (ap (drop i) (append_assoc xs ys more) ∙ rw k at (drop-append-add xs (ys ++ more) (i - length xs))) (beside l)

row_part : (n : ℕ) (f : Row) → Formed f → ranks f ≤ 2 → nesting f ≤ n → (at : ℕ) (more : List ℕ) → at < length (words f) → Begins n (words f ++ more) at
unfolding words width Formed nesting ranks
row_part n nothing p k l at more h = absurd (omega arith)
row_part n (node x kids rest) p k l zero more h = (
  node x kids nothing,
  words rest ++ more,
  record {
    formed = (p.0, p.1, p.2, tt);
    few = omega arith;
    low = omega arith;
    wide = refl;
    same = ap (word x ∷◌) (append_assoc (words kids) (words rest) more ∙ ap (λ (l : List ℕ). l ++ (words rest ++ more)) (sym (append-nil (words kids))));
  },
)
row_part n (node x kids rest) p k l (suc i) more h =
    after_first n (word x) (words kids) (words rest) more i
    (λ s. row_part n kids p.2 (omega arith) (omega arith) i (words rest ++ more) s)
    (λ s. row_part n rest p.3 (omega arith) (omega arith) (i - length (words kids)) more (omega (arith, length-append (words kids) (words rest))))

-- a part of a term is a term
pub part_begins : (ws : List ℕ) → IsTerm ws → (at : ℕ) → at < length ws → (f : Row) × (after : List ℕ) × Stands 64 1 (drop at ws) 0 f after
part_begins ws i at h =
    let e : words i.tree ++ [] ≡ ws = append-nil (words i.tree) ∙ sym i.same in
    moved 64 (words i.tree ++ []) (drop at ws) at 0 (ap (drop at) (sym e))
    (row_part 64 i.tree i.formed i.few i.low at [] (rw i.same at h))

pub stands_term : (ws : List ℕ) (f : Row) (after : List ℕ) → length (words f) ≤ 4096 → Stands 64 1 ws 0 f after → IsTerm (words f)
stands_term ws f after l s = record { tree = f; one = s.wide; formed = s.formed; few = s.few; low = s.low; short = l; same = refl }

-- what stands in words that are few enough for a term is
pub stands_short : (n count : ℕ) (ws : List ℕ) (at : ℕ) (f : Row) (after : List ℕ) → Stands n count ws at f after → length ws ≤ 4096 → length (words f) ≤ 4096
stands_short n count ws at f after s l = omega (arith, ap length s.same, length-append (words f) after, length-drop at ws)

-- where a part that stands ends
pub part_ends : (n : ℕ) (ws : List ℕ) (f : Row) (after : List ℕ) → Stands n 1 ws 0 f after → part_end ws ≡ length (words f)
unfolding part_end
part_ends n ws f after s = rw s.same (rw s.wide at (past_words f s.formed after))
