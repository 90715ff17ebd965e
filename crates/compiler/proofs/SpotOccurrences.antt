-- Each pattern variable of a row that stands has its spot, where the tables have its word, its abstractions, its number and its list; and no other spot of the row has a word of kind 3.
use mathlib.Core.Path.{◌≡◌, refl, sym, ap, ap₂, ◌∙◌}
use mathlib.Core.Bool.{Bool, true, false, ◌||◌}
use mathlib.Core.List.{List, [], ◌∷◌, ◌++◌}
use mathlib.Core.Option.{Option, none, some}
use mathlib.Core.Logic.{◌⊎◌, inl, inr}
use Prim.Native.Nat.{ℕ, zero, suc, ◌+◌, ◌*◌, ◌-◌, ◌≤◌, ◌<◌}
use native.Mathlib.Omega.{arith}
use native.Mathlib.Decide.{dec_le}
use lib.Dec.{eqb, ltb}
use lib.ListN.{length, get_or}
use borrow.Author.Tests.{eqb-true, eqb-false, eq-eqb, ne_eqb, lt-ltb, le-ltb}
use Rattle.term.specs.Word.{variable, pattern, word, pick, kind_of, count_of, ident_of}
use Rattle.term.specs.Renumber.{Listed, inside}
use Rattle.term.proofs.Laws.{never, kind_word, count_word_lem, ident_word, kind_pattern, count_pattern, ident_pattern, word_variable, pattern_table, listed_more, inside_le}
use Rattle.book.specs.Book.{Rule, rule_at}
use Rattle.fit.specs.Left.{Left, end, hole, part, GoodLeft}
use Rattle.fit.specs.Constraint.{Place, Occurrence, occurrences, first_b, first_of}
use Rattle.fit.specs.Match.{left_in}
use Rattle.fit.proofs.Laws.{accepted_good, good_hole, good_part, occurrences_end, occurrences_hole, occurrences_part, first_nothing, first_here}
use Rattle.tree.specs.Told.Covered.{numbered_as}
use Rattle.tree.specs.Path.{Uncovered, OnPath}
use Rattle.compiler.specs.Told.Tables.{first_at, is_free, is_variable, variable_spot, head_kind}
use Rattle.compiler.specs.Told.Stands.{spread, ListAt, LeftAt, BlankAt, HeadKinds, occurrences_at, RowStands, Stands}
use Rattle.compiler.proofs.TableLaws.{head_not}

-- ---- spots with their occurrences
-- this spot is that of this occurrence
abbrev pub SpotIn : ℕ → Occurrence → List (ℕ × Occurrence) → Type 0
SpotIn k o [] = ⊥
SpotIn k o (s ∷ ss) = ((s.0 ≡ k) × (s.1 ≡ o)) ⊎ SpotIn k o ss

in_split : (k : ℕ) (o : Occurrence) (ss ts : List (ℕ × Occurrence)) → SpotIn k o (ss ++ ts) → SpotIn k o ss ⊎ SpotIn k o ts
in_split k o [] ts i = inr i
in_split k o (a ∷ ss) ts (inl e) = inl (inl e)
in_split k o (a ∷ ss) ts (inr i) = go (in_split k o ss ts i)
  where
    go : SpotIn k o ss ⊎ SpotIn k o ts → SpotIn k o (a ∷ ss) ⊎ SpotIn k o ts
    go (inl x) = inl (inr x)
    go (inr x) = inr x

-- the occurrences alone
unfoldable pub named : List (ℕ × Occurrence) → List Occurrence
named [] = []
named (s ∷ ss) = s.1 ∷ named ss

pub named_join : (ss ts : List (ℕ × Occurrence)) → named (ss ++ ts) ≡ named ss ++ named ts
unfolding named
named_join [] ts = refl
named_join (a ∷ ss) ts = ap (a.1 ∷◌) (named_join ss ts)

pub named_are : (k : ℕ) (p : Place) (i d : ℕ) (x : Left) → named (occurrences_at k p i d x) ≡ occurrences p i d x
unfolding named occurrences_at
named_are k p i d end = sym (occurrences_end p i d)
named_are k p i d (hole x ys rest) = ap (record { var = x; place = i ∷ p; depth = d; list = ys } ∷◌) (named_are (k + 1 + length ys) p (suc i) d rest)
    ∙ sym (occurrences_hole p i d x ys rest)
named_are k p i d (part h kids rest) =
    named_join (occurrences_at (suc k) (i ∷ p) 0 (inside h d) kids) (occurrences_at (k + 1 + spread kids) p (suc i) d rest)
    ∙ ap₂ ◌++◌ (named_are (suc k) (i ∷ p) 0 (inside h d) kids) (named_are (k + 1 + spread kids) p (suc i) d rest)
    ∙ sym (occurrences_part p i d h kids rest)

-- ---- what the tables have at a spot
abbrev pub AllIds : List ℕ → Type 0
AllIds [] = Unit {0}
AllIds (y ∷ ys) = (y ≤ 65535) × AllIds ys

pub record SpotIs (fixed nums : List ℕ) (us : List Uncovered) (from to k : ℕ) (o : Occurrence) : Type 0 where
  pub low : from ≤ k
  pub high : k + length o.list < to
  pub words : get_or fixed k 0 ≡ word (pattern o.var (length o.list))
  pub passed : get_or fixed (4096 + k) 0 ≡ o.depth
  pub number : get_or nums k 0 ≡ numbered_as o.place us
  pub listed : ListAt fixed nums (suc k) o.list
  pub small : o.var ≤ 15
  pub few : length o.list ≤ 4
  pub ids : AllIds o.list

spot_wider : (fixed nums : List ℕ) (us : List Uncovered) (from to from' to' k : ℕ) (o : Occurrence) → from' ≤ from → to ≤ to' → SpotIs fixed nums us from to k o → SpotIs fixed nums us from' to' k o
spot_wider fixed nums us from to from' to' k o a b s =
    record { low = omega (arith, s.low); high = omega (arith, s.high); words = s.words; passed = s.passed; number = s.number; listed = s.listed; small = s.small; few = s.few; ids = s.ids }

ids_small : (d : ℕ) (ys : List ℕ) → Listed d ys → d ≤ 65535 → AllIds ys
ids_small d [] l h = tt
ids_small d (y ∷ ys) l h = let t = listed_more d y ys l in (omega (arith, t.1), ids_small d ys t.2 h)

module _ (fixed nums : List ℕ) (us : List Uncovered) (vars : ℕ) (most : vars ≤ 16) where
  pub spots_are : (k : ℕ) (p : Place) (i d : ℕ) (x : Left) → LeftAt fixed nums us k p i d x → GoodLeft vars d x → d ≤ k → k + spread x ≤ 65535
      → (q : ℕ) (o : Occurrence) → SpotIn q o (occurrences_at k p i d x) → SpotIs fixed nums us k (k + spread x) q o
  unfolding LeftAt occurrences_at spread
  spots_are k p i d end l g a b q o e = absurd e
  spots_are k p i d (hole x ys rest) l g a b q o (inl e) =
      let f = good_hole vars d x ys rest g in
      rw (← e.0, ← e.1)
      (record {
        low = omega arith;
        high = omega arith;
        words = l.0;
        passed = l.1;
        number = l.2;
        listed = l.3;
        small = omega (arith, f.0);
        few = f.1.few;
        ids = ids_small d ys f.1.listed (omega arith);
      })
  spots_are k p i d (hole x ys rest) l g a b q o (inr e) =
      spot_wider fixed nums us (k + 1 + length ys) (k + 1 + length ys + spread rest) k (k + (1 + length ys + spread rest)) q o (omega arith) (omega arith)
      (spots_are (k + 1 + length ys) p (suc i) d rest l.4 (good_hole vars d x ys rest g).2 (omega arith) (omega arith) q o e)
  spots_are k p i d (part h kids rest) l g a b q o e =
      let f = good_part vars d h kids rest g in
      go (in_split q o (occurrences_at (suc k) (i ∷ p) 0 (inside h d) kids) (occurrences_at (k + 1 + spread kids) p (suc i) d rest) e)
      (spots_are (suc k) (i ∷ p) 0 (inside h d) kids l.2 f.3 (omega (arith, inside_le h d)) (omega arith) q o)
      (spots_are (k + 1 + spread kids) p (suc i) d rest l.3 f.4 (omega arith) (omega arith) q o)
    where
      go : SpotIn q o (occurrences_at (suc k) (i ∷ p) 0 (inside h d) kids) ⊎ SpotIn q o (occurrences_at (k + 1 + spread kids) p (suc i) d rest)
          → (SpotIn q o (occurrences_at (suc k) (i ∷ p) 0 (inside h d) kids) → SpotIs fixed nums us (suc k) (suc k + spread kids) q o)
          → (SpotIn q o (occurrences_at (k + 1 + spread kids) p (suc i) d rest) → SpotIs fixed nums us (k + 1 + spread kids) (k + 1 + spread kids + spread rest) q o)
          → SpotIs fixed nums us k (k + (1 + spread kids + spread rest)) q o
      go (inl z) f f2 = spot_wider fixed nums us (suc k) (suc k + spread kids) k (k + (1 + spread kids + spread rest)) q o (omega arith) (omega arith) (f z)
      go (inr z) f f2 = spot_wider fixed nums us (k + 1 + spread kids) (k + 1 + spread kids + spread rest) k (k + (1 + spread kids + spread rest)) q o (omega arith) (omega arith) (f2 z)

-- ---- the parts of words
pub pattern_kind : (x c : ℕ) → x ≤ 15 → c ≤ 4 → kind_of (word (pattern x c)) ≡ 3
pattern_kind x c a b = kind_word (pattern x c) (pattern_table x c b a) ∙ kind_pattern x c

pub pattern_count : (x c : ℕ) → x ≤ 15 → c ≤ 4 → count_of (word (pattern x c)) ≡ c
pattern_count x c a b = count_word_lem (pattern x c) (pattern_table x c b a) ∙ count_pattern x c

pub pattern_ident : (x c : ℕ) → x ≤ 15 → c ≤ 4 → ident_of (word (pattern x c)) ≡ x
pattern_ident x c a b = ident_word (pattern x c) (pattern_table x c b a) ∙ ident_pattern x c

variable_kind : (y : ℕ) → y ≤ 65535 → kind_of (word (variable y)) ≡ 2
variable_kind y h = omega (arith, word_variable y)

pub variable_ident : (y : ℕ) → y ≤ 65535 → ident_of (word (variable y)) ≡ y
variable_ident y h = omega (arith, word_variable y)

module _ (fixed nums : List ℕ) (us : List Uncovered) (from to k : ℕ) (o : Occurrence) (s : SpotIs fixed nums us from to k o) where
  pub spot_kind : kind_of (get_or fixed k 0) ≡ 3
  spot_kind = ap kind_of s.words ∙ pattern_kind o.var (length o.list) s.small s.few

  pub spot_count : count_of (get_or fixed k 0) ≡ length o.list
  spot_count = ap count_of s.words ∙ pattern_count o.var (length o.list) s.small s.few

  pub spot_ident : ident_of (get_or fixed k 0) ≡ o.var
  spot_ident = ap ident_of s.words ∙ pattern_ident o.var (length o.list) s.small s.few

-- ---- searching the spots of a row: a test that holds of pattern variables only is asked of the occurrences, in order
-- the first spot for which a test holds, z where it holds for none
unfoldable pub first_in : (ℕ → Bool) → ℕ → List (ℕ × Occurrence) → ℕ
first_in p z [] = z
first_in p z (s ∷ ss) = pick (p s.0) s.0 (first_in p z ss)

-- it holds for some
unfoldable pub some_in : (ℕ → Bool) → List (ℕ × Occurrence) → Bool
some_in p [] = false
some_in p (s ∷ ss) = p s.0 || some_in p ss

pub first_in_join : (p : ℕ → Bool) (z : ℕ) (ss ts : List (ℕ × Occurrence)) → first_in p z (ss ++ ts) ≡ first_in p (first_in p z ts) ss
unfolding first_in
first_in_join p z [] ts = refl
first_in_join p z (s ∷ ss) ts = rw (first_in_join p z ss ts)

first_skip : (p : ℕ → Bool) (n more k : ℕ) → ((j : ℕ) → k ≤ j → j < k + n → p j ≡ false) → first_at p k (n + more) ≡ first_at p (k + n) more
unfolding first_at
first_skip p zero more k f =
    let z : k + 0 ≡ k = omega arith in
    let y : 0 + more ≡ more = omega arith in
    rw (z, y)
first_skip p (suc n) more k f =
    let z : k + suc n ≡ suc k + n = omega arith in
    let y : suc n + more ≡ suc (n + more) = omega arith in
    rw (y, f k (omega arith) (omega arith), z) (first_skip p n more (suc k) (λ j a b. f j (omega arith) (omega arith)))

first_blank : (p : ℕ → Bool) (n k : ℕ) → ((j : ℕ) → k ≤ j → j < k + n → p j ≡ false) → first_at p k n ≡ k + n
unfolding first_at
first_blank p zero k f = omega arith
first_blank p (suc n) k f =
    let z : k + suc n ≡ suc k + n = omega arith in
    rw (f k (omega arith) (omega arith), z) (first_blank p n (suc k) (λ j a b. f j (omega arith) (omega arith)))

list_kinds : (fixed nums ys : List ℕ) (k : ℕ) → ListAt fixed nums k ys → AllIds ys → (j : ℕ) → k ≤ j → j < k + length ys → kind_of (get_or fixed j 0) ≡ 3 → ⊥
unfolding ListAt
list_kinds fixed nums [] k l i j a b e = omega arith
list_kinds fixed nums (y ∷ ys) k l i j a b e = go (dec_le (suc k) j) (λ q. list_kinds fixed nums ys (suc k) l.2 i.1 j q (omega arith) e)
  where
    go : Dec (suc k ≤ j) → (suc k ≤ j → ⊥) → ⊥
    go (yes q) r = r q
    go (no q) r =
        let z : j ≡ k = omega arith in
        let w : get_or fixed k 0 ≡ word (variable y) = l.0 in
        let x : kind_of (get_or fixed k 0) ≡ 2 = ap kind_of w ∙ variable_kind y i.0 in
        let v : kind_of (get_or fixed k 0) ≡ 3 = rw z at e in
        omega (arith, sym x ∙ v)

blank_kinds : (fixed nums : List ℕ) (more k : ℕ) → BlankAt fixed nums k more → (j : ℕ) → k ≤ j → j < k + more → kind_of (get_or fixed j 0) ≡ 3 → ⊥
unfolding BlankAt
blank_kinds fixed nums zero k l j a b e = omega arith
blank_kinds fixed nums (suc more) k l j a b e = go (dec_le (suc k) j) (λ q. blank_kinds fixed nums more (suc k) l.2 j q (omega arith) e)
  where
    go : Dec (suc k ≤ j) → (suc k ≤ j → ⊥) → ⊥
    go (yes q) r = r q
    go (no q) r =
        let z : j ≡ k = omega arith in
        let v : kind_of (get_or fixed k 0) ≡ 3 = rw z at e in
        omega (arith, v, l.0)

module _ (fixed nums : List ℕ) (us : List Uncovered) (p : ℕ → Bool) (only : (j : ℕ) → (kind_of (get_or fixed j 0) ≡ 3 → ⊥) → p j ≡ false) (vars : ℕ) where
  search_left : (k : ℕ) (q : Place) (i d : ℕ) (x : Left) → LeftAt fixed nums us k q i d x → GoodLeft vars d x → HeadKinds x → d ≤ k → k + spread x ≤ 65535 → (more : ℕ)
      → first_at p k (spread x + more) ≡ first_in p (first_at p (k + spread x) more) (occurrences_at k q i d x)
  unfolding LeftAt HeadKinds occurrences_at spread first_in first_at
  search_left k q i d end l g w a b more =
      let z : k + 0 ≡ k = omega arith in
      let y : 0 + more ≡ more = omega arith in
      rw (z, y)
  search_left k q i d (hole x ys rest) l g w a b more =
      let f = good_hole vars d x ys rest g in
      let y : 1 + length ys + spread rest + more ≡ suc (length ys + (spread rest + more)) = omega arith in
      let z : suc k + length ys ≡ k + 1 + length ys = omega arith in
      let v : k + (1 + length ys + spread rest) ≡ k + 1 + length ys + spread rest = omega arith in
      let t : first_at p (suc k) (length ys + (spread rest + more)) ≡ first_at p (suc k + length ys) (spread rest + more) =
      first_skip p (length ys) (spread rest + more) (suc k) (λ j m n. only j (list_kinds fixed nums ys (suc k) l.3 (ids_small d ys f.1.listed (omega arith)) j m n)) in
      let e = search_left (k + 1 + length ys) q (suc i) d rest l.4 f.2 w.1 (omega arith) (omega arith) more in
      rw (y, t, z)
      (ap (pick (p k) k) (e ∙ ap (λ (n : ℕ). first_in p (first_at p n more) (occurrences_at (k + 1 + length ys) q (suc i) d rest)) (sym v)))
  search_left k q i d (part h kids rest) l g w a b more =
      let s = good_part vars d h kids rest g in
      let y : 1 + spread kids + spread rest + more ≡ suc (spread kids + (spread rest + more)) = omega arith in
      let z : suc k + spread kids ≡ k + 1 + spread kids = omega arith in
      let v : k + (1 + spread kids + spread rest) ≡ k + 1 + spread kids + spread rest = omega arith in
      let f : p k ≡ false = only k (λ e. head_not (get_or fixed k 0) (ap head_kind l.0 ∙ w.0) e) in
      rw (y, f, search_left (suc k) (i ∷ q) 0 (inside h d) kids l.2 s.3 w.1 (omega (arith, inside_le h d)) (omega arith) (spread rest + more))
      (rw (z, v, search_left (k + 1 + spread kids) q (suc i) d rest l.3 s.4 w.2 (omega arith) (omega arith) more)
      (sym (first_in_join p (first_at p (k + 1 + spread kids + spread rest) more) (occurrences_at (suc k) (i ∷ q) 0 (inside h d) kids) (occurrences_at (k + 1 + spread kids) q (suc i) d rest))))

-- what a search finds
pub record FoundIn (p : ℕ → Bool) (ss : List (ℕ × Occurrence)) (k : ℕ) : Type 0 where
  pub occurrence : Occurrence
  pub there : SpotIn k occurrence ss
  pub holds : p k ≡ true

pub in_found : (p : ℕ → Bool) (z : ℕ) (ss : List (ℕ × Occurrence)) → some_in p ss ≡ true → FoundIn p ss (first_in p z ss)
unfolding some_in first_in
in_found p z [] e = never (cc)
in_found p z (s ∷ ss) e = go (p s.0) refl e (in_found p z ss)
  where
    go : (b : Bool) → p s.0 ≡ b → b || some_in p ss ≡ true → (some_in p ss ≡ true → FoundIn p ss (first_in p z ss)) → FoundIn p (s ∷ ss) (pick b s.0 (first_in p z ss))
    go true q f r = record { occurrence = s.1; there = inl (refl, refl); holds = q }
    go false q f r = let t = r f in record { occurrence = t.occurrence; there = inr t.there; holds = t.holds }

pub in_nowhere : (p : ℕ → Bool) (z : ℕ) (ss : List (ℕ × Occurrence)) → some_in p ss ≡ false → first_in p z ss ≡ z
unfolding some_in first_in
in_nowhere p z [] e = refl
in_nowhere p z (s ∷ ss) e = go (p s.0) e (in_nowhere p z ss)
  where
    go : (b : Bool) → b || some_in p ss ≡ false → (some_in p ss ≡ false → first_in p z ss ≡ z) → pick b s.0 (first_in p z ss) ≡ z
    go true f r = never (cc)
    go false f r = r f

pub some_within : (p : ℕ → Bool) (z : ℕ) (ss : List (ℕ × Occurrence)) → ((k : ℕ) (o : Occurrence) → SpotIn k o ss → k < z) → ltb (first_in p z ss) z ≡ some_in p ss
some_within p z ss f = go (some_in p ss) refl
  where
    go : (b : Bool) → some_in p ss ≡ b → ltb (first_in p z ss) z ≡ b
    go true e = let t = in_found p z ss e in lt-ltb (first_in p z ss) z (f (first_in p z ss) t.occurrence t.there)
    go false e = le-ltb (first_in p z ss) z (omega (arith, in_nowhere p z ss e))

-- a search counted from a spot on
pub first_shift : (p : ℕ → Bool) (a n i : ℕ) → a + first_at (λ o. p (a + o)) i n ≡ first_at p (a + i) n
unfolding first_at
first_shift p a zero i = refl
first_shift p a (suc n) i = go (p (a + i)) (first_shift p a n (suc i))
  where
    go : (b : Bool) → a + first_at (λ o. p (a + o)) (suc i) n ≡ first_at p (a + suc i) n → a + pick b i (first_at (λ o. p (a + o)) (suc i) n) ≡ pick b (a + i) (first_at p (suc (a + i)) n)
    go true r = refl
    go false r = let z : a + suc i ≡ suc (a + i) = omega arith in rw (← z) r

-- ---- the first occurrence of a variable
abbrev pub FirstSpot : ℕ → List (ℕ × Occurrence) → Option Occurrence → ℕ → Type 0
FirstSpot z ss none k = k ≡ z
FirstSpot z ss (some f) k = SpotIn k f ss

same_both : (x y : ℕ) → eqb x y ≡ eqb y x
same_both x y = go (eqb y x) refl
  where
    go : (b : Bool) → eqb y x ≡ b → eqb x y ≡ b
    go true e = eq-eqb x y (sym (eqb-true y x e))
    go false e = ne_eqb x y (λ q. eqb-false y x e (sym q))

pub spot_variable : (fixed nums : List ℕ) (us : List Uncovered) (from to k : ℕ) (o : Occurrence) → SpotIs fixed nums us from to k o → (x : ℕ) → is_variable fixed x k ≡ eqb x o.var
spot_variable fixed nums us from to k o s x =
    rw (spot_kind fixed nums us from to k o s, spot_ident fixed nums us from to k o s) (same_both o.var x)

pub not_variable : (fixed : List ℕ) (x j : ℕ) → (kind_of (get_or fixed j 0) ≡ 3 → ⊥) → is_variable fixed x j ≡ false
not_variable fixed x j n = rw (ne_eqb (kind_of (get_or fixed j 0)) 3 n)

first_named_none : (x : ℕ) → first_of x (named []) ≡ none
unfolding named
first_named_none x = first_nothing x

first_named : (x : ℕ) (s : ℕ × Occurrence) (ss : List (ℕ × Occurrence)) → first_of x (named (s ∷ ss)) ≡ first_b (eqb x s.1.var) s.1 (first_of x (named ss))
unfolding named
first_named x s ss = first_here x s.1 (named ss)

pub variable_first : (fixed : List ℕ) (x z : ℕ) (ss : List (ℕ × Occurrence)) → ((k : ℕ) (o : Occurrence) → SpotIn k o ss → is_variable fixed x k ≡ eqb x o.var)
    → FirstSpot z ss (first_of x (named ss)) (first_in (is_variable fixed x) z ss)
unfolding first_in
variable_first fixed x z [] f = rw (first_named_none x) refl
variable_first fixed x z (s ∷ ss) f =
    rw (first_named x s ss, f s.0 s.1 (inl (refl, refl))) (go (eqb x s.1.var) (first_of x (named ss)) (variable_first fixed x z ss (λ k o i. f k o (inr i))))
  where
    go : (b : Bool) (q : Option Occurrence) → FirstSpot z ss q (first_in (is_variable fixed x) z ss) → FirstSpot z (s ∷ ss) (first_b b s.1 q) (pick b s.0 (first_in (is_variable fixed x) z ss))
    go true q r = inl (refl, refl)
    go false none r = r
    go false (some g) r = inr r

-- ---- THE LAWS of the spots of a row
module _ (book fixed nums marks : List ℕ) (count : ℕ) (path : OnPath) (s : Stands book fixed nums marks count path)
    (r : ℕ) (rule : Rule) (low : r < 64) (free : is_free marks r ≡ true) (is : rule_at book r ≡ some rule) where
  abbrev pub spots_of : List (ℕ × Occurrence)
  spots_of = occurrences_at (r * 64) [] 0 0 (left_in rule)

  row : RowStands fixed nums marks path r rule.vars (left_in rule)
  row = s.rows r rule low free is

  good : GoodLeft rule.vars 0 (left_in rule)
  good = (accepted_good book s.accepted r rule is).good

  -- what the tables have at the spot of an occurrence
  pub row_spot : (k : ℕ) (o : Occurrence) → SpotIn k o spots_of → SpotIs fixed nums path.uncovered (r * 64) (r * 64 + 64) k o
  row_spot k o i =
      spot_wider fixed nums path.uncovered (r * 64) (r * 64 + spread (left_in rule)) (r * 64) (r * 64 + 64) k o (omega arith) (omega (arith, row.short))
      (spots_are fixed nums path.uncovered rule.vars row.few (r * 64) [] 0 0 (left_in rule) row.here good (omega arith) (omega (arith, row.short)) k o i)

  pub row_named : named spots_of ≡ occurrences [] 0 0 (left_in rule)
  row_named = named_are (r * 64) [] 0 0 (left_in rule)

  -- a test that holds of pattern variables only
  pub row_search : (p : ℕ → Bool) → ((j : ℕ) → (kind_of (get_or fixed j 0) ≡ 3 → ⊥) → p j ≡ false) → first_at p (r * 64) 64 ≡ first_in p (r * 64 + 64) spots_of
  row_search p only =
      let n = 64 - spread (left_in rule) in
      let y : 64 ≡ spread (left_in rule) + n = omega (arith, row.short) in
      let x : r * 64 + spread (left_in rule) + n ≡ r * 64 + 64 = omega (arith, row.short) in
      let t : first_at p (r * 64 + spread (left_in rule)) n ≡ r * 64 + 64 =
      first_blank p n (r * 64 + spread (left_in rule)) (λ j a b. only j (blank_kinds fixed nums n (r * 64 + spread (left_in rule)) (row.blank n (sym y)) j a b)) ∙ x in
      ap (first_at p (r * 64)) y ∙ search_left fixed nums path.uncovered p only rule.vars (r * 64) [] 0 0 (left_in rule) row.here good row.kinds (omega arith) (omega (arith, row.short)) n
      ∙ ap (λ z. first_in p z spots_of) t

  -- the spot of the first occurrence of a variable
  pub row_variable : (x : ℕ) → FirstSpot (r * 64 + 64) spots_of (first_of x (occurrences [] 0 0 (left_in rule))) (first_at (is_variable fixed x) (r * 64) 64)
  row_variable x =
      rw (row_search (is_variable fixed x) (not_variable fixed x), ← row_named)
      (variable_first fixed x (r * 64 + 64) spots_of (λ k o i. spot_variable fixed nums path.uncovered (r * 64) (r * 64 + 64) k o (row_spot k o i) x))

  pub row_variable_spot : (x : ℕ) (f : Occurrence) → first_of x (occurrences [] 0 0 (left_in rule)) ≡ some f → SpotIn (variable_spot fixed r x) f spots_of
  unfolding variable_spot
  row_variable_spot x f e =
      let z : r * 64 + 0 ≡ r * 64 = omega arith in
      let n = first_at (λ o. is_variable fixed x (r * 64 + o)) 0 64 in
      let q : r * 64 + n ≡ first_at (is_variable fixed x) (r * 64) 64 = first_shift (is_variable fixed x) (r * 64) 64 0 ∙ ap (λ k. first_at (is_variable fixed x) k 64) z in
      let i : SpotIn (r * 64 + n) f spots_of = rw q (rw e at (row_variable x)) in
      rw (lt-ltb n 64 (omega (arith, (row_spot (r * 64 + n) f i).high))) i
