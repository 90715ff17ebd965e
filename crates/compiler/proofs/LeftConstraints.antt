-- The constraints left in a row, read from the tables: its occurrences in order, those whose closedness is left, then those whose equality is left.
use mathlib.Core.Path.{◌≡◌, refl, sym, ap, ap₂, ◌∙◌}
use mathlib.Core.Bool.{Bool, true, false, ◌&&◌, not}
use mathlib.Core.List.{List, [], ◌∷◌, ◌++◌, append_assoc, append-nil}
use mathlib.Core.Option.{Option, none, some}
use mathlib.Core.Logic.{inl, inr}
use Prim.Native.Nat.{ℕ, zero, suc, ◌+◌, ◌*◌, ◌-◌, ◌/◌, ◌%◌, ◌≤◌, ◌<◌}
use native.Mathlib.Omega.{arith}
use lib.Dec.{eqb}
use lib.ListN.{length, get_or}
use borrow.Author.Tests.{eq-eqb, ne_eqb, lt-ltb, le-ltb}
use Rattle.term.specs.Word.{pick, kind_of}
use Rattle.term.specs.Renumber.{inside}
use Rattle.term.proofs.Laws.{never}
use Rattle.book.specs.Book.{Rule, rule_at}
use Rattle.fit.specs.Left.{Left, end, hole, part}
use Rattle.fit.specs.Constraint.{Place, Occurrence, occurrences, first_b, first_of, Constraint, closed_at, same_at, closeds, same_then, sames}
use Rattle.fit.specs.Match.{left_in}
use Rattle.fit.proofs.Laws.{first_nothing, first_here, closeds_none, closeds_more, sames_none, sames_more, constraints_are}
use Rattle.tree.specs.Path.{Uncovered, OnPath}
use Rattle.tree.specs.Rows.{has, unstruck, constraints_left}
use Rattle.compiler.specs.Told.Tables.{first_at, is_free, is_variable, first_spot, is_closed, is_same, is_constraint}
use Rattle.compiler.specs.Told.Stands.{spread, occurrences_at, SameStruck, StruckAt, Stands}
use Rattle.tree.proofs.Laws.{unstruck_none, unstruck_more, unstruck_join, left_are, and_false, and_true}
use Rattle.compiler.proofs.Sweeps.{first_false}
use Rattle.compiler.proofs.RowsLeft.{row_of_rule}
use Rattle.compiler.proofs.SpotOccurrences.{SpotIn, named, named_join, SpotIs, spot_kind, spot_count, spot_ident, first_in, first_in_join, FirstSpot, spot_variable, not_variable, variable_first, row_spot, row_named, row_search, row_variable}

-- the constraints of the spots for which a test holds
unfoldable pub left_by : (Occurrence → Constraint) → (ℕ → Bool) → List (ℕ × Occurrence) → List Constraint
left_by name p [] = []
left_by name p (s ∷ ss) = pick (p s.0) (name s.1 ∷ left_by name p ss) (left_by name p ss)

abbrev pub first_or : Occurrence → Option Occurrence → Occurrence
first_or o none = o
first_or o (some f) = f

-- equality with the first occurrence of the variable
abbrev pub same_of : List Occurrence → Occurrence → Constraint
same_of os o = same_at (first_or o (first_of o.var os)) o

-- a spot's closedness, or its equality, is a constraint that is left
abbrev pub closed_left : List ℕ → List ℕ → ℕ → Bool
closed_left fixed marks k = is_free marks (4160 + k) && is_closed fixed k

abbrev pub same_left : List ℕ → List ℕ → ℕ → Bool
same_left fixed marks k = is_free marks (8256 + k) && is_same fixed k

-- ---- closedness
closeds_left : (marks : List ℕ) (held : List Constraint) (p : ℕ → Bool) (ss : List (ℕ × Occurrence)) (es : List Occurrence) → StruckAt marks held es ss
    → ((k : ℕ) (o : Occurrence) → SpotIn k o ss → p k ≡ is_free marks (4160 + k) && not (eqb (length o.list) o.depth))
    → unstruck held (closeds (named ss)) ≡ left_by closed_at p ss
unfolding StruckAt named left_by
closeds_left marks held p [] es f e = ap (unstruck held) closeds_none ∙ unstruck_none held
closeds_left marks held p (s ∷ ss) es f e =
    ap (unstruck held) (closeds_more s.1 (named ss))
    ∙ rw (e s.0 s.1 (inl (refl, refl)))
    (go (eqb (length s.1.list) s.1.depth) f.0 (closeds_left marks held p ss (es ++ (s.1 ∷ [])) f.2 (λ k o i. e k o (inr i))))
  where
    go : (b : Bool) → (b ≡ false → is_free marks (4160 + s.0) ≡ not (has (closed_at s.1) held)) → unstruck held (closeds (named ss)) ≡ left_by closed_at p ss
        → unstruck held (pick b (closeds (named ss)) (closed_at s.1 ∷ closeds (named ss))) ≡ pick (is_free marks (4160 + s.0) && not b) (closed_at s.1 ∷ left_by closed_at p ss) (left_by closed_at p ss)
    go true f i = rw (and_false (is_free marks (4160 + s.0))) i
    go false f i = unstruck_more held (closed_at s.1) (closeds (named ss)) ∙ rw (f refl, and_true (not (has (closed_at s.1) held)), i) (last (has (closed_at s.1) held))
      where
        last : (b : Bool) → pick b (left_by closed_at p ss) (closed_at s.1 ∷ left_by closed_at p ss) ≡ pick (not b) (closed_at s.1 ∷ left_by closed_at p ss) (left_by closed_at p ss)
        last true = refl
        last false = refl

-- ---- equality
-- whether the equality of a spot is a constraint, by the occurrences before it
abbrev pub LaterAt : List ℕ → List Occurrence → ℕ → Occurrence → Option Occurrence → Type 0
LaterAt fixed os k o none = is_same fixed k ≡ false
LaterAt fixed os k o (some f) = (is_same fixed k ≡ true) × (first_of o.var os ≡ some f)

abbrev pub Laters : List ℕ → List Occurrence → List Occurrence → List (ℕ × Occurrence) → Type 0
Laters fixed os es [] = Unit {0}
Laters fixed os es (s ∷ ss) = LaterAt fixed os s.0 s.1 (first_of s.1.var es) × Laters fixed os (es ++ (s.1 ∷ [])) ss

sames_left : (fixed marks : List ℕ) (held : List Constraint) (p : ℕ → Bool) (os : List Occurrence) (ss : List (ℕ × Occurrence)) (es : List Occurrence) → StruckAt marks held es ss → Laters fixed os es ss
    → ((k : ℕ) (o : Occurrence) → SpotIn k o ss → p k ≡ is_free marks (8256 + k) && is_same fixed k)
    → unstruck held (sames es (named ss)) ≡ left_by (same_of os) p ss
unfolding StruckAt named left_by
sames_left fixed marks held p os [] es f l e = ap (unstruck held) (sames_none es) ∙ unstruck_none held
sames_left fixed marks held p os (s ∷ ss) es f l e =
    ap (unstruck held) (sames_more es s.1 (named ss))
    ∙ rw (e s.0 s.1 (inl (refl, refl)))
    (go (first_of s.1.var es) f.1 l.0 (sames_left fixed marks held p os ss (es ++ (s.1 ∷ [])) f.2 l.1 (λ k o i. e k o (inr i))))
  where
    go : (q : Option Occurrence) → SameStruck marks held s.0 q s.1 → LaterAt fixed os s.0 s.1 q → unstruck held (sames (es ++ (s.1 ∷ [])) (named ss)) ≡ left_by (same_of os) p ss
        → unstruck held (same_then q s.1 (sames (es ++ (s.1 ∷ [])) (named ss))) ≡ pick (is_free marks (8256 + s.0) && is_same fixed s.0) (same_of os s.1 ∷ left_by (same_of os) p ss) (left_by (same_of os) p ss)
    go none f l i = rw (l, and_false (is_free marks (8256 + s.0))) i
    go (some g) f l i =
        unstruck_more held (same_at g s.1) (sames (es ++ (s.1 ∷ [])) (named ss))
        ∙ rw (l.0, f, l.1, and_true (not (has (same_at g s.1) held)), i) (last (has (same_at g s.1) held))
      where
        last : (b : Bool) → pick b (left_by (same_of os) p ss) (same_at g s.1 ∷ left_by (same_of os) p ss) ≡ pick (not b) (same_at g s.1 ∷ left_by (same_of os) p ss) (left_by (same_of os) p ss)
        last true = refl
        last false = refl

-- ---- spots ascend
abbrev Ascends : ℕ → List (ℕ × Occurrence) → Type 0
Ascends low [] = Unit {0}
Ascends low (s ∷ ss) = (low ≤ s.0) × Ascends (suc s.0) ss

ascends_from : (low from : ℕ) (ss : List (ℕ × Occurrence)) → low ≤ from → Ascends from ss → Ascends low ss
ascends_from low from [] h a = tt
ascends_from low from (s ∷ ss) h a = (omega (arith, a.0), a.1)

spots_ascend : (k : ℕ) (p : Place) (i d : ℕ) (x : Left) (ts : List (ℕ × Occurrence)) → Ascends (k + spread x) ts → Ascends k (occurrences_at k p i d x ++ ts)
unfolding occurrences_at spread
spots_ascend k p i d end ts a = ascends_from k (k + 0) ts (omega arith) a
spots_ascend k p i d (hole x ys rest) ts a = (
  omega arith,
  ascends_from (suc k) (k + 1 + length ys) (occurrences_at (k + 1 + length ys) p (suc i) d rest ++ ts) (omega arith)
      (spots_ascend (k + 1 + length ys) p (suc i) d rest ts (ascends_from (k + 1 + length ys + spread rest) (k + (1 + length ys + spread rest)) ts (omega arith) a)),
)
spots_ascend k p i d (part h kids rest) ts a =
    let z = append_assoc (occurrences_at (suc k) (i ∷ p) 0 (inside h d) kids) (occurrences_at (k + 1 + spread kids) p (suc i) d rest) ts in
    rw z
    (ascends_from k (suc k) (occurrences_at (suc k) (i ∷ p) 0 (inside h d) kids ++ (occurrences_at (k + 1 + spread kids) p (suc i) d rest ++ ts)) (omega arith)
    (spots_ascend (suc k) (i ∷ p) 0 (inside h d) kids (occurrences_at (k + 1 + spread kids) p (suc i) d rest ++ ts)
    (ascends_from (suc k + spread kids) (k + 1 + spread kids) (occurrences_at (k + 1 + spread kids) p (suc i) d rest ++ ts) (omega arith)
    (spots_ascend (k + 1 + spread kids) p (suc i) d rest ts (ascends_from (k + 1 + spread kids + spread rest) (k + (1 + spread kids + spread rest)) ts (omega arith) a)))))

ascends_low : (low : ℕ) (ss ts : List (ℕ × Occurrence)) (s : ℕ × Occurrence) → Ascends low (ss ++ (s ∷ ts)) → low ≤ s.0
ascends_low low [] ts s a = a.0
ascends_low low (t ∷ ss) ts s a = omega (arith, a.0, ascends_low (suc t.0) ss ts s a.1)

before_below : (low : ℕ) (ss ts : List (ℕ × Occurrence)) (s : ℕ × Occurrence) → Ascends low (ss ++ (s ∷ ts)) → (k : ℕ) (o : Occurrence) → SpotIn k o ss → k < s.0
before_below low [] ts s a k o i = absurd i
before_below low (t ∷ ss) ts s a k o (inl e) = omega (arith, e.0, ascends_low (suc t.0) ss ts s a.1)
before_below low (t ∷ ss) ts s a k o (inr i) = before_below (suc t.0) ss ts s a.1 k o i

-- ---- the tests of the tables
picked_not : (b : Bool) → pick b false true ≡ not b
picked_not true = refl
picked_not false = refl

pub closed_constraint : (fixed : List ℕ) (k : ℕ) → k < 4096 → is_constraint fixed (4160 + k) ≡ is_closed fixed k
unfolding is_constraint
closed_constraint fixed k h = let z : 4160 + k - 4160 ≡ k = omega arith in rw (lt-ltb (4160 + k) 8256 (omega arith), z)

pub same_constraint_lem : (fixed : List ℕ) (k : ℕ) → is_constraint fixed (8256 + k) ≡ is_same fixed k
unfolding is_constraint
same_constraint_lem fixed k = let z : 8256 + k - 8256 ≡ k = omega arith in rw (le-ltb (8256 + k) 8256 (omega arith), z)

pub closed_is : (fixed nums : List ℕ) (us : List Uncovered) (from to k : ℕ) (o : Occurrence) → SpotIs fixed nums us from to k o → is_closed fixed k ≡ not (eqb (length o.list) o.depth)
closed_is fixed nums us from to k o s =
    rw (spot_kind fixed nums us from to k o s, spot_count fixed nums us from to k o s, s.passed) (picked_not (eqb (length o.list) o.depth))

first_stop : (p : ℕ → Bool) (m n i : ℕ) → p (i + n) ≡ true → first_at p i n ≡ first_at p i (n + suc m)
unfolding first_at
first_stop p m zero i e =
    let z : i + 0 ≡ i = omega arith in
    let y : 0 + suc m ≡ suc m = omega arith in
    let t : p i ≡ true = rw z at e in
    rw (y, t)
first_stop p m (suc n) i e =
    let z : i + suc n ≡ suc i + n = omega arith in
    let y : suc n + suc m ≡ suc (n + suc m) = omega arith in
    let t : p (suc i + n) ≡ true = rw z at e in
    rw (y, first_stop p m n (suc i) t)

first_earlier : (x : ℕ) (f : Occurrence) (os qs : List Occurrence) → first_of x os ≡ some f → first_of x (os ++ qs) ≡ some f
first_earlier x f [] qs e = let z : none ≡ some f = sym (first_nothing x) ∙ e in never (cc)
first_earlier x f (o ∷ os) qs e = first_here x o (os ++ qs) ∙ go (eqb x o.var) (sym (first_here x o os) ∙ e) (first_earlier x f os qs)
  where
    go : (b : Bool) → first_b b o (first_of x os) ≡ some f → (first_of x os ≡ some f → first_of x (os ++ qs) ≡ some f) → first_b b o (first_of x (os ++ qs)) ≡ some f
    go true q r = q
    go false q r = r q

first_in_found : (p : ℕ → Bool) (z : ℕ) (s : ℕ × Occurrence) (ss : List (ℕ × Occurrence)) → p s.0 ≡ true → first_in p z (s ∷ ss) ≡ s.0
unfolding first_in
first_in_found p z s ss e = rw e

in_earlier : (k : ℕ) (o : Occurrence) (ss ts : List (ℕ × Occurrence)) → SpotIn k o ss → SpotIn k o (ss ++ ts)
in_earlier k o [] ts i = absurd i
in_earlier k o (s ∷ ss) ts (inl e) = inl e
in_earlier k o (s ∷ ss) ts (inr i) = inr (in_earlier k o ss ts i)

in_here : (s : ℕ × Occurrence) (ss ts : List (ℕ × Occurrence)) → SpotIn s.0 s.1 (ss ++ (s ∷ ts))
in_here s [] ts = inl (refl, refl)
in_here s (t ∷ ss) ts = inr (in_here s ss ts)

named_last : (s : ℕ × Occurrence) (ss : List (ℕ × Occurrence)) → named (ss ++ (s ∷ [])) ≡ named ss ++ (s.1 ∷ [])
unfolding named
named_last s [] = refl
named_last s (t ∷ ss) = ap (t.1 ∷◌) (named_last s ss)

-- ---- THE LAW of the constraints left in a row
module _ (book fixed nums marks : List ℕ) (count : ℕ) (path : OnPath) (s : Stands book fixed nums marks count path)
    (r : ℕ) (rule : Rule) (low : r < 64) (free : is_free marks r ≡ true) (is : rule_at book r ≡ some rule) where
  abbrev spots : List (ℕ × Occurrence)
  spots = occurrences_at (r * 64) [] 0 0 (left_in rule)

  abbrev pub all_of : List Occurrence
  all_of = occurrences [] 0 0 (left_in rule)

  spot : (k : ℕ) (o : Occurrence) → SpotIn k o spots → SpotIs fixed nums path.uncovered (r * 64) (r * 64 + 64) k o
  spot = row_spot book fixed nums marks count path s r rule low free is

  listed : named spots ≡ all_of
  listed = row_named book fixed nums marks count path s r rule low free is

  is_variable_lem : (k : ℕ) (o : Occurrence) → SpotIn k o spots → (x : ℕ) → is_variable fixed x k ≡ eqb x o.var
  is_variable_lem k o i = spot_variable fixed nums path.uncovered (r * 64) (r * 64 + 64) k o (spot k o i)

  pub first_spot_is : (k : ℕ) (o : Occurrence) → SpotIn k o spots → first_spot fixed k ≡ first_at (is_variable fixed o.var) (r * 64) 64
  unfolding first_spot
  first_spot_is k o i =
      let t = spot k o i in
      let a : k / 64 * 64 ≡ r * 64 = omega (arith, t.low, t.high) in
      let b : k % 64 ≡ k - r * 64 = omega (arith, t.low, t.high) in
      let c : r * 64 + (k - r * 64) ≡ k = omega (arith, t.low) in
      let d : k - r * 64 + suc (63 - (k - r * 64)) ≡ 64 = omega (arith, t.low, t.high) in
      let v : is_variable fixed o.var (r * 64 + (k - r * 64)) ≡ true = rw c (is_variable_lem k o i o.var ∙ eq-eqb o.var o.var refl) in
      rw (spot_ident fixed nums path.uncovered (r * 64) (r * 64 + 64) k o t, a, b)
      (first_stop (is_variable fixed o.var) (63 - (k - r * 64)) (k - r * 64) (r * 64) v ∙ ap (first_at (is_variable fixed o.var) (r * 64)) d)

  later_at : (before : List (ℕ × Occurrence)) (t : ℕ × Occurrence) (ts : List (ℕ × Occurrence)) → before ++ (t ∷ ts) ≡ spots → LaterAt fixed all_of t.0 t.1 (first_of t.1.var (named before))
  later_at before t ts e =
      let p = is_variable fixed t.1.var in
      let i : SpotIn t.0 t.1 spots = rw e at (in_here t before ts) in
      let v : p t.0 ≡ true = is_variable_lem t.0 t.1 i t.1.var ∙ eq-eqb t.1.var t.1.var refl in
      let f : first_spot fixed t.0 ≡ first_in p t.0 before =
      first_spot_is t.0 t.1 i ∙ row_search book fixed nums marks count path s r rule low free is p (not_variable fixed t.1.var) ∙ ap (first_in p (r * 64 + 64)) (sym e)
      ∙ first_in_join p (r * 64 + 64) before (t ∷ ts) ∙ ap (λ z. first_in p z before) (first_in_found p (r * 64 + 64) t ts v) in
      let g = variable_first fixed t.1.var t.0 before (λ k o j. is_variable_lem k o (rw e at (in_earlier k o before (t ∷ ts) j)) t.1.var) in
      go (first_of t.1.var (named before)) refl (spot_kind fixed nums path.uncovered (r * 64) (r * 64 + 64) t.0 t.1 (spot t.0 t.1 i)) (rw f g)
    where
      below : (k : ℕ) (o : Occurrence) → SpotIn k o before → k < t.0
      below = before_below (r * 64) before ts t (rw (← e) at (ascending))
        where
          ascending : Ascends (r * 64) spots
          ascending = rw (append-nil spots) at (spots_ascend (r * 64) [] 0 0 (left_in rule) [] tt)

      go : (q : Option Occurrence) → first_of t.1.var (named before) ≡ q → kind_of (get_or fixed t.0 0) ≡ 3 → FirstSpot t.0 before q (first_spot fixed t.0) → LaterAt fixed all_of t.0 t.1 q
      go none z w f = rw (w, eq-eqb (first_spot fixed t.0) t.0 f)
      go (some g) z w f =
          let l = below (first_spot fixed t.0) g f in (
            rw (w, ne_eqb (first_spot fixed t.0) t.0 (λ x. omega (arith, x, l))),
            ap (first_of t.1.var) (sym listed ∙ ap named (sym e) ∙ named_join before (t ∷ ts)) ∙ first_earlier t.1.var g (named before) (named (t ∷ ts)) z,
          )

  laters : (before ts : List (ℕ × Occurrence)) → before ++ ts ≡ spots → Laters fixed all_of (named before) ts
  laters before [] e = tt
  laters before (t ∷ ts) e =
      (later_at before t ts e, rw (named_last t before) at (laters (before ++ (t ∷ [])) ts (append_assoc before (t ∷ []) ts ∙ e)))

  no_names : named [] ≡ []
  unfolding named
  no_names = refl

  pub row_laters : Laters fixed all_of [] spots
  row_laters = rw no_names at (laters [] spots refl)

  -- the first occurrence of a spot's variable, and its spot
  pub first_some : (k : ℕ) (o : Occurrence) → SpotIn k o spots → (f : Occurrence) × (first_of o.var all_of ≡ some f)
  first_some k o i = go (first_of o.var all_of) refl (row_variable book fixed nums marks count path s r rule low free is o.var)
    where
      go : (q : Option Occurrence) → first_of o.var all_of ≡ q → FirstSpot (r * 64 + 64) spots q (first_at (is_variable fixed o.var) (r * 64) 64) → (f : Occurrence) × (q ≡ some f)
      go none e z =
          let t = spot k o i in
          let x : true ≡ false = sym (is_variable_lem k o i o.var ∙ eq-eqb o.var o.var refl) ∙ first_false (is_variable fixed o.var) 64 (r * 64) (omega (arith, z)) k t.low (omega (arith, t.high)) in
          never (cc)
      go (some f) e z = (f, refl)

  pub first_there : (k : ℕ) (o f : Occurrence) → SpotIn k o spots → first_of o.var all_of ≡ some f → SpotIn (first_spot fixed k) f spots
  first_there k o f i e = rw (first_spot_is k o i) (rw e at (row_variable book fixed nums marks count path s r rule low free is o.var))

  pub constraints_left_lem : constraints_left path (row_of_rule marks r rule)
      ≡ left_by closed_at (closed_left fixed marks) spots ++ left_by (same_of all_of) (same_left fixed marks) spots
  constraints_left_lem =
      let t = (s.rows r rule low free is).struck in
      left_are path (row_of_rule marks r rule)
      ∙ ap (unstruck path.held) (constraints_are (left_in rule))
      ∙ unstruck_join path.held (closeds all_of) (sames [] all_of)
      ∙ ap₂ ◌++◌
      (ap (λ os. unstruck path.held (closeds os)) (sym listed) ∙ closeds_left marks path.held (closed_left fixed marks) spots [] t (λ k o i. ap (is_free marks (4160 + k) &&◌) (closed_is fixed nums path.uncovered (r * 64) (r * 64 + 64) k o (spot k o i))))
      (ap (λ os. unstruck path.held (sames [] os)) (sym listed)
      ∙ sames_left fixed marks path.held (same_left fixed marks) all_of spots [] t row_laters (λ k o i. refl))
