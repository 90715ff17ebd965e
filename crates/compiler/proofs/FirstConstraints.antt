-- The first constraint that the tables find in a row is the first of the constraints left in it: closedness first, then equality, each in the order of the spots.
use mathlib.Core.Path.{◌≡◌, refl, sym, ap, ◌∙◌}
use mathlib.Core.Bool.{Bool, true, false, ◌||◌}
use mathlib.Core.List.{List, [], ◌∷◌, ◌++◌}
use mathlib.Core.Option.{some}
use mathlib.Core.Logic.{◌⊎◌, inl, inr}
use Prim.Native.Nat.{ℕ, zero, suc, ◌+◌, ◌*◌, ◌≤◌, ◌<◌}
use native.Mathlib.Omega.{arith}
use lib.Dec.{ltb}
use lib.ListN.{get_or}
use borrow.Author.Tests.{eq-eqb, ne_eqb, lt-ltb, le-ltb, ltb-true, ltb-false}
use Rattle.term.specs.Word.{pick, kind_of}
use Rattle.term.proofs.Laws.{never}
use Rattle.book.specs.Book.{Rule, rule_at}
use Rattle.fit.specs.Constraint.{Occurrence, occurrences, Constraint, closed_at, same_at}
use Rattle.fit.specs.Match.{left_in}
use Rattle.tree.specs.Path.{OnPath}
use Rattle.tree.specs.Rows.{constraints_left}
use Rattle.compiler.specs.Told.Tables.{first_at, is_free, first_spot, is_left, first_from, first_constraint}
use Rattle.compiler.specs.Told.Stands.{occurrences_at, Stands}
use Rattle.tree.proofs.Laws.{and_false}
use Rattle.compiler.proofs.RowsLeft.{row_of_rule}
use Rattle.compiler.proofs.SpotOccurrences.{SpotIn, first_in, some_in, in_found, in_nowhere, some_within, row_spot, row_search}
use Rattle.compiler.proofs.LeftConstraints.{left_by, same_of, closed_left, same_left, closed_constraint, same_constraint_lem, constraints_left_lem, first_some, first_there}

-- a search counted from a spot on
search_at : (p q : ℕ → Bool) (a n i : ℕ) → ((j : ℕ) → i ≤ j → j < i + n → p j ≡ q (a + j)) → a + first_at p i n ≡ first_at q (a + i) n
unfolding first_at
search_at p q a zero i e = refl
search_at p q a (suc n) i e = rw (e i (omega arith) (omega arith)) (go (q (a + i)) (search_at p q a n (suc i) (λ j l m. e j (omega arith) (omega arith))))
  where
    go : (b : Bool) → a + first_at p (suc i) n ≡ first_at q (a + suc i) n → a + pick b i (first_at p (suc i) n) ≡ pick b (a + i) (first_at q (suc (a + i)) n)
    go true r = refl
    go false r = let z : a + suc i ≡ suc (a + i) = omega arith in rw (← z) r

-- ---- the first of the constraints that a test leaves
record LeftFirst (name : Occurrence → Constraint) (p : ℕ → Bool) (ss : List (ℕ × Occurrence)) (k : ℕ) : Type 0 where
  occurrence : Occurrence
  rest : List Constraint
  there : SpotIn k occurrence ss
  holds : p k ≡ true
  left : left_by name p ss ≡ name occurrence ∷ rest

left_step : (name : Occurrence → Constraint) (p : ℕ → Bool) (s : ℕ × Occurrence) (ss : List (ℕ × Occurrence)) → left_by name p (s ∷ ss) ≡ pick (p s.0) (name s.1 ∷ left_by name p ss) (left_by name p ss)
unfolding left_by
left_step name p s ss = refl

left_found : (name : Occurrence → Constraint) (p : ℕ → Bool) (z : ℕ) (ss : List (ℕ × Occurrence)) → some_in p ss ≡ true → LeftFirst name p ss (first_in p z ss)
unfolding some_in first_in
left_found name p z [] e = never (cc)
left_found name p z (s ∷ ss) e = go (p s.0) refl e (left_found name p z ss)
  where
    go : (b : Bool) → p s.0 ≡ b → b || some_in p ss ≡ true → (some_in p ss ≡ true → LeftFirst name p ss (first_in p z ss)) → LeftFirst name p (s ∷ ss) (pick b s.0 (first_in p z ss))
    go true q f r = record { occurrence = s.1; rest = left_by name p ss; there = inl (refl, refl); holds = q; left = left_step name p s ss ∙ rw q }
    go false q f r = let t = r f in record { occurrence = t.occurrence; rest = t.rest; there = inr t.there; holds = t.holds; left = left_step name p s ss ∙ rw q t.left }

left_nowhere : (name : Occurrence → Constraint) (p : ℕ → Bool) (ss : List (ℕ × Occurrence)) → some_in p ss ≡ false → left_by name p ss ≡ []
unfolding some_in left_by
left_nowhere name p [] e = refl
left_nowhere name p (s ∷ ss) e = go (p s.0) e (left_nowhere name p ss)
  where
    go : (b : Bool) → b || some_in p ss ≡ false → (some_in p ss ≡ false → left_by name p ss ≡ []) → pick b (name s.1 ∷ left_by name p ss) (left_by name p ss) ≡ []
    go true f r = never (cc)
    go false f r = r f

pub not_closed : (fixed marks : List ℕ) (j : ℕ) → (kind_of (get_or fixed j 0) ≡ 3 → ⊥) → closed_left fixed marks j ≡ false
not_closed fixed marks j n = rw (ne_eqb (kind_of (get_or fixed j 0)) 3 n) (and_false (is_free marks (4160 + j)))

pub not_same : (fixed marks : List ℕ) (j : ℕ) → (kind_of (get_or fixed j 0) ≡ 3 → ⊥) → same_left fixed marks j ≡ false
not_same fixed marks j n = rw (ne_eqb (kind_of (get_or fixed j 0)) 3 n) (and_false (is_free marks (8256 + j)))

module _ (book fixed nums marks : List ℕ) (count : ℕ) (path : OnPath) (s : Stands book fixed nums marks count path)
    (r : ℕ) (rule : Rule) (low : r < 64) (free : is_free marks r ≡ true) (is : rule_at book r ≡ some rule) where
  abbrev spots : List (ℕ × Occurrence)
  spots = occurrences_at (r * 64) [] 0 0 (left_in rule)

  within : (k : ℕ) (o : Occurrence) → SpotIn k o spots → k < r * 64 + 64
  within k o i = omega (arith, (row_spot book fixed nums marks count path s r rule low free is k o i).high)

  at_row : (p q : ℕ → Bool) → ((j : ℕ) → (kind_of (get_or fixed j 0) ≡ 3 → ⊥) → q j ≡ false) → ((j : ℕ) → j < 64 → p j ≡ q (r * 64 + j)) → r * 64 + first_at p 0 64 ≡ first_in q (r * 64 + 64) spots
  at_row p q only e =
      let z : r * 64 + 0 ≡ r * 64 = omega arith in
      search_at p q (r * 64) 64 0 (λ j a b. e j (omega arith)) ∙ ap (λ k. first_at q k 64) z ∙ row_search book fixed nums marks count path s r rule low free is q only

  -- whether the test of a row's spots holds for some
  pub row_some : (p q : ℕ → Bool) → ((j : ℕ) → (kind_of (get_or fixed j 0) ≡ 3 → ⊥) → q j ≡ false) → ((j : ℕ) → j < 64 → p j ≡ q (r * 64 + j)) → ltb (first_at p 0 64) 64 ≡ some_in q spots
  row_some p q only e =
      let t = at_row p q only e in
      let w = some_within q (r * 64 + 64) spots within in
      both (ltb (first_at p 0 64) 64) refl (rw (← t) at w)
    where
      both : (b : Bool) → ltb (first_at p 0 64) 64 ≡ b → ltb (r * 64 + first_at p 0 64) (r * 64 + 64) ≡ some_in q spots → b ≡ some_in q spots
      both true f g = sym (lt-ltb (r * 64 + first_at p 0 64) (r * 64 + 64) (omega (arith, ltb-true (first_at p 0 64) 64 f))) ∙ g
      both false f g = sym (le-ltb (r * 64 + first_at p 0 64) (r * 64 + 64) (omega (arith, ltb-false (first_at p 0 64) 64 f))) ∙ g

  module _ (from : ℕ) (q : ℕ → Bool) (only : (j : ℕ) → (kind_of (get_or fixed j 0) ≡ 3 → ⊥) → q j ≡ false) (agrees : (j : ℕ) → j < 64 → is_left fixed marks (from + r * 64 + j) ≡ q (r * 64 + j)) where
    from_none : some_in q spots ≡ false → first_from fixed marks from r ≡ 0
    unfolding first_from
    from_none e =
        let t = at_row (λ j. is_left fixed marks (from + r * 64 + j)) q only agrees in
        rw (le-ltb (first_at (λ j. is_left fixed marks (from + r * 64 + j)) 0 64) 64 (omega (arith, t, in_nowhere q (r * 64 + 64) spots e)))

    from_some : some_in q spots ≡ true → first_from fixed marks from r ≡ from + first_in q (r * 64 + 64) spots
    unfolding first_from
    from_some e =
        let t = at_row (λ j. is_left fixed marks (from + r * 64 + j)) q only agrees in
        let f = in_found q (r * 64 + 64) spots e in
        let b = within (first_in q (r * 64 + 64) spots) f.occurrence f.there in
        rw (lt-ltb (first_at (λ j. is_left fixed marks (from + r * 64 + j)) 0 64) 64 (omega (arith, t, b))) (omega (arith, t))

  pub closed_agrees : (j : ℕ) → j < 64 → is_left fixed marks (4160 + r * 64 + j) ≡ closed_left fixed marks (r * 64 + j)
  closed_agrees j h =
      let z : 4160 + r * 64 + j ≡ 4160 + (r * 64 + j) = omega arith in
      rw (z, closed_constraint fixed (r * 64 + j) (omega arith))

  pub same_agrees : (j : ℕ) → j < 64 → is_left fixed marks (8256 + r * 64 + j) ≡ same_left fixed marks (r * 64 + j)
  same_agrees j h =
      let z : 8256 + r * 64 + j ≡ 8256 + (r * 64 + j) = omega arith in
      rw (z, same_constraint_lem fixed (r * 64 + j))

  -- the first constraint left is closedness
  pub record ClosedFirst : Type 0 where
    pub spot : ℕ
    pub occurrence : Occurrence
    pub rest : List Constraint
    pub there : SpotIn spot occurrence spots
    pub holds : closed_left fixed marks spot ≡ true
    pub name : first_constraint fixed marks r ≡ 4160 + spot
    pub left : constraints_left path (row_of_rule marks r rule) ≡ closed_at occurrence ∷ rest

  -- it is equality
  pub record SameFirst : Type 0 where
    pub spot : ℕ
    pub first : Occurrence
    pub occurrence : Occurrence
    pub rest : List Constraint
    pub there : SpotIn spot occurrence spots
    pub earlier : SpotIn (first_spot fixed spot) first spots
    pub holds : same_left fixed marks spot ≡ true
    pub name : first_constraint fixed marks r ≡ 8256 + spot
    pub left : constraints_left path (row_of_rule marks r rule) ≡ same_at first occurrence ∷ rest

  -- there is none
  abbrev pub NoneLeft : Type 0
  NoneLeft = (first_constraint fixed marks r ≡ 0) × (constraints_left path (row_of_rule marks r rule) ≡ [])

  all_left : constraints_left path (row_of_rule marks r rule) ≡ left_by closed_at (closed_left fixed marks) spots ++ left_by (same_of (occurrences [] 0 0 (left_in rule))) (same_left fixed marks) spots
  all_left = constraints_left_lem book fixed nums marks count path s r rule low free is

  closed_first : some_in (closed_left fixed marks) spots ≡ true → ClosedFirst
  unfolding first_constraint
  closed_first e =
      let f = from_some 4160 (closed_left fixed marks) (not_closed fixed marks) closed_agrees e in
      let t = left_found closed_at (closed_left fixed marks) (r * 64 + 64) spots e in
      record {
        spot = first_in (closed_left fixed marks) (r * 64 + 64) spots;
        occurrence = t.occurrence;
        rest = t.rest ++ left_by (same_of (occurrences [] 0 0 (left_in rule))) (same_left fixed marks) spots;
        there = t.there;
        holds = t.holds;
        name = rw (ne_eqb (first_from fixed marks 4160 r) 0 (λ z. omega (arith, z, f))) f;
        left = all_left ∙ ap (◌++ left_by (same_of (occurrences [] 0 0 (left_in rule))) (same_left fixed marks) spots) t.left;
      }

  same_first : some_in (closed_left fixed marks) spots ≡ false → some_in (same_left fixed marks) spots ≡ true → SameFirst
  unfolding first_constraint
  same_first n e =
      let a = from_none 4160 (closed_left fixed marks) (not_closed fixed marks) closed_agrees n in
      let f = from_some 8256 (same_left fixed marks) (not_same fixed marks) same_agrees e in
      let t = left_found (same_of (occurrences [] 0 0 (left_in rule))) (same_left fixed marks) (r * 64 + 64) spots e in
      let k = first_in (same_left fixed marks) (r * 64 + 64) spots in
      let g = first_some book fixed nums marks count path s r rule low free is k t.occurrence t.there in
      record {
        spot = k;
        first = g.0;
        occurrence = t.occurrence;
        rest = t.rest;
        there = t.there;
        earlier = first_there book fixed nums marks count path s r rule low free is k t.occurrence g.0 t.there g.1;
        holds = t.holds;
        name = rw (eq-eqb (first_from fixed marks 4160 r) 0 a) f;
        left = all_left ∙ rw (left_nowhere closed_at (closed_left fixed marks) spots n) (t.left ∙ rw g.1);
      }

  none_first : some_in (closed_left fixed marks) spots ≡ false → some_in (same_left fixed marks) spots ≡ false → NoneLeft
  unfolding first_constraint
  none_first n e =
      let a = from_none 4160 (closed_left fixed marks) (not_closed fixed marks) closed_agrees n in
      let b = from_none 8256 (same_left fixed marks) (not_same fixed marks) same_agrees e in
      (rw (eq-eqb (first_from fixed marks 4160 r) 0 a) b, all_left ∙ rw (left_nowhere closed_at (closed_left fixed marks) spots n) (left_nowhere (same_of (occurrences [] 0 0 (left_in rule))) (same_left fixed marks) spots e))

  -- THE LAW of the first constraint
  pub first_is_lem : NoneLeft ⊎ (ClosedFirst ⊎ SameFirst)
  first_is_lem = go (some_in (closed_left fixed marks) spots) refl (some_in (same_left fixed marks) spots) refl
    where
      go : (a : Bool) → some_in (closed_left fixed marks) spots ≡ a → (b : Bool) → some_in (same_left fixed marks) spots ≡ b → NoneLeft ⊎ (ClosedFirst ⊎ SameFirst)
      go true e b f = inr (inl (closed_first e))
      go false e true f = inr (inr (same_first e f))
      go false e false f = inl (none_first e f)

  pub none_left : first_constraint fixed marks r ≡ 0 → constraints_left path (row_of_rule marks r rule) ≡ []
  none_left z = go first_is_lem
    where
      go : NoneLeft ⊎ (ClosedFirst ⊎ SameFirst) → constraints_left path (row_of_rule marks r rule) ≡ []
      go (inl n) = n.1
      go (inr (inl f)) = absurd (omega (arith, z, f.name))
      go (inr (inr f)) = absurd (omega (arith, z, f.name))
