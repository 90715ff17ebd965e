-- The address that a node takes: one law for each way through the code, over the words from the node's list on.
use mathlib.Core.Path.{◌≡◌, refl, ap, ◌∙◌}
use mathlib.Core.Bool.{true, false}
use mathlib.Core.List.{List, [], ◌∷◌, ◌++◌}
use Prim.Native.Nat.{ℕ, zero, suc, ◌+◌, ◌*◌, ◌-◌, ◌/◌, ◌≤◌, ◌<◌}
use native.Mathlib.Omega.{arith}
use lib.ListN.{length, get_or, take, drop, length-drop}
use lib.Seq.{get_or-drop, drop-drop, length-take-le}
use borrow.Author.Tests.{lt-ltb, le-ltb, le-leb, lt-leb, eq-eqb, ne_eqb}
use Rattle.std.specs.Prelude.{Option, Some, None}
use Rattle.term.specs.Row.{Row}
use Rattle.term.specs.Renumber.{good_list}
use Rattle.term.specs.Part.{has_body, same_body}
use Rattle.walk.specs.Walk.{case_of}
use Rattle.walk.specs.Told.Taken.{CaseTold, closed_taken, same_taken}

-- a part of the table, as it is lent
pub lent : (table : List ℕ) (from k : ℕ) → take (from + k - from) (drop from table) ≡ take k (drop from table)
lent table from k = let z : from + k - from ≡ k = omega arith in rw z

pub lent_next : (table : List ℕ) (from k : ℕ) → take (from + k + k - (from + k)) (drop (from + k) table) ≡ take k (drop k (drop from table))
lent_next table from k = let z : from + k + k - (from + k) ≡ k = omega arith in rw (z, drop-drop k from table)

-- ---- cases, a pair of words each: what is left gives the answer
cases_front : (f : Row) (n : ℕ) (ws : List ℕ) → case_of f n (take (2 * n) ws) ≡ case_of f n ws
unfolding case_of
cases_front f zero ws = refl
cases_front f (suc n) [] = let z : 2 * suc n ≡ suc (suc (2 * n)) = omega arith in rw z
cases_front f (suc n) (a ∷ []) = let z : 2 * suc n ≡ suc (suc (2 * n)) = omega arith in rw z
cases_front f (suc n) (a ∷ b ∷ ws) = let z : 2 * suc n ≡ suc (suc (2 * n)) = omega arith in rw (z, cases_front f n ws)

pub pairs_all : (w : ℕ) (table : List ℕ) (from cases : ℕ) → from + 2 * cases ≤ length table → (ws : List ℕ) → ws ≡ take (from + 2 * cases - from) (drop from table)
    → (r : Option ℕ) → CaseTold w (length ws / 2) ws r → CaseTold w cases (drop from table) r
pairs_all w table from cases h ws e r t f i =
    let q : ws ≡ take (2 * cases) (drop from table) = e ∙ lent table from (2 * cases) in
    let l : length ws ≡ 2 * cases = ap length q ∙ length-take-le (2 * cases) (drop from table) (omega (arith, h, length-drop from table)) in
    let n : length ws / 2 ≡ cases = omega (arith, l) in
    rw n at (t f i) ∙ ap (case_of f cases) q ∙ cases_front f cases (drop from table)

pub pairs_none : (w : ℕ) (ws : List ℕ) → length ws < 2 → CaseTold w (length ws / 2) ws None
unfolding case_of
pairs_none w ws l f e = let z : length ws / 2 ≡ 0 = omega arith in rw z

module _ (w : ℕ) (ws after : List ℕ) where
  pub pair_here : (x : List ℕ) → ws ≡ x ++ after → length x ≡ 2 → get_or x 0 0 ≡ w → CaseTold w (length ws / 2) ws (Some (get_or x 1 0))
  unfolding case_of
  pair_here [] e l h f i = absurd (omega arith)
  pair_here (a ∷ []) e l h f i = absurd (omega arith)
  pair_here (a ∷ b ∷ []) e l h f i = let z : length ws / 2 ≡ suc (length after / 2) = omega (arith, ap length e) in rw (z, e, i a, eq-eqb _ _ h)
  pair_here (a ∷ b ∷ c ∷ x) e l h f i = absurd (omega arith)

  pub pair_later : (x : List ℕ) → ws ≡ x ++ after → length x ≡ 2 → (get_or x 0 0 ≡ w → ⊥) → (r : Option ℕ) → CaseTold w (length after / 2) after r → CaseTold w (length ws / 2) ws r
  unfolding case_of
  pair_later [] e l h r t f i = absurd (omega arith)
  pair_later (a ∷ []) e l h r t f i = absurd (omega arith)
  pair_later (a ∷ b ∷ []) e l h r t f i = let z : length ws / 2 ≡ suc (length after / 2) = omega (arith, ap length e) in rw (z, e, i a, ne_eqb _ _ h) (t f i)
  pair_later (a ∷ b ∷ c ∷ x) e l h r t f i = absurd (omega arith)

-- ---- Closed
module _ (d : ℕ) (part table : List ℕ) (from k : ℕ) where
  pub closed_over : 4 < k → None ≡ closed_taken d part k (drop from table)
  unfolding closed_taken
  closed_over h = rw (lt-leb k 4 h)

  module _ (few : k ≤ 4) where
    pub closed_past : length table - from ≤ k + 1 → None ≡ closed_taken d part k (drop from table)
    unfolding closed_taken
    closed_past h = rw (le-leb k 4 few, length-drop from table, le-ltb (k + 1) (length table - from) h)

    module _ (inside : k + 1 < length table - from) where
      pub closed_list : false ≡ good_list d (take (from + k - from) (drop from table)) → None ≡ closed_taken d part k (drop from table)
      unfolding closed_taken
      closed_list g = rw (le-leb k 4 few, length-drop from table, lt-ltb (k + 1) (length table - from) inside, ← lent table from k, ← g)

      module _ (good : true ≡ good_list d (take (from + k - from) (drop from table))) where
        pub closed_yes_lem : true ≡ has_body d (take (from + k - from) (drop from table)) part → Some (get_or table (from + k) 0) ≡ closed_taken d part k (drop from table)
        unfolding closed_taken
        closed_yes_lem b =
            rw (le-leb k 4 few, length-drop from table, lt-ltb (k + 1) (length table - from) inside, ← lent table from k, ← good, ← b, get_or-drop from table k 0)

        pub closed_no_lem : false ≡ has_body d (take (from + k - from) (drop from table)) part → Some (get_or table (from + k + 1) 0) ≡ closed_taken d part k (drop from table)
        unfolding closed_taken
        closed_no_lem b =
            let z : from + (k + 1) ≡ from + k + 1 = omega arith in
            rw (le-leb k 4 few, length-drop from table, lt-ltb (k + 1) (length table - from) inside, ← lent table from k, ← good, ← b, get_or-drop from table (k + 1) 0, z)

-- ---- Same
module _ (d : ℕ) (part : List ℕ) (c : ℕ) (other table : List ℕ) (from k : ℕ) where
  pub same_over : 4 < k → None ≡ same_taken d part c other k (drop from table)
  unfolding same_taken
  same_over h = rw (lt-leb k 4 h)

  module _ (few : k ≤ 4) where
    pub same_past : length table - from ≤ k + k + 1 → None ≡ same_taken d part c other k (drop from table)
    unfolding same_taken
    same_past h = rw (le-leb k 4 few, length-drop from table, le-ltb (k + k + 1) (length table - from) h)

    module _ (inside : k + k + 1 < length table - from) where
      pub same_list_lem : false ≡ good_list d (take (from + k - from) (drop from table)) → None ≡ same_taken d part c other k (drop from table)
      unfolding same_taken
      same_list_lem g = rw (le-leb k 4 few, length-drop from table, lt-ltb (k + k + 1) (length table - from) inside, ← lent table from k, ← g)

      module _ (good : true ≡ good_list d (take (from + k - from) (drop from table))) where
        pub same_next_list : false ≡ good_list c (take (from + k + k - (from + k)) (drop (from + k) table)) → None ≡ same_taken d part c other k (drop from table)
        unfolding same_taken
        same_next_list g =
            rw (le-leb k 4 few, length-drop from table, lt-ltb (k + k + 1) (length table - from) inside, ← lent_next table from k, ← lent table from k, ← good, ← g)

        module _ (well : true ≡ good_list c (take (from + k + k - (from + k)) (drop (from + k) table))) where
          pub same_yes_lem : true ≡ same_body d (take (from + k - from) (drop from table)) part c (take (from + k + k - (from + k)) (drop (from + k) table)) other
              → Some (get_or table (from + k + k) 0) ≡ same_taken d part c other k (drop from table)
          unfolding same_taken
          same_yes_lem b =
              let z : from + (k + k) ≡ from + k + k = omega arith in
              rw (le-leb k 4 few, length-drop from table, lt-ltb (k + k + 1) (length table - from) inside, ← lent_next table from k, ← lent table from k, ← good, ← well, ← b, get_or-drop from table (k + k) 0, z)

          pub same_no_lem : false ≡ same_body d (take (from + k - from) (drop from table)) part c (take (from + k + k - (from + k)) (drop (from + k) table)) other
              → Some (get_or table (from + k + k + 1) 0) ≡ same_taken d part c other k (drop from table)
          unfolding same_taken
          same_no_lem b =
              let z : from + (k + k + 1) ≡ from + k + k + 1 = omega arith in
              rw (le-leb k 4 few, length-drop from table, lt-ltb (k + k + 1) (length table - from) inside, ← lent_next table from k, ← lent table from k, ← good, ← well, ← b, get_or-drop from table (k + k + 1) 0, z)
