-- The searches over the words of a side, as the definitions go over them word by word.
use mathlib.Core.Path.{◌≡◌, refl, sym, ◌∙◌}
use mathlib.Core.Bool.{Bool, true, false, ◌&&◌}
use mathlib.Core.List.{List, [], ◌∷◌}
use Rattle.std.specs.List.{list_all, find}
use Rattle.std.proofs.Common.{Option, Some, None, cond}
use Prim.Native.Nat.{ℕ, zero, suc, ◌+◌, ◌-◌}
use native.Mathlib.Omega.{arith}
use lib.Dec.{ltb, eqb}
use borrow.Author.Tests.{le-leb, lt-leb}
use Rattle.term.specs.Word.{pick, kind_of, count_of, ident_of}
use Rattle.book.specs.Rule.{counted, one_count, all_occur, no_other}

-- ---- the first occurrence, as `find` seeks it
abbrev pub count_after : Option ℕ → ℕ
count_after None = 0
count_after (Some w) = count_of w + 1

pub count_found : (i : ℕ) (ws : List ℕ) → count_after (find (λ w. eqb (kind_of w) 3 && eqb (ident_of w) i) ws) ≡ counted i ws
unfolding counted
count_found i [] = refl
count_found i (w ∷ ws) = go (eqb (kind_of w) 3 && eqb (ident_of w) i) (count_found i ws)
  where
    go : (b : Bool) → count_after (find (λ v. eqb (kind_of v) 3 && eqb (ident_of v) i) ws) ≡ counted i ws
        → count_after (cond b (Some w) (find (λ v. eqb (kind_of v) 3 && eqb (ident_of v) i) ws)) ≡ pick b (suc (count_of w)) (counted i ws)
    go true e = omega arith
    go false e = e

-- ---- each word, as `all` asks it
one_step_lem : (k b rest : Bool) → pick k (b && rest) rest ≡ pick k b true && rest
one_step_lem true b rest = refl
one_step_lem false b rest = refl

pub one_count_all : (left ws : List ℕ) → one_count left ws ≡ list_all (λ w. pick (eqb (kind_of w) 3) (eqb (counted (ident_of w) left) (suc (count_of w))) true) ws
unfolding one_count
one_count_all left [] = refl
one_count_all left (w ∷ ws) = rw (← one_count_all left ws) (one_step_lem (eqb (kind_of w) 3) _ _)

pub no_other_all : (vars : ℕ) (ws : List ℕ) → no_other vars ws ≡ list_all (λ w. pick (eqb (kind_of w) 3) (ltb (ident_of w) vars) true) ws
unfolding no_other
no_other_all vars [] = refl
no_other_all vars (w ∷ ws) = rw (← no_other_all vars ws) (one_step_lem (eqb (kind_of w) 3) _ _)

-- ---- each variable, from the last down
module _ (vars : ℕ) (left : List ℕ) where
  pub occur_absent : (x : ℕ) → all_occur vars left ≡ all_occur x left → (x ≡ 0 → ⊥) → counted (x - 1) left ≡ 0 → false ≡ all_occur vars left
  unfolding all_occur
  occur_absent zero rest z e = absurd (z refl)
  occur_absent (suc x) rest z e =
      let p : suc x - 1 ≡ x = omega arith in
      sym (rest ∙ rw (lt-leb 1 (counted x left) (omega (arith, rw p at e))))

  pub occur_next : (x : ℕ) → all_occur vars left ≡ all_occur x left → (x ≡ 0 → ⊥) → (counted (x - 1) left ≡ 0 → ⊥) → all_occur vars left ≡ all_occur (x - 1) left
  unfolding all_occur
  occur_next zero rest z e = absurd (z refl)
  occur_next (suc x) rest z e =
      let p : suc x - 1 ≡ x = omega arith in
      rest ∙ rw (p, le-leb 1 (counted x left) (let q : counted x left ≡ 0 → ⊥ = rw p at e in omega arith))

  pub occur_all : (x : ℕ) → all_occur vars left ≡ all_occur x left → x ≡ 0 → true ≡ all_occur vars left
  unfolding all_occur
  occur_all x rest z = sym (rest ∙ rw z)
