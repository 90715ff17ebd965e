-- What reading rules tells, for each way through the code: each line tells what is left, and the words so far, before those of the rules left, are the rules.
use mathlib.Core.Path.{◌≡◌, refl, sym, ap, ◌∙◌}
use mathlib.Core.List.{List, [], ◌∷◌, ◌++◌, append_assoc, append-nil}
use Prim.Native.Nat.{ℕ, suc, ◌+◌, ◌-◌, ◌*◌, ◌≤◌, ◌<◌}
use native.Mathlib.Omega.{arith}
use lib.ListN.{length, drop, set, length-append}
use lib.Seq.{sets, set_comm}
use borrow.Author.Tests.{eq-eqb, ne_eqb}
use Rattle.std.specs.Prelude.{Some, None, Result, Ok, Err}
use Rattle.text.specs.BookText.{rule_key, left_key, right_key, Rules, rules_are, bad_at, rule_read, behind, then_rules, rules_read}
use Rattle.text.specs.Mail.{any_rule_read}
use Rattle.text.specs.Told.BookTold.{NumberLineTold, SideTold, sides_read, vars_read, VarsTold, RulesTold}
use Rattle.text.proofs.BookLines.{side_line_is}
use Rattle.text.proofs.Wrote.{sets_append}

-- ---- the lines `rule=` and `vars=`
module _ (number : ℕ) (bs : List ℕ) (at : ℕ) where
  pub no_rule : NumberLineTold rule_key 63 bs at None → rule_read number (drop at bs) ≡ bad_at (4 * number + 3)
  unfolding rule_read
  no_rule t = rw t

  pub any_no_rule : NumberLineTold rule_key 65535 bs at None → any_rule_read number (drop at bs) ≡ bad_at (4 * number + 3)
  unfolding any_rule_read
  any_no_rule t = rw t

  module _ (k a : ℕ) where
    pub other_rule : NumberLineTold rule_key 63 bs at (Some (k, a)) → (k ≡ number → ⊥) → rule_read number (drop at bs) ≡ bad_at (4 * number + 3)
    unfolding rule_read
    other_rule t e = rw (t.0, ne_eqb k number e)

    -- where the line `rule=` is read, its reading goes on with `vars=`
    vars_left : (o : List ℕ → Rules) → o (drop at bs) ≡ vars_read number (drop a bs) → (r : Result (ℕ × ℕ) ℕ) → VarsTold (vars_read number) number bs a r → VarsTold o number bs at r
    vars_left o e (Ok (v, next)) t = (e ∙ t.0, t.1)
    vars_left o e (Err line) t = e ∙ t

    pub rule_left : NumberLineTold rule_key 63 bs at (Some (k, a)) → k ≡ number → (r : Result (ℕ × ℕ) ℕ) → VarsTold (vars_read number) number bs a r → VarsTold (rule_read number) number bs at r
    unfolding rule_read
    rule_left t e r u = vars_left (rule_read number) (rw (t.0, eq-eqb k number e)) r u

    pub any_left : NumberLineTold rule_key 65535 bs at (Some (k, a)) → (r : Result (ℕ × ℕ) ℕ) → VarsTold (vars_read number) number bs a r → VarsTold (any_rule_read number) number bs at r
    unfolding any_rule_read
    any_left t r u = vars_left (any_rule_read number) (rw t.0) r u

-- ---- the header of a rule, before sides that lie behind it
set_past : (vs l : List ℕ) (i j a : ℕ) → j < i → set (sets l i vs) j a ≡ sets (set l j a) i vs
set_past [] l i j a h = refl
set_past (v ∷ vs) l i j a h = set_past vs (set l i v) (suc i) j a (omega arith) ∙ rw (set_comm l i j v a (λ e. omega arith))

header : (out ws : List ℕ) (to v l r : ℕ) → set (set (set (sets out (to + 3) ws) to v) (to + 1) l) (to + 2) r ≡ sets out to (v ∷ l ∷ r ∷ ws)
header out ws to v l r =
    let p : to + 1 ≡ suc to = omega arith in
    let q : to + 2 ≡ suc (suc to) = omega arith in
    let s : to + 3 ≡ suc (suc (suc to)) = omega arith in
    rw (
      p,
      q,
      s,
      set_past ws out (suc (suc (suc to))) to v (omega arith),
      set_past ws (set out to v) (suc (suc (suc to))) (suc to) l (omega arith),
      set_past ws (set (set out to v) (suc to) l) (suc (suc (suc to))) (suc (suc to)) r (omega arith),
    )

-- ---- the lines `left=` and `right=`
module _ (number v : ℕ) (bs : List ℕ) (at to : ℕ) (out : List ℕ) where
  module _ (l a : ℕ) (mid : List ℕ) (t : SideTold left_key bs at (to + 3) out mid (Some (l, a))) where
    pub left_few : l ≤ 64
    left_few = omega (arith, (side_line_is left_key (drop at bs) t.0 (drop a bs) t.1).1, t.2)

    module _ (r next : ℕ) (done : List ℕ) (u : SideTold right_key bs a (to + 3 + l) mid done (Some (r, next))) where
      pub right_few : r ≤ 64
      right_few = omega (arith, (side_line_is right_key (drop a bs) u.0 (drop next bs) u.1).1, u.2)

      both_lie : done ≡ sets out (to + 3) (t.0 ++ u.0)
      both_lie = u.3 ∙ rw (t.3, ← t.2) (sym (sets_append t.0 u.0 out (to + 3)))

      pub sides_there : (last : List ℕ) → last ≡ set (set (set done to v) (to + 1) l) (to + 2) r
          → RulesTold (sides_read number v) 131 bs at to out last (Ok (3 + l + r, next))
      sides_there last e = (
        v ∷ length t.0 ∷ length u.0 ∷ (t.0 ++ u.0),
        rw (t.1, u.1),
        simp length-append (omega (arith, t.2, u.2)),
        e ∙ rw both_lie (header out (t.0 ++ u.0) to v l r ∙ ap (λ (x : ℕ). sets out to (v ∷ x ∷ r ∷ (t.0 ++ u.0))) (sym t.2) ∙ ap (λ (x : ℕ). sets out to (v ∷ length t.0 ∷ x ∷ (t.0 ++ u.0))) (sym u.2)),
        u.4,
        omega (arith, left_few, right_few),
      )

-- ---- rules one after the other
behind_behind : (ws vs : List ℕ) (o : Rules) → behind ws (behind vs o) ≡ behind (ws ++ vs) o
behind_behind ws vs (rules_are us rest) = rw append_assoc
behind_behind ws vs (bad_at at) = refl

behind_nothing : (o : Rules) → behind [] o ≡ o
behind_nothing (rules_are us rest) = refl
behind_nothing (bad_at at) = refl

module _ (count : ℕ) (bs : List ℕ) (at : ℕ) where
  -- the rules below this number have these words, and the others stand from a on
  abbrev pub Left : List ℕ → ℕ → ℕ → Type 0
  Left ws number a = rules_read 0 count (drop at bs) ≡ behind ws (rules_read number (count - number) (drop a bs))

  pub begun : Left [] 0 at
  begun = let z : count - 0 ≡ count = omega arith in rw z (sym (behind_nothing (rules_read 0 count (drop at bs))))

  module _ (ws : List ℕ) (number a : ℕ) (left : Left ws number a) where
    pub rules_end : count ≤ number → rules_read 0 count (drop at bs) ≡ rules_are ws (drop a bs)
    unfolding rules_read
    rules_end h = let z : count - number ≡ 0 = omega arith in left ∙ rw (z, append-nil ws)

    module _ (h : number < count) where
      one_more_lem : rules_read 0 count (drop at bs) ≡ behind ws (then_rules (rules_read (suc number) (count - (number + 1))) (rule_read number (drop a bs)))
      unfolding rules_read
      one_more_lem = let z : count - number ≡ suc (count - (number + 1)) = omega arith in left ∙ rw z

      pub rule_bad : (line : ℕ) → rule_read number (drop a bs) ≡ bad_at line → rules_read 0 count (drop at bs) ≡ bad_at line
      rule_bad line e = one_more_lem ∙ rw e

      pub rule_next : (vs : List ℕ) (next : ℕ) → rule_read number (drop a bs) ≡ rules_are vs (drop next bs) → Left (ws ++ vs) (number + 1) next
      rule_next vs next e =
          let p : number + 1 ≡ suc number = omega arith in
          one_more_lem ∙ rw (e, ← p) (behind_behind ws vs (rules_read (number + 1) (count - (number + 1)) (drop next bs)))

-- the words of a rule behind those of the rules before it
pub words_after : (ws vs out mid done : List ℕ) (n : ℕ) → length ws ≡ n → mid ≡ sets out 1 ws → done ≡ sets mid (n + 1) vs → done ≡ sets out 1 (ws ++ vs)
words_after ws vs out mid done n l e d =
    let z : n + 1 ≡ 1 + length ws = omega arith in d ∙ rw (e, z) (sym (sets_append ws vs out 1))
