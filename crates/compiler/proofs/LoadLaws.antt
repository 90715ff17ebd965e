-- Loading a book, way by way: each row is written where no other row stands, so the rows that were written stay.
use mathlib.Core.Path.{◌≡◌, refl, sym, ◌∙◌}
use mathlib.Core.Bool.{Bool, true, false}
use mathlib.Core.List.{List}
use mathlib.Core.Option.{some}
use Prim.Native.Nat.{ℕ, ◌+◌, ◌-◌, ◌*◌, ◌≤◌, ◌<◌}
use native.Mathlib.Omega.{arith}
use lib.Dec.{eqb}
use lib.ListN.{length, get_or, set, take, drop, length-set}
use borrow.Author.Count.{below_more}
use lib.Seq.{get_or-set_same, get_or-set_other}
use borrow.Author.Tests.{lt-ltb, le-ltb, eqb-true, eqb-false}
use Rattle.term.proofs.Laws.{never}
use Rattle.book.specs.declared.book.Sides.{Sides}
use Rattle.std.specs.Prelude.{Some, None}
use Rattle.book.specs.Book.{Rule, rule_at}
use Rattle.book.specs.Told.Found.{sides_at}
use Rattle.book.proofs.Laws.{SidesAre, sides_rule, sides_none}
use Rattle.compiler.specs.Told.Tables.{many_at}
use Rattle.compiler.specs.Told.Loaded.{reaches_to, depth_of, word_or, depth_or, RowAt, OthersKept, RowLoaded, RuleLoaded, RulesAt, root_number, root_numbered, row_mark, absent_marked}

-- ---- one word of a left side
pub depth_is : (ws : List ℕ) (o d : ℕ) → d ≡ many_at (reaches_to ws o) 0 o → d ≡ depth_of ws o
unfolding depth_of
depth_is ws o d e = e

pub word_past : (ws : List ℕ) (o : ℕ) → length ws ≤ o → 33554432 ≡ word_or ws o
unfolding word_or
word_past ws o h = rw (le-ltb o (length ws) h)

pub word_in : (ws : List ℕ) (o : ℕ) → o < length ws → get_or ws o 0 ≡ word_or ws o
unfolding word_or
word_in ws o h = rw (lt-ltb o (length ws) h)

pub depth_past : (ws : List ℕ) (o : ℕ) → length ws ≤ o → 0 ≡ depth_or ws o
unfolding depth_or
depth_past ws o h = rw (le-ltb o (length ws) h)

pub depth_in : (ws : List ℕ) (o d : ℕ) → o < length ws → d ≡ depth_of ws o → d ≡ depth_or ws o
unfolding depth_or
depth_in ws o d h e = rw (lt-ltb o (length ws) h) e

-- ---- a row
-- the words below an offset and the abstractions passed there stand at their spots, and what is elsewhere is as it came
pub record RowSoFar (ws : List ℕ) (r : ℕ) (before now : List ℕ) (n : ℕ) : Type 0 where
  pub words : (o : ℕ) → o < n → get_or now (r * 64 + o) 0 ≡ word_or ws o
  pub depths : (o : ℕ) → o < n → get_or now (4096 + (r * 64 + o)) 0 ≡ depth_or ws o
  pub others : (k : ℕ) → (r * 64 ≤ k → k < r * 64 + 64 → ⊥) → (4096 + r * 64 ≤ k → k < 4096 + r * 64 + 64 → ⊥) → get_or now k 0 ≡ get_or before k 0

pub row_start : (ws : List ℕ) (r : ℕ) (before : List ℕ) → RowSoFar ws r before before 0
row_start ws r before = record { words = λ o h. absurd (omega arith); depths = λ o h. absurd (omega arith); others = λ k p q. refl }

module _ (ws : List ℕ) (r n v d : ℕ) (before now : List ℕ) (s : RowSoFar ws r before now n) (l : r < 64) (few : n < 64) (long : length now ≡ 8256) (is_word : v ≡ word_or ws n) (is_depth : d ≡ depth_or ws n) where
  spot_kept : (k : ℕ) → (k ≡ r * 64 + n → ⊥) → (k ≡ 4096 + (r * 64 + n) → ⊥) → get_or (set (set now (r * 64 + n) v) (4096 + (r * 64 + n)) d) k 0 ≡ get_or now k 0
  spot_kept k p q = get_or-set_other (set now (r * 64 + n) v) (4096 + (r * 64 + n)) k d 0 q ∙ get_or-set_other now (r * 64 + n) k v 0 p

  word_set : get_or (set (set now (r * 64 + n) v) (4096 + (r * 64 + n)) d) (r * 64 + n) 0 ≡ word_or ws n
  word_set = get_or-set_other (set now (r * 64 + n) v) (4096 + (r * 64 + n)) (r * 64 + n) d 0 (λ e. omega (arith, e)) ∙ get_or-set_same now (r * 64 + n) v 0 (omega (arith, long, l, few)) ∙ is_word

  depth_set : get_or (set (set now (r * 64 + n) v) (4096 + (r * 64 + n)) d) (4096 + (r * 64 + n)) 0 ≡ depth_or ws n
  depth_set = get_or-set_same (set now (r * 64 + n) v) (4096 + (r * 64 + n)) d 0 (omega (arith, long, l, few, length-set now (r * 64 + n) v)) ∙ is_depth

  pub row_next : RowSoFar ws r before (set (set now (r * 64 + n) v) (4096 + (r * 64 + n)) d) (n + 1)
  row_next =
      record {
        words = below_more _ n (λ o h. spot_kept (r * 64 + o) (λ e. omega (arith, e, h)) (λ e. omega (arith, e, h)) ∙ s.words o h) word_set;
        depths = below_more _ n (λ o h. spot_kept (4096 + (r * 64 + o)) (λ e. omega (arith, e, h, l, few)) (λ e. omega (arith, e, h)) ∙ s.depths o h) depth_set;
        others = λ k p q. spot_kept k (λ e. p (omega (arith, e)) (omega (arith, e, few))) (λ e. q (omega (arith, e)) (omega (arith, e, few))) ∙ s.others k p q;
      }

module _ (ws : List ℕ) (vars r n : ℕ) (before b : List ℕ) (s : RowSoFar ws r before b n) (l : r < 64) (all : 64 ≤ n) (long : length b ≡ 8256) where
  stays : (k : ℕ) → (k ≡ 8192 + r → ⊥) → get_or (set b (8192 + r) vars) k 0 ≡ get_or b k 0
  stays k e = get_or-set_other b (8192 + r) k vars 0 e

  kept_at : (k : ℕ) → (k ≡ 8192 + r → ⊥) → (r * 64 ≤ k → k < r * 64 + 64 → ⊥) → (4096 + r * 64 ≤ k → k < 4096 + r * 64 + 64 → ⊥) → get_or (set b (8192 + r) vars) k 0 ≡ get_or before k 0
  kept_at k e p q = stays k e ∙ s.others k p q

  row_kept : OthersKept r before (set b (8192 + r) vars)
  row_kept q vs n m ne g =
      record {
        words = λ o h. kept_at (q * 64 + o) (λ e. omega (arith, e, h, l, m)) (λ u v. omega (arith, u, v, h, ne)) (λ u v. omega (arith, u, v, h, l, m)) ∙ g.words o h;
        depths = λ o h. kept_at (4096 + (q * 64 + o)) (λ e. omega (arith, e, h, l, m)) (λ u v. omega (arith, u, v, h, l)) (λ u v. omega (arith, u, v, h, ne)) ∙ g.depths o h;
        variables = kept_at (8192 + q) (λ e. omega (arith, e, ne)) (λ u v. omega (arith, u, v, l)) (λ u v. omega (arith, u, v, l)) ∙ g.variables;
      }

  pub row_loaded : RowLoaded ws vars r before (set b (8192 + r) vars)
  row_loaded =
      record {
        here = record {
          words = λ o h. stays (r * 64 + o) (λ e. omega (arith, e, h, l)) ∙ s.words o (omega (arith, h, all));
          depths = λ o h. stays (4096 + (r * 64 + o)) (λ e. omega (arith, e, h, l)) ∙ s.depths o (omega (arith, h, all));
          variables = get_or-set_same b (8192 + r) vars 0 (omega (arith, long, l));
        };
        others = row_kept;
      }

-- ---- a rule
pub rule_absent : (book : List ℕ) (r : ℕ) (fixed : List ℕ) → sides_at book r ≡ None → RuleLoaded book r fixed fixed
rule_absent book r fixed e =
    record { here = λ rule q. never (let z = sides_none book r e in cc); others = λ q ws vars l n g. g }

pub rule_lies : (book : List ℕ) (r : ℕ) (sides : Sides) → sides_at book r ≡ Some sides → (sides.left ≤ sides.right) × (sides.right ≤ length book)
rule_lies book r sides e =
    let s = (sides_rule book r sides e).2 in
    (s.left_first, omega (arith, s.right_next, s.within))

pub rule_loaded : (book : List ℕ) (r : ℕ) (sides : Sides) → sides_at book r ≡ Some sides → (before after : List ℕ)
    → RowLoaded (take (sides.right - sides.left) (drop sides.left book)) sides.vars r before after → RuleLoaded book r before after
rule_loaded book r sides e before after l = record { here = λ rule q. here (sides_rule book r sides e) rule q; others = l.others }
  where
    here : (rule : Rule) × (rule_at book r ≡ some rule) × SidesAre book rule sides → (rule : Rule) → rule_at book r ≡ some rule → RowAt after r rule.left rule.vars
    here s rule q =
        let same : s.0 ≡ rule = (let z : some s.0 ≡ some rule = sym s.1 ∙ q in cc) in
        let row : RowAt after r s.0.left s.0.vars = rw (s.2.left_is, s.2.vars_is) at l.here in
        rw same at row

pub rules_next : (book : List ℕ) (r : ℕ) (before after : List ℕ) → RulesAt book before r → r < 64 → RuleLoaded book r before after → RulesAt book after (r + 1)
rules_next book r before after g l s q rule h e = go (eqb q r) refl
  where
    go : (b : Bool) → eqb q r ≡ b → RowAt after q rule.left rule.vars
    go true z = let y = eqb-true q r z in rw y (s.here rule (rw y at e))
    go false z = s.others q rule.left rule.vars (omega (arith, h, l)) (eqb-false q r z) (g q rule (omega (arith, h, eqb-false q r z)) e)

-- ---- the other tables
pub in_roots : (k x : ℕ) → k < 4096 → root_number k ≡ root_numbered k x
in_roots k x h = rw (lt-ltb k 4096 h)

pub past_roots : (k x : ℕ) → 4096 ≤ k → root_numbered k x ≡ x
past_roots k x h = rw (le-ltb k 4096 h)

pub in_absent : (book : List ℕ) (k x : ℕ) → k < 64 → row_mark (rule_at book k) ≡ absent_marked book k x
in_absent book k x h = rw (lt-ltb k 64 h)

pub past_absent : (book : List ℕ) (k x : ℕ) → 64 ≤ k → absent_marked book k x ≡ x
past_absent book k x h = rw (le-ltb k 64 h)

pub mark_rule : (book : List ℕ) (r : ℕ) (sides : Sides) → sides_at book r ≡ Some sides → 0 ≡ row_mark (rule_at book r)
mark_rule book r sides e = rw (sides_rule book r sides e).1

pub mark_none : (book : List ℕ) (r : ℕ) → sides_at book r ≡ None → 1 ≡ row_mark (rule_at book r)
mark_none book r e = rw (sides_none book r e)
