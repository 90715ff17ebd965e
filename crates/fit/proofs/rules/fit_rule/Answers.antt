-- `rules::fit_rule` meets its contract: the roots' words tell whether the root is covered, the walk whether the rule fits, and the table has its bodies.
use Rattle.std.proofs.Common.{◌≡◌, ℕ, ◌-◌, false, true, is_some, Some, None, length, get_or, refl, ap₂, ◌∙◌, arith}
use Rattle.term.proofs.Laws.{never}
use Rattle.fit.specs.Told.Told.{Offsets}
use Rattle.fit.proofs.OneRule.{covers_count, rule_other, rule_stuck, rule_fits_lem}
use Rattle.fit.proofs.rules.fit_rule.Goals as goal

stuck : (r : Offsets) → is_some r ≡ false → r ≡ None
stuck None e = refl
stuck (Some x) e = never (cc)

walked : (r : Offsets) → is_some r ≡ true → (p : ℕ × ℕ) × (r ≡ Some p)
walked None e = never (cc)
walked (Some x) e = (x, refl)

pub returns-then-not-is_covered : goal.returns-then-not-is_covered
returns-then-not-is_covered c =
    let s = c.args in let p = c.requires in
    rule_other s.pair.now.vars s.pair.now.left.now s.pair.now.term.now _ refl s.pair.now.left_begins s.pair.now.term_begins (length s.bodies.now) (c.is_covered.ensures ∙ c.if-not-is_covered.true) _ _ p.0 p.1 _ c.refuse.ensures.0 c.refuse.ensures.1

pub returns-then-is_none : goal.returns-then-is_none
returns-then-is_none c =
    let s = c.args in let p = c.requires in
    rule_stuck s.pair.now.vars s.pair.now.left.now s.pair.now.term.now _ refl s.pair.now.left_begins s.pair.now.term_begins (length s.bodies.now) (c.is_covered.ensures ∙ c.if-not-is_covered.false) _
    (rw (c.count_of-b.ensures, stuck _ c.if-is_none.ensures) at c.fit_row.ensures) _ _ p.0 p.1 _ c.refuse-then-is_none.ensures.0 c.refuse-then-is_none.ensures.1

pub returns-then-not-write_bodies : goal.returns-then-not-write_bodies
returns-then-not-write_bodies c =
    let s = c.args in let p = c.requires in
    rule_fits_lem s.pair.now.vars s.pair.now.left.now s.pair.now.term.now _ refl s.pair.now.left_begins s.pair.now.term_begins (length s.bodies.now) (c.is_covered.ensures ∙ c.if-not-is_covered.false) _ _ _
    (rw (c.count_of-b.ensures, (walked _ c.if-is_none.ensures).1) at c.fit_row.ensures) _ _ _ c.write_bodies.ensures false c.if-not-write_bodies.true
    _ c.refuse-then-not-write_bodies.ensures.0 c.refuse-then-not-write_bodies.ensures.1

pub overflow_sub-result : goal.overflow_sub-result
overflow_sub-result c =
    let s = c.args in
    omega (arith, covers_count (get_or s.pair.now.left.now 0 0) (get_or s.pair.now.term.now 0 0) (c.is_covered.ensures ∙ c.if-not-is_covered.false))

pub returns : goal.returns
returns c =
    let s = c.args in let p = c.requires in
    rule_fits_lem s.pair.now.vars s.pair.now.left.now s.pair.now.term.now _ refl s.pair.now.left_begins s.pair.now.term_begins (length s.bodies.now) (c.is_covered.ensures ∙ c.if-not-is_covered.false) _ _ _
    (rw (c.count_of-b.ensures, (walked _ c.if-is_none.ensures).1) at c.fit_row.ensures) _ _ _ c.write_bodies.ensures true c.if-not-write_bodies.false
    _ refl (ap₂ (λ (a b : ℕ). a - b) c.count_of.ensures c.count_of-b.ensures)
