-- The clauses of the definitions on sub-patterns and constraints, as equations, for a crate that does not open them.
use mathlib.Core.Path.{◌≡◌, refl}
use mathlib.Core.Bool.{Bool, true, false, ◌&&◌, ◌||◌}
use mathlib.Core.List.{List, [], ◌∷◌, ◌++◌}
use Prim.Native.Nat.{ℕ, suc}
use lib.Dec.{eqb}
use Rattle.term.specs.Word.{Head, pick}
use Rattle.term.specs.Part.{same_words}
use Rattle.term.proofs.Laws.{same_words_lem, words_same}
use Rattle.fit.specs.Left.{Left, end, hole, part}
use Rattle.fit.specs.Constraint.{Place, Occurrence, Constraint, closed_at, same_at, constraints}
use Rattle.tree.specs.Path.{OnPath}
use Rattle.tree.specs.Rows.{RuleRow, sub, below, subs_under, sub_at, is_in, among, same_constraint, has, unstruck, constraints_left}
use Rattle.tree.proofs.Basics.{both_ways}

-- ---- sub-patterns
pub sub_end : (i : ℕ) → sub end i ≡ end
unfolding sub
sub_end i = refl

pub sub_hole : (x : ℕ) (ys : List ℕ) (rest : Left) → (sub (hole x ys rest) 0 ≡ hole x ys end) × ((i : ℕ) → sub (hole x ys rest) (suc i) ≡ sub rest i)
unfolding sub
sub_hole x ys rest = (refl, λ i. refl)

pub sub_part : (h : Head) (kids rest : Left) → (sub (part h kids rest) 0 ≡ part h kids end) × ((i : ℕ) → sub (part h kids rest) (suc i) ≡ sub rest i)
unfolding sub
sub_part h kids rest = (refl, λ i. refl)

pub sub_root : (left : Left) → sub_at left [] ≡ end
unfolding sub_at
sub_root left = refl

pub subs_child : (left : Left) (i : ℕ) (p : Place) → subs_under left (i ∷ p) ≡ below (sub (subs_under left p) i)
unfolding subs_under
subs_child left i p = refl

pub none_held : (c : Constraint) → has c [] ≡ false
unfolding has
none_held c = refl

pub has_more : (c k : Constraint) (ks : List Constraint) → has c (k ∷ ks) ≡ same_constraint c k || has c ks
unfolding has
has_more c k ks = refl

pub has_join : (c : Constraint) (cs ds : List Constraint) → has c (cs ++ ds) ≡ has c cs || has c ds
unfolding has
has_join c [] ds = refl
has_join c (k ∷ cs) ds = rw (has_join c cs ds) (go (same_constraint c k))
  where
    go : (b : Bool) → b || (has c cs || has c ds) ≡ (b || has c cs) || has c ds
    go true = refl
    go false = refl

pub closed_other : (o f q : Occurrence) → same_constraint (closed_at o) (same_at f q) ≡ false
unfolding same_constraint
closed_other o f q = refl

pub same_other : (f o q : Occurrence) → same_constraint (same_at f o) (closed_at q) ≡ false
unfolding same_constraint
same_other f o q = refl

words_turned : (ys zs : List ℕ) → same_words ys zs ≡ same_words zs ys
words_turned ys zs = both_ways (same_words ys zs) (same_words zs ys) (λ e. rw (same_words_lem ys zs e) (words_same zs)) (λ e. rw (same_words_lem zs ys e) (words_same ys))

and_turned : (a b : Bool) → a && b ≡ b && a
and_turned true true = refl
and_turned true false = refl
and_turned false true = refl
and_turned false false = refl

pub same_turned : (c k : Constraint) → same_constraint c k ≡ same_constraint k c
unfolding same_constraint
same_turned (closed_at o) (closed_at q) = rw (words_turned o.place q.place, and_turned (among o.list q.list) (among q.list o.list))
same_turned (closed_at o) (same_at g q) = refl
same_turned (same_at f o) (closed_at q) = refl
same_turned (same_at f o) (same_at g q) = rw (words_turned f.place g.place, words_turned o.place q.place, words_turned f.list g.list, words_turned o.list q.list)

pub unstruck_join : (held cs ds : List Constraint) → unstruck held (cs ++ ds) ≡ unstruck held cs ++ unstruck held ds
unfolding unstruck
unstruck_join held [] ds = refl
unstruck_join held (c ∷ cs) ds = rw (unstruck_join held cs ds) (go (has c held))
  where
    go : (b : Bool) → pick b (unstruck held cs ++ unstruck held ds) (c ∷ (unstruck held cs ++ unstruck held ds)) ≡ pick b (unstruck held cs) (c ∷ unstruck held cs) ++ unstruck held ds
    go true = refl
    go false = refl

pub below_hole : (x : ℕ) (ys : List ℕ) (rest : Left) → below (hole x ys rest) ≡ end
unfolding below
below_hole x ys rest = refl

pub below_part : (h : Head) (kids rest : Left) → below (part h kids rest) ≡ kids
unfolding below
below_part h kids rest = refl

pub below_end : below end ≡ end
unfolding below
below_end = refl

-- ---- lists of ids
pub in_none : (y : ℕ) → is_in y [] ≡ false
unfolding is_in
in_none y = refl

pub in_more : (y z : ℕ) (zs : List ℕ) → is_in y (z ∷ zs) ≡ eqb y z || is_in y zs
unfolding is_in
in_more y z zs = refl

pub among_none : (zs : List ℕ) → among [] zs ≡ true
unfolding among
among_none zs = refl

pub among_more : (y : ℕ) (ys zs : List ℕ) → among (y ∷ ys) zs ≡ is_in y zs && among ys zs
unfolding among
among_more y ys zs = refl

-- ---- the same constraint
pub closed_both : (o q : Occurrence) → same_constraint (closed_at o) (closed_at q) ≡ same_words o.place q.place && (among o.list q.list && among q.list o.list)
unfolding same_constraint
closed_both o q = refl

pub same_both : (f o g q : Occurrence)
    → same_constraint (same_at f o) (same_at g q) ≡ (same_words f.place g.place && same_words o.place q.place) && (same_words f.list g.list && same_words o.list q.list)
unfolding same_constraint
same_both f o g q = refl

-- ---- constraints that are left
pub unstruck_none : (held : List Constraint) → unstruck held [] ≡ []
unfolding unstruck
unstruck_none held = refl

pub unstruck_more : (held : List Constraint) (c : Constraint) (cs : List Constraint) → unstruck held (c ∷ cs) ≡ pick (has c held) (unstruck held cs) (c ∷ unstruck held cs)
unfolding unstruck
unstruck_more held c cs = refl

pub left_are : (path : OnPath) (row : RuleRow) → constraints_left path row ≡ unstruck path.held (constraints row.left)
unfolding constraints_left
left_are path row = refl
