-- Constraints in a term: the same constraint says the same, so what was tested is struck, and a row that has what fails does not fit.
use mathlib.Core.Path.{◌≡◌, refl, sym, ap, ap₂, ◌∙◌}
use mathlib.Core.Bool.{Bool, true, false, ◌&&◌, ◌||◌}
use mathlib.Core.List.{List, [], ◌∷◌}
use Prim.Native.Nat.{ℕ, zero, suc, ◌≤◌, ◌<◌}
use native.Mathlib.Omega.{arith}
use lib.Dec.{eqb}
use lib.ListN.{length, get_or}
use borrow.Author.Tests.{eqb-true, eq-eqb}
use Rattle.term.specs.Word.{pick}
use Rattle.term.specs.Row.{Row, nothing, node}
use Rattle.term.specs.Renumber.{position, Listed, GoodList, inside, closed, to_body}
use Rattle.term.specs.Part.{is_some, same_words, same_o}
use Rattle.term.proofs.Laws.{never, and_left, and_right, and_both, same_words_lem, words_same, SameSet, closed_set, closed_body, open_body, position_is, position_at}
use Rattle.fit.specs.Left.{Left, end, hole, part, GoodLeft}
use Rattle.fit.specs.Constraint.{Place, tree_at, Occurrence, occurrences, Constraint, closed_at, same_at, body_here, body_at, holds, all_hold}
use Rattle.fit.proofs.Laws.{body_nothing, body_node, body_at_lem, holds_closed, holds_same, all_hold_none, all_hold_more, Names, EachNames, Each, each_join, good_hole, good_part, occurrences_end, occurrences_hole, occurrences_part}
use Rattle.tree.specs.Rows.{is_in, among, same_constraint, has, unstruck}
use Rattle.tree.proofs.Basics.{and_false, or_true, both_ways}
use Rattle.tree.proofs.Parts.{depth_at, body_there, DepthIs}

-- what a constraint says of a term, with the abstractions passed in the term
unfoldable pub holds_in : Row → Constraint → Bool
holds_in t (closed_at o) = is_some (body_there t o.place o.list)
holds_in t (same_at f o) = same_o (body_there t f.place f.list) (body_there t o.place o.list)

unfoldable pub all_in : Row → List Constraint → Bool
all_in t [] = true
all_in t (c ∷ cs) = holds_in t c && all_in t cs

-- ---- lists as sets
abbrev pub ListIs : Occurrence → Type 0
ListIs o = Listed o.depth o.list

in_at : (y : ℕ) (zs : List ℕ) → is_in y zs ≡ true → (j : ℕ) × (j < length zs) × (get_or zs j 0 ≡ y)
unfolding is_in
in_at y [] e = never (cc)
in_at y (z ∷ zs) e = go (eqb y z) refl e (in_at y zs)
  where
    go : (b : Bool) → eqb y z ≡ b → b || is_in y zs ≡ true → (is_in y zs ≡ true → (j : ℕ) × (j < length zs) × (get_or zs j 0 ≡ y))
        → (j : ℕ) × (j < length (z ∷ zs)) × (get_or (z ∷ zs) j 0 ≡ y)
    go true q f r = (0, omega arith, sym (eqb-true y z q))
    go false q f r = let x = r f in (suc x.0, omega (arith, x.1), x.2)

at_in : (zs : List ℕ) (j : ℕ) → j < length zs → is_in (get_or zs j 0) zs ≡ true
unfolding is_in
at_in [] j h = absurd (omega arith)
at_in (z ∷ zs) zero h = rw (eq-eqb z z refl)
at_in (z ∷ zs) (suc j) h = rw (at_in zs j (omega arith)) (or_true (eqb (get_or zs j 0) z))

position_in : (y : ℕ) (ys : List ℕ) → 1 ≤ position y ys → is_in y ys ≡ true
position_in y ys h = go (position y ys) refl h
  where
    go : (n : ℕ) → position y ys ≡ n → 1 ≤ n → is_in y ys ≡ true
    go zero e l = absurd (omega arith)
    go (suc j) e l = let x = position_is y ys j e in rw x.1 at (at_in ys j x.0)

in_position : (d y : ℕ) (zs : List ℕ) → Listed d zs → is_in y zs ≡ true → 1 ≤ position y zs
in_position d y zs l e =
    let x = in_at y zs e in
    let q : position y zs ≡ suc x.0 = rw x.2 at (position_at d zs l x.0 x.1) in
    omega (arith, q)

among_in : (ys zs : List ℕ) → among ys zs ≡ true → (j : ℕ) → j < length ys → is_in (get_or ys j 0) zs ≡ true
unfolding among
among_in [] zs e j h = absurd (omega arith)
among_in (x ∷ ys) zs e zero h = and_left (is_in x zs) (among ys zs) e
among_in (x ∷ ys) zs e (suc j) h = among_in ys zs (and_right (is_in x zs) (among ys zs) e) j (omega arith)

among_there : (d : ℕ) (ys zs : List ℕ) → Listed d zs → among ys zs ≡ true → (y : ℕ) → 1 ≤ position y ys → 1 ≤ position y zs
among_there d ys zs l e y h = in_position d y zs l (inner (in_at y ys (position_in y ys h)))
  where
    inner : ((j : ℕ) × (j < length ys) × (get_or ys j 0 ≡ y)) → is_in y zs ≡ true
    inner x = rw x.2 at (among_in ys zs e x.0 x.1)

same_set : (d e : ℕ) (ys zs : List ℕ) → Listed d ys → Listed e zs → among ys zs ≡ true → among zs ys ≡ true → SameSet ys zs
same_set d e ys zs l k a b = record { there = among_there e ys zs k a; back = among_there d zs ys l b }

turned_set : (ys zs : List ℕ) → SameSet ys zs → SameSet zs ys
turned_set ys zs s = record { there = s.back; back = s.there }

some_closed : (d : ℕ) (ys : List ℕ) (t : Row) → is_some (to_body d ys t) ≡ closed d ys t
some_closed d ys t = go (closed d ys t) refl
  where
    go : (b : Bool) → closed d ys t ≡ b → is_some (to_body d ys t) ≡ b
    go true e = ap is_some (closed_body d ys t e)
    go false e = ap is_some (open_body d ys t e)

set_body : (d : ℕ) (ys zs : List ℕ) → SameSet ys zs → (t : Row) → is_some (body_here d ys t) ≡ is_some (body_here d zs t)
set_body d ys zs s nothing = rw (body_nothing d ys, body_nothing d zs)
set_body d ys zs s (node h kids rest) =
    rw (body_node d ys h kids rest, body_node d zs h kids rest, some_closed d ys (node h kids rest), some_closed d zs (node h kids rest))
    (both_ways (closed d ys (node h kids rest)) (closed d zs (node h kids rest)) (closed_set d ys zs s (node h kids rest)) (closed_set d zs ys (turned_set ys zs s) (node h kids rest)))

set_there : (t : Row) (p : Place) (ys zs : List ℕ) → SameSet ys zs → is_some (body_there t p ys) ≡ is_some (body_there t p zs)
unfolding body_there
set_there t p ys zs s = set_body (depth_at t p) ys zs s (tree_at t p)

-- ---- the same constraint
pub same_holds : (t : Row) (c k : Constraint) → Names ListIs c → Names ListIs k → same_constraint c k ≡ true → holds_in t c ≡ holds_in t k
unfolding same_constraint holds_in
same_holds t (closed_at o) (closed_at q) x y e =
    let p = same_words_lem o.place q.place (and_left (same_words o.place q.place) (among o.list q.list && among q.list o.list) e) in
    let a = and_right (same_words o.place q.place) (among o.list q.list && among q.list o.list) e in
    let s = same_set o.depth q.depth o.list q.list x y (and_left (among o.list q.list) (among q.list o.list) a) (and_right (among o.list q.list) (among q.list o.list) a) in
    ap (λ (x : Place). is_some (body_there t x o.list)) p ∙ set_there t q.place o.list q.list s
same_holds t (closed_at o) (same_at g q) x y e = never (cc)
same_holds t (same_at f o) (closed_at q) x y e = never (cc)
same_holds t (same_at f o) (same_at g q) x y e =
    let a = and_left (same_words f.place g.place && same_words o.place q.place) (same_words f.list g.list && same_words o.list q.list) e in
    let b = and_right (same_words f.place g.place && same_words o.place q.place) (same_words f.list g.list && same_words o.list q.list) e in
    let a1 = same_words_lem f.place g.place (and_left (same_words f.place g.place) (same_words o.place q.place) a) in
    let a2 = same_words_lem o.place q.place (and_right (same_words f.place g.place) (same_words o.place q.place) a) in
    let b1 = same_words_lem f.list g.list (and_left (same_words f.list g.list) (same_words o.list q.list) b) in
    let b2 = same_words_lem o.list q.list (and_right (same_words f.list g.list) (same_words o.list q.list) b) in
    ap₂ same_o (ap₂ (body_there t) a1 b1) (ap₂ (body_there t) a2 b2)

among_skip : (y : ℕ) (xs zs : List ℕ) → among xs zs ≡ true → among xs (y ∷ zs) ≡ true
unfolding among is_in
among_skip y [] zs e = refl
among_skip y (x ∷ xs) zs e =
    and_both (eqb x y || is_in x zs) (among xs (y ∷ zs))
    (rw (and_left (is_in x zs) (among xs zs) e) (or_true (eqb x y)))
    (among_skip y xs zs (and_right (is_in x zs) (among xs zs) e))

among_itself : (ys : List ℕ) → among ys ys ≡ true
unfolding among is_in
among_itself [] = refl
among_itself (y ∷ ys) = rw (eq-eqb y y refl) (among_skip y ys ys (among_itself ys))

pub same_itself : (c : Constraint) → same_constraint c c ≡ true
unfolding same_constraint
same_itself (closed_at o) = rw (words_same o.place, among_itself o.list)
same_itself (same_at f o) = rw (words_same f.place, words_same o.place, words_same f.list, words_same o.list)

-- ---- yes strikes it
pub strike_in : (t : Row) (c : Constraint) → Names ListIs c → (held : List Constraint) → holds_in t c ≡ true → (cs : List Constraint) → EachNames ListIs cs → all_in t (unstruck (c ∷ held) cs) ≡ all_in t (unstruck held cs)
unfolding unstruck all_in has
strike_in t c n held h [] a = refl
strike_in t c n held h (k ∷ cs) a = go (same_constraint k c) (has k held) refl (strike_in t c n held h cs a.1)
  where
    go : (a b : Bool) → same_constraint k c ≡ a → all_in t (unstruck (c ∷ held) cs) ≡ all_in t (unstruck held cs)
        → all_in t (pick (a || b) (unstruck (c ∷ held) cs) (k ∷ unstruck (c ∷ held) cs)) ≡ all_in t (pick b (unstruck held cs) (k ∷ unstruck held cs))
    go true true e r = r
    go true false e r = rw (same_holds t k c a.0 n e, h) r
    go false true e r = r
    go false false e r = ap (holds_in t k &&◌) r

-- ---- no strikes every row that has it
pub has_fails : (t : Row) (c : Constraint) → Names ListIs c → holds_in t c ≡ false → (cs : List Constraint) → EachNames ListIs cs → has c cs ≡ true → all_in t cs ≡ false
unfolding has all_in
has_fails t c n h [] a e = never (cc)
has_fails t c n h (k ∷ cs) a e = go (same_constraint c k) refl e (has_fails t c n h cs a.1)
  where
    go : (b : Bool) → same_constraint c k ≡ b → b || has c cs ≡ true → (has c cs ≡ true → all_in t cs ≡ false) → holds_in t k && all_in t cs ≡ false
    go true q g r = rw (← same_holds t c k n a.0 q, h)
    go false q g r = rw (r g) (and_false (holds_in t k))

-- ---- what is struck is fewer
pub unstruck_fewer : (c : Constraint) (held cs : List Constraint) → length (unstruck (c ∷ held) cs) ≤ length (unstruck held cs)
unfolding unstruck has
unstruck_fewer c held [] = omega arith
unstruck_fewer c held (k ∷ cs) = go (same_constraint k c) (has k held) (unstruck_fewer c held cs)
  where
    go : (a b : Bool) → length (unstruck (c ∷ held) cs) ≤ length (unstruck held cs)
        → length (pick (a || b) (unstruck (c ∷ held) cs) (k ∷ unstruck (c ∷ held) cs)) ≤ length (pick b (unstruck held cs) (k ∷ unstruck held cs))
    go true true r = r
    go true false r = omega arith
    go false true r = r
    go false false r = omega arith

pub unstruck_less : (c : Constraint) (held cs rest : List Constraint) → unstruck held cs ≡ c ∷ rest → length (unstruck (c ∷ held) cs) < length (unstruck held cs)
unfolding unstruck has
unstruck_less c held [] rest e = never (cc)
unstruck_less c held (k ∷ cs) rest e = go (has k held) e (unstruck_less c held cs rest) (unstruck_fewer c held cs)
  where
    go : (b : Bool) → pick b (unstruck held cs) (k ∷ unstruck held cs) ≡ c ∷ rest → (unstruck held cs ≡ c ∷ rest → length (unstruck (c ∷ held) cs) < length (unstruck held cs))
        → length (unstruck (c ∷ held) cs) ≤ length (unstruck held cs)
        → length (pick (same_constraint k c || b) (unstruck (c ∷ held) cs) (k ∷ unstruck (c ∷ held) cs)) < length (pick b (unstruck held cs) (k ∷ unstruck held cs))
    go true q r l = rw (or_true (same_constraint k c)) (r q)
    go false q r l =
        let z : k ≡ c = cc in
        let s : same_constraint k c ≡ true = ap (λ (x : Constraint). same_constraint x c) z ∙ same_itself c in
        rw s (omega arith)

pub unstruck_none : (cs : List Constraint) → unstruck [] cs ≡ cs
unfolding unstruck has
unstruck_none [] = refl
unstruck_none (c ∷ cs) = ap (c ∷◌) (unstruck_none cs)

pub has_first : (c : Constraint) (cs : List Constraint) → has c (c ∷ cs) ≡ true
unfolding has
has_first c cs = rw (same_itself c)

pub names_unstruck : (P : Occurrence → Type 0) (held cs : List Constraint) → EachNames P cs → EachNames P (unstruck held cs)
unfolding unstruck
names_unstruck P held [] a = tt
names_unstruck P held (c ∷ cs) a = go (has c held) (names_unstruck P held cs a.1)
  where
    go : (b : Bool) → EachNames P (unstruck held cs) → EachNames P (pick b (unstruck held cs) (c ∷ unstruck held cs))
    go true r = r
    go false r = (a.0, r)

-- ---- where the abstractions passed are the same, this is what the constraints of the left side say
depth_body : (t : Row) (o : Occurrence) → DepthIs t o → body_there t o.place o.list ≡ body_at t o
unfolding body_there
depth_body t o e = sym (body_at_lem t o ∙ ap (λ (d : ℕ). body_here d o.list (tree_at t o.place)) e)

pub body_there_lem : (t : Row) (o : Occurrence) → DepthIs t o → body_there t o.place o.list ≡ body_at t o
body_there_lem t o e = depth_body t o e

holds_is : (t : Row) (c : Constraint) → Names (DepthIs t) c → holds_in t c ≡ holds t c
unfolding holds_in
holds_is t (closed_at o) a = ap is_some (depth_body t o a) ∙ sym (holds_closed t o)
holds_is t (same_at f o) a = ap₂ same_o (depth_body t f a.0) (depth_body t o a.1) ∙ sym (holds_same t f o)

pub all_is : (t : Row) (cs : List Constraint) → EachNames (DepthIs t) cs → all_in t cs ≡ all_hold t cs
unfolding all_in
all_is t [] a = sym (all_hold_none t)
all_is t (c ∷ cs) a = ap₂ ◌&&◌ (holds_is t c a.0) (all_is t cs a.1) ∙ sym (all_hold_more t c cs)

-- ---- the lists of an accepted book
pub lists_are : (vars : ℕ) (p : Place) (i d : ℕ) (k : Left) → GoodLeft vars d k → Each ListIs (occurrences p i d k)
lists_are vars p i d end g = rw (occurrences_end p i d) tt
lists_are vars p i d (hole x ys rest) g =
    let q = good_hole vars d x ys rest g in
    rw (occurrences_hole p i d x ys rest) (q.1.listed, lists_are vars p (suc i) d rest q.2)
lists_are vars p i d (part h kids rest) g =
    let q = good_part vars d h kids rest g in
    rw (occurrences_part p i d h kids rest)
    (each_join ListIs (occurrences (i ∷ p) 0 (inside h d) kids) (occurrences p (suc i) d rest) (lists_are vars (i ∷ p) 0 (inside h d) kids q.3) (lists_are vars p (suc i) d rest q.4))

abbrev pub GoodListIs : Occurrence → Type 0
GoodListIs o = GoodList o.depth o.list

pub good_lists : (vars : ℕ) (p : Place) (i d : ℕ) (k : Left) → GoodLeft vars d k → Each GoodListIs (occurrences p i d k)
good_lists vars p i d end g = rw (occurrences_end p i d) tt
good_lists vars p i d (hole x ys rest) g =
    let q = good_hole vars d x ys rest g in
    rw (occurrences_hole p i d x ys rest) (q.1, good_lists vars p (suc i) d rest q.2)
good_lists vars p i d (part h kids rest) g =
    let q = good_part vars d h kids rest g in
    rw (occurrences_part p i d h kids rest)
    (each_join GoodListIs (occurrences (i ∷ p) 0 (inside h d) kids) (occurrences p (suc i) d rest) (good_lists vars (i ∷ p) 0 (inside h d) kids q.3) (good_lists vars p (suc i) d rest q.4))
