-- What a crate above needs of places, shapes and constraints: the clauses of their definitions as equations, and what matching finds at the first occurrence of a variable.
use mathlib.Core.Path.{◌≡◌, refl, sym, ap, ◌∙◌}
use mathlib.Core.Bool.{Bool, true, false, ◌&&◌, ◌||◌}
use mathlib.Core.List.{List, [], ◌∷◌, ◌++◌}
use mathlib.Core.Option.{Option, none, some}
use Prim.Native.Nat.{ℕ, suc, ◌≤◌, ◌<◌}
use native.Mathlib.Omega.{arith}
use lib.Dec.{eqb}
use lib.ListN.{length}
use borrow.Author.Tests.{eqb-true, ne_eqb}
use Rattle.term.specs.Word.{Head, symbol, abstraction, variable, pattern, word, rank, count, pick, InTable}
use Rattle.term.specs.Row.{Row, nothing, node, width, Formed}
use Rattle.term.specs.Check.{IsTree}
use Rattle.term.specs.Renumber.{GoodList, inside, to_body}
use Rattle.term.specs.Part.{is_some, same_o}
use Rattle.term.proofs.Laws.{never, and_left, and_right, formed_node, count_pattern}
use Rattle.book.specs.Rule.{side_limits, ids_of, list_for, left_shape, counted}
use Rattle.book.specs.Told.Occurs.{counts_as}
use Rattle.book.specs.Book.{Rule, rule_at}
use Rattle.book.proofs.Laws.{RuleFacts, left_symbol, left_abstraction, left_variable, left_pattern, counts_node, ids_counted}
use Rattle.fit.specs.Left.{Left, end, hole, part, ids_or, left_of, wide, occurs, GoodLeft}
use Rattle.fit.specs.Fit.{Found, body_then, only_if, body_b, body_in, all_same, agreed, matching}
use Rattle.fit.specs.Constraint.{Place, tree, children_of, under, tree_at, is_head, shape_fits, Occurrence, occurrences, Constraint, closed_at, same_at, closeds, first_b, first_of, same_then, sames, constraints, body_here, body_at, holds, all_hold}
use Rattle.fit.specs.Match.{left_in}
use Rattle.fit.specs.Lowest.{or_next, matching_o, lowest}
use Rattle.fit.proofs.Places.{from, bodies_at, found_at}
use Rattle.fit.proofs.Accepted.{tree_of_lem}

-- ---- places
pub under_root : (t : Row) → under t [] ≡ t
unfolding under
under_root t = refl

pub under_child : (t : Row) (i : ℕ) (p : Place) → under t (i ∷ p) ≡ children_of (tree (under t p) i)
unfolding under
under_child t i p = refl

pub at_root_lem : (t : Row) → tree_at t [] ≡ nothing
unfolding tree_at
at_root_lem t = refl

pub at_child : (t : Row) (i : ℕ) (p : Place) → tree_at t (i ∷ p) ≡ tree (under t p) i
unfolding tree_at
at_child t i p = refl

pub tree_nothing : (i : ℕ) → tree nothing i ≡ nothing
unfolding tree
tree_nothing i = refl

pub tree_first : (h : Head) (kids rest : Row) → tree (node h kids rest) 0 ≡ node h kids nothing
unfolding tree
tree_first h kids rest = refl

pub tree_later : (h : Head) (kids rest : Row) (i : ℕ) → tree (node h kids rest) (suc i) ≡ tree rest i
unfolding tree
tree_later h kids rest i = refl

pub children_nothing : children_of nothing ≡ nothing
unfolding children_of
children_nothing = refl

pub children_node : (h : Head) (kids rest : Row) → children_of (node h kids rest) ≡ kids
unfolding children_of
children_node h kids rest = refl

-- the trees of a row from its first on
pub from_first : (f : Row) → from 0 f ≡ f
unfolding from
from_first f = refl

-- ---- shapes
pub head_nothing : (h : Head) → is_head h nothing ≡ false
unfolding is_head
head_nothing h = refl

pub head_node : (h g : Head) (kids rest : Row) → is_head h (node g kids rest) ≡ eqb (word h) (word g)
unfolding is_head
head_node h g kids rest = refl

pub shape_end : (t : Row) (p : Place) (i : ℕ) → shape_fits t p i end ≡ true
unfolding shape_fits
shape_end t p i = refl

pub shape_hole : (t : Row) (p : Place) (i x : ℕ) (ys : List ℕ) (rest : Left) → shape_fits t p i (hole x ys rest) ≡ shape_fits t p (suc i) rest
unfolding shape_fits
shape_hole t p i x ys rest = refl

pub shape_part : (t : Row) (p : Place) (i : ℕ) (h : Head) (kids rest : Left)
    → shape_fits t p i (part h kids rest) ≡ (is_head h (tree_at t (i ∷ p)) && shape_fits t (i ∷ p) 0 kids) && shape_fits t p (suc i) rest
unfolding shape_fits
shape_part t p i h kids rest = refl

pub wide_end : wide end ≡ 0
unfolding wide
wide_end = refl

pub wide_hole : (x : ℕ) (ys : List ℕ) (rest : Left) → wide (hole x ys rest) ≡ suc (wide rest)
unfolding wide
wide_hole x ys rest = refl

pub wide_part : (h : Head) (kids rest : Left) → wide (part h kids rest) ≡ suc (wide rest)
unfolding wide
wide_part h kids rest = refl

pub good_hole : (vars d x : ℕ) (ys : List ℕ) (rest : Left) → GoodLeft vars d (hole x ys rest) → (suc x ≤ vars) × GoodList d ys × GoodLeft vars d rest
unfolding GoodLeft
good_hole vars d x ys rest g = g

pub good_part : (vars d : ℕ) (h : Head) (kids rest : Left) → GoodLeft vars d (part h kids rest)
    → InTable h × (wide kids ≡ count h) × (rank h ≤ 1) × GoodLeft vars (inside h d) kids × GoodLeft vars d rest
unfolding GoodLeft
good_part vars d h kids rest g = g

-- ---- occurrences
pub occurrences_end : (p : Place) (i d : ℕ) → occurrences p i d end ≡ []
unfolding occurrences
occurrences_end p i d = refl

pub occurrences_hole : (p : Place) (i d x : ℕ) (ys : List ℕ) (rest : Left)
    → occurrences p i d (hole x ys rest) ≡ record { var = x; place = i ∷ p; depth = d; list = ys } ∷ occurrences p (suc i) d rest
unfolding occurrences
occurrences_hole p i d x ys rest = refl

pub occurrences_part : (p : Place) (i d : ℕ) (h : Head) (kids rest : Left)
    → occurrences p i d (part h kids rest) ≡ occurrences (i ∷ p) 0 (inside h d) kids ++ occurrences p (suc i) d rest
unfolding occurrences
occurrences_part p i d h kids rest = refl

-- P holds of each occurrence of a list, and of those that constraints name
abbrev pub Each : (Occurrence → Type 0) → List Occurrence → Type 0
Each P [] = Unit {0}
Each P (o ∷ os) = P o × Each P os

abbrev pub Names : (Occurrence → Type 0) → Constraint → Type 0
Names P (closed_at o) = P o
Names P (same_at f o) = P f × P o

abbrev pub EachNames : (Occurrence → Type 0) → List Constraint → Type 0
EachNames P [] = Unit {0}
EachNames P (c ∷ cs) = Names P c × EachNames P cs

pub each_join : (P : Occurrence → Type 0) (os qs : List Occurrence) → Each P os → Each P qs → Each P (os ++ qs)
each_join P [] qs a b = b
each_join P (o ∷ os) qs a b = (a.0, each_join P os qs a.1 b)

names_join : (P : Occurrence → Type 0) (cs ds : List Constraint) → EachNames P cs → EachNames P ds → EachNames P (cs ++ ds)
names_join P [] ds a b = b
names_join P (c ∷ cs) ds a b = (a.0, names_join P cs ds a.1 b)

closeds_name : (P : Occurrence → Type 0) (os : List Occurrence) → Each P os → EachNames P (closeds os)
unfolding closeds
closeds_name P [] a = tt
closeds_name P (o ∷ os) a = go (eqb (length o.list) o.depth) (closeds_name P os a.1)
  where
    go : (b : Bool) → EachNames P (closeds os) → EachNames P (pick b (closeds os) (closed_at o ∷ closeds os))
    go true r = r
    go false r = (a.0, r)

abbrev FirstHas : (Occurrence → Type 0) → Option Occurrence → Type 0
FirstHas P none = Unit {0}
FirstHas P (some o) = P o

first_has : (P : Occurrence → Type 0) (x : ℕ) (os : List Occurrence) → Each P os → FirstHas P (first_of x os)
unfolding first_of
first_has P x [] a = tt
first_has P x (o ∷ os) a = go (eqb x o.var) (first_has P x os a.1)
  where
    go : (b : Bool) → FirstHas P (first_of x os) → FirstHas P (first_b b o (first_of x os))
    go true r = a.0
    go false r = r

-- the first occurrence of a variable is one of its occurrences
pub first_each : (P : Occurrence → Type 0) (x : ℕ) (os : List Occurrence) (o : Occurrence) → Each P os → first_of x os ≡ some o → P o
first_each P x os o a e = rw e at (first_has P x os a)

sames_name : (P : Occurrence → Type 0) (es os : List Occurrence) → Each P es → Each P os → EachNames P (sames es os)
unfolding sames
sames_name P es [] a b = tt
sames_name P es (o ∷ os) a b =
    go (first_of o.var es) (first_has P o.var es a) (sames_name P (es ++ (o ∷ [])) os (each_join P es (o ∷ []) a (b.0, tt)) b.1)
  where
    go : (r : Option Occurrence) → FirstHas P r → EachNames P (sames (es ++ (o ∷ [])) os) → EachNames P (same_then r o (sames (es ++ (o ∷ [])) os))
    go none h s = s
    go (some f) h s = ((h, b.0), s)

-- the constraints of a left side name its occurrences
pub constraints_name : (P : Occurrence → Type 0) (left : Left) → Each P (occurrences [] 0 0 left) → EachNames P (constraints left)
unfolding constraints
constraints_name P left a =
    names_join P (closeds (occurrences [] 0 0 left)) (sames [] (occurrences [] 0 0 left)) (closeds_name P (occurrences [] 0 0 left) a) (sames_name P [] (occurrences [] 0 0 left) tt a)

-- the two occurrences that are to be the same are of one variable
abbrev pub OneVariable : List Constraint → Type 0
OneVariable [] = Unit {0}
OneVariable (closed_at o ∷ cs) = OneVariable cs
OneVariable (same_at f o ∷ cs) = (f.var ≡ o.var) × OneVariable cs

one_join : (cs ds : List Constraint) → OneVariable cs → OneVariable ds → OneVariable (cs ++ ds)
one_join [] ds a b = b
one_join (closed_at o ∷ cs) ds a b = one_join cs ds a b
one_join (same_at f o ∷ cs) ds a b = (a.0, one_join cs ds a.1 b)

closeds_one : (os : List Occurrence) → OneVariable (closeds os)
unfolding closeds
closeds_one [] = tt
closeds_one (o ∷ os) = go (eqb (length o.list) o.depth) (closeds_one os)
  where
    go : (b : Bool) → OneVariable (closeds os) → OneVariable (pick b (closeds os) (closed_at o ∷ closeds os))
    go true r = r
    go false r = r

abbrev FirstIsOf : ℕ → Option Occurrence → Type 0
FirstIsOf x none = Unit {0}
FirstIsOf x (some f) = f.var ≡ x

first_of_lem : (x : ℕ) (os : List Occurrence) → FirstIsOf x (first_of x os)
unfolding first_of
first_of_lem x [] = tt
first_of_lem x (o ∷ os) = go (eqb x o.var) refl (first_of_lem x os)
  where
    go : (b : Bool) → eqb x o.var ≡ b → FirstIsOf x (first_of x os) → FirstIsOf x (first_b b o (first_of x os))
    go true e r = sym (eqb-true x o.var e)
    go false e r = r

pub first_variable : (x : ℕ) (os : List Occurrence) (o : Occurrence) → first_of x os ≡ some o → o.var ≡ x
first_variable x os o e = rw e at (first_of_lem x os)

sames_one : (es os : List Occurrence) → OneVariable (sames es os)
unfolding sames
sames_one es [] = tt
sames_one es (o ∷ os) = go (first_of o.var es) (first_of_lem o.var es) (sames_one (es ++ (o ∷ [])) os)
  where
    go : (r : Option Occurrence) → FirstIsOf o.var r → OneVariable (sames (es ++ (o ∷ [])) os) → OneVariable (same_then r o (sames (es ++ (o ∷ [])) os))
    go none h s = s
    go (some f) h s = (h, s)

pub constraints_one : (left : Left) → OneVariable (constraints left)
unfolding constraints
constraints_one left = one_join (closeds (occurrences [] 0 0 left)) (sames [] (occurrences [] 0 0 left)) (closeds_one (occurrences [] 0 0 left)) (sames_one [] (occurrences [] 0 0 left))

-- ---- each occurrence in a rule of an accepted book has the count of its variable
abbrev pub Counted : List ℕ → Occurrence → Type 0
Counted ws o = counted o.var ws ≡ suc (length o.list)

list_some : (d : ℕ) (o : Option (List ℕ)) → list_for d o ≡ true → o ≡ some (ids_or o)
list_some d none e = never (cc)
list_some d (some ys) e = refl

each_counted : (ws : List ℕ) (p : Place) (i d e : ℕ) (f : Row) → Formed f → left_shape d f ≡ true → counts_as ws f ≡ true → Each (Counted ws) (occurrences p i e (left_of f))
unfolding occurrences left_of
each_counted ws p i d e nothing w s c = tt
each_counted ws p i d e (node (symbol x k) kids rest) w s c =
    let n = formed_node (symbol x k) kids rest w in
    let a = sym (left_symbol d x k kids rest) ∙ s in
    let b = and_right true (counts_as ws kids && counts_as ws rest) (sym (counts_node ws (symbol x k) kids rest) ∙ c) in
    each_join (Counted ws) (occurrences (i ∷ p) 0 (inside (symbol x k) e) (left_of kids)) (occurrences p (suc i) e (left_of rest))
    (each_counted ws (i ∷ p) 0 d (inside (symbol x k) e) kids n.below (and_left (left_shape d kids) (left_shape d rest) a) (and_left (counts_as ws kids) (counts_as ws rest) b))
    (each_counted ws p (suc i) d e rest n.beside (and_right (left_shape d kids) (left_shape d rest) a) (and_right (counts_as ws kids) (counts_as ws rest) b))
each_counted ws p i d e (node abstraction kids rest) w s c =
    let n = formed_node abstraction kids rest w in
    let a = sym (left_abstraction d kids rest) ∙ s in
    let b = and_right true (counts_as ws kids && counts_as ws rest) (sym (counts_node ws abstraction kids rest) ∙ c) in
    each_join (Counted ws) (occurrences (i ∷ p) 0 (inside abstraction e) (left_of kids)) (occurrences p (suc i) e (left_of rest))
    (each_counted ws (i ∷ p) 0 (suc d) (inside abstraction e) kids n.below (and_left (left_shape (suc d) kids) (left_shape d rest) a) (and_left (counts_as ws kids) (counts_as ws rest) b))
    (each_counted ws p (suc i) d e rest n.beside (and_right (left_shape (suc d) kids) (left_shape d rest) a) (and_right (counts_as ws kids) (counts_as ws rest) b))
each_counted ws p i d e (node (variable x) kids rest) w s c = never (let z = left_variable d x kids rest in cc)
each_counted ws p i d e (node (pattern x k) kids rest) w s c =
    let n = formed_node (pattern x k) kids rest w in
    let a = sym (left_pattern d x k kids rest) ∙ s in
    let b = sym (counts_node ws (pattern x k) kids rest) ∙ c in
    let h = eqb-true (counted x ws) (suc k) (and_left (eqb (counted x ws) (suc k)) (counts_as ws kids && counts_as ws rest) b) in
    let l = (ids_counted kids n.below (ids_or (ids_of kids)) (list_some d (ids_of kids) (and_left (list_for d (ids_of kids)) (left_shape d rest) a))).0 in
    let m : length (ids_or (ids_of kids)) ≡ k = l ∙ n.full ∙ count_pattern x k in (
      rw m h,
      each_counted ws p (suc i) d e rest n.beside (and_right (list_for d (ids_of kids)) (left_shape d rest) a)
          (and_right (counts_as ws kids) (counts_as ws rest) (and_right (eqb (counted x ws) (suc k)) (counts_as ws kids && counts_as ws rest) b)),
    )

pub rule_counted : (rule : Rule) → RuleFacts rule → Each (Counted rule.left) (occurrences [] 0 0 (left_in rule))
unfolding left_in
rule_counted rule f =
    rw (tree_of_lem side_limits rule.left f.left_tree)
    (each_counted rule.left [] 0 0 0 f.left_tree.tree f.left_tree.formed f.left_shape f.left_counts)

-- ---- what constraints say
pub body_nothing : (d : ℕ) (ys : List ℕ) → body_here d ys nothing ≡ none
unfolding body_here
body_nothing d ys = refl

pub body_node : (d : ℕ) (ys : List ℕ) (h : Head) (kids rest : Row) → body_here d ys (node h kids rest) ≡ to_body d ys (node h kids rest)
unfolding body_here
body_node d ys h kids rest = refl

pub body_at_lem : (t : Row) (o : Occurrence) → body_at t o ≡ body_here o.depth o.list (tree_at t o.place)
unfolding body_at
body_at_lem t o = refl

pub holds_closed : (t : Row) (o : Occurrence) → holds t (closed_at o) ≡ is_some (body_at t o)
unfolding holds
holds_closed t o = refl

pub holds_same : (t : Row) (f o : Occurrence) → holds t (same_at f o) ≡ same_o (body_at t f) (body_at t o)
unfolding holds
holds_same t f o = refl

pub all_hold_none : (t : Row) → all_hold t [] ≡ true
unfolding all_hold
all_hold_none t = refl

pub all_hold_more : (t : Row) (c : Constraint) (cs : List Constraint) → all_hold t (c ∷ cs) ≡ holds t c && all_hold t cs
unfolding all_hold
all_hold_more t c cs = refl

-- ---- the first occurrence of a variable, and the body that matching finds for it
abbrev pub IsThere : Option Occurrence → Type 0
IsThere none = ⊥
IsThere (some o) = Unit {0}

there_later : (x : ℕ) (os qs : List Occurrence) → IsThere (first_of x qs) → IsThere (first_of x (os ++ qs))
unfolding first_of
there_later x [] qs h = h
there_later x (o ∷ os) qs h = go (eqb x o.var) (there_later x os qs h)
  where
    go : (b : Bool) → IsThere (first_of x (os ++ qs)) → IsThere (first_b b o (first_of x (os ++ qs)))
    go true r = tt
    go false r = r

there_earlier : (x : ℕ) (os qs : List Occurrence) → IsThere (first_of x os) → IsThere (first_of x (os ++ qs))
unfolding first_of
there_earlier x [] qs h = absurd h
there_earlier x (o ∷ os) qs h = go (eqb x o.var) h (there_earlier x os qs)
  where
    go : (b : Bool) → IsThere (first_b b o (first_of x os)) → (IsThere (first_of x os) → IsThere (first_of x (os ++ qs))) → IsThere (first_b b o (first_of x (os ++ qs)))
    go true h r = tt
    go false h r = r h

either : {A : Type 0} (a b : Bool) → a || b ≡ true → (a ≡ true → A) → (b ≡ true → A) → A
either true b e f g = f refl
either false b e f g = g e

-- a variable that occurs has a first occurrence
pub occurs_first : (x : ℕ) (p : Place) (i d : ℕ) (k : Left) → occurs x k ≡ true → IsThere (first_of x (occurrences p i d k))
unfolding occurs occurrences first_of
occurs_first x p i d end e = never (cc)
occurs_first x p i d (hole y ys rest) e = go (eqb x y) e (occurs_first x p (suc i) d rest)
  where
    go : (b : Bool) → b || occurs x rest ≡ true → (occurs x rest ≡ true → IsThere (first_of x (occurrences p (suc i) d rest)))
        → IsThere (first_b b (record { var = y; place = i ∷ p; depth = d; list = ys }) (first_of x (occurrences p (suc i) d rest)))
    go true q r = tt
    go false q r = r q
occurs_first x p i d (part h kids rest) e =
    either (occurs x kids) (occurs x rest) e
    (λ q. there_earlier x (occurrences (i ∷ p) 0 (inside h d) kids) (occurrences p (suc i) d rest) (occurs_first x (i ∷ p) 0 (inside h d) kids q))
    (λ q. there_later x (occurrences (i ∷ p) 0 (inside h d) kids) (occurrences p (suc i) d rest) (occurs_first x p (suc i) d rest q))

each_below : (vars : ℕ) (p : Place) (i d : ℕ) (k : Left) → GoodLeft vars d k → Each (λ o. o.var < vars) (occurrences p i d k)
unfolding GoodLeft occurrences
each_below vars p i d end g = tt
each_below vars p i d (hole x ys rest) g = (g.0, each_below vars p (suc i) d rest g.2)
each_below vars p i d (part h kids rest) g =
    each_join (λ o. o.var < vars) (occurrences (i ∷ p) 0 (inside h d) kids) (occurrences p (suc i) d rest) (each_below vars (i ∷ p) 0 (inside h d) kids g.3) (each_below vars p (suc i) d rest g.4)

not_first : (vars x : ℕ) (os : List Occurrence) → Each (λ o. o.var < vars) os → vars ≤ x → first_of x os ≡ none
unfolding first_of
not_first vars x [] a l = refl
not_first vars x (o ∷ os) a l = rw (ne_eqb x o.var (λ e. omega (arith, a.0, e, l))) (not_first vars x os a.1 l)

-- a number that is no variable has none
pub beyond_first : (vars x : ℕ) (p : Place) (i d : ℕ) (k : Left) → GoodLeft vars d k → vars ≤ x → first_of x (occurrences p i d k) ≡ none
beyond_first vars x p i d k g l = not_first vars x (occurrences p i d k) (each_below vars p i d k g) l

abbrev pub FirstBody : Row → Option Occurrence → Row → Type 0
FirstBody t none b = b ≡ nothing
FirstBody t (some o) b = body_at t o ≡ some b

abbrev FirstsO : Row → ℕ → List Occurrence → Option Found → Type 0
FirstsO t x os none = Unit {0}
FirstsO t x os (some l) = FirstBody t (first_of x os) (body_in l x)

firsts_step : (t : Row) (x : ℕ) (o : Occurrence) (os : List Occurrence) (b : Option Row) → body_at t o ≡ b → (q : Option Found) → FirstsO t x os q → FirstsO t x (o ∷ os) (body_then o.var b q)
unfolding first_of body_in
firsts_step t x o os none e q h = tt
firsts_step t x o os (some b) e none h = tt
firsts_step t x o os (some b) e (some l) h = go (eqb x o.var)
  where
    go : (c : Bool) → FirstBody t (first_b c o (first_of x os)) (body_b c b (body_in l x))
    go true = e
    go false = h

firsts : (t : Row) (x : ℕ) (os : List Occurrence) → FirstsO t x os (bodies_at t os)
unfolding bodies_at first_of body_in
firsts t x [] = refl
firsts t x (o ∷ os) = firsts_step t x o os (body_at t o) refl (bodies_at t os) (firsts t x os)

abbrev AgreedFirst : Row → ℕ → List Occurrence → Option (ℕ → Row) → Type 0
AgreedFirst t x os none = Unit {0}
AgreedFirst t x os (some b) = FirstBody t (first_of x os) (b x)

agreed_first : (t : Row) (x : ℕ) (os : List Occurrence) (q : Option Found) → FirstsO t x os q → AgreedFirst t x os (agreed q)
agreed_first t x os none h = tt
agreed_first t x os (some l) h = go (all_same l l)
  where
    go : (c : Bool) → AgreedFirst t x os (pick c (some (body_in l)) none)
    go true = h
    go false = tt

only_first : (t : Row) (x : ℕ) (os : List Occurrence) (c : Bool) (q : Option Found) → FirstsO t x os q → FirstsO t x os (only_if c q)
only_first t x os true q h = h
only_first t x os false q h = tt

whole : (t : Row) → from 0 (under t []) ≡ t
unfolding from under
whole t = refl

-- matching gives each variable the body at its first occurrence
pub matched_first : (vars : ℕ) (left : Left) (t : Row) (b : ℕ → Row) (x : ℕ) → GoodLeft vars 0 left → wide left ≡ width t → Formed t
    → matching left t ≡ some b → FirstBody t (first_of x (occurrences [] 0 0 left)) (b x)
unfolding matching
matched_first vars left t b x g n f e =
    rw e at (rw (← found_at vars t [] 0 0 left t (whole t) n f g) at
    (agreed_first t x (occurrences [] 0 0 left) (only_if (shape_fits t [] 0 left) (bodies_at t (occurrences [] 0 0 left)))
    (only_first t x (occurrences [] 0 0 left) (shape_fits t [] 0 left) (bodies_at t (occurrences [] 0 0 left)) (firsts t x (occurrences [] 0 0 left)))))

-- ---- left sides as rows
pub left_of_nothing : left_of nothing ≡ end
unfolding left_of
left_of_nothing = refl

pub left_of_symbol : (i c : ℕ) (kids rest : Row) → left_of (node (symbol i c) kids rest) ≡ part (symbol i c) (left_of kids) (left_of rest)
unfolding left_of
left_of_symbol i c kids rest = refl

pub left_of_abstraction : (kids rest : Row) → left_of (node abstraction kids rest) ≡ part abstraction (left_of kids) (left_of rest)
unfolding left_of
left_of_abstraction kids rest = refl

pub left_of_pattern : (x c : ℕ) (kids rest : Row) → left_of (node (pattern x c) kids rest) ≡ hole x (ids_or (ids_of kids)) (left_of rest)
unfolding left_of
left_of_pattern x c kids rest = refl

pub left_in_lem : (rule : Rule) (i : IsTree side_limits rule.left) → left_in rule ≡ left_of i.tree
unfolding left_in
left_in_lem rule i = ap left_of (tree_of_lem side_limits rule.left i)

-- ---- the lowest rule
pub lowest_zero : (book : List ℕ) (number : ℕ) (t : Row) → lowest book number 0 t ≡ none
unfolding lowest
lowest_zero book number t = refl

pub lowest_more : (book : List ℕ) (number more : ℕ) (t : Row)
    → lowest book number (suc more) t ≡ or_next number 0 (matching_o (rule_at book number) t) (lowest book (suc number) more t)
unfolding lowest
lowest_more book number more t = refl
