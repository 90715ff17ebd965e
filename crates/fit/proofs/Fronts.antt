-- The front of a term is the term but for the arguments set aside: below the arguments that stay nothing changes, so what is asked there is asked of the term.
use mathlib.Core.Path.{◌≡◌, refl, sym, ap, ap₂, ◌∙◌}
use mathlib.Core.Bool.{Bool, true, false, ◌&&◌}
use mathlib.Core.List.{List, [], ◌∷◌, ◌++◌}
use mathlib.Core.Option.{none, some}
use Prim.Native.Nat.{ℕ, zero, suc, ◌+◌, ◌-◌, ◌≤◌, ◌<◌, max}
use native.Mathlib.Omega.{arith}
use lib.Dec.{eqb, leb}
use lib.ListN.{length, length-append}
use borrow.Author.Tests.{le-leb, lt-leb, leb-true, leb-false, eqb-true, eq-eqb, ne_eqb}
use Rattle.std.specs.Prelude.{Ok}
use Rattle.term.specs.Word.{Head, symbol, abstraction, variable, pattern, word, count, pick, InTable}
use Rattle.term.specs.Row.{Row, nothing, node, width, words, nesting, ranks, Formed, ◌⧺◌, firsts, others}
use Rattle.term.proofs.Laws.{never, and_left, and_right, count_symbol, width_nothing, width_node, words_node, words_join, nesting_node, nesting_join, ranks_node, ranks_join, rank_symbol, join_nothing, join_nothing_left, formed_node, node_formed, firsts_others, width_firsts, width_others, formed_firsts, firsts_nothing, firsts_node, firsts_all, others_node, symbol_table, symbol_few}
use Rattle.term.specs.Renumber.{inside}
use Rattle.book.specs.Rule.{root_symbol, side_limits}
use Rattle.book.specs.Book.{Rule, check_book, rule_at}
use Rattle.book.proofs.Laws.{book_rule, root_nothing, root_abstraction, root_variable, root_pattern}
use Rattle.fit.specs.Left.{Left, end, hole, part, left_of, wide}
use Rattle.fit.specs.Fit.{WithinTerm, IsBody, found, matching}
use Rattle.fit.specs.Match.{left_in}
use Rattle.fit.specs.Constraint.{Place, tree, children_of, under, tree_at, is_head, shape_fits, occurrences}
use Rattle.fit.specs.Front.{root_arguments, front, aside, aside_arguments, with_arguments, matching_front, covers}
use Rattle.fit.proofs.Basics.{same_word}
use Rattle.fit.proofs.Accepted.{tree_of_lem}
use Rattle.fit.proofs.Above.{Each, each_join}

-- ---- the clauses of the definitions
pub front_nothing : (b : ℕ) → front b nothing ≡ nothing
unfolding front
front_nothing b = refl

pub front_symbol : (b i a : ℕ) (kids rest : Row) → b ≤ a → front b (node (symbol i a) kids rest) ≡ node (symbol i b) (firsts b kids) rest
unfolding front
front_symbol b i a kids rest l = rw (le-leb b a l)

pub front_fewer : (b i a : ℕ) (kids rest : Row) → a < b → front b (node (symbol i a) kids rest) ≡ node (symbol i a) kids rest
unfolding front
front_fewer b i a kids rest l = rw (lt-leb b a l)

pub front_abstraction : (b : ℕ) (kids rest : Row) → front b (node abstraction kids rest) ≡ node abstraction kids rest
unfolding front
front_abstraction b kids rest = refl

pub front_variable : (b i : ℕ) (kids rest : Row) → front b (node (variable i) kids rest) ≡ node (variable i) kids rest
unfolding front
front_variable b i kids rest = refl

pub front_pattern : (b i c : ℕ) (kids rest : Row) → front b (node (pattern i c) kids rest) ≡ node (pattern i c) kids rest
unfolding front
front_pattern b i c kids rest = refl

pub aside_node : (b : ℕ) (h : Head) (kids rest : Row) → aside b (node h kids rest) ≡ count h - b
unfolding aside
aside_node b h kids rest = refl

pub aside_arguments_node : (b : ℕ) (h : Head) (kids rest : Row) → aside_arguments b (node h kids rest) ≡ others b kids
unfolding aside_arguments
aside_arguments_node b h kids rest = refl

pub with_arguments_symbol : (i c : ℕ) (kids rest more : Row) → with_arguments (node (symbol i c) kids rest) more ≡ node (symbol i (c + width more)) (kids ⧺ more) rest
unfolding with_arguments
with_arguments_symbol i c kids rest more = refl

-- no arguments more
pub with_nothing : (t : Row) → with_arguments t nothing ≡ t
unfolding with_arguments
with_nothing nothing = refl
with_nothing (node (symbol i c) kids rest) = let n : c + width nothing ≡ c = omega (arith, width_nothing) in rw (n, join_nothing kids)
with_nothing (node abstraction kids rest) = refl
with_nothing (node (variable i) kids rest) = refl
with_nothing (node (pattern i c) kids rest) = refl

pub matching_front_lem : (left : Left) (t : Row) → matching_front left t ≡ matching left (front (root_arguments left) t)
unfolding matching_front
matching_front_lem left t = refl

pub root_arguments_lem : (h : Head) (kids rest : Left) → root_arguments (part h kids rest) ≡ count h
unfolding root_arguments
root_arguments_lem h kids rest = refl

-- a fact of every front: it is the term with fewer arguments at its root, or the term itself
front_case : (P : Row → Row → Type 0) (b : ℕ)
    → ((i a : ℕ) (kids rest : Row) → b ≤ a → P (node (symbol i a) kids rest) (node (symbol i b) (firsts b kids) rest))
    → ((t : Row) → P t t) → (t : Row) → P t (front b t)
unfolding front
front_case P b s o nothing = o nothing
front_case P b s o (node (symbol i a) kids rest) = go (leb b a) refl
  where
    go : (c : Bool) → leb b a ≡ c → P (node (symbol i a) kids rest) (pick c (node (symbol i b) (firsts b kids) rest) (node (symbol i a) kids rest))
    go true e = s i a kids rest (leb-true b a e)
    go false e = o (node (symbol i a) kids rest)
front_case P b s o (node abstraction kids rest) = o (node abstraction kids rest)
front_case P b s o (node (variable i) kids rest) = o (node (variable i) kids rest)
front_case P b s o (node (pattern i c) kids rest) = o (node (pattern i c) kids rest)

-- ---- with a = b everything is as before
pub front_same : (h : Head) (kids rest : Row) → Formed (node h kids rest) → front (count h) (node h kids rest) ≡ node h kids rest
front_same (symbol i a) kids rest w =
    let n : width kids ≡ a = (formed_node (symbol i a) kids rest w).full ∙ count_symbol i a in
    rw (count_symbol i a) (front_symbol a i a kids rest (omega arith) ∙ ap (λ (f : Row). node (symbol i a) f rest) (rw n at (firsts_all kids)))
front_same abstraction kids rest w = front_abstraction (count abstraction) kids rest
front_same (variable i) kids rest w = front_variable (count (variable i)) i kids rest
front_same (pattern i c) kids rest w = front_pattern (count (pattern i c)) i c kids rest

-- ---- the front of a term is a term
pub width_front : (b : ℕ) (t : Row) → width (front b t) ≡ width t
width_front b t =
    front_case (λ s f. width f ≡ width s) b (λ i a kids rest l. width_node (symbol i b) (firsts b kids) rest ∙ sym (width_node (symbol i a) kids rest)) (λ s. refl) t

front_node : (b i a : ℕ) (kids rest : Row) → b ≤ a → Formed (node (symbol i a) kids rest) → Formed (node (symbol i b) (firsts b kids) rest)
front_node b i a kids rest l w =
    let n = formed_node (symbol i a) kids rest w in
    let s = symbol_few i a n.table in
    let k = count_symbol i a in
    node_formed (symbol i b) (firsts b kids) rest
    (record {
      table = symbol_table i b (omega (arith, s.0)) s.1;
      full = width_firsts b kids (omega (arith, n.full, k)) ∙ sym (count_symbol i b);
      below = formed_firsts b kids n.below;
      beside = n.beside;
    })

pub front_formed : (b : ℕ) (t : Row) → Formed t → Formed (front b t)
front_formed b t = front_case (λ s f. Formed s → Formed f) b (λ i a kids rest l w. front_node b i a kids rest l w) (λ s w. w) t

long_node : (h : Head) (kids rest : Row) → length (words (node h kids rest)) ≡ suc (length (words kids) + length (words rest))
long_node h kids rest = ap length (words_node h kids rest) ∙ ap suc (length-append (words kids) (words rest))

front_node_within : (b i a : ℕ) (kids rest : Row) → b ≤ a → WithinTerm (node (symbol i a) kids rest) → WithinTerm (node (symbol i b) (firsts b kids) rest)
front_node_within b i a kids rest l w =
    let r : ranks kids ≡ max (ranks (firsts b kids)) (ranks (others b kids)) = ap ranks (sym (firsts_others b kids)) ∙ ranks_join (firsts b kids) (others b kids) in
    let n : nesting kids ≡ max (nesting (firsts b kids)) (nesting (others b kids)) = ap nesting (sym (firsts_others b kids)) ∙ nesting_join (firsts b kids) (others b kids) in
    let s : length (words kids) ≡ length (words (firsts b kids)) + length (words (others b kids)) =
    ap length (ap words (sym (firsts_others b kids)) ∙ words_join (firsts b kids) (others b kids)) ∙ length-append (words (firsts b kids)) (words (others b kids)) in
    record {
      formed = front_node b i a kids rest l w.formed;
      few = omega (arith, ranks_node (symbol i a) kids rest, ranks_node (symbol i b) (firsts b kids) rest, rank_symbol i a, rank_symbol i b, r, w.few);
      low = omega (arith, nesting_node (symbol i a) kids rest, nesting_node (symbol i b) (firsts b kids) rest, n, w.low);
      short = omega (arith, long_node (symbol i a) kids rest, long_node (symbol i b) (firsts b kids) rest, s, w.short);
    }

pub front_within : (b : ℕ) (t : Row) → WithinTerm t → WithinTerm (front b t)
front_within b t = front_case (λ s f. WithinTerm s → WithinTerm f) b (λ i a kids rest l w. front_node_within b i a kids rest l w) (λ s w. w) t

pub front_body : (b : ℕ) (t : Row) → IsBody t → IsBody (front b t)
front_body b t i = record { one = width_front b t ∙ i.one; within = front_within b t i.within }

-- ---- the term is its front with the arguments set aside put back at its end
others_nothing : (n : ℕ) → others n nothing ≡ nothing
others_nothing n = sym (join_nothing_left (others n nothing)) ∙ rw (firsts_nothing n) at (firsts_others n nothing)

others_past : (n : ℕ) (f : Row) → width f ≤ n → others n f ≡ nothing
others_past n nothing l = others_nothing n
others_past zero (node h kids rest) l = absurd (omega (arith, width_node h kids rest, l))
others_past (suc n) (node h kids rest) l = others_node n h kids rest ∙ others_past n rest (omega (arith, width_node h kids rest, l))

put_back : (b i a : ℕ) (kids rest : Row) → Formed (node (symbol i a) kids rest) → with_arguments (front b (node (symbol i a) kids rest)) (others b kids) ≡ node (symbol i a) kids rest
put_back b i a kids rest w = go (leb b a) refl
  where
    full : width kids ≡ a
    full = (formed_node (symbol i a) kids rest w).full ∙ count_symbol i a

    go : (c : Bool) → leb b a ≡ c → with_arguments (front b (node (symbol i a) kids rest)) (others b kids) ≡ node (symbol i a) kids rest
    go true e =
        let l = leb-true b a e in
        let m : width (others b kids) ≡ a - b = width_others b (a - b) kids (omega (arith, full, l)) in
        let s : b + width (others b kids) ≡ a = omega (arith, m, l) in
        ap (λ (f : Row). with_arguments f (others b kids)) (front_symbol b i a kids rest l)
        ∙ with_arguments_symbol i b (firsts b kids) rest (others b kids)
        ∙ ap₂ (λ (c : ℕ) (f : Row). node (symbol i c) f rest) s (firsts_others b kids)
    go false e =
        let l = leb-false b a e in
        let m = others_past b kids (omega (arith, full, l)) in
        let s : a + width (others b kids) ≡ a = ap (λ (f : Row). a + width f) m ∙ omega (arith, width_nothing) in
        ap (λ (f : Row). with_arguments f (others b kids)) (front_fewer b i a kids rest l)
        ∙ with_arguments_symbol i a kids rest (others b kids)
        ∙ ap₂ (λ (c : ℕ) (f : Row). node (symbol i c) f rest) s (ap (λ (f : Row). kids ⧺ f) m ∙ join_nothing kids)

pub front_and_aside : (b : ℕ) (t : Row) → Formed t → with_arguments (front b t) (aside_arguments b t) ≡ t
unfolding front aside_arguments with_arguments
front_and_aside b nothing w = refl
front_and_aside b (node (symbol i a) kids rest) w = put_back b i a kids rest w
front_and_aside b (node abstraction kids rest) w = refl
front_and_aside b (node (variable i) kids rest) w = refl
front_and_aside b (node (pattern i c) kids rest) w = refl

-- they are as many as are set aside
width_past : (b a : ℕ) (kids : Row) → width kids ≡ a → width (others b kids) ≡ a - b
width_past b a kids n = go (leb b a) refl
  where
    go : (c : Bool) → leb b a ≡ c → width (others b kids) ≡ a - b
    go true e = width_others b (a - b) kids (omega (arith, n, leb-true b a e))
    go false e = ap width (others_past b kids (omega (arith, n, leb-false b a e))) ∙ omega (arith, width_nothing, leb-false b a e)

pub width_aside : (b : ℕ) (t : Row) → Formed t → width (aside_arguments b t) ≡ aside b t
unfolding aside aside_arguments
width_aside b nothing w = width_nothing
width_aside b (node h kids rest) w = width_past b (count h) kids (formed_node h kids rest w).full

-- ---- below the arguments that stay nothing changes
-- the way from the root to a place goes through one of the first b arguments
pub record Through (b : ℕ) (p : Place) : Type 0 where
  pub inner : Place
  pub argument : ℕ
  pub few : argument < b
  pub is : inner ++ (argument ∷ 0 ∷ []) ≡ p

pub through_argument : (b j : ℕ) → j < b → Through b (j ∷ 0 ∷ [])
through_argument b j l = record { inner = []; argument = j; few = l; is = refl }

pub through_child : (b i : ℕ) (p : Place) → Through b p → Through b (i ∷ p)
through_child b i p s = record { inner = i ∷ s.inner; argument = s.argument; few = s.few; is = ap (i ∷◌) s.is }

tree_firsts : (b : ℕ) (f : Row) (j : ℕ) → j < b → tree (firsts b f) j ≡ tree f j
unfolding tree
tree_firsts b nothing j l = rw (firsts_nothing b)
tree_firsts zero (node h kids rest) j l = absurd (omega arith)
tree_firsts (suc b) (node h kids rest) zero l = rw (firsts_node b h kids rest)
tree_firsts (suc b) (node h kids rest) (suc j) l = rw (firsts_node b h kids rest) (tree_firsts b rest j (omega arith))

pub tree_front : (b j : ℕ) → j < b → (t : Row) → tree (under (front b t) (0 ∷ [])) j ≡ tree (under t (0 ∷ [])) j
unfolding under tree children_of
tree_front b j l t =
    front_case (λ s f. tree (children_of (tree f 0)) j ≡ tree (children_of (tree s 0)) j) b (λ i a kids rest m. tree_firsts b kids j l) (λ s. refl) t

under_inner : (b j : ℕ) → j < b → (t : Row) (q : Place) → under (front b t) (q ++ (j ∷ 0 ∷ [])) ≡ under t (q ++ (j ∷ 0 ∷ []))
unfolding under
under_inner b j l t [] = ap children_of (tree_front b j l t)
under_inner b j l t (i ∷ q) = ap (λ (f : Row). children_of (tree f i)) (under_inner b j l t q)

at_inner : (b j : ℕ) → j < b → (t : Row) (q : Place) → tree_at (front b t) (q ++ (j ∷ 0 ∷ [])) ≡ tree_at t (q ++ (j ∷ 0 ∷ []))
unfolding tree_at
at_inner b j l t [] = tree_front b j l t
at_inner b j l t (i ∷ q) = ap (λ (f : Row). tree f i) (under_inner b j l t q)

pub under_front : (b : ℕ) (t : Row) (p : Place) → Through b p → under (front b t) p ≡ under t p
under_front b t p s = rw s.is at (under_inner b s.argument s.few t s.inner)

pub tree_at_front : (b : ℕ) (t : Row) (p : Place) → Through b p → tree_at (front b t) p ≡ tree_at t p
tree_at_front b t p s = rw s.is at (at_inner b s.argument s.few t s.inner)

-- the shape of a sub-pattern there
pub shape_front : (b : ℕ) (t : Row) (p : Place) (i : ℕ) (k : Left) → ((j : ℕ) → j < i + wide k → Through b (j ∷ p)) → shape_fits (front b t) p i k ≡ shape_fits t p i k
unfolding shape_fits wide
shape_front b t p i end s = refl
shape_front b t p i (hole x ys rest) s = shape_front b t p (suc i) rest (λ j l. s j (omega arith))
shape_front b t p i (part h kids rest) s =
    let q = s i (omega arith) in
    ap₂ ◌&&◌
    (ap₂ ◌&&◌ (ap (is_head h) (tree_at_front b t (i ∷ p) q)) (shape_front b t (i ∷ p) 0 kids (λ j l. through_child b j (i ∷ p) q)))
    (shape_front b t p (suc i) rest (λ j l. s j (omega arith)))

-- the occurrences in it
pub through_each : (b : ℕ) (p : Place) (i d : ℕ) (k : Left) → ((j : ℕ) → j < i + wide k → Through b (j ∷ p)) → Each (λ o. Through b o.place) (occurrences p i d k)
unfolding occurrences wide
through_each b p i d end s = tt
through_each b p i d (hole x ys rest) s = (s i (omega arith), through_each b p (suc i) d rest (λ j l. s j (omega arith)))
through_each b p i d (part h kids rest) s =
    let q = s i (omega arith) in
    each_join (λ o. Through b o.place) (occurrences (i ∷ p) 0 (inside h d) kids) (occurrences p (suc i) d rest)
    (through_each b (i ∷ p) 0 (inside h d) kids (λ j l. through_child b j (i ∷ p) q)) (through_each b p (suc i) d rest (λ j l. s j (omega arith)))

-- ---- the root
-- a left side's root is a symbol
pub record SymbolRoot (left : Left) : Type 0 where
  pub ident : ℕ
  pub arguments : ℕ
  pub kids : Left
  pub rest : Left
  pub is : left ≡ part (symbol ident arguments) kids rest

root_is_lem : (f : Row) → root_symbol f ≡ true → SymbolRoot (left_of f)
unfolding left_of
root_is_lem nothing e = never (let z = root_nothing in cc)
root_is_lem (node (symbol i c) kids rest) e = record { ident = i; arguments = c; kids = left_of kids; rest = left_of rest; is = refl }
root_is_lem (node abstraction kids rest) e = never (let z = root_abstraction kids rest in cc)
root_is_lem (node (variable i) kids rest) e = never (let z = root_variable i kids rest in cc)
root_is_lem (node (pattern i c) kids rest) e = never (let z = root_pattern i c kids rest in cc)

pub accepted_root : (book : List ℕ) → check_book book ≡ Ok tt → (number : ℕ) (rule : Rule) → rule_at book number ≡ some rule → SymbolRoot (left_in rule)
unfolding left_in
accepted_root book accepted number rule e =
    let f = book_rule book number rule accepted e in
    rw (tree_of_lem side_limits rule.left f.left_tree) (root_is_lem f.left_tree.tree f.left_root)

pub covers_symbol : (i a j b : ℕ) (kids rest : Left) → covers (part (symbol j b) kids rest) (symbol i a) ≡ eqb j i && leb b a
unfolding covers
covers_symbol i a j b kids rest = refl

-- a head with another word does not match
pub other_word : (h g : Head) (kids rest : Left) (ts rs : Row) → eqb (word h) (word g) ≡ false → matching (part h kids rest) (node g ts rs) ≡ none
unfolding matching found
other_word h g kids rest ts rs e = rw e

other_head : (h g : Head) (kids rest : Left) (ts rs : Row) → InTable h → InTable g → (h ≡ g → ⊥) → matching (part h kids rest) (node g ts rs) ≡ none
other_head h g kids rest ts rs i k d = other_word h g kids rest ts rs (ne_eqb (word h) (word g) (λ e. d (same_word h g i k e)))

-- a symbol that the root of the term does not cover
other_symbol : (j b : ℕ) (kids rest : Left) (i a : ℕ) (ts rs : Row) → InTable (symbol j b) → InTable (symbol i a) → eqb j i && leb b a ≡ false
    → matching (part (symbol j b) kids rest) (front b (node (symbol i a) ts rs)) ≡ none
other_symbol j b kids rest i a ts rs u v e = go (leb b a) refl
  where
    go : (c : Bool) → leb b a ≡ c → matching (part (symbol j b) kids rest) (front b (node (symbol i a) ts rs)) ≡ none
    go true q =
        let s = symbol_few i a v in
        let k : InTable (symbol i b) = symbol_table i b (omega (arith, s.0, leb-true b a q)) s.1 in
        rw (front_symbol b i a ts rs (leb-true b a q))
        (other_head (symbol j b) (symbol i b) kids rest (firsts b ts) rs u k (λ z. let y : j ≡ i = cc in let x = eq-eqb j i y in absurd (never (cc))))
    go false q =
        rw (front_fewer b i a ts rs (leb-false b a q))
        (other_head (symbol j b) (symbol i a) kids rest ts rs u v (λ z. let y : b ≡ a = cc in omega (arith, leb-false b a q, y)))

-- where the root is not covered the left side does not fit
pub uncovered_none : (j b : ℕ) (kids rest : Left) (g : Head) (ts rs : Row) → InTable (symbol j b) → Formed (node g ts rs) → covers (part (symbol j b) kids rest) g ≡ false
    → matching_front (part (symbol j b) kids rest) (node g ts rs) ≡ none
unfolding matching_front root_arguments covers
uncovered_none j b kids rest (symbol i a) ts rs u w e = rw (count_symbol j b) (other_symbol j b kids rest i a ts rs u (formed_node (symbol i a) ts rs w).table e)
uncovered_none j b kids rest abstraction ts rs u w e =
    rw (front_abstraction (count (symbol j b)) ts rs) (other_head (symbol j b) abstraction kids rest ts rs u (formed_node abstraction ts rs w).table (λ z. never (cc)))
uncovered_none j b kids rest (variable i) ts rs u w e =
    rw (front_variable (count (symbol j b)) i ts rs) (other_head (symbol j b) (variable i) kids rest ts rs u (formed_node (variable i) ts rs w).table (λ z. never (cc)))
uncovered_none j b kids rest (pattern i c) ts rs u w e =
    rw (front_pattern (count (symbol j b)) i c ts rs) (other_head (symbol j b) (pattern i c) kids rest ts rs u (formed_node (pattern i c) ts rs w).table (λ z. never (cc)))

-- where it is covered the term's root is the same symbol, with no fewer arguments
pub record CoveredAs (j b : ℕ) (g : Head) : Type 0 where
  pub arguments : ℕ
  pub few : b ≤ arguments
  pub is : g ≡ symbol j arguments

pub covered_as : (j b : ℕ) (kids rest : Left) (g : Head) → covers (part (symbol j b) kids rest) g ≡ true → CoveredAs j b g
unfolding covers
covered_as j b kids rest (symbol i a) e =
    record {
      arguments = a;
      few = leb-true b a (and_right (eqb j i) (leb b a) e);
      is = ap (λ (x : ℕ). symbol x a) (sym (eqb-true j i (and_left (eqb j i) (leb b a) e)));
    }
covered_as j b kids rest abstraction e = never (cc)
covered_as j b kids rest (variable i) e = never (cc)
covered_as j b kids rest (pattern i c) e = never (cc)

covers_itself : (j b : ℕ) (kids rest : Left) (g : Head) → symbol j b ≡ g → covers (part (symbol j b) kids rest) g ≡ true
covers_itself j b kids rest g e = rw (← e, covers_symbol j b j b kids rest, eq-eqb j j refl, le-leb b b (omega arith))

-- where a covered root has just as many arguments, matching is as before
pub as_before : (j b : ℕ) (kids rest : Left) (g : Head) (ts rs : Row) → InTable (symbol j b) → Formed (node g ts rs) → (covers (part (symbol j b) kids rest) g ≡ true → symbol j b ≡ g)
    → matching_front (part (symbol j b) kids rest) (node g ts rs) ≡ matching (part (symbol j b) kids rest) (node g ts rs)
as_before j b kids rest g ts rs u w s = go (covers (part (symbol j b) kids rest) g) refl
  where
    go : (c : Bool) → covers (part (symbol j b) kids rest) g ≡ c → matching_front (part (symbol j b) kids rest) (node g ts rs) ≡ matching (part (symbol j b) kids rest) (node g ts rs)
    go true e =
        matching_front_lem (part (symbol j b) kids rest) (node g ts rs)
        ∙ ap (λ (n : ℕ). matching (part (symbol j b) kids rest) (front n (node g ts rs))) (root_arguments_lem (symbol j b) kids rest ∙ ap count (s e))
        ∙ ap (matching (part (symbol j b) kids rest)) (front_same g ts rs w)
    go false e =
        uncovered_none j b kids rest g ts rs u w e
        ∙ sym (other_head (symbol j b) g kids rest ts rs u (formed_node g ts rs w).table (λ z. never (let y = covers_itself j b kids rest g z in cc)))
