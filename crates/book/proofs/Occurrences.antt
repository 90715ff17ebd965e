-- The pattern variables of a row are those of its words.
use mathlib.Core.Path.{◌≡◌, refl, sym, ◌∙◌}
use mathlib.Core.Bool.{Bool, true, false, ◌&&◌, ◌||◌}
use mathlib.Core.List.{List, [], ◌∷◌, ◌++◌}
use Prim.Native.Nat.{ℕ, suc, ◌≤◌}
use native.Mathlib.Omega.{arith}
use lib.Dec.{leb, ltb, eqb}
use borrow.Author.Tests.{le-leb, leb-true}
use Rattle.term.specs.Word.{Head, symbol, abstraction, variable, pattern, pick, word, InTable, kind_of, count_of, ident_of}
use Rattle.term.specs.Row.{Row, nothing, node, words, Formed}
use Rattle.term.proofs.Laws.{words_nothing, words_node, formed_node, kind_word, count_word_lem, ident_word, kind_symbol, kind_abstraction, kind_variable, kind_pattern, count_pattern, ident_pattern}
use Rattle.book.specs.Rule.{counted, one_count, no_other}
use Rattle.book.specs.Told.Occurs.{is_pattern, occurs_in, below_head, below_vars, counts_head, counts_as}

-- ---- the clauses
pub occurs_nothing : (x : ℕ) → occurs_in x nothing ≡ false
unfolding occurs_in
occurs_nothing x = refl

pub occurs_node : (x : ℕ) (h : Head) (kids rest : Row) → occurs_in x (node h kids rest) ≡ is_pattern x h || (occurs_in x kids || occurs_in x rest)
unfolding occurs_in
occurs_node x h kids rest = refl

pub below_nothing : (vars : ℕ) → below_vars vars nothing ≡ true
unfolding below_vars
below_nothing vars = refl

pub below_node : (vars : ℕ) (h : Head) (kids rest : Row) → below_vars vars (node h kids rest) ≡ below_head vars h && (below_vars vars kids && below_vars vars rest)
unfolding below_vars
below_node vars h kids rest = refl

pub counts_nothing : (left : List ℕ) → counts_as left nothing ≡ true
unfolding counts_as
counts_nothing left = refl

pub counts_node : (left : List ℕ) (h : Head) (kids rest : Row) → counts_as left (node h kids rest) ≡ counts_head left h && (counts_as left kids && counts_as left rest)
unfolding counts_as
counts_node left h kids rest = refl

-- ---- a word
is_pattern_word : (x : ℕ) (h : Head) → InTable h → eqb (kind_of (word h)) 3 && eqb (ident_of (word h)) x ≡ is_pattern x h
is_pattern_word x (symbol i c) t = rw (kind_word (symbol i c) t, kind_symbol i c)
is_pattern_word x abstraction t = rw (kind_word abstraction t, kind_abstraction)
is_pattern_word x (variable i) t = rw (kind_word (variable i) t, kind_variable i)
is_pattern_word x (pattern i c) t = rw (kind_word (pattern i c) t, kind_pattern i c, ident_word (pattern i c) t, ident_pattern i c)

below_word : (vars : ℕ) (h : Head) (rest : Bool) → InTable h → pick (eqb (kind_of (word h)) 3) (ltb (ident_of (word h)) vars && rest) rest ≡ below_head vars h && rest
below_word vars (symbol i c) rest t = rw (kind_word (symbol i c) t, kind_symbol i c)
below_word vars abstraction rest t = rw (kind_word abstraction t, kind_abstraction)
below_word vars (variable i) rest t = rw (kind_word (variable i) t, kind_variable i)
below_word vars (pattern i c) rest t = rw (kind_word (pattern i c) t, kind_pattern i c, ident_word (pattern i c) t, ident_pattern i c)

counts_word : (left : List ℕ) (h : Head) (rest : Bool) → InTable h
    → pick (eqb (kind_of (word h)) 3) (eqb (counted (ident_of (word h)) left) (suc (count_of (word h))) && rest) rest ≡ counts_head left h && rest
counts_word left (symbol i c) rest t = rw (kind_word (symbol i c) t, kind_symbol i c)
counts_word left abstraction rest t = rw (kind_word abstraction t, kind_abstraction)
counts_word left (variable i) rest t = rw (kind_word (variable i) t, kind_variable i)
counts_word left (pattern i c) rest t =
    rw (kind_word (pattern i c) t, kind_pattern i c, ident_word (pattern i c) t, ident_pattern i c, count_word_lem (pattern i c) t, count_pattern i c)

-- ---- words one after another
or_assoc : (a b c : Bool) → (a || b) || c ≡ a || (b || c)
or_assoc true b c = refl
or_assoc false b c = refl

-- a word's occurrence, and those after it
one_counted : (x w : ℕ) (ws : List ℕ) → leb 1 (counted x (w ∷ ws)) ≡ (eqb (kind_of w) 3 && eqb (ident_of w) x) || leb 1 (counted x ws)
unfolding counted
one_counted x w ws = go (eqb (kind_of w) 3 && eqb (ident_of w) x)
  where
    go : (b : Bool) → leb 1 (pick b (suc (count_of w)) (counted x ws)) ≡ b || leb 1 (counted x ws)
    go true = le-leb 1 (suc (count_of w)) (omega arith)
    go false = refl

counted_none : (x : ℕ) → leb 1 (counted x []) ≡ false
unfolding counted
counted_none x = refl

counted_append : (x : ℕ) (us vs : List ℕ) → leb 1 (counted x (us ++ vs)) ≡ leb 1 (counted x us) || leb 1 (counted x vs)
counted_append x [] vs = rw (counted_none x)
counted_append x (u ∷ us) vs =
    one_counted x u (us ++ vs) ∙ rw (counted_append x us vs, one_counted x u us, or_assoc)

and_assoc : (a b c : Bool) → (a && b) && c ≡ a && (b && c)
and_assoc true b c = refl
and_assoc false b c = refl

picked_and : (k a b c : Bool) → pick k (a && (b && c)) (b && c) ≡ pick k (a && b) b && c
picked_and true a b c = sym (and_assoc a b c)
picked_and false a b c = refl

other_append : (vars : ℕ) (us vs : List ℕ) → no_other vars (us ++ vs) ≡ no_other vars us && no_other vars vs
unfolding no_other
other_append vars [] vs = refl
other_append vars (u ∷ us) vs = rw (other_append vars us vs) (picked_and (eqb (kind_of u) 3) (ltb (ident_of u) vars) (no_other vars us) (no_other vars vs))

one_append : (left us vs : List ℕ) → one_count left (us ++ vs) ≡ one_count left us && one_count left vs
unfolding one_count
one_append left [] vs = refl
one_append left (u ∷ us) vs =
    rw (one_append left us vs) (picked_and (eqb (kind_of u) 3) (eqb (counted (ident_of u) left) (suc (count_of u))) (one_count left us) (one_count left vs))

-- ---- a row and its words
pub occurs_is : (x : ℕ) (f : Row) → Formed f → leb 1 (counted x (words f)) ≡ occurs_in x f
unfolding occurs_in
occurs_is x nothing p = rw words_nothing (counted_none x)
occurs_is x (node h kids rest) p =
    let n = formed_node h kids rest p in
    rw (words_node h kids rest)
    (one_counted x (word h) (words kids ++ words rest)
    ∙ rw (counted_append x (words kids) (words rest), is_pattern_word x h n.table, occurs_is x kids n.below, occurs_is x rest n.beside))

pub below_is : (vars : ℕ) (f : Row) → Formed f → no_other vars (words f) ≡ below_vars vars f
unfolding no_other below_vars
below_is vars nothing p = rw words_nothing
below_is vars (node h kids rest) p =
    let n = formed_node h kids rest p in
    rw (words_node h kids rest)
    (below_word vars h (no_other vars (words kids ++ words rest)) n.table
    ∙ rw (other_append vars (words kids) (words rest), below_is vars kids n.below, below_is vars rest n.beside))

pub counts_is : (left : List ℕ) (f : Row) → Formed f → one_count left (words f) ≡ counts_as left f
unfolding one_count counts_as
counts_is left nothing p = rw words_nothing
counts_is left (node h kids rest) p =
    let n = formed_node h kids rest p in
    rw (words_node h kids rest)
    (counts_word left h (one_count left (words kids ++ words rest)) n.table
    ∙ rw (one_append left (words kids) (words rest), counts_is left kids n.below, counts_is left rest n.beside))

pub counted_occurs : (x : ℕ) (f : Row) → Formed f → 1 ≤ counted x (words f) → occurs_in x f ≡ true
counted_occurs x f p h = sym (occurs_is x f p) ∙ le-leb 1 (counted x (words f)) h

pub occurs_counted : (x : ℕ) (f : Row) → Formed f → occurs_in x f ≡ true → 1 ≤ counted x (words f)
occurs_counted x f p e = leb-true 1 (counted x (words f)) (occurs_is x f p ∙ e)
