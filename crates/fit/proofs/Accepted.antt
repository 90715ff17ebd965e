-- The left side of a rule of an accepted book is as fit needs it: the book asks for its shape, its counts and its variables.
use mathlib.Core.Path.{◌≡◌, refl, sym, ap, ◌∙◌}
use mathlib.Core.Bool.{Bool, true, false, ◌&&◌, ◌||◌}
use mathlib.Core.List.{List, [], ◌++◌, append-nil}
use mathlib.Core.Option.{Option, none, some}
use Prim.Native.Nat.{ℕ, suc, ◌+◌, ◌≤◌}
use native.Mathlib.Omega.{arith}
use lib.Dec.{eqb, ltb}
use lib.ListN.{get_or}
use borrow.Author.Tests.{eqb-true, eq-eqb, ltb-true}
use Rattle.std.specs.Prelude.{Ok}
use Rattle.term.specs.Word.{Head, symbol, abstraction, variable, pattern, count}
use Rattle.term.specs.Row.{Row, nothing, node, width, words, nesting, Formed, read}
use Rattle.term.specs.Check.{Limits, IsTree, IsTerm}
use Rattle.term.specs.Renumber.{GoodList}
use Rattle.term.proofs.Laws.{never, and_left, and_right, read_words_lem, width_nothing, width_node, nesting_node, formed_node, count_variable, rank_symbol, rank_abstraction, inside_symbol, inside_abstraction, good_true}
use Rattle.book.specs.Rule.{id_before, ids_of, list_for, left_shape, side_limits}
use Rattle.book.specs.Told.Occurs.{is_pattern, occurs_in, below_head, below_vars}
use Rattle.book.specs.Book.{Rule, check_book, rule_at}
use Rattle.book.proofs.Laws.{RuleFacts, book_rule, ids_node, left_symbol, left_abstraction, left_variable, left_pattern, occurs_nothing, occurs_node, below_node}
use Rattle.fit.specs.Left.{ids_or, left_of, wide, deep, occurs, GoodLeft}
use Rattle.fit.specs.Match.{tree_of, left_in}
use Rattle.fit.specs.Lowest.{lowest}
use Rattle.fit.proofs.Matching.{tree_within}
use Rattle.fit.proofs.Words.{GoodRule}
use Rattle.fit.proofs.Lowest.{LowestIs, lowest_is}

-- ---- what a shape says of the trees of a row
pub no_variable : (d i : ℕ) (kids rest : Row) → left_shape d (node (variable i) kids rest) ≡ true → ⊥
no_variable d i kids rest s = never (let z = left_variable d i kids rest in cc)

pub under_symbol : (d i c : ℕ) (kids rest : Row) → left_shape d (node (symbol i c) kids rest) ≡ true → (left_shape d kids ≡ true) × (left_shape d rest ≡ true)
under_symbol d i c kids rest s =
    let e = sym (left_symbol d i c kids rest) ∙ s in
    (and_left (left_shape d kids) (left_shape d rest) e, and_right (left_shape d kids) (left_shape d rest) e)

pub under_abstraction : (d : ℕ) (kids rest : Row) → left_shape d (node abstraction kids rest) ≡ true → (left_shape (suc d) kids ≡ true) × (left_shape d rest ≡ true)
under_abstraction d kids rest s =
    let e = sym (left_abstraction d kids rest) ∙ s in
    (and_left (left_shape (suc d) kids) (left_shape d rest) e, and_right (left_shape (suc d) kids) (left_shape d rest) e)

pub under_pattern : (d i c : ℕ) (kids rest : Row) → left_shape d (node (pattern i c) kids rest) ≡ true → (list_for d (ids_of kids) ≡ true) × (left_shape d rest ≡ true)
under_pattern d i c kids rest s =
    let e = sym (left_pattern d i c kids rest) ∙ s in
    (and_left (list_for d (ids_of kids)) (left_shape d rest) e, and_right (list_for d (ids_of kids)) (left_shape d rest) e)

pub listed : (d : ℕ) (o : Option (List ℕ)) → list_for d o ≡ true → (GoodList d (ids_or o)) × (o ≡ some (ids_or o))
listed d none e = never (cc)
listed d (some ys) e = (good_true d ys e, refl)

pub below_both : (vars : ℕ) (h : Head) (kids rest : Row) → below_vars vars (node h kids rest) ≡ true → (below_vars vars kids ≡ true) × (below_vars vars rest ≡ true)
below_both vars h kids rest b =
    let e = and_right (below_head vars h) (below_vars vars kids && below_vars vars rest) (sym (below_node vars h kids rest) ∙ b) in
    (and_left (below_vars vars kids) (below_vars vars rest) e, and_right (below_vars vars kids) (below_vars vars rest) e)

-- ---- as many trees, no deeper
wide_left : (d : ℕ) (f : Row) → left_shape d f ≡ true → wide (left_of f) ≡ width f
unfolding wide left_of
wide_left d nothing s = sym width_nothing
wide_left d (node (symbol i c) kids rest) s = ap suc (wide_left d rest (under_symbol d i c kids rest s).1) ∙ sym (width_node (symbol i c) kids rest)
wide_left d (node abstraction kids rest) s = ap suc (wide_left d rest (under_abstraction d kids rest s).1) ∙ sym (width_node abstraction kids rest)
wide_left d (node (variable i) kids rest) s = absurd (no_variable d i kids rest s)
wide_left d (node (pattern i c) kids rest) s = ap suc (wide_left d rest (under_pattern d i c kids rest s).1) ∙ sym (width_node (pattern i c) kids rest)

deep_left : (f : Row) → deep (left_of f) ≤ nesting f
unfolding deep left_of
deep_left nothing = omega arith
deep_left (node (symbol i c) kids rest) = omega (arith, nesting_node (symbol i c) kids rest, deep_left kids, deep_left rest)
deep_left (node abstraction kids rest) = omega (arith, nesting_node abstraction kids rest, deep_left kids, deep_left rest)
deep_left (node (variable i) kids rest) = omega (arith, nesting_node (variable i) kids rest, deep_left rest)
deep_left (node (pattern i c) kids rest) = omega (arith, nesting_node (pattern i c) kids rest, deep_left rest)

-- ---- the variables of a row are those of its left side: a list holds none
none_wide : (f : Row) → width f ≡ 0 → f ≡ nothing
none_wide nothing e = refl
none_wide (node h kids rest) e = absurd (omega (arith, width_node h kids rest, e))

list_holds_none : (x : ℕ) (f : Row) → Formed f → (ys : List ℕ) → ids_of f ≡ some ys → occurs_in x f ≡ false
list_holds_none x nothing p ys e = occurs_nothing x
list_holds_none x (node h kids rest) p ys e =
    occurs_node x h kids rest ∙ go h (ids_of rest) refl (formed_node h kids rest p).full (sym (ids_node h kids rest) ∙ e)
    (λ zs q. list_holds_none x rest (formed_node h kids rest p).beside zs q)
  where
    go : (g : Head) (o : Option (List ℕ)) → ids_of rest ≡ o → width kids ≡ count g → id_before g o ≡ some ys
        → ((zs : List ℕ) → ids_of rest ≡ some zs → occurs_in x rest ≡ false) → is_pattern x g || (occurs_in x kids || occurs_in x rest) ≡ false
    go (symbol i c) o q w z r = never (cc)
    go abstraction o q w z r = never (cc)
    go (pattern i c) o q w z r = never (cc)
    go (variable i) none q w z r = never (cc)
    go (variable i) (some zs) q w z r = rw (none_wide kids (w ∙ count_variable i), occurs_nothing x) (r zs q)

or_both : (a b c d : Bool) → a || b ≡ true → (a ≡ true → c ≡ true) → (b ≡ true → d ≡ true) → c || d ≡ true
or_both true b c d e f g = rw (f refl)
or_both false true true d e f g = refl
or_both false true false d e f g = g refl
or_both false false c d e f g = never (cc)

occurs_left : (x d : ℕ) (f : Row) → Formed f → left_shape d f ≡ true → occurs_in x f ≡ true → occurs x (left_of f) ≡ true
unfolding occurs left_of
occurs_left x d nothing p s o = never (let z = occurs_nothing x in cc)
occurs_left x d (node (symbol i c) kids rest) p s o =
    let n = formed_node (symbol i c) kids rest p in
    let u = under_symbol d i c kids rest s in
    or_both _ _ _ _ (sym (occurs_node x (symbol i c) kids rest) ∙ o) (occurs_left x d kids n.below u.0) (occurs_left x d rest n.beside u.1)
occurs_left x d (node abstraction kids rest) p s o =
    let n = formed_node abstraction kids rest p in
    let u = under_abstraction d kids rest s in
    or_both _ _ _ _ (sym (occurs_node x abstraction kids rest) ∙ o) (occurs_left x (suc d) kids n.below u.0) (occurs_left x d rest n.beside u.1)
occurs_left x d (node (variable i) kids rest) p s o = absurd (no_variable d i kids rest s)
occurs_left x d (node (pattern i c) kids rest) p s o =
    let n = formed_node (pattern i c) kids rest p in
    let u = under_pattern d i c kids rest s in
    let k = list_holds_none x kids n.below (ids_or (ids_of kids)) (listed d (ids_of kids) u.0).1 in
    let e : eqb i x || occurs_in x rest ≡ true = rw k at (sym (occurs_node x (pattern i c) kids rest) ∙ o) in
    or_both _ _ _ _ e (λ q. eq-eqb x i (sym (eqb-true i x q))) (occurs_left x d rest n.beside u.1)

-- ---- lists, counts and heads
good_left_lem : (vars d : ℕ) (f : Row) → Formed f → left_shape d f ≡ true → below_vars vars f ≡ true → GoodLeft vars d (left_of f)
unfolding GoodLeft left_of
good_left_lem vars d nothing p s b = tt
good_left_lem vars d (node (symbol i c) kids rest) p s b =
    let n = formed_node (symbol i c) kids rest p in
    let u = under_symbol d i c kids rest s in
    let v = below_both vars (symbol i c) kids rest b in
    (n.table, wide_left d kids u.0 ∙ n.full, omega (arith, rank_symbol i c), rw (inside_symbol i c d) (good_left_lem vars d kids n.below u.0 v.0), good_left_lem vars d rest n.beside u.1 v.1)
good_left_lem vars d (node abstraction kids rest) p s b =
    let n = formed_node abstraction kids rest p in
    let u = under_abstraction d kids rest s in
    let v = below_both vars abstraction kids rest b in
    (n.table, wide_left (suc d) kids u.0 ∙ n.full, omega (arith, rank_abstraction), rw (inside_abstraction d) (good_left_lem vars (suc d) kids n.below u.0 v.0), good_left_lem vars d rest n.beside u.1 v.1)
good_left_lem vars d (node (variable i) kids rest) p s b = absurd (no_variable d i kids rest s)
good_left_lem vars d (node (pattern i c) kids rest) p s b =
    let n = formed_node (pattern i c) kids rest p in
    let u = under_pattern d i c kids rest s in
    let v = below_both vars (pattern i c) kids rest b in
    let l : ltb i vars ≡ true = and_left (ltb i vars) (below_vars vars kids && below_vars vars rest) (sym (below_node vars (pattern i c) kids rest) ∙ b) in
    (ltb-true i vars l, (listed d (ids_of kids) u.0).0, good_left_lem vars d rest n.beside u.1 v.1)

-- ---- the tree that words are is the one that is read
pub tree_of_lem : (limits : Limits) (ws : List ℕ) (i : IsTree limits ws) → tree_of ws ≡ i.tree
unfolding tree_of
tree_of_lem limits ws i =
    let e : words i.tree ++ [] ≡ ws = append-nil (words i.tree) ∙ sym i.same in
    let r : read 1 ws ≡ some (i.tree, []) = rw (e, i.one) at (read_words_lem i.tree i.formed []) in
    rw r

rule_good : (rule : Rule) → RuleFacts rule → GoodRule rule.vars (left_in rule)
unfolding left_in
rule_good rule f =
    let i = f.left_tree in
    rw (tree_of_lem side_limits rule.left i)
    (record {
      good = good_left_lem rule.vars 0 i.tree i.formed f.left_shape f.left_below;
      one = wide_left 0 i.tree f.left_shape ∙ i.one;
      low = omega (arith, deep_left i.tree, i.low);
      all = λ x h. occurs_left x 0 i.tree i.formed f.left_shape (f.left_occurs x h);
    })

-- ---- every rule of an accepted book
module _ (book : List ℕ) (accepted : check_book book ≡ Ok tt) where
  pub accepted_good : (number : ℕ) (rule : Rule) → rule_at book number ≡ some rule → GoodRule rule.vars (left_in rule)
  accepted_good number rule e = rule_good rule (book_rule book number rule accepted e)

  -- of all the rules of the book, the lowest that fits
  pub book_lowest : (ws : List ℕ) (i : IsTerm ws) → LowestIs book 0 (get_or book 0 0) i.tree (lowest book 0 (get_or book 0 0) i.tree)
  book_lowest ws i =
      let e : 0 + get_or book 0 0 ≡ get_or book 0 0 = omega arith in
      rw e at (lowest_is book i.tree (tree_within ws i) i.one accepted_good (get_or book 0 0) 0)
