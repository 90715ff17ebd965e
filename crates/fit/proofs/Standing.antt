-- A rule's left side stands in its words from their first on, and a term in its own: the book's check asks for what a walk needs.
use mathlib.Core.Path.{◌≡◌, sym, ◌∙◌}
use mathlib.Core.Bool.{true, ◌&&◌}
use mathlib.Core.List.{List, [], ◌++◌, append-nil}
use mathlib.Core.Option.{some}
use Prim.Native.Nat.{ℕ, suc}
use native.Mathlib.Omega.{arith}
use lib.Dec.{ltb}
use lib.ListN.{drop}
use borrow.Author.Tests.{ltb-true}
use Rattle.std.specs.Prelude.{Ok}
use Rattle.term.specs.Word.{symbol, abstraction, variable, pattern}
use Rattle.term.specs.Row.{Row, nothing, node, words, Formed}
use Rattle.term.specs.Check.{Limits, IsTree, check, term_limits}
use Rattle.term.specs.Renumber.{GoodList}
use Rattle.term.proofs.Laws.{and_left, formed_node, count_symbol, count_abstraction, count_pattern, good_tree}
use Rattle.book.specs.Rule.{ids_of, left_shape, side_limits}
use Rattle.book.specs.Told.Occurs.{below_vars}
use Rattle.book.specs.Book.{Rule, check_book, rule_at}
use Rattle.book.proofs.Laws.{RuleFacts, book_rule, below_node}
use Rattle.fit.specs.Left.{ids_or}
use Rattle.fit.specs.Match.{tree_of}
use Rattle.fit.specs.Told.Told.{LeftRow, LeftStands, TermStands}
use Rattle.fit.proofs.Accepted.{no_variable, under_symbol, under_abstraction, under_pattern, listed, below_both, tree_of_lem}

-- a row of the shape of a left side, with variables below vars
left_row : (vars d : ℕ) (f : Row) → Formed f → left_shape d f ≡ true → below_vars vars f ≡ true → LeftRow vars d f
unfolding LeftRow
left_row vars d nothing p s b = tt
left_row vars d (node (symbol i c) kids rest) p s b =
    let n = formed_node (symbol i c) kids rest p in
    let u = under_symbol d i c kids rest s in
    let v = below_both vars (symbol i c) kids rest b in
    (n.table, n.full ∙ count_symbol i c, left_row vars d kids n.below u.0 v.0, left_row vars d rest n.beside u.1 v.1)
left_row vars d (node abstraction kids rest) p s b =
    let n = formed_node abstraction kids rest p in
    let u = under_abstraction d kids rest s in
    let v = below_both vars abstraction kids rest b in
    (n.full ∙ count_abstraction, left_row vars (suc d) kids n.below u.0 v.0, left_row vars d rest n.beside u.1 v.1)
left_row vars d (node (variable i) kids rest) p s b = absurd (no_variable d i kids rest s)
left_row vars d (node (pattern x c) kids rest) p s b =
    let n = formed_node (pattern x c) kids rest p in
    let u = under_pattern d x c kids rest s in
    let v = below_both vars (pattern x c) kids rest b in
    let l = listed d (ids_of kids) u.0 in
    let q : ltb x vars ≡ true = and_left (ltb x vars) (below_vars vars kids && below_vars vars rest) (sym (below_node vars (pattern x c) kids rest) ∙ b) in
    let ids : (ys : List ℕ) × (ids_of kids ≡ some ys) × GoodList d ys = (ids_or (ids_of kids), l.1, l.0) in
    (n.table, ltb-true x vars q, n.full ∙ count_pattern x c, n.below, ids, left_row vars d rest n.beside u.1 v.1)

-- the words of one tree, and nothing after them
alone : (limits : Limits) (ws : List ℕ) (i : IsTree limits ws) → drop 0 ws ≡ words i.tree ++ []
alone limits ws i = i.same ∙ sym (append-nil (words i.tree))

rule_stands : (rule : Rule) → RuleFacts rule → LeftStands rule.vars 0 16 1 rule.left 0 (tree_of rule.left) []
rule_stands rule f =
    let i = f.left_tree in
    rw (tree_of_lem side_limits rule.left i)
    (record {
      good = left_row rule.vars 0 i.tree i.formed f.left_shape f.left_below;
      low = i.low;
      wide = i.one;
      same = alone side_limits rule.left i;
    })

-- the left side of every rule of an accepted book
pub accepted_stands : (book : List ℕ) → check_book book ≡ Ok tt → (number : ℕ) (rule : Rule) → rule_at book number ≡ some rule
    → LeftStands rule.vars 0 16 1 rule.left 0 (tree_of rule.left) []
accepted_stands book accepted number rule e = rule_stands rule (book_rule book number rule accepted e)

-- a good term
pub term_standing : (ws : List ℕ) → check term_limits ws ≡ Ok tt → TermStands 1 ws 0 (tree_of ws) []
term_standing ws g =
    let i = good_tree term_limits (omega arith) ws g in
    rw (tree_of_lem term_limits ws i)
    (record { formed = i.formed; few = i.few; low = i.low; wide = i.one; same = alone term_limits ws i })
