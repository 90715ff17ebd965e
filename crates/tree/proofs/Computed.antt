-- Document 01's book A: its tree's words, computed from the definitions.
use mathlib.Core.Path.{◌≡◌, refl}
use mathlib.Core.List.{List, [], ◌∷◌}
use mathlib.Core.Option.{Option, none, some}
use Prim.Native.Nat.{ℕ, ◌+◌}
use lib.ListN.{length}
use Rattle.term.specs.Word.{word, kind, count, ident, head_of, head_with}
use Rattle.term.specs.Row.{words, read, firsts, others}
use Rattle.term.specs.Renumber.{position, id_body, inside, renumber_head, renumber, named_head, named, closed, to_body}
use Rattle.term.specs.Part.{same_words}
use Rattle.book.specs.Rule.{ids_of}
use Rattle.book.specs.Book.{rule_of, nth_rule, rule_at}
use Rattle.book.specs.Marked.{s, l, v, m, book_a}
use Rattle.fit.specs.Left.{left_of}
use Rattle.fit.specs.Constraint.{children_of, is_head, occurrences, closeds, first_of, sames, constraints, body_here}
use Rattle.fit.specs.Match.{tree_of, left_in}
use Rattle.fit.specs.Lowest.{Fitting}
use Rattle.fit.specs.Front.{root_arguments, covers}
use Rattle.tree.specs.Path.{place_numbered, number_in, children_from, marked, enter}
use Rattle.tree.specs.Rows.{sub, below, subs_under, sub_at, head_at, lowest_open, is_in, among, same_constraint, has, unstruck, constraints_left, words_of, words_left, size}
use Rattle.tree.specs.Compile.{without, heads, case_rows, default_rows, entering, holding, rows_without, test_of, variables_from, leaf_of, cases_of, node_of, step, compile_by, compile, book_rows}
use Rattle.tree.specs.Find.{root_part, part_of, marked_part, child_parts, inside_of, enter_part, body_for, leaf_body}
use Rattle.tree.proofs.Finds.{find, find_case}
use Rattle.tree.specs.Tree.{Tree, Fail, Leaf, Switch, Closed, Same, Cases, NoCase, Case}
use Rattle.tree.specs.Root.{without_id, root_symbols, smallest, counts_from, heads_of, root_heads, root_case_rows, root_cases, root_tree, book_tree}
use Rattle.tree.specs.Layout.{variable_words, case_count, long, long_cases, case_heads, layout, layout_cases}

-- what the tree of a book finds in a term: the rule and its body for the variable 0, in words
abbrev rule_and_body : Option Fitting → Option (ℕ × List ℕ)
rule_and_body none = none
rule_and_body (some f) = some (f.number, words (f.bodies 0))

abbrev finds : List ℕ → List ℕ → Option (ℕ × List ℕ)
finds book ws = rule_and_body (find (book_tree book) (root_part (tree_of ws)))

-- book A with its rules 1 and 2 exchanged: a row of variables does not pass before an earlier row that still stands
book_c : List ℕ
book_c = 3
    ∷ 1 ∷ 3 ∷ 1 ∷ s 2 2 ∷ m 0 0 ∷ m 0 0 ∷ m 0 0
    ∷ 1 ∷ 5 ∷ 5 ∷ s 3 1 ∷ l ∷ s 4 1 ∷ m 0 1 ∷ v 1 ∷ s 4 1 ∷ s 3 1 ∷ l ∷ m 0 1 ∷ v 1
    ∷ 1 ∷ 3 ∷ 1 ∷ s 3 1 ∷ l ∷ m 0 0 ∷ m 0 0
    ∷ []

exchanged :
    (finds book_c (s 3 1 ∷ l ∷ s 4 1 ∷ s 7 0 ∷ []) ≡ some (1, s 7 0 ∷ []))
    × (finds book_c (s 3 1 ∷ l ∷ v 2 ∷ []) ≡ some (2, v 1 ∷ []))
unfolding s l v m book_c word kind count ident head_of head_with words read firsts others position inside id_body renumber_head renumber named_head named closed to_body same_words ids_of rule_of nth_rule rule_at left_of children_of is_head body_here occurrences closeds first_of sames constraints tree_of left_in place_numbered number_in children_from marked enter sub below subs_under sub_at head_at lowest_open is_in among same_constraint has unstruck constraints_left words_of words_left size without heads case_rows default_rows entering holding rows_without test_of variables_from leaf_of cases_of node_of step compile_by compile book_rows part_of marked_part child_parts inside_of enter_part body_for leaf_body find find_case covers root_arguments without_id root_symbols smallest counts_from heads_of root_heads root_case_rows root_cases root_tree book_tree
exchanged = (refl, refl)

-- how many nodes of a tree are Fail
unfoldable mutual
  fails_in : Tree → ℕ
  fails_in Fail = 1
  fails_in (Leaf leaf) = 0
  fails_in (Switch n cs default) = fails_cases cs + fails_in default
  fails_in (Closed n ys ifYes ifNo) = fails_in ifYes + fails_in ifNo
  fails_in (Same n m ys zs ifYes ifNo) = fails_in ifYes + fails_in ifNo

  fails_cases : Cases → ℕ
  fails_cases NoCase = 0
  fails_cases (Case h x cs) = fails_in x + fails_cases cs

-- book A's tree has 725 words, 45 of them Fail, as document 02 says
words_A : (length (layout 0 (book_tree book_a)) ≡ 725) × (fails_in (book_tree book_a) ≡ 45)
unfolding s l v m book_a word kind count ident head_of head_with read firsts others position inside same_words ids_of rule_of nth_rule rule_at left_of occurrences closeds first_of sames constraints tree_of left_in place_numbered number_in children_from marked enter sub below subs_under sub_at head_at lowest_open is_in among same_constraint has unstruck constraints_left words_of words_left size without heads case_rows default_rows entering holding rows_without test_of variables_from leaf_of cases_of node_of step compile_by compile book_rows variable_words case_count long long_cases case_heads layout layout_cases covers root_arguments without_id root_symbols smallest counts_from heads_of root_heads root_case_rows root_cases root_tree book_tree fails_in fails_cases
words_A = (refl, refl)
