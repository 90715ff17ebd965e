-- Document 01's two terms of book A, budgets, refusals, right sides and document 02's arguments set aside, computed from the definitions.
use mathlib.Core.Path.{◌≡◌, refl}
use mathlib.Core.List.{List, [], ◌∷◌, ◌++◌}
use mathlib.Core.Option.{Option, none, some, map}
use Prim.Native.Nat.{ℕ, zero, suc}
use lib.ListN.{replicate}
use Rattle.term.specs.declared.answer.Answer.{Answer}
use Rattle.term.specs.declared.answer.Answer.TheVariants.{Done, NoFit, BudgetUsed, BadTerm, BadBook, Short, Damaged, Over, CannotTake}
use Rattle.term.specs.Answer.{answered}
use Rattle.term.specs.Word.{word, kind, rank, count, ident, head_of, head_with}
use Rattle.term.specs.Row.{Row, words, width, ranks, nesting, read, firsts, others, ◌⧺◌}
use Rattle.term.specs.Check.{check, scan, settle, may_stand}
use Rattle.term.specs.Renumber.{position, listed, good_list, id_body, id_term, inside, renumber_head, renumber, named_head, named, closed, to_body, to_term}
use Rattle.term.specs.Part.{same_words, padded}
use Rattle.book.specs.Rule.{ids_of, left_shape, root_symbol, right_shape, counted, one_count, all_occur, no_other, good_left, good_right, good_rule}
use Rattle.book.specs.Book.{rule_of, judge, check_book, nth_rule, rule_at}
use Rattle.book.specs.Accept.{accept}
use Rattle.book.specs.Marked.{s, l, v, m, book_a}
use Rattle.fit.specs.Left.{left_of}
use Rattle.fit.specs.Constraint.{tree, children_of, is_head, occurrences, closeds, first_of, sames, constraints, body_here}
use Rattle.fit.specs.Match.{tree_of, left_in}
use Rattle.fit.specs.Front.{root_arguments, aside, aside_arguments, with_arguments, covers}
use Rattle.fit.specs.Build.{largest, within_limits, limited, build_answer, build_words}
use Rattle.tree.specs.Tree.{counts_of}
use Rattle.tree.specs.Path.{place_numbered, number_in, children_from, marked, enter}
use Rattle.tree.specs.Rows.{sub, below, subs_under, sub_at, head_at, lowest_open, is_in, among, same_constraint, has, unstruck, constraints_left, words_of, words_left, size}
use Rattle.tree.specs.Compile as compiler
use Rattle.tree.specs.Compile.{without, heads, case_rows, default_rows, entering, holding, rows_without, test_of, variables_from, leaf_of, cases_of, node_of, compile_by, compile, book_rows}
use Rattle.tree.specs.Root.{without_id, root_symbols, smallest, counts_from, heads_of, root_heads, root_case_rows, root_cases, root_tree, book_tree}
use Rattle.tree.specs.Find.{root_count, part_of, marked_part, child_parts, inside_of, enter_part, body_for, leaf_body}
use Rattle.tree.specs.Layout.{variable_words, case_count, long, long_cases, case_heads, layout, layout_cases, tree_words}
use Rattle.walk.specs.Walk.{go_to, variables_in, sound_variable, sound_variables, leaf_node, is_word, case_of, switch_node, closed_node, same_node, node_at, next_at, walk_by, walk_from, walk, visits_by, visits_from, visits, counts_fit, book_fits}
use Rattle.steps.specs.Right.{shifted, replaced, in_body, write}
use Rattle.steps.specs.Arguments.{takes, with_aside}
use Rattle.steps.specs.Rewrite.{rewritten, rewrite_root, root_answer, root_words, root_visits}
use Rattle.steps.specs.Offset.{part_at, spliced}
use Rattle.steps.specs.Step.{FoundAt, seek_rule, lowest_offset, seek_visits, search_visits, Stepped, Becomes, Refused, whole_within, step_found, step}
use Rattle.steps.specs.Simplify.{found, Ended, simplify_by, simplify, simplify_answer, simplify_words, simplify_steps, simplify_visits, SimplifyOutcome, simplify_came, simplify_gives}

-- ---- right sides
abbrev one_body : List ℕ → ℕ → Row
one_body ws x = tree_of ws

abbrev wrote : List ℕ → List ℕ → List ℕ
wrote body right = words (write (one_body body) 0 (tree_of right))

right_sides :
    -- the body under two abstractions of the right side: what it names outside is two further away
    (wrote (v 1 ∷ []) (l ∷ l ∷ m 0 0 ∷ []) ≡ l ∷ l ∷ v 3 ∷ [])
    -- its own ids stay
    × (wrote (l ∷ v 1 ∷ []) (l ∷ m 0 0 ∷ []) ≡ l ∷ l ∷ v 1 ∷ [])
    -- a parameter is the written child, and the child is shifted for the body's own abstraction
    × (wrote (l ∷ v 2 ∷ []) (l ∷ m 0 1 ∷ v 1 ∷ []) ≡ l ∷ l ∷ v 2 ∷ [])
    × (wrote (s 9 2 ∷ v 1 ∷ l ∷ v 2 ∷ []) (l ∷ m 0 1 ∷ s 8 1 ∷ v 1 ∷ []) ≡ l ∷ s 9 2 ∷ s 8 1 ∷ v 1 ∷ l ∷ s 8 1 ∷ v 2 ∷ [])
    -- a child's own abstractions keep their ids
    × (wrote (l ∷ v 2 ∷ []) (m 0 1 ∷ l ∷ v 1 ∷ []) ≡ l ∷ l ∷ v 1 ∷ [])
    -- outside, past one parameter and under one abstraction of the right side
    × (wrote (s 9 2 ∷ v 1 ∷ v 2 ∷ []) (l ∷ m 0 1 ∷ s 7 0 ∷ []) ≡ l ∷ s 9 2 ∷ s 7 0 ∷ v 2 ∷ [])
    × (wrote (s 9 2 ∷ v 1 ∷ v 2 ∷ []) (m 0 1 ∷ s 7 0 ∷ []) ≡ s 9 2 ∷ s 7 0 ∷ v 1 ∷ [])
    -- a variable in the child of a variable
    × (wrote (s 9 2 ∷ v 1 ∷ v 2 ∷ []) (m 0 1 ∷ m 0 1 ∷ s 7 0 ∷ []) ≡ s 9 2 ∷ s 9 2 ∷ s 7 0 ∷ v 1 ∷ v 1 ∷ [])
unfolding word kind rank count ident head_of head_with words width ranks nesting read firsts others ◌⧺◌ check scan settle may_stand position listed good_list inside id_body id_term renumber_head renumber named_head named closed to_body to_term same_words padded ids_of left_shape root_symbol right_shape counted one_count all_occur no_other good_left good_right good_rule rule_of judge check_book accept nth_rule rule_at left_of tree children_of is_head body_here occurrences closeds first_of sames constraints tree_of left_in root_arguments aside aside_arguments with_arguments largest within_limits limited build_answer build_words counts_of place_numbered number_in children_from marked enter sub below subs_under sub_at head_at lowest_open is_in among same_constraint has unstruck constraints_left words_of words_left size without heads case_rows default_rows entering holding rows_without test_of variables_from leaf_of cases_of node_of compiler.step compile_by compile book_rows covers without_id root_symbols smallest counts_from heads_of root_heads root_case_rows root_cases root_tree book_tree root_count part_of marked_part child_parts inside_of enter_part body_for leaf_body variable_words case_count long long_cases case_heads layout layout_cases tree_words go_to variables_in sound_variable sound_variables leaf_node is_word case_of switch_node closed_node same_node node_at next_at walk_by walk_from walk visits_by visits_from visits counts_fit book_fits shifted replaced in_body write takes with_aside rewritten rewrite_root part_at spliced seek_rule lowest_offset seek_visits search_visits whole_within step simplify_by simplify simplify_answer simplify_words simplify_steps simplify_visits s l v m simplify_gives
right_sides = (refl, refl, refl, refl, refl, refl, refl, refl)

-- ---- simplifying: the answer, the steps and the words, in a room of six words
abbrev simplified : ℕ → List ℕ → List ℕ → ℕ → List ℕ → SimplifyOutcome
simplified room book table budget ws = simplify_gives book table ws budget room

abbrev says : Answer → (steps visits : ℕ) → List ℕ → SimplifyOutcome
says a n seen ws = simplify_came (answered a) n seen ws

term_0 : List ℕ
term_0 = s 2 2 ∷ s 3 1 ∷ l ∷ s 7 0 ∷ s 7 0 ∷ []

term_1 : List ℕ
term_1 = s 3 1 ∷ l ∷ s 4 1 ∷ s 4 1 ∷ v 1 ∷ []

-- a tree that knows rule 0 and breaks at an abstraction
breaks_at_l : List ℕ
breaks_at_l = 2 ∷ 0 ∷ 2 ∷ l ∷ 11 ∷ s 2 2 ∷ 12 ∷ 10 ∷ 0 ∷ 0 ∷ 0 ∷ 9 ∷ 1 ∷ 0 ∷ 1 ∷ 0 ∷ 1 ∷ 0 ∷ []

-- document 01's two terms
terms_A :
    (simplified 6 book_a (tree_words book_a) 1000 term_0 ≡ says Done 2 12 (s 7 0 ∷ 0 ∷ 0 ∷ 0 ∷ 0 ∷ 0 ∷ []))
    × (simplified 6 book_a (tree_words book_a) 1000 term_1 ≡ says Done 2 25 (s 4 1 ∷ s 4 1 ∷ s 3 1 ∷ l ∷ v 1 ∷ 0 ∷ []))
unfolding word kind rank count ident head_of head_with words width ranks nesting read firsts others ◌⧺◌ check scan settle may_stand position listed good_list inside id_body id_term renumber_head renumber named_head named closed to_body to_term same_words padded ids_of left_shape root_symbol right_shape counted one_count all_occur no_other good_left good_right good_rule rule_of judge check_book accept nth_rule rule_at left_of tree children_of is_head body_here occurrences closeds first_of sames constraints tree_of left_in root_arguments aside aside_arguments with_arguments largest within_limits limited build_answer build_words counts_of place_numbered number_in children_from marked enter sub below subs_under sub_at head_at lowest_open is_in among same_constraint has unstruck constraints_left words_of words_left size without heads case_rows default_rows entering holding rows_without test_of variables_from leaf_of cases_of node_of compiler.step compile_by compile book_rows covers without_id root_symbols smallest counts_from heads_of root_heads root_case_rows root_cases root_tree book_tree root_count part_of marked_part child_parts inside_of enter_part body_for leaf_body variable_words case_count long long_cases case_heads layout layout_cases tree_words go_to variables_in sound_variable sound_variables leaf_node is_word case_of switch_node closed_node same_node node_at next_at walk_by walk_from walk visits_by visits_from visits counts_fit book_fits shifted replaced in_body write takes with_aside rewritten rewrite_root part_at spliced seek_rule lowest_offset seek_visits search_visits whole_within step simplify_by simplify simplify_answer simplify_words simplify_steps simplify_visits s l v m book_a term_0 term_1 simplify_gives
terms_A = (refl, refl)

-- the trace of the first: by rule 1 after seven nodes, by rule 0 after three, and two nodes at the last look
trace_A : simplify book_a (tree_words book_a) 1000 term_0 ≡ Ended (found 1 7 ∷ found 0 3 ∷ []) 2 Done (tree_of (s 7 0 ∷ []))
unfolding word kind rank count ident head_of head_with words width ranks nesting read firsts others ◌⧺◌ check scan settle may_stand position listed good_list inside id_body id_term renumber_head renumber named_head named closed to_body to_term same_words padded ids_of left_shape root_symbol right_shape counted one_count all_occur no_other good_left good_right good_rule rule_of judge check_book accept nth_rule rule_at left_of tree children_of is_head body_here occurrences closeds first_of sames constraints tree_of left_in root_arguments aside aside_arguments with_arguments largest within_limits limited build_answer build_words counts_of place_numbered number_in children_from marked enter sub below subs_under sub_at head_at lowest_open is_in among same_constraint has unstruck constraints_left words_of words_left size without heads case_rows default_rows entering holding rows_without test_of variables_from leaf_of cases_of node_of compiler.step compile_by compile book_rows covers without_id root_symbols smallest counts_from heads_of root_heads root_case_rows root_cases root_tree book_tree root_count part_of marked_part child_parts inside_of enter_part body_for leaf_body variable_words case_count long long_cases case_heads layout layout_cases tree_words go_to variables_in sound_variable sound_variables leaf_node is_word case_of switch_node closed_node same_node node_at next_at walk_by walk_from walk visits_by visits_from visits counts_fit book_fits shifted replaced in_body write takes with_aside rewritten rewrite_root part_at spliced seek_rule lowest_offset seek_visits search_visits whole_within step simplify_by simplify simplify_answer simplify_words simplify_steps simplify_visits s l v m book_a term_0 term_1 simplify_gives
trace_A = refl

-- budgets 0, 1 and exact; room for the result and one word short of it
budgets_A :
    (simplified 6 book_a (tree_words book_a) 0 term_0 ≡ says BudgetUsed 0 7 (s 2 2 ∷ s 3 1 ∷ l ∷ s 7 0 ∷ s 7 0 ∷ 0 ∷ []))
    × (simplified 6 book_a (tree_words book_a) 1 term_0 ≡ says BudgetUsed 1 10 (s 2 2 ∷ s 7 0 ∷ s 7 0 ∷ 0 ∷ 0 ∷ 0 ∷ []))
    × (simplified 6 book_a (tree_words book_a) 2 term_0 ≡ says Done 2 12 (s 7 0 ∷ 0 ∷ 0 ∷ 0 ∷ 0 ∷ 0 ∷ []))
    × (simplified 6 book_a (tree_words book_a) 1 term_1 ≡ says BudgetUsed 1 12 (s 4 1 ∷ s 3 1 ∷ l ∷ s 4 1 ∷ v 1 ∷ 0 ∷ []))
    × (simplified 6 book_a (tree_words book_a) 0 (v 3 ∷ []) ≡ says Done 0 2 (v 3 ∷ 0 ∷ 0 ∷ 0 ∷ 0 ∷ 0 ∷ []))
    × (simplified 5 book_a (tree_words book_a) 2 term_1 ≡ says Done 2 25 (s 4 1 ∷ s 4 1 ∷ s 3 1 ∷ l ∷ v 1 ∷ []))
    × (simplified 4 book_a (tree_words book_a) 2 term_1 ≡ says Short 2 25 (0 ∷ 0 ∷ 0 ∷ 0 ∷ []))
unfolding word kind rank count ident head_of head_with words width ranks nesting read firsts others ◌⧺◌ check scan settle may_stand position listed good_list inside id_body id_term renumber_head renumber named_head named closed to_body to_term same_words padded ids_of left_shape root_symbol right_shape counted one_count all_occur no_other good_left good_right good_rule rule_of judge check_book accept nth_rule rule_at left_of tree children_of is_head body_here occurrences closeds first_of sames constraints tree_of left_in root_arguments aside aside_arguments with_arguments largest within_limits limited build_answer build_words counts_of place_numbered number_in children_from marked enter sub below subs_under sub_at head_at lowest_open is_in among same_constraint has unstruck constraints_left words_of words_left size without heads case_rows default_rows entering holding rows_without test_of variables_from leaf_of cases_of node_of compiler.step compile_by compile book_rows covers without_id root_symbols smallest counts_from heads_of root_heads root_case_rows root_cases root_tree book_tree root_count part_of marked_part child_parts inside_of enter_part body_for leaf_body variable_words case_count long long_cases case_heads layout layout_cases tree_words go_to variables_in sound_variable sound_variables leaf_node is_word case_of switch_node closed_node same_node node_at next_at walk_by walk_from walk visits_by visits_from visits counts_fit book_fits shifted replaced in_body write takes with_aside rewritten rewrite_root part_at spliced seek_rule lowest_offset seek_visits search_visits whole_within step simplify_by simplify simplify_answer simplify_words simplify_steps simplify_visits s l v m book_a term_0 term_1 simplify_gives
budgets_A = (refl, refl, refl, refl, refl, refl, refl)

-- the lowest offset: two parts fit rule 0, and the one that begins first is rewritten, not the one inside it
lowest_A :
    (simplified 7 book_a (tree_words book_a) 1 (s 2 2 ∷ s 2 2 ∷ v 1 ∷ v 1 ∷ s 2 2 ∷ v 1 ∷ v 1 ∷ []) ≡ says BudgetUsed 1 6 (s 2 2 ∷ v 1 ∷ v 1 ∷ 0 ∷ 0 ∷ 0 ∷ 0 ∷ []))
    -- and of two side by side the left one
    × (simplified 7 book_a (tree_words book_a) 1 (s 5 2 ∷ s 2 2 ∷ v 1 ∷ v 1 ∷ s 2 2 ∷ v 2 ∷ v 2 ∷ []) ≡ says BudgetUsed 1 12 (s 5 2 ∷ v 1 ∷ s 2 2 ∷ v 2 ∷ v 2 ∷ 0 ∷ 0 ∷ []))
unfolding word kind rank count ident head_of head_with words width ranks nesting read firsts others ◌⧺◌ check scan settle may_stand position listed good_list inside id_body id_term renumber_head renumber named_head named closed to_body to_term same_words padded ids_of left_shape root_symbol right_shape counted one_count all_occur no_other good_left good_right good_rule rule_of judge check_book accept nth_rule rule_at left_of tree children_of is_head body_here occurrences closeds first_of sames constraints tree_of left_in root_arguments aside aside_arguments with_arguments largest within_limits limited build_answer build_words counts_of place_numbered number_in children_from marked enter sub below subs_under sub_at head_at lowest_open is_in among same_constraint has unstruck constraints_left words_of words_left size without heads case_rows default_rows entering holding rows_without test_of variables_from leaf_of cases_of node_of compiler.step compile_by compile book_rows covers without_id root_symbols smallest counts_from heads_of root_heads root_case_rows root_cases root_tree book_tree root_count part_of marked_part child_parts inside_of enter_part body_for leaf_body variable_words case_count long long_cases case_heads layout layout_cases tree_words go_to variables_in sound_variable sound_variables leaf_node is_word case_of switch_node closed_node same_node node_at next_at walk_by walk_from walk visits_by visits_from visits counts_fit book_fits shifted replaced in_body write takes with_aside rewritten rewrite_root part_at spliced seek_rule lowest_offset seek_visits search_visits whole_within step simplify_by simplify simplify_answer simplify_words simplify_steps simplify_visits s l v m book_a simplify_gives
lowest_A = (refl, refl)

-- refusals: the book before the term, the term before the tree; steps completed
refusals :
    (simplified 2 (64 ∷ []) [] 9 [] ≡ says (BadBook 0) 0 0 (0 ∷ 0 ∷ []))
    × (simplified 2 book_a [] 9 [] ≡ says (BadTerm 0) 0 0 (0 ∷ 0 ∷ []))
    × (simplified 2 book_a [] 9 (s 7 0 ∷ []) ≡ says (Damaged 0) 0 1 (0 ∷ 0 ∷ []))
    -- with no budget too
    × (simplified 2 book_a [] 0 (s 7 0 ∷ []) ≡ says (Damaged 0) 0 1 (0 ∷ 0 ∷ []))
    -- a tree that is damaged where it meets an abstraction: before a later offset is looked at, and after a step that is completed
    × (simplified 2 book_a breaks_at_l 9 (s 5 2 ∷ l ∷ v 1 ∷ s 2 2 ∷ v 1 ∷ v 1 ∷ []) ≡ says (Damaged 11) 0 4 (0 ∷ 0 ∷ []))
    × (simplified 2 book_a breaks_at_l 9 (s 5 2 ∷ s 2 2 ∷ v 1 ∷ v 1 ∷ l ∷ v 1 ∷ []) ≡ says (Damaged 11) 1 10 (0 ∷ 0 ∷ []))
unfolding word kind rank count ident head_of head_with words width ranks nesting read firsts others ◌⧺◌ check scan settle may_stand position listed good_list inside id_body id_term renumber_head renumber named_head named closed to_body to_term same_words padded ids_of left_shape root_symbol right_shape counted one_count all_occur no_other good_left good_right good_rule rule_of judge check_book accept nth_rule rule_at left_of tree children_of is_head body_here occurrences closeds first_of sames constraints tree_of left_in root_arguments aside aside_arguments with_arguments largest within_limits limited build_answer build_words counts_of place_numbered number_in children_from marked enter sub below subs_under sub_at head_at lowest_open is_in among same_constraint has unstruck constraints_left words_of words_left size without heads case_rows default_rows entering holding rows_without test_of variables_from leaf_of cases_of node_of compiler.step compile_by compile book_rows covers without_id root_symbols smallest counts_from heads_of root_heads root_case_rows root_cases root_tree book_tree root_count part_of marked_part child_parts inside_of enter_part body_for leaf_body variable_words case_count long long_cases case_heads layout layout_cases tree_words go_to variables_in sound_variable sound_variables leaf_node is_word case_of switch_node closed_node same_node node_at next_at walk_by walk_from walk visits_by visits_from visits counts_fit book_fits shifted replaced in_body write takes with_aside rewritten rewrite_root part_at spliced seek_rule lowest_offset seek_visits search_visits whole_within step simplify_by simplify simplify_answer simplify_words simplify_steps simplify_visits s l v m book_a breaks_at_l simplify_gives
refusals = (refl, refl, refl, refl, refl, refl)

-- the limits are those of the whole term: an id that passes 65,535 under an abstraction of the right side
book_d : List ℕ
book_d = 1 ∷ 1 ∷ 2 ∷ 2 ∷ s 1 1 ∷ m 0 0 ∷ l ∷ m 0 0 ∷ []

limits_D :
    (simplified 3 book_d (tree_words book_d) 1 (s 1 1 ∷ v 65534 ∷ []) ≡ says Done 1 6 (l ∷ v 65535 ∷ 0 ∷ []))
    × (simplified 3 book_d (tree_words book_d) 1 (s 1 1 ∷ v 65535 ∷ []) ≡ says Over 0 2 (0 ∷ 0 ∷ 0 ∷ []))
    × (simplified 3 book_d (tree_words book_d) 0 (s 1 1 ∷ v 65535 ∷ []) ≡ says BudgetUsed 0 2 (s 1 1 ∷ v 65535 ∷ 0 ∷ []))
unfolding word kind rank count ident head_of head_with words width ranks nesting read firsts others ◌⧺◌ check scan settle may_stand position listed good_list inside id_body id_term renumber_head renumber named_head named closed to_body to_term same_words padded ids_of left_shape root_symbol right_shape counted one_count all_occur no_other good_left good_right good_rule rule_of judge check_book accept nth_rule rule_at left_of tree children_of is_head body_here occurrences closeds first_of sames constraints tree_of left_in root_arguments aside aside_arguments with_arguments largest within_limits limited build_answer build_words counts_of place_numbered number_in children_from marked enter sub below subs_under sub_at head_at lowest_open is_in among same_constraint has unstruck constraints_left words_of words_left size without heads case_rows default_rows entering holding rows_without test_of variables_from leaf_of cases_of node_of compiler.step compile_by compile book_rows covers without_id root_symbols smallest counts_from heads_of root_heads root_case_rows root_cases root_tree book_tree root_count part_of marked_part child_parts inside_of enter_part body_for leaf_body variable_words case_count long long_cases case_heads layout layout_cases tree_words go_to variables_in sound_variable sound_variables leaf_node is_word case_of switch_node closed_node same_node node_at next_at walk_by walk_from walk visits_by visits_from visits counts_fit book_fits shifted replaced in_body write takes with_aside rewritten rewrite_root part_at spliced seek_rule lowest_offset seek_visits search_visits whole_within step simplify_by simplify simplify_answer simplify_words simplify_steps simplify_visits s l v m book_d simplify_gives
limits_D = (refl, refl, refl)

-- and a nesting over 64 of the whole, not of what is written
book_e : List ℕ
book_e = 1 ∷ 1 ∷ 2 ∷ 3 ∷ s 1 1 ∷ m 0 0 ∷ l ∷ l ∷ m 0 0 ∷ []

under : ℕ → List ℕ → List ℕ
under zero ws = ws
under (suc n) ws = l ∷ under n ws

limits_E :
    (simplified 64 book_e (tree_words book_e) 1 (under 61 (s 1 1 ∷ v 1 ∷ [])) ≡ says Done 1 252 (under 63 (v 3 ∷ [])))
    × (simplified 1 book_e (tree_words book_e) 1 (under 62 (s 1 1 ∷ v 1 ∷ [])) ≡ says Over 0 126 (0 ∷ []))
unfolding word kind rank count ident head_of head_with words width ranks nesting read firsts others ◌⧺◌ check scan settle may_stand position listed good_list inside id_body id_term renumber_head renumber named_head named closed to_body to_term same_words padded ids_of left_shape root_symbol right_shape counted one_count all_occur no_other good_left good_right good_rule rule_of judge check_book accept nth_rule rule_at left_of tree children_of is_head body_here occurrences closeds first_of sames constraints tree_of left_in root_arguments aside aside_arguments with_arguments largest within_limits limited build_answer build_words counts_of place_numbered number_in children_from marked enter sub below subs_under sub_at head_at lowest_open is_in among same_constraint has unstruck constraints_left words_of words_left size without heads case_rows default_rows entering holding rows_without test_of variables_from leaf_of cases_of node_of compiler.step compile_by compile book_rows covers without_id root_symbols smallest counts_from heads_of root_heads root_case_rows root_cases root_tree book_tree root_count part_of marked_part child_parts inside_of enter_part body_for leaf_body variable_words case_count long long_cases case_heads layout layout_cases tree_words go_to variables_in sound_variable sound_variables leaf_node is_word case_of switch_node closed_node same_node node_at next_at walk_by walk_from walk visits_by visits_from visits counts_fit book_fits shifted replaced in_body write takes with_aside rewritten rewrite_root part_at spliced seek_rule lowest_offset seek_visits search_visits whole_within step simplify_by simplify simplify_answer simplify_words simplify_steps simplify_visits s l v m book_e under simplify_gives
limits_E = (refl, refl)

-- ---- the arguments set aside, those after the first b of a term, at the end of what is written
abbrev with_aside_lem : List ℕ → ℕ → List ℕ → Option (List ℕ)
with_aside_lem written b ws = map words (with_aside (tree_of written) (aside_arguments b (tree_of ws)))

asides :
    -- word for word
    (with_aside_lem (s 7 0 ∷ []) 1 (s 2 3 ∷ v 1 ∷ l ∷ v 1 ∷ v 2 ∷ []) ≡ some (s 7 2 ∷ l ∷ v 1 ∷ v 2 ∷ []))
    × (with_aside_lem (s 7 1 ∷ v 3 ∷ []) 2 (s 2 3 ∷ v 1 ∷ v 2 ∷ v 4 ∷ []) ≡ some (s 7 2 ∷ v 3 ∷ v 4 ∷ []))
    -- fifteen arguments, and not one more
    × (with_aside_lem (s 7 14 ∷ replicate 14 (v 1)) 0 (s 2 1 ∷ v 2 ∷ []) ≡ some (s 7 15 ∷ replicate 14 (v 1) ++ (v 2 ∷ [])))
    × (with_aside_lem (s 7 15 ∷ replicate 15 (v 1)) 0 (s 2 1 ∷ v 2 ∷ []) ≡ none)
    × (with_aside_lem (s 7 14 ∷ replicate 14 (v 1)) 0 (s 2 2 ∷ v 2 ∷ v 3 ∷ []) ≡ none)
    -- no symbol at the root
    × (with_aside_lem (v 1 ∷ []) 1 (s 2 2 ∷ v 1 ∷ v 2 ∷ []) ≡ none)
    × (with_aside_lem (l ∷ s 7 0 ∷ []) 1 (s 2 2 ∷ v 1 ∷ v 2 ∷ []) ≡ none)
    -- with nothing set aside any root will do
    × (with_aside_lem (v 1 ∷ []) 2 (s 2 2 ∷ v 1 ∷ v 2 ∷ []) ≡ some (v 1 ∷ []))
    × (with_aside_lem (l ∷ s 7 0 ∷ []) 2 (s 2 1 ∷ v 1 ∷ []) ≡ some (l ∷ s 7 0 ∷ []))
unfolding word kind rank count ident head_of head_with words width ranks nesting read firsts others ◌⧺◌ check scan settle may_stand position listed good_list inside id_body id_term renumber_head renumber named_head named closed to_body to_term same_words padded ids_of left_shape root_symbol right_shape counted one_count all_occur no_other good_left good_right good_rule rule_of judge check_book accept nth_rule rule_at left_of tree children_of is_head body_here occurrences closeds first_of sames constraints tree_of left_in root_arguments aside aside_arguments with_arguments largest within_limits limited build_answer build_words counts_of place_numbered number_in children_from marked enter sub below subs_under sub_at head_at lowest_open is_in among same_constraint has unstruck constraints_left words_of words_left size without heads case_rows default_rows entering holding rows_without test_of variables_from leaf_of cases_of node_of compiler.step compile_by compile book_rows covers without_id root_symbols smallest counts_from heads_of root_heads root_case_rows root_cases root_tree book_tree root_count part_of marked_part child_parts inside_of enter_part body_for leaf_body variable_words case_count long long_cases case_heads layout layout_cases tree_words go_to variables_in sound_variable sound_variables leaf_node is_word case_of switch_node closed_node same_node node_at next_at walk_by walk_from walk visits_by visits_from visits counts_fit book_fits shifted replaced in_body write takes with_aside rewritten rewrite_root part_at spliced seek_rule lowest_offset seek_visits search_visits whole_within step simplify_by simplify simplify_answer simplify_words simplify_steps simplify_visits s l v m simplify_gives
asides = (refl, refl, refl, refl, refl, refl, refl, refl, refl)

-- book D's rule, where a walk found it at the root of a term with more arguments
abbrev stepped : List ℕ → List ℕ → Stepped
stepped body ws = step_found book_d (tree_of ws) (FoundAt 0 (record { number = 0; aside = 0; bodies = one_body body }))

-- what cannot take an argument is said before what is over a limit, and with none set aside it is not asked
aside_first :
    (stepped (v 65535 ∷ []) (s 1 2 ∷ v 65535 ∷ v 1 ∷ []) ≡ Refused (CannotTake 1))
    × (stepped (v 1 ∷ []) (s 1 3 ∷ v 1 ∷ v 1 ∷ v 1 ∷ []) ≡ Refused (CannotTake 2))
    × (stepped (v 65535 ∷ []) (s 1 1 ∷ v 65535 ∷ []) ≡ Refused Over)
    × (stepped (v 1 ∷ []) (s 1 1 ∷ v 1 ∷ []) ≡ Becomes 0 (tree_of (l ∷ v 2 ∷ [])))
    -- the children of a root of another kind are counted as arguments are
    × (stepped (v 1 ∷ []) (l ∷ v 1 ∷ []) ≡ Becomes 0 (tree_of (l ∷ v 2 ∷ [])))
    × (stepped (v 1 ∷ []) (v 1 ∷ []) ≡ Becomes 0 (tree_of (l ∷ v 2 ∷ [])))
unfolding word kind rank count ident head_of head_with words width ranks nesting read firsts others ◌⧺◌ check scan settle may_stand position listed good_list inside id_body id_term renumber_head renumber named_head named closed to_body to_term same_words padded ids_of left_shape root_symbol right_shape counted one_count all_occur no_other good_left good_right good_rule rule_of judge check_book accept nth_rule rule_at left_of tree children_of is_head body_here occurrences closeds first_of sames constraints tree_of left_in root_arguments aside aside_arguments with_arguments largest within_limits limited build_answer build_words counts_of place_numbered number_in children_from marked enter sub below subs_under sub_at head_at lowest_open is_in among same_constraint has unstruck constraints_left words_of words_left size without heads case_rows default_rows entering holding rows_without test_of variables_from leaf_of cases_of node_of compiler.step compile_by compile book_rows covers without_id root_symbols smallest counts_from heads_of root_heads root_case_rows root_cases root_tree book_tree root_count part_of marked_part child_parts inside_of enter_part body_for leaf_body variable_words case_count long long_cases case_heads layout layout_cases tree_words go_to variables_in sound_variable sound_variables leaf_node is_word case_of switch_node closed_node same_node node_at next_at walk_by walk_from walk visits_by visits_from visits counts_fit book_fits shifted replaced in_body write takes with_aside rewritten rewrite_root part_at spliced seek_rule lowest_offset seek_visits search_visits whole_within step simplify_by simplify simplify_answer simplify_words simplify_steps simplify_visits s l v m simplify_gives book_d
aside_first = (refl, refl, refl, refl, refl, refl)

-- ---- rewriting at the root
roots_A :
    (root_answer 3 book_a (tree_words book_a) (s 3 1 ∷ l ∷ v 2 ∷ []) ≡ Done)
    × (root_words 3 book_a (tree_words book_a) (s 3 1 ∷ l ∷ v 2 ∷ []) ≡ v 1 ∷ 0 ∷ 0 ∷ [])
    × (root_answer 3 book_a (tree_words book_a) (s 3 1 ∷ l ∷ v 1 ∷ []) ≡ NoFit)
    × (root_words 3 book_a (tree_words book_a) (s 3 1 ∷ l ∷ v 1 ∷ []) ≡ 0 ∷ 0 ∷ 0 ∷ [])
    -- at the root alone
    × (root_answer 3 book_a (tree_words book_a) (l ∷ s 3 1 ∷ l ∷ v 2 ∷ []) ≡ NoFit)
    × (root_answer 0 book_a (tree_words book_a) (s 3 1 ∷ l ∷ v 2 ∷ []) ≡ Short)
    × (root_answer 3 book_a (5 ∷ []) (s 3 1 ∷ l ∷ v 2 ∷ []) ≡ Damaged 0)
    × (root_answer 3 book_a (5 ∷ []) (s 3 1 ∷ l ∷ []) ≡ BadTerm 2)
    × (root_answer 3 [] (5 ∷ []) (s 3 1 ∷ l ∷ []) ≡ BadBook 0)
    × (root_answer 3 book_d (tree_words book_d) (s 1 1 ∷ v 65535 ∷ []) ≡ Over)
unfolding word kind rank count ident head_of head_with words width ranks nesting read firsts others ◌⧺◌ check scan settle may_stand position listed good_list inside id_body id_term renumber_head renumber named_head named closed to_body to_term same_words padded ids_of left_shape root_symbol right_shape counted one_count all_occur no_other good_left good_right good_rule rule_of judge check_book accept nth_rule rule_at left_of tree children_of is_head body_here occurrences closeds first_of sames constraints tree_of left_in root_arguments aside aside_arguments with_arguments largest within_limits limited build_answer build_words counts_of place_numbered number_in children_from marked enter sub below subs_under sub_at head_at lowest_open is_in among same_constraint has unstruck constraints_left words_of words_left size without heads case_rows default_rows entering holding rows_without test_of variables_from leaf_of cases_of node_of compiler.step compile_by compile book_rows covers without_id root_symbols smallest counts_from heads_of root_heads root_case_rows root_cases root_tree book_tree root_count part_of marked_part child_parts inside_of enter_part body_for leaf_body variable_words case_count long long_cases case_heads layout layout_cases tree_words go_to variables_in sound_variable sound_variables leaf_node is_word case_of switch_node closed_node same_node node_at next_at walk_by walk_from walk visits_by visits_from visits counts_fit book_fits shifted replaced in_body write takes with_aside rewritten rewrite_root part_at spliced seek_rule lowest_offset seek_visits search_visits whole_within step simplify_by simplify simplify_answer simplify_words simplify_steps simplify_visits s l v m book_a book_d simplify_gives
roots_A = (refl, refl, refl, refl, refl, refl, refl, refl, refl, refl)

-- the visits of its one walk, none before it
roots_visits :
    (root_visits book_a (tree_words book_a) (s 3 1 ∷ l ∷ v 2 ∷ []) ≡ 4)
    × (root_visits book_a (tree_words book_a) (l ∷ s 3 1 ∷ l ∷ v 2 ∷ []) ≡ 2)
    × (root_visits book_a (5 ∷ []) (s 3 1 ∷ l ∷ v 2 ∷ []) ≡ 1)
    × (root_visits book_a (5 ∷ []) (s 3 1 ∷ l ∷ []) ≡ 0)
    × (root_visits [] (5 ∷ []) (s 3 1 ∷ l ∷ []) ≡ 0)
unfolding word kind rank count ident head_of head_with words width ranks nesting read firsts others ◌⧺◌ check scan settle may_stand position listed good_list inside id_body id_term renumber_head renumber named_head named closed to_body to_term same_words padded ids_of left_shape root_symbol right_shape counted one_count all_occur no_other good_left good_right good_rule rule_of judge check_book accept nth_rule rule_at left_of tree children_of is_head body_here occurrences closeds first_of sames constraints tree_of left_in root_arguments aside aside_arguments with_arguments largest within_limits limited build_answer build_words counts_of place_numbered number_in children_from marked enter sub below subs_under sub_at head_at lowest_open is_in among same_constraint has unstruck constraints_left words_of words_left size without heads case_rows default_rows entering holding rows_without test_of variables_from leaf_of cases_of node_of compiler.step compile_by compile book_rows covers without_id root_symbols smallest counts_from heads_of root_heads root_case_rows root_cases root_tree book_tree root_count part_of marked_part child_parts inside_of enter_part body_for leaf_body variable_words case_count long long_cases case_heads layout layout_cases tree_words go_to variables_in sound_variable sound_variables leaf_node is_word case_of switch_node closed_node same_node node_at next_at walk_by walk_from walk visits_by visits_from visits counts_fit book_fits shifted replaced in_body write takes with_aside rewritten rewrite_root root_visits part_at spliced seek_rule lowest_offset seek_visits search_visits whole_within step simplify_by simplify simplify_answer simplify_words simplify_steps simplify_visits s l v m book_a term_0 term_1 simplify_gives
roots_visits = (refl, refl, refl, refl, refl)
