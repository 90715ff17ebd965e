-- What a crate above may cite of this one, and nothing else.

-- Each tree is one node over smaller trees.
pub use Rattle.tree.proofs.Knot.{compile_is}
-- The tree of an accepted book finds the lowest rule that fits the term without the arguments set aside, with their number and its bodies.
pub use Rattle.tree.proofs.RootLowest.{book_tree_lem, book_tree_lowest}
-- A tree's layout: its length, and where its subtrees lie.
pub use Rattle.tree.proofs.Layouts.{variables_none, variables_more, count_none, count_case, heads_none, heads_case, length_heads, length_layout, long_some, tree_words_lem}
pub use Rattle.tree.proofs.Layouts.{Lies, lies_inside, whole_lies, fail_lies, leaf_lies, CasesLie, SwitchLies, switch_lies, ClosedLies, closed_lies, SameLies, same_lies}
-- How a tree is walked in a term, and that the tree of an accepted book is walked soundly to the lowest rule that fits the term without the arguments set aside.
pub use Rattle.tree.proofs.Walks.{SoundVariable, AllSound, SoundPlace, Takes, takes_first, takes_later, NoneTaken, no_cases, other_case, Walks, fails, ends, takes, defaults, closed_yes, closed_no, same_yes, same_no}
pub use Rattle.tree.proofs.Ways.{CountsAre, vars_of, vars_in, FitsBook}
pub use Rattle.tree.proofs.RootWays.{book_walks}
-- Each uncovered place is another part of the term.
pub use Rattle.tree.proofs.Totals.{length_total, total_entered, total_root}
-- Uncovered places: the clauses of their definitions.
pub use Rattle.tree.proofs.Clauses.{part_first, part_later, marked_none, marked_first, marked_later, child_parts_none, child_parts_more, inside_of_lem, enter_is, body_for_is, leaf_first, leaf_later, counts_none, counts_first}
pub use Rattle.tree.proofs.Clauses.{root_count_lem}
-- Each uncovered part of a term is one term, and a sound Leaf gives its variables bodies.
pub use Rattle.tree.proofs.TermParts.{part_root, AllTerms, terms_root, terms_entered, leaf_terms}
-- ---- for the compiler
-- The clauses of sub-patterns and of constraints.
pub use Rattle.tree.proofs.RowClauses.{sub_end, sub_hole, sub_part, sub_root, subs_child, below_end, below_hole, below_part}
pub use Rattle.tree.proofs.RowClauses.{in_none, in_more, among_none, among_more, closed_both, same_both, closed_other, same_other, same_turned, none_held, has_more, has_join, unstruck_none, unstruck_more, unstruck_join, left_are}
-- The tree of a list of rows, node by node, and the words of its nodes.
pub use Rattle.tree.proofs.TreeClauses.{without_none, without_more, heads_no, heads_row, tables_none, tables_row, from_none, from_more, leaf_of_lem, many_variables, entering_is, holding_is, cases_of_none, cases_of_more, count_cases_of}
pub use Rattle.tree.proofs.TreeClauses.{compile_none, compile_leaf, compile_test, compile_switch, test_front, TestLaid, test_laid, rows_none, rows_more}
pub use Rattle.tree.proofs.Layouts.{leaf_laid, fail_long, fail_layout, no_case, one_case, switch_long, switch_laid, length_cases}
-- The root Switch: its symbols, counts, rows and cases.
pub use Rattle.tree.proofs.RootClauses.{without_id_none, without_id_more, symbols_none, symbols_row, smallest_none, smallest_row, no_counts, more_counts, heads_of_none, heads_of_more, root_heads_are}
pub use Rattle.tree.proofs.RootClauses.{root_rows_none, root_rows_row, root_cases_none, root_cases_more, count_root_cases, root_tree_none, root_tree_some, book_tree_is, head_at_root}
pub use Rattle.tree.proofs.RootHeads.{HeadIn, RootsIn, root_heads_table}
-- Sub-patterns at places, and heads that are in the table.
pub use Rattle.tree.proofs.Subs.{subs_from, from_end, from_hole, from_part, from_start, subs_root, sub_child, head_sub, head_headed, none_below, headed_below, root_unheaded, Headed, Full, full_at, good_full}
pub use Rattle.tree.proofs.Finds.{InTables, tables_add}
-- Numbers and places of a path, which places are open, and what entering one changes.
pub use Rattle.tree.proofs.Numbers.{numbered_within, number_leads, number_there, open_entered, entered_open, root_numbered_lem, below_root, open_root, open_later, root_place, LeastO, least_open}
pub use Rattle.tree.proofs.EnteredPath.{child_number, open_within, length_enter, enter_old, enter_child, enter_other, enter_place, enter_new, enter_keeps, enter_shuts, enter_opens}
pub use Rattle.tree.proofs.EnteredPlaces.{entered_once, entered_new, entered_above}
pub use Rattle.tree.proofs.Covers.{all_within, enter_covered, start_covered}
pub use Rattle.tree.proofs.Fits.{OpenAt, entered_of, open_at}
-- The rows that a test keeps.
pub use Rattle.tree.proofs.Kept.{kept_rows, kept_none, kept_row, case_kept, default_kept, without_kept}
pub use Rattle.tree.proofs.Holds.{has_first, same_itself}
pub use Rattle.tree.proofs.Basics.{and_assoc, and_false, and_true, both_ways, same_head}
