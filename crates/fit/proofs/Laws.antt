-- What a crate above may cite of this one, and nothing else.

-- A term, its rows and its parts, and a part's body; what is asked of a rule's left side.
pub use Rattle.fit.proofs.Matching.{tree_within, term_is_body, body_is_term, kids_within, rest_within, first_within, part_body}
pub use Rattle.fit.proofs.Words.{GoodRule}
-- Matching is sound and complete for fit, and the bodies are the only ones.
pub use Rattle.fit.proofs.Words.{same_term, sound, complete, unique, none_fits}
-- Built then matched, and matched then built.
pub use Rattle.fit.proofs.Matching.{matched_built, built_matched}
-- A left side's shape and its constraints hold together exactly where it fits.
pub use Rattle.fit.proofs.Constraints.{There, AllThere, all_there, is_match, fits_constraints}
-- The lowest rule that fits, of the rules of an accepted book.
pub use Rattle.fit.proofs.Lowest.{NoFit, LowestIs, lowest_is}
pub use Rattle.fit.proofs.Accepted.{tree_of_lem, accepted_good, book_lowest}
-- Places, shapes, occurrences and constraints: the clauses of their definitions, and what matching finds at a first occurrence.
pub use Rattle.fit.proofs.Above.{under_root, under_child, at_root_lem, at_child, tree_nothing, tree_first, tree_later, children_nothing, children_node, from_first}
pub use Rattle.fit.proofs.Places.{from, at_from}
pub use Rattle.fit.proofs.Above.{head_nothing, head_node, shape_end, shape_hole, shape_part, wide_end, wide_hole, wide_part, good_hole, good_part}
pub use Rattle.fit.proofs.Above.{occurrences_end, occurrences_hole, occurrences_part, Each, Names, EachNames, each_join, first_each, constraints_name}
pub use Rattle.fit.proofs.Above.{body_nothing, body_node, body_at_lem, holds_closed, holds_same, all_hold_none, all_hold_more}
pub use Rattle.fit.proofs.Above.{IsThere, occurs_first, beyond_first, FirstBody, matched_first, lowest_zero, lowest_more}
pub use Rattle.fit.proofs.Above.{OneVariable, constraints_one, first_variable, Counted, rule_counted}
pub use Rattle.fit.proofs.Above.{left_of_nothing, left_of_symbol, left_of_abstraction, left_of_pattern, left_in_lem}
-- Building is limited by what it says: formed, 64 levels and 4,096 words.
pub use Rattle.fit.proofs.BuildAnswers.{within_is, over_is}
-- Built then matched, and matched then built: over words, and over what the operations answer and leave.
pub use Rattle.fit.proofs.RoundTrip.{BackAgain, built_then_matched, built_with_matched, BuiltAgain, matched_then_built}
pub use Rattle.fit.proofs.RoundAnswers.{MatchedAgain, build_match, build_with_match, BuildsFront, match_build}
-- Bodies written one after the other, of whatever kind, and what is left of a refusal.
pub use Rattle.fit.proofs.InOrder.{Leaves, refused_leaves, SoMany, many_start, many_short, many_done, many_more}
-- Building and its limits: the clauses of their definitions.
pub use Rattle.fit.proofs.Clauses.{build_end, build_hole, build_part, largest_nothing, largest_node, within_limits_is, limited_is}
pub use Rattle.fit.proofs.Clauses.{LowestFits, lowest_none, lowest_some}
pub use Rattle.fit.proofs.Limits.{within_limits_lem}
-- What is answered and left of a match, with room and without.
pub use Rattle.fit.proofs.Fitted.{refused_answer, refused_aside, fitted_room, fitted_short, fitted_aside, short_aside, same_bodies}
-- Rows written one after the other from an offset on; where a tree stands in words.
pub use Rattle.fit.proofs.Building.{row_none, row_first_over, row_then_lem, row_full, row_node}
pub use Rattle.fit.proofs.FitRow.{further, words_tree, TermFirst, term_first}
pub use Rattle.fit.proofs.Inner.{head_at_lem}
-- Lines of definitions: depth, first occurrences, constraints, bodies in variable order, what is left of what was built.
pub use Rattle.fit.proofs.Lines.{deep_hole, deep_part, first_nothing, first_here, closeds_none, closeds_more, sames_none, sames_more, constraints_are}
pub use Rattle.fit.proofs.Lines.{bodies_none, bodies_more, lengths_none, lengths_more, start_none, start_more, words_at_are, refused_built, built_built}
-- Matching one rule and building a left side, judgement by judgement; what is left of a refusal; what bodies in variable order build.
pub use Rattle.fit.proofs.Judgements.{match_bad_book, match_no_rule, match_bad_term, match_one_rule, match_whole, match_zeros, build_bad_book, build_no_rule, build_bad_lengths, build_bad_body, build_from, build_given}
-- The same by whether the book is accepted.
pub use Rattle.fit.proofs.Asked.{sound_good, match_refused, match_unknown, match_wrong, match_asked, build_refused, build_unknown, build_wrong_lengths, build_wrong_body, build_asked}
-- What comes back, as one record and part by part, both ways.
pub use Rattle.fit.proofs.Outcomes.{match_came, came_match, came_aside, BuildAnswered, build_came, came_build}
-- Document 001's matching rules hold exactly where some bodies fit; a part has a body just where it names nothing but its list.
pub use Rattle.fit.proofs.DeduktiFits.{as_dedukti}
pub use Rattle.fit.proofs.Free.{body_free, free_body}
-- The front of a term: as before where the counts are equal, a term again, with the arguments set aside the term, and unchanged below the arguments that stay.
pub use Rattle.fit.proofs.Fronts.{front_nothing, front_symbol, front_fewer, front_abstraction, front_variable, front_pattern, aside_node, aside_arguments_node, with_arguments_symbol, with_nothing, matching_front_lem, root_arguments_lem}
pub use Rattle.fit.proofs.Fronts.{front_same, width_front, front_formed, front_within, front_body, front_and_aside, width_aside}
pub use Rattle.fit.proofs.Fronts.{Through, through_argument, through_child, tree_front, under_front, tree_at_front, shape_front, through_each}
-- The root of a left side, and that it does not fit where the term's root is not covered.
pub use Rattle.fit.proofs.Fronts.{SymbolRoot, accepted_root, covers_symbol, other_word, uncovered_none, CoveredAs, covered_as, as_before}
-- Sound, complete and unique for fronts; the bodies build the front, and with the arguments set aside the term.
pub use Rattle.fit.proofs.FrontFits.{front_sound, front_complete, front_unique, front_none, none_front, front_built, built_and_aside}
-- Arguments put at the end are set aside again, so what bodies build is matched with them, whatever arguments follow.
pub use Rattle.fit.proofs.FrontFits.{front_with, aside_with, many_with, built_aside, built_front}
-- The lowest rule that fits the term without the arguments set aside; where each count is the root's own it is the lowest that fits the term.
pub use Rattle.fit.proofs.FrontFits.{lowest_front_zero, lowest_front_more, NoFront, LowestFrontFits, LowestFrontIs, lowest_front_is, book_lowest_front, JustAsMany, found_covers, aside_before, match_before, lowest_before}
