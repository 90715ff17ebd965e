-- What a crate above may cite of this one, and nothing else.

-- A row for each variable of a row: clauses, and how it goes with renumbering.
pub use Rattle.steps.proofs.Replaced.{tree_before, renumber_more, renumber_single, replaced_nothing, replaced_node, replaced_join, replaced_same, replaced_single, then_renumbered, after_renumbered}
-- Writing: clauses, and document 01's three cases of an id in a body.
pub use Rattle.steps.proofs.Writing.{write_nothing, write_node, write_pattern, shifted_is, shifted_single, in_own, in_inner, in_outside}
-- A left side is also a right side, and writing it is building it; so a match written back is the term again.
pub use Rattle.steps.proofs.Writing.{write_left, left_written, match_written}
-- A variable with no parameters under n abstractions is the body shifted by n; parameters given back in their own order are the term again.
pub use Rattle.steps.proofs.Writing.{written_alone, abstractions, written_under, list_row, given_back}
-- Writing commutes with renumbering of what stands outside.
pub use Rattle.steps.proofs.Outside.{outside_id, shifted_moved, write_moved}
-- Writing in one pass: what stands where, by the abstractions around it and the ids of the right side's own.
pub use Rattle.steps.proofs.OnePass.{length_deeper, deeper_at, written_root, in_nothing, in_symbol, in_abstraction, in_variable, in_pattern, body_own_in, body_inner_in, body_outside_in, tree_written}
-- The child j of a pattern variable, in words.
pub use Rattle.steps.proofs.Children.{right_formed, right_tree, ChildAt, child_at_lem, child_stands}
-- The right sides of an accepted book; what is written of them is one term, but for the limits.
pub use Rattle.steps.proofs.RightRows.{parameters_of, right_row, accepted_right}
pub use Rattle.steps.proofs.Shaped.{Shaped, formed_shaped, shaped_formed, width_written, few_written, shaped_written, limits_within}
-- The written right side with the arguments set aside at its end: where it takes them, and what it then is.
pub use Rattle.steps.proofs.Arguments.{TakesAs, takes_as, nothing_aside, takes_aside, refuses_aside, refused_aside, Taken, taken, aside_taken, aside_wide, aside_formed, aside_shaped, aside_few, aside_limits, AsideIs, aside_is}
-- Offsets: the part at an offset is read there, and replacing it replaces its words and no others.
pub use Rattle.steps.proofs.Offsets.{part_words, spliced_words_lem, PartOf, part_of_lem, part_read, part_stands, part_end_lem, Spliced, splice_keeps}
-- The limits of the whole, from the part that is replaced, or by checking its words.
pub use Rattle.steps.proofs.Limits.{levels_above, levels_first, levels_below, levels_beside, Nests, splice_nests, part_within, within_part, check_within, within_check}
-- Every step is at the lowest offset where the walk finds a rule and leaves a term; the trace of a run is that of its steps, and simplifying ends as it says.
pub use Rattle.steps.proofs.Steps.{FirstAt, SeekIs, seek_is, lowest_offset_is, part_term, Wrote, found_writes, step_term, StepsTo, EndsAs, rests, used, StopsAs, broken, cannot, over, RunIs, run_is, steps_term}
-- Demand 3 seen from here: with a compiled tree, the lowest offset at which some rule fits at all, and the lowest rule that fits there.
pub use Rattle.steps.proofs.Demand.{FitsAt, FirstFit, OneStep, Reaches, Rested, normal, unfinished, TooLarge, TooMany, Barred, large, many, Simplified, compiled_offset, compiled_step, compiled_simplify, compiled_root}
-- What is simplified is a term; simplifying it again makes no step; a run that its budget cut short goes on from the term so far.
pub use Rattle.steps.proofs.Machine.{simplified_still, done_still, traced_after, goes_on, result_term, simplify_again, simplify_on}
-- What is said without trees settles it: a step has one rule and one outcome, and a run one answer, one term and the same rules. The visits are of the tree.
pub use Rattle.steps.proofs.Settled.{write_same, same_written, same_aside, same_made, same_many, same_spliced, one_outcome, rules_of, SameEnd, same_steps, one_run}
-- What rewriting at the root and simplifying give, as one record, and answer, steps, visits and lent words one by one: each says the other.
pub use Rattle.steps.proofs.Came.{rewrite_root_came_lem, came_rewrite_root, simplify_came_lem, came_simplify}
-- Rewriting at the root and simplifying, judgement by judgement; a damaged node stops a run, and so does a step that is refused, but where the budget is used.
pub use Rattle.steps.proofs.Judgements.{rule_writes_right, rule_aside, none_aside_writes, rewrite_bad_book, rewrite_bad_term, rewrite_walked, root_visits_bad_book, root_visits_bad_term, root_visits_lem, simplify_bad_book, simplify_bad_term, simplify_runs, stopped_run, ended_run, steps_none, steps_more, none_steps, more_steps, step_made, makes_step, cannot_step, over_step, damage_stops, refusal_stops, used_first}
-- The trace of a run: as many searches as steps, each with a rule of the book; the visits are its sum and those of the last search. A search visits 16,385 nodes at most at each offset.
pub use Rattle.steps.proofs.Traces.{trace_steps, trace_visits, EachFound, trace_rules, trace_few, simplify_trace}
pub use Rattle.steps.proofs.Seeks.{search_few, term_few}
-- What simplifying answers and leaves in 4,096 words or more, by how it ended.
pub use Rattle.steps.proofs.RunWords.{RunGives, simplify_gives_lem}
-- The table of lengths after a part is replaced: as one equation, and entry by entry.
pub use Rattle.steps.proofs.SplicedLengths.{spliced_lengths, entry_before, entry_ancestor, ancestor_long, ancestor_holds, entry_new, entry_tail}
