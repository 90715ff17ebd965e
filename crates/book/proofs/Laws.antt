-- What a crate above may cite of this one, and nothing else.

-- Rules: the clauses of what is asked of their sides.
pub use Rattle.book.proofs.Clauses.{ids_nothing, ids_node, left_nothing, left_symbol, left_abstraction, left_variable, left_pattern, root_nothing, root_symbol_lem, root_abstraction, root_variable, root_pattern, right_nothing, right_symbol, right_abstraction, right_variable, right_pattern, rule-clauses}
-- The list of a pattern variable: what the operations find is the row's, which has as many words as trees.
pub use Rattle.book.proofs.SideLaws.{ids_row}
pub use Rattle.book.proofs.IdLoop.{told_list, told_none}
pub use Rattle.book.proofs.Listing.{ids_counted, list_row_lem, list_found, list_counted}
-- Pattern variables of a row: the clauses, and that they are those of its words.
pub use Rattle.book.proofs.Occurrences.{occurs_nothing, occurs_node, below_nothing, below_node, counts_nothing, counts_node, occurs_is, below_is, counts_is, counted_occurs, occurs_counted}
-- A good rule, and the rules of a good book.
pub use Rattle.book.proofs.Rules.{RuleFacts, good_facts, book_rule, book_rules, number_rule, rule_number, beyond_none}
-- Where the sides of a rule lie, both ways.
pub use Rattle.book.proofs.Rules.{SidesAre, sides_rule, sides_none, rule_sides, none_sides}
-- A rule in words, both ways; and how a book is judged, rule after rule.
pub use Rattle.book.proofs.Above.{words_rule, rule_words_lem, judge_end, judge_over, judge_next, check_empty, check_counted}
-- The place of a bad book is at most 64.
pub use Rattle.book.proofs.FirstBad.{BadWithin, bad_within}
-- A book is accepted just where it is good, and else its answer is a refusal.
pub use Rattle.book.proofs.Accepting.{mapped, good_accepted, bad_refused, accepted_good, refusal_number, check_book_is}
-- A book as the list of its rules: good where each is sound and there are at most 64, refused where one is not or there are more.
pub use Rattle.book.proofs.Listed.{Whole, AllWhole, AllSound, whole_words, together_nothing, together_rule, book_words, sound_book, many_refused, unsound_refused, book_sound}
