-- What a crate above may cite of this one, and nothing else.

-- Tests.
pub use Rattle.term.proofs.Words.{never, and_left, and_right, and_both}
-- What `get` tells of the word at an offset.
pub use Rattle.term.proofs.Words.{word_there, words_past}
-- Heads and words: a head of the table is read back from its word, and a word that is read gives itself back.
pub use Rattle.term.proofs.Words.{head_word_lem, head_is_lem, kind_word, count_word_lem, ident_word}
pub use Rattle.term.proofs.Images.{variable_word, inside_is, inside_small}
-- Rows: the clauses of their definitions, and rows side by side.
pub use Rattle.term.proofs.Clauses.{kind_symbol, kind_abstraction, kind_variable, kind_pattern, rank_symbol, rank_abstraction, rank_variable, rank_pattern, no_pattern, count_symbol, count_abstraction, count_variable, count_pattern, ident_variable, ident_pattern, inside_symbol, inside_abstraction, inside_pattern, head-clauses, abstraction_in_table, pattern_few}
pub use Rattle.term.proofs.Clauses.{words_nothing, words_node, width_nothing, width_node, nesting_nothing, nesting_node, ranks_nothing, ranks_node, join_nothing_left, join_node, row-clauses, FormedNode, formed_nothing, formed_node, node_formed}
pub use Rattle.term.proofs.Rows.{join_nothing, join_join, width_join, words_join, nesting_join, ranks_join, formed_join}
-- The first trees of a row and the others.
pub use Rattle.term.proofs.Rows.{firsts_join, others_join, firsts_others, width_firsts, width_others, formed_firsts, formed_others}
pub use Rattle.term.proofs.Rows.{firsts_nothing, firsts_none, firsts_node, firsts_all, others_none, others_node, others_all}
-- Words are uniquely readable, both ways.
pub use Rattle.term.proofs.Rows.{Reads, read_words_lem, words_read, words_unique}
-- A list of words is good just where it is one tree within the limits.
pub use Rattle.term.proofs.Trees.{tree_good, good_tree}
-- A part of a term is a term: every offset begins one, and it ends where its counts say.
pub use Rattle.term.proofs.Parts.{part_begins, stands_term, stands_short, part_ends, past_none, past_words, passed_first}
pub use Rattle.term.proofs.Answers.{part_stands, part_is, term_part}
-- Lists: the test says what it tests; as many ids as d are all of them.
pub use Rattle.term.proofs.Lists.{suffix, good_true, true_good, at_most, all_there, position_is, position_at, listed_range}
-- Renumbering of ids, by document 01's three cases, and of rows, variable by variable.
pub use Rattle.term.proofs.Bodies.{term_own, term_inner, term_outside, body_own, body_inner, body_outside, back_to_body, back_to_term, body_id_within, term_id_some, term_id_passes}
pub use Rattle.term.proofs.Clauses.{renumber_nothing, renumber_node, term_is}
pub use Rattle.term.proofs.Renumbers.{Every, implied, both, everywhere, shallow, agree, unmoved, twice, renumber_join, inside_le, IsId, formed_ids, formed_renumber, formed_renumbered}
-- Body to term and back, term to body and back.
pub use Rattle.term.proofs.Bodies.{body_term, term_body}
-- A body is formed, as long and as deep as its part; a term of a body too, and formed just where no id passes 65,535.
pub use Rattle.term.proofs.Bodies.{Keeps, body_keeps, term_keeps, body_formed, within_formed, formed_within}
-- A part has a body just where it is closed; closedness goes by the list as a set, and always holds where k = d.
pub use Rattle.term.proofs.Bodies.{body_is, closed_body, open_body, SameSet, closed_set, closed_all}
-- The operations' words: what a body of a part is, and that two parts are the same just where their bodies are.
pub use Rattle.term.proofs.Answers.{BodyIs, body_of_lem, of_body, body_stands, body_tree, part_body, same_bodies, same_by_words, bodies_same}
pub use Rattle.term.proofs.Answers.{is_some_lem, is_none, some_is, none_is}
pub use Rattle.term.proofs.Answers.{same_words_lem, words_same}
-- A row with a term's words is that term, also where its ids might pass the limit.
pub use Rattle.term.proofs.Near.{Near, near_unique, near_nothing, near_node, near_join, term_near}
-- What is left in a lent slice: the words and zeros after them where they fit, else zeros.
pub use Rattle.term.proofs.Answers.{cleared, wrote, no_room}
pub use Rattle.term.proofs.Leavings.{written_fits, written_short, padded_fits, padded_short, fits_written, body_answer_lem, body_words_lem, answer_fits}
-- A body in a place with so many levels left, by what comes back; and when the ids of a term are within the limit.
pub use Rattle.term.proofs.Imaged.{below_wrote, below_none, every_nothing, every_node, small_formed}
-- Two results that meet one promise are equal.
pub use Rattle.term.proofs.Settled.{settled}
-- An answer is told by its number and place; what checking a term gives is what it answers.
pub use Rattle.term.proofs.Answering.{answered_same, apart, check_term_is}
-- Zeros are 0 everywhere.
pub use Rattle.term.proofs.Leavings.{zero_at}
-- Renumbering, head by head; every variable of a row, node by node.
pub use Rattle.term.proofs.Renumbers.{EveryHead}
pub use Rattle.term.proofs.Heads.{renumber_symbol, renumber_abstraction, renumber_variable, renumber_pattern, inside_variable, variable_id, id_variable, every_parts}
pub use Rattle.term.proofs.Above.{word_variable, word_pattern, pattern_table, inside_next, listed_more, past_step, part_past, part_short, same_none, same_more}
-- The words of the other heads, and the table's row of a symbol.
pub use Rattle.term.proofs.Above.{ident_symbol, word_symbol, word_abstraction, symbol_table, symbol_few}
-- The table of a term: its clauses, an entry for each offset, and to read it at an offset is to pass over the part there.
pub use Rattle.term.proofs.Tables.{lengths_nothing, lengths_node, lengths_join, lengths_many, length_at}
-- The same of any words, by their counts alone, and that no part ends past the words.
pub use Rattle.term.proofs.Tables.{part_lengths_many, part_length_at, part_lengths_drop, joined_lengths, lengths_parts}
pub use Rattle.term.proofs.Measures.{past_within}
-- What the operations on tables give; two tables agree just where they are the same.
pub use Rattle.term.proofs.TableAnswers.{term_table, lengths_is, check_lengths_is, agreed_same, same_agreed, lengths_settled, check_lengths_settled}
