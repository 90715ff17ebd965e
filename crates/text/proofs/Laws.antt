-- What a crate above may cite of this one, and nothing else.

-- Numbers and tokens: what is written is read back before what cannot continue it, and what was read is what is written of it.
pub use Rattle.text.proofs.Numbers.{ends, number_back, number_is}
pub use Rattle.text.proofs.Tokens.{token_back, token_is, word_text_lem, word_back}
-- Lines of tokens, both ways.
pub use Rattle.text.proofs.Lines.{Known, ends_rest, line_back, LineWas, line_is}
-- A term's text says that term, and a text that says words is their text.
pub use Rattle.text.proofs.Rounds.{known_words, line_short, term_said_lem, term_bytes, said_term}
-- The lines of a book, both ways; an accepted book's text says its words, and a text that says words is their text.
pub use Rattle.text.proofs.BookLines.{key_back, key_is, number_line_back, number_line_is, side_line_back, side_line_is}
pub use Rattle.text.proofs.BookRounds.{book_said_lem, book_bytes, said_book}
-- What the operations answer and leave, by what the text says and how the words are judged; what an answer of 0 tells; zeros with every other.
pub use Rattle.text.proofs.Answers.{Are, filled, read_bad_line, read_bad_term, read_good_term, read_short_term, read_term_done, read_term_zeros}
pub use Rattle.text.proofs.Answers.{write_bad_term, write_good_term, write_short_term, write_term_done, write_term_zeros}
pub use Rattle.text.proofs.Answers.{read_bad_book_line, read_bad_book, read_good_book, read_short_book, read_book_done, read_book_zeros}
pub use Rattle.text.proofs.Answers.{write_bad_book, write_long_book, write_good_book, write_short_book, write_book_done, write_book_zeros}
-- One meaning has one text: what is written and read again, and what is read and written again.
pub use Rattle.text.proofs.Inverse.{TermWrittenRead, term_written_read, TermReadWritten, term_read_written, BookWrittenRead, book_written_read, BookReadWritten, book_read_written, one_term_read, one_book_read}
-- A term is accepted just where it is good.
pub use Rattle.text.proofs.Givens.{good_term, bad_term_lem, sound_term}
-- What is given into a cleared slice.
pub use Rattle.text.proofs.Givens.{given_short, given_done}
-- Good words end by themselves.
pub use Rattle.text.proofs.Fronts.{term_ends, term_front, book_front}
-- What reading from an offset tells settles its answer.
pub use Rattle.text.proofs.ToldSettled.{number_settled, token_settled, key_settled, line_settled, side_settled, rules_settled}
-- All that comes back, as an answer and what is left, both ways.
pub use Rattle.text.proofs.Outcomes.{read_term_gives_lem, read_term_said, read_term_came_lem, read_term_told, write_term_gives_lem, write_term_said, write_term_came_lem, write_term_told}
pub use Rattle.text.proofs.Outcomes.{read_book_gives_lem, read_book_said, read_book_came_lem, read_book_told, write_book_gives_lem, write_book_said, write_book_came_lem, write_book_told}
-- A line of a key and a number before what follows it, and its length; of a book's lines, the number of its rules and the last that can be bad.
pub use Rattle.text.proofs.Above.{number_text_before, number_text_short, book_counted, book_bad}
-- What is written one after the other is written as one; words that were put into a slice are its first.
pub use Rattle.text.proofs.Wrote.{Wrote, wrote_nothing, wrote_then, wrote_byte}
pub use Rattle.text.proofs.KindTexts.{decimal_short}
pub use Rattle.text.proofs.TermTexts.{first_words}
-- A book by mail: one rule and then the rest; what is known of all rules present and of a bad line; each way through the reading; a book's own text.
pub use Rattle.text.proofs.Mailed.{rule_whole, line_within, present_end, present_bad, present_more, MailFacts, mail_facts, mail_line, mail_bytes, mail_long, mail_no_book, mail_no_count, mail_stating, book_mail}
-- The numbers of the answers are small; a block of few bytes, and that what was written one after the other is one.
pub use Rattle.text.proofs.Refusals.{number_small, Brief, as_block}
-- What `ok_or` tells of the option that it was asked of.
pub use Rattle.text.proofs.Calls.{some_asked, none_asked}
