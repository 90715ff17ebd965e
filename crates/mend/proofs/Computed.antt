-- What the wrong programs and the definition give on the inputs of the table, computed from the definitions.
use mathlib.Core.Path.{◌≡◌, refl}
use lib.ListN.{get_or}
use Rattle.term.specs.Word as term_word
use Rattle.term.specs.Row as term-row
use Rattle.term.specs.Check as term-check
use Rattle.term.specs.Renumber as term-renumber
use Rattle.term.specs.Part as term_part
use Rattle.book.specs.Rule as book_rule
use Rattle.book.specs.Book as book-book
use Rattle.text.specs.Number as text-number
use Rattle.text.specs.Token as text-token
use Rattle.text.specs.Line as text-line
use Rattle.text.specs.BookText as text-book
use Rattle.text.specs.Mail as text-mail
use Rattle.mend.specs.Repair as repair
use Rattle.mend.specs.Repair.{repair_book_gives}
use Rattle.mend.specs.WrongRepairs as wrong
use Rattle.mend.specs.WrongRepairs.{keeps65, compares_kept, new_first, drops_after_bad, first_bad, sixty_five}

-- the old number in the line of the rule that stays, the number of rules, and the byte after the lines
pub first_bad_computed : (get_or (repair_book_gives first_bad 100).out 65 0 ≡ 49) × (get_or (new_first first_bad 100).out 65 0 ≡ 48)
    × (get_or (repair_book_gives first_bad 100).out 13 0 ≡ 49) × (get_or (drops_after_bad first_bad 100).out 13 0 ≡ 48)
    × (get_or (repair_book_gives first_bad 100).out 69 0 ≡ 0) × (get_or (compares_kept first_bad 100).out 69 0 ≡ 114)
unfolding term_word.kind term_word.rank term_word.count term_word.ident term_word.word term_word.InTable term_word.head_with term_word.head_of term-row.width term-row.words term-row.nesting term-row.ranks term-row.Formed term-row.◌⧺◌ term-row.firsts term-row.others term-row.read term-check.may_stand term-check.settle term-check.scan term-check.check term-renumber.position term-renumber.listed term-renumber.good_list term_part.padded book_rule.ids_of book_rule.left_shape book_rule.root_symbol book_rule.right_shape book_rule.counted book_rule.one_count book_rule.all_occur book_rule.no_other book_rule.good_left book_rule.good_right book_rule.good_rule book-book.rule_of book-book.sound book-book.together book-book.book_of text-number.decimal_in text-number.decimal text-number.is_digit text-number.digits text-number.number text-token.dotted text-token.token_text text-token.word_text text-token.dotted_read text-token.token text-line.rest_text text-line.line_text text-line.line text-book.number_text text-book.side_text text-book.rule_text text-book.rules_text text-book.book_text text-book.keyed text-book.number_line text-book.side_line text-mail.any_rule_read text-mail.present_in text-mail.present_read text-mail.mail_said repair.stays repair.kept_from repair.new_book repair.notes_from repair.note_text repair.notes_text repair.was_text repair.repaired_text repair.repair_answer repair.repair_bytes repair.repair_book_gives wrong.kept_by wrong.notes_of wrong.choosing wrong.up_to65 wrong.keeps65 wrong.until_bad wrong.drops_after_bad wrong.compares_kept wrong.all_new_first wrong.new_first wrong.first_bad wrong.times wrong.sixty_five
first_bad_computed = (refl, refl, refl, refl, refl, refl)

pub sixty_five_computed : ((repair_book_gives sixty_five 3005).said.number ≡ 0) × ((keeps65 sixty_five 3005).said.number ≡ 13)
unfolding term_word.kind term_word.rank term_word.count term_word.ident term_word.word term_word.InTable term_word.head_with term_word.head_of term-row.width term-row.words term-row.nesting term-row.ranks term-row.Formed term-row.◌⧺◌ term-row.firsts term-row.others term-row.read term-check.may_stand term-check.settle term-check.scan term-check.check term-renumber.position term-renumber.listed term-renumber.good_list term_part.padded book_rule.ids_of book_rule.left_shape book_rule.root_symbol book_rule.right_shape book_rule.counted book_rule.one_count book_rule.all_occur book_rule.no_other book_rule.good_left book_rule.good_right book_rule.good_rule book-book.rule_of book-book.sound book-book.together book-book.book_of text-number.decimal_in text-number.decimal text-number.is_digit text-number.digits text-number.number text-token.dotted text-token.token_text text-token.word_text text-token.dotted_read text-token.token text-line.rest_text text-line.line_text text-line.line text-book.number_text text-book.side_text text-book.rule_text text-book.rules_text text-book.book_text text-book.keyed text-book.number_line text-book.side_line text-mail.any_rule_read text-mail.present_in text-mail.present_read text-mail.mail_said repair.stays repair.kept_from repair.new_book repair.notes_from repair.note_text repair.notes_text repair.was_text repair.repaired_text repair.repair_answer repair.repair_bytes repair.repair_book_gives wrong.kept_by wrong.notes_of wrong.choosing wrong.up_to65 wrong.keeps65 wrong.until_bad wrong.drops_after_bad wrong.compares_kept wrong.all_new_first wrong.new_first wrong.first_bad wrong.times wrong.sixty_five
sixty_five_computed = (refl, refl)
