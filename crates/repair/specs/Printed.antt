-- Document 02, "E1": what the program prints for a text that came by mail: the repaired text, or the two lines of its refusal.
use Rattle.std.specs.Prelude.{ℕ, List, leb, length}
use Rattle.term.specs.declared.answer.Answer.TheVariants.{BadText, Short}
use Rattle.term.specs.Word.{pick}
use Rattle.text.specs.BookText.{book_text}
use Rattle.text.specs.Mail.{Mail, mail_is, bad_mail, mail_said}
use Rattle.text.specs.Refusal.{refusal_block}
use Rattle.mend.specs.Repair.{new_book, repaired_text}

-- the program has room for every repaired text, so only a new book over 65,536 bytes is too long
abbrev pub printed_of : Mail → List ℕ
printed_of (mail_is stated rules) = pick (leb (length (book_text (new_book rules))) 65536) (repaired_text stated rules) (refusal_block Short)
printed_of (bad_mail at) = refusal_block (BadText at)

unfoldable pub printed : (text : List ℕ) → List ℕ
printed text = printed_of (mail_said text)
