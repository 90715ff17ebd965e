-- Document 01, "Text and program": a file is the lines of a book and then `term=` lines, within 65,536 bytes.
use Rattle.std.specs.Prelude.{ℕ, zero, suc, List, [], ◌∷◌, leb, length}
use Rattle.std.proofs.Math.Option.{none, some}
use Rattle.term.specs.Word.{pick}
use Rattle.text.specs.Bytes.{bytes}
use Rattle.text.specs.Number.{Read}
use Rattle.text.specs.Line.{line}
use Rattle.text.specs.BookText.{keyed, after_key, Rules, rules_are, bad_at, book_read, due_after}

abbrev pub term_key : List ℕ
term_key = bytes "term="

-- a `term=` line of 1 to 4,096 tokens: its words, and the text after it
unfoldable pub term_line : List ℕ → Read (List ℕ)
term_line bs = after_key (line 4096) (keyed term_key bs)

-- the words of each term, or the first line that is not in form
pub data Terms : Type 0 where
  terms_are : List (List ℕ) → Terms
  bad_term : ℕ → Terms

abbrev pub before : List ℕ → Terms → Terms
before ws (terms_are others) = terms_are (ws ∷ others)
before ws (bad_term at) = bad_term at

abbrev pub term_then : (List ℕ → Terms) → ℕ → Read (List ℕ) → Terms
term_then others due none = bad_term due
term_then others due (some p) = before p.0 (others p.1)

abbrev pub terms_from : (List ℕ → Terms) → ℕ → List ℕ → Terms
terms_from others due [] = terms_are []
terms_from others due (b ∷ bs) = term_then others due (term_line (b ∷ bs))

-- the lines up to the end of a text, from the line `due` on; there are no more lines than bytes
unfoldable pub terms_in : ℕ → ℕ → List ℕ → Terms
terms_in zero due bs = terms_are []
terms_in (suc most) due bs = terms_from (terms_in most (suc due)) due bs

unfoldable pub terms_read : ℕ → List ℕ → Terms
terms_read due bs = terms_in (length bs) due bs

-- the words of a book and of each term, or the first line that is not in form
pub data File : Type 0 where
  file_is : List ℕ → List (List ℕ) → File
  bad_file : ℕ → File

abbrev pub with_terms : List ℕ → Terms → File
with_terms book (terms_are terms) = file_is book terms
with_terms book (bad_term at) = bad_file at

abbrev pub file_then : Rules → File
file_then (rules_are book rest) = with_terms book (terms_read (due_after book) rest)
file_then (bad_at at) = bad_file at

-- "0 if over 65,536 bytes"
unfoldable pub file_said : List ℕ → File
file_said bs = pick (leb (length bs) 65536) (file_then (book_read bs)) (bad_file 0)
