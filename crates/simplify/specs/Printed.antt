-- Document 01, "Text and program": what the program prints for a file, block after block.
use Rattle.std.specs.Prelude.{ℕ, suc, List, [], ◌∷◌, ◌++◌, length, get_or}
use Rattle.term.specs.declared.answer.Answer.{Answer}
use Rattle.term.specs.declared.answer.Answer.TheVariants.{BadText}
use Rattle.term.specs.Answer.{number_of}
use Rattle.term.specs.Word.{pick}
use Rattle.term.specs.Row.{words}
use Rattle.tree.specs.Layout.{tree_words}
use Rattle.compiler.specs.Compiled.{compile_answer}
use Rattle.steps.specs.Simplify.{Run, Stopped, Ended, simplify, simplify_answer, simplify_steps}
use Rattle.text.specs.Bytes.{bytes}
use Rattle.text.specs.Line.{line_text}
use Rattle.text.specs.BookText.{book_line, rules_key, number_text}
use Rattle.text.specs.Refusal.{answer_key, refused, refusal_block}
use Rattle.simplify.specs.File.{term_key, File, file_is, bad_file, file_said}

abbrev pub tree_key : List ℕ
tree_key = bytes "tree="

abbrev pub steps_key : List ℕ
steps_key = bytes "steps="

abbrev pub result_key : List ℕ
result_key = bytes "result="

abbrev pub dash_line : List ℕ
dash_line = bytes "-\n"

-- ---- the blocks
-- the head: `book=1`, `rules=`, `tree=`
unfoldable pub head_text : ℕ → ℕ → List ℕ
head_text rules tree = book_line ++ number_text rules_key rules (number_text tree_key tree [])

abbrev pub head_block : List ℕ → List ℕ
head_block book = head_text (get_or book 0 0) (length (tree_words book))

-- a term: `term=`, `answer=`, `steps=`, `result=` and the text of the result
unfoldable pub answer_text : ℕ → Answer → ℕ → List ℕ → List ℕ
answer_text number a steps result =
    number_text term_key number (number_text answer_key (number_of a) (number_text steps_key steps (result_key ++ result)))

-- "result (`-` from 10 up)"
abbrev pub result_text : Answer → List ℕ → List ℕ
result_text a ws = pick (refused a) dash_line (line_text ws)

abbrev pub run_words : Run → List ℕ
run_words (Stopped trace last a) = []
run_words (Ended trace last a t) = words t

-- 4,096 words are room for every term
abbrev pub term_block : ℕ → Run → List ℕ
term_block number run =
    answer_text number (simplify_answer 4096 run) (simplify_steps run) (result_text (simplify_answer 4096 run) (run_words run))

-- ---- the file
abbrev pub file_answer : File → Answer
file_answer (file_is book terms) = compile_answer 16384 book
file_answer (bad_file at) = BadText at

abbrev pub file_book : File → List ℕ
file_book (file_is book terms) = book
file_book (bad_file at) = []

abbrev pub file_terms : File → List (List ℕ)
file_terms (file_is book terms) = terms
file_terms (bad_file at) = []

-- "budget 1,000"; the terms from this number on
unfoldable pub term_blocks : List ℕ → ℕ → List (List ℕ) → List (List ℕ)
term_blocks book number [] = []
term_blocks book number (ws ∷ terms) = term_block number (simplify book (tree_words book) 1000 ws) ∷ term_blocks book (suc number) terms

abbrev pub book_block : List ℕ → Answer → List ℕ
book_block book a = pick (refused a) (refusal_block a) (head_block book)

abbrev pub first_block : File → List ℕ
first_block file = book_block (file_book file) (file_answer file)

abbrev pub later_blocks : File → List (List ℕ)
later_blocks file = pick (refused (file_answer file)) [] (term_blocks (file_book file) 0 (file_terms file))

-- all that is printed for a file with these bytes
unfoldable pub blocks : List ℕ → List (List ℕ)
blocks bs = first_block (file_said bs) ∷ later_blocks (file_said bs)
