-- What the functions of the program tell of the bytes that were read.
use Rattle.std.specs.Prelude.{ℕ, ◌+◌, ◌≤◌, ◌<◌, ◌≡◌, List, length, get_or, take, drop, Option, Some, None, is_none, Result, Ok, Err}
use Rattle.std.proofs.Math.Option.{none, some}
use Rattle.std.proofs.lemmas.List.Edits.{sets}
use Rattle.text.specs.Number.{Read}
use Rattle.text.specs.BookText.{due_after}
use Rattle.text.specs.Refusal.{refused}
use Rattle.tree.specs.Layout.{tree_words}
use Rattle.compiler.specs.Compiled.{compile_answer}
use Rattle.steps.specs.Simplify.{simplify}
use Rattle.simplify.specs.declared.first.First.{First}
use Rattle.simplify.specs.declared.first.Ready.{Ready}
use Rattle.simplify.specs.declared.next.Next.{Next}
use Rattle.simplify.specs.File.{term_line, Terms, terms_are, bad_term, terms_read, file_is, bad_file, file_said}
use Rattle.simplify.specs.Printed.{term_block, file_answer, file_book, file_terms, book_block, first_block}

-- a `term=` line at the offset `at` of a text, whose words went into a slice
abbrev pub TermLineTold : List ℕ → ℕ → List ℕ → List ℕ → Option (ℕ × ℕ) → Type 0
TermLineTold bs at out done (Some (n, next)) =
    (ws : List ℕ) × (term_line (drop at bs) ≡ some (ws, drop next bs)) × (length ws ≡ n) × (done ≡ sets out 0 ws) × (at < next) × (next ≤ length bs) × (n ≤ 4096)
TermLineTold bs at out done None = term_line (drop at bs) ≡ none

-- every line up to the end is a `term=` line, or the first that is not
abbrev pub TermsTold : Terms → ℕ → Result Unit ℕ → Type 0
TermsTold read last (Ok tt) = (terms : List (List ℕ)) × (read ≡ terms_are terms)
TermsTold read last (Err line) = (read ≡ bad_term line) × (line ≤ last)

-- the words of a file's book lie in front, and its terms stand from `at` on
pub record FileRead (bs done : List ℕ) (n at : ℕ) : Type 0 where
  pub book : List ℕ
  pub terms : List (List ℕ)
  pub said : file_said bs ≡ file_is book terms
  pub words : take n done ≡ book
  pub some_words : 1 ≤ n
  pub few : n ≤ 8385
  pub rules : get_or book 0 0 ≤ 64
  pub left : terms_read (due_after book) (drop at bs) ≡ terms_are terms
  pub inside : at ≤ length bs
  pub short : length bs ≤ 65536

abbrev pub InputTold : List ℕ → List ℕ → Result (ℕ × ℕ) ℕ → Type 0
InputTold bs done (Ok (n, at)) = FileRead bs done n at
InputTold bs done (Err line) = (file_said bs ≡ bad_file line) × (line ≤ 65900)

-- a block went into the front of a slice
abbrev pub BlockTold : List ℕ → List ℕ → List ℕ → ℕ → Type 0
BlockTold block out done n = (n ≡ length block) × (done ≡ sets out 0 block) × (n ≤ 65536)

-- ---- the first block
-- the tree of an accepted book lies in front, and the terms stand where they stood, the first with the number 0
pub record HeadReady (book tree : List ℕ) (at : ℕ) (k : Ready) : Type 0 where
  pub book_size : k.book ≡ length book
  pub tree_words : take k.tree tree ≡ tree_words book
  pub tree_fits : k.tree ≤ length tree
  pub where_terms : k.at ≡ at
  pub from_zero : k.number ≡ 0

pub record HeadTold (book : List ℕ) (at : ℕ) (tree out done : List ℕ) (r : First) : Type 0 where
  pub block : BlockTold (book_block book (compile_answer 16384 book)) out done r.length
  pub refuses : is_none r.ready ≡ refused (compile_answer 16384 book)
  pub ready : (k : Ready) → r.ready ≡ Some k → HeadReady book tree at k

-- what is ready for the terms of a file that is not refused: its book, the book's tree, and where its terms stand, the first with the number 0
pub record FileReady (bs book tree : List ℕ) (k : Ready) : Type 0 where
  pub book_words : take k.book book ≡ file_book (file_said bs)
  pub book_fits : k.book ≤ length book
  pub tree_words : take k.tree tree ≡ tree_words (file_book (file_said bs))
  pub tree_fits : k.tree ≤ length tree
  pub terms : terms_read (due_after (file_book (file_said bs))) (drop k.at bs) ≡ terms_are (file_terms (file_said bs))
  pub inside : k.at ≤ length bs
  pub short : length bs ≤ 65536
  pub from_zero : k.number ≡ 0

pub record FirstTold (bs book tree out done : List ℕ) (r : First) : Type 0 where
  pub block : BlockTold (first_block (file_said bs)) out done r.length
  pub refuses : is_none r.ready ≡ refused (file_answer (file_said bs))
  pub ready : (k : Ready) → r.ready ≡ Some k → FileReady bs book tree k

-- ---- a term's block
-- the `term=` line at the offset `at`, if one stands there, with its number: its block, and then the next line has the next number
abbrev pub NextTold : List ℕ → List ℕ → ℕ → List ℕ → ℕ → List ℕ → List ℕ → Read (List ℕ) → Next → Type 0
NextTold book tree number bs at out done none r = (r.length ≡ 0) × (done ≡ out) × (r.at ≡ length bs) × (r.number ≡ number)
NextTold book tree number bs at out done (some p) r =
    BlockTold (term_block number (simplify book tree 1000 p.0)) out done r.length
    × (drop r.at bs ≡ p.1) × (at < r.at) × (r.at ≤ length bs) × (r.number ≡ number + 1)
