-- What compiling a book answers and leaves: document 01's numbers 12 and 13, in this order.
use Rattle.std.specs.Prelude.{ℕ, Bool, ◌&&◌, List, leb, length, replicate, Result, Ok, Err}
use Rattle.term.specs.declared.answer.Answer.{Answer}
use Rattle.term.specs.declared.answer.Answer.TheVariants.{Done, Short}
use Rattle.term.specs.Answer.{Answered, answered}
use Rattle.term.specs.Word.{pick}
use Rattle.term.specs.Part.{padded}
use Rattle.book.specs.Accept.{accept}
use Rattle.tree.specs.Layout.{tree_words}

-- "output too short, tree over 16,384 words": a tree within so many words has room
unfoldable pub has_room : ℕ → List ℕ → Bool
has_room room ws = leb (length ws) 16384 && leb (length ws) room

abbrev pub compiled_answer : ℕ → List ℕ → Result (Unit {0}) Answer → Answer
compiled_answer room book (Ok _) = pick (has_room room (tree_words book)) Done Short
compiled_answer room book (Err a) = a

abbrev pub compiled_words : ℕ → List ℕ → Result (Unit {0}) Answer → List ℕ
compiled_words room book (Ok _) = pick (has_room room (tree_words book)) (padded room (tree_words book)) (replicate room 0)
compiled_words room book (Err a) = replicate room 0

-- how many of the words are the tree's; 0 where there is none
abbrev pub compiled_length : ℕ → List ℕ → Result (Unit {0}) Answer → ℕ
compiled_length room book (Ok _) = pick (has_room room (tree_words book)) (length (tree_words book)) 0
compiled_length room book (Err a) = 0

unfoldable pub compile_answer : ℕ → List ℕ → Answer
compile_answer room book = compiled_answer room book (accept book)

unfoldable pub compile_words : ℕ → List ℕ → List ℕ
compile_words room book = compiled_words room book (accept book)

unfoldable pub compile_length : ℕ → List ℕ → ℕ
compile_length room book = compiled_length room book (accept book)

-- all that comes back: what is said, how many words the tree has, the output
pub record CompileOutcome : Type 0 where
  pub said : Answered
  pub words : ℕ
  pub out : List ℕ

abbrev pub compile_came : Answered → ℕ → List ℕ → CompileOutcome
compile_came said words out = record { said = said; words = words; out = out }

unfoldable pub compile_gives : (book : List ℕ) (room : ℕ) → CompileOutcome
compile_gives book room = compile_came (answered (compile_answer room book)) (compile_length room book) (compile_words room book)
