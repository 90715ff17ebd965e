-- All that compiling hands back is one outcome, and it gives its parts: the answer, the words and the length.
use mathlib.Core.Path.{◌≡◌, ap}
use mathlib.Core.List.{List}
use Prim.Native.Nat.{ℕ}
use Rattle.term.specs.declared.answer.Answer.{Answer}
use Rattle.term.specs.Answer.{answered}
use Rattle.term.proofs.Laws.{answered_same}
use Rattle.compiler.specs.Compiled.{compile_answer, compile_words, compile_length, CompileOutcome, compile_came, compile_gives}

pub compile_parts : (book : List ℕ) (room : ℕ) (a : Answer) (n : ℕ) (out : List ℕ) → compile_came (answered a) n out ≡ compile_gives book room
    → (a ≡ compile_answer room book) × (out ≡ compile_words room book) × (n ≡ compile_length room book)
unfolding compile_gives
compile_parts book room a n out e =
    (answered_same a (compile_answer room book) (ap (λ (o : CompileOutcome). o.said) e), ap (λ (o : CompileOutcome). o.out) e, ap (λ (o : CompileOutcome). o.words) e)

pub compile_came_lem : (book : List ℕ) (room : ℕ) (a : Answer) (n : ℕ) (out : List ℕ) → a ≡ compile_answer room book → out ≡ compile_words room book → n ≡ compile_length room book
    → compile_came (answered a) n out ≡ compile_gives book room
unfolding compile_gives
compile_came_lem book room a n out p q s = rw (p, q, s)
