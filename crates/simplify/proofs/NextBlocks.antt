-- A term's block, for each way through the code where a line stands there: a refusal with `-`, or a result, which stands in front of the cleared words and ends where its counts say.
use mathlib.Core.Path.{◌≡◌, refl, sym, ap, ◌∙◌}
use mathlib.Core.List.{List, [], ◌++◌}
use Prim.Native.Nat.{ℕ, ◌+◌, ◌-◌, ◌≤◌, ◌<◌}
use native.Mathlib.Omega.{arith}
use lib.ListN.{length, take, drop, replicate}
use lib.Seq.{sets, take_at, length-take-le}
use borrow.Author.Tests.{le-leb, lt-leb}
use Rattle.std.specs.Prelude.{Some}
use Rattle.term.specs.declared.answer.Answer.{Answer}
use Rattle.term.specs.Answer.{number_of}
use Rattle.term.specs.Row.{words, width}
use Rattle.term.specs.Check.{IsTerm}
use Rattle.term.specs.Part.{past, part_end}
use Rattle.term.proofs.Laws.{past_words, part_past}
use Rattle.steps.specs.Simplify.{Run, Stopped, Ended, simplify, simplify_answer, simplify_words, simplify_steps}
use Rattle.steps.proofs.Laws.{RunGives, simplify_gives_lem}
use Rattle.text.specs.Line.{line_text}
use Rattle.text.proofs.Laws.{line_short, Wrote, wrote_then, first_words, Brief}
use Rattle.simplify.specs.File.{term_line}
use Rattle.simplify.specs.Printed.{dash_line, answer_text, run_words, term_block}
use Rattle.simplify.specs.Told.Told.{TermLineTold, BlockTold, NextTold}
use Rattle.simplify.proofs.BlockTexts.{answer_before}

-- ---- the words of a term before zeros end where their counts say
term_ends : (ws rest : List ℕ) → IsTerm ws → part_end (ws ++ rest) ≡ length ws
term_ends ws rest i =
    let e : past (width i.tree) (words i.tree ++ rest) ≡ length (words i.tree) = past_words i.tree i.formed rest in
    rw (i.same, part_past (words i.tree ++ rest)) (rw i.one at e)

front : (ws rest all : List ℕ) → IsTerm ws → all ≡ ws ++ rest → take (part_end all) all ≡ ws
front ws rest all i e = rw (e, term_ends ws rest i) (take_at ws rest (length ws) refl)

result_words : (run : Run) (result : List ℕ) → RunGives 4096 run → number_of (simplify_answer 4096 run) < 10 → result ≡ simplify_words 4096 run → take (part_end result) result ≡ run_words run
result_words (Stopped trace last a) result g h e = let z : number_of a < 10 = rw g.0 at h in absurd (omega (arith, g.1))
result_words (Ended trace last a t) result g h e = front (words t) (replicate (4096 - length (words t)) 0) result g.2 (e ∙ g.3)

-- ---- the block
module _ (number : ℕ) (run : Run) (a : Answer) (steps : ℕ) (e : a ≡ simplify_answer 4096 run) (f : steps ≡ simplify_steps run) where
  block_refused : 10 ≤ number_of a → answer_text number a steps dash_line ≡ term_block number run
  block_refused h = sym (rw (sym e, sym f, le-leb 10 (number_of a) h))

  block_given : (result : List ℕ) → RunGives 4096 run → number_of a < 10 → result ≡ simplify_words 4096 run → answer_text number a steps (line_text (take (part_end result) result)) ≡ term_block number run
  block_given result g h w =
      ap (λ (ws : List ℕ). answer_text number a steps (line_text ws)) (result_words run result g (rw e at h) w) ∙ sym (rw (sym e, sym f, lt-leb 10 (number_of a) h))

joined : (number : ℕ) (a : Answer) (steps : ℕ) (out mid done text block : List ℕ) (start end : ℕ) → Brief (answer_text number a steps []) out mid start → Wrote mid start end done text
    → length text ≤ 60000 → answer_text number a steps text ≡ block → BlockTold block out done end
joined number a steps out mid done text block start end s w l e =
    let j = wrote_then out 0 start end mid done (answer_text number a steps []) text (omega (arith, s.0), s.1) w in
    let k : answer_text number a steps [] ++ text ≡ block = answer_before number a steps text ∙ e in
    (rw (sym k) (omega (arith, j.0)), j.1 ∙ ap (sets out 0) k, omega (arith, w.0, s.2))

-- ---- the ways through the code
module _ (book tree : List ℕ) (number : ℕ) (bs : List ℕ) (at : ℕ) (before area : List ℕ) where
  module _ (n next : ℕ) (t : TermLineTold bs at before area (Some (n, next))) (room : length before ≡ 4096) where
    abbrev the_run : Run
    the_run = simplify book tree 1000 (take n area)

    the_words : take n area ≡ t.0
    the_words = first_words before t.0 area n t.3 t.2 (omega (arith, t.6, room))

    there : (out done : List ℕ) (end : ℕ) → BlockTold (term_block number the_run) out done end → NextTold book tree number bs at out done (term_line (drop at bs)) (record { length = end; at = next; number = number + 1 })
    there out done end b = rw t.1 (rw the_words at b, refl, t.4, t.5, refl)

    module _ (a : Answer) (steps : ℕ) (e : a ≡ simplify_answer 4096 the_run) (f : steps ≡ simplify_steps the_run) (out mid done : List ℕ) (start end : ℕ) (s : Brief (answer_text number a steps []) out mid start) where
      pub refused_there : 10 ≤ number_of a → Wrote mid start end done dash_line → NextTold book tree number bs at out done (term_line (drop at bs)) (record { length = end; at = next; number = number + 1 })
      refused_there h w =
          there out done end (joined number a steps out mid done dash_line (term_block number the_run) start end s w (omega arith) (block_refused number the_run a steps e f h))

      pub result_there : (result : List ℕ) → number_of a < 10 → result ≡ simplify_words 4096 the_run → length result ≡ 4096 → part_end result ≤ length result → Wrote mid start end done (line_text (take (part_end result) result))
          → NextTold book tree number bs at out done (term_line (drop at bs)) (record { length = end; at = next; number = number + 1 })
      result_there result h r l p w =
          there out done end
          (joined number a steps out mid done (line_text (take (part_end result) result)) (term_block number the_run) start end s w
          (omega (arith, line_short (take (part_end result) result), length-take-le (part_end result) result p))
          (block_given number the_run a steps e f result (simplify_gives_lem book tree 4096 (omega arith) 1000 (take n area)) h r))
