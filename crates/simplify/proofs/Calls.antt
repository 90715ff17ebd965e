-- What the program prints is `blocks`, each block once and in order: the first call tells of the first block and of the terms, and each later call of the next term, until the text ends.
use mathlib.Core.Path.{◌≡◌, sym, ap, ap₂, ◌∙◌}
use mathlib.Core.Bool.{Bool, true, false}
use mathlib.Core.List.{List, [], ◌∷◌}
use mathlib.Core.Option.{some}
use Prim.Native.Nat.{ℕ, suc, ◌≤◌, ◌<◌}
use native.Mathlib.Omega.{arith}
use native.Mathlib.Numerals.{add-one}
use lib.ListN.{length, take, drop}
use Rattle.std.specs.Prelude.{Option, Some, None, is_none}
use Rattle.term.specs.Word.{pick}
use Rattle.tree.specs.Layout.{tree_words}
use Rattle.steps.specs.Simplify.{simplify}
use Rattle.text.specs.BookText.{due_after}
use Rattle.text.specs.Refusal.{refused}
use Rattle.text.proofs.Laws.{first_words}
use Rattle.simplify.specs.declared.first.First.{First}
use Rattle.simplify.specs.declared.first.Ready.{Ready}
use Rattle.simplify.specs.declared.next.Next.{Next}
use Rattle.simplify.specs.File.{term_line, terms_are, terms_read, file_said}
use Rattle.simplify.specs.Printed.{term_block, term_blocks, file_answer, file_book, file_terms, first_block, blocks}
use Rattle.simplify.specs.Told.Told.{BlockTold, NextTold, FirstTold}
use Rattle.simplify.proofs.Lines.{Standing, none_left, one_left, standing}

-- what is printed of a block is the block
block_printed : (block out done : List ℕ) (n : ℕ) → length out ≡ 65536 → BlockTold block out done n → take n done ≡ block
block_printed block out done n l b = first_words out block done n b.1 (sym b.0) (omega (arith, b.2))

-- the calls for the terms, from an offset and a number to the end of the text, and what is printed after each: the front of the lent output
pub data Calls (bs book tree : List ℕ) : ℕ → ℕ → List (List ℕ) → Type 0 where
  ended : {at number : ℕ} → length bs ≤ at → Calls bs book tree at number []
  called : {at number : ℕ} (out done : List ℕ) (r : Next) {later : List (List ℕ)} → at < length bs → length out ≡ 65536 → NextTold book tree number bs at out done (term_line (drop at bs)) r
      → Calls bs book tree r.at r.number later → Calls bs book tree at number (take r.length done ∷ later)

module _ (bs book : List ℕ) where
  none_printed : (due at number : ℕ) (terms : List (List ℕ)) → length bs ≤ at → Standing due bs at terms → [] ≡ term_blocks book number terms
  unfolding term_blocks
  none_printed due at number terms h (none_left l e) = rw e
  none_printed due at number terms h (one_left ws rest others l q e m) = absurd (omega arith)

  one_printed : (due at number : ℕ) (out done : List ℕ) (r : Next) (later terms : List (List ℕ)) → at < length bs → length out ≡ 65536
      → NextTold book (tree_words book) number bs at out done (term_line (drop at bs)) r
      → ((others : List (List ℕ)) → terms_read (suc due) (drop r.at bs) ≡ terms_are others → later ≡ term_blocks book r.number others)
      → Standing due bs at terms → take r.length done ∷ later ≡ term_blocks book number terms
  unfolding term_blocks
  one_printed due at number out done r later terms h l t more (none_left m e) = absurd (omega arith)
  one_printed due at number out done r later terms h l t more (one_left ws rest others m q e left) =
      let s : NextTold book (tree_words book) number bs at out done (some (ws, rest)) r = rw q at t in
      let b = block_printed (term_block number (simplify book (tree_words book) 1000 ws)) out done r.length l s.0 in
      let n : r.number ≡ suc number = s.4 ∙ add-one number in
      let z = more others (ap (terms_read (suc due)) s.1 ∙ left) ∙ ap (λ (k : ℕ). term_blocks book k others) n in
      rw (e, b, z)

  terms_printed : (due : ℕ) {at number : ℕ} {printed : List (List ℕ)} (terms : List (List ℕ)) → terms_read due (drop at bs) ≡ terms_are terms → Calls bs book (tree_words book) at number printed
      → printed ≡ term_blocks book number terms
  terms_printed due {at} {number} terms e (ended h) = none_printed due at number terms h (standing due bs at terms e)
  terms_printed due {at} {number} terms e (called out done r {later} h l t c) =
      one_printed due at number out done r later terms h l t (λ others q. terms_printed (suc due) others q c) (standing due bs at terms e)

module _ (bs book tree out done : List ℕ) (r : First) (room : length out ≡ 65536) (told : FirstTold bs book tree out done r) where
  first_printed : take r.length done ≡ first_block (file_said bs)
  first_printed = block_printed (first_block (file_said bs)) out done r.length room told.block

  -- a file that is refused: one block
  pub refusal_printed : r.ready ≡ None → take r.length done ∷ [] ≡ blocks bs
  unfolding blocks
  refusal_printed e =
      let said : refused (file_answer (file_said bs)) ≡ true = sym told.refuses ∙ ap (λ (o : Option Ready). is_none o) e in
      rw (first_printed, said)

  -- any other: the first block, and then that of each term
  pub file_printed : (printed : List (List ℕ)) (k : Ready) → r.ready ≡ Some k → Calls bs (take k.book book) (take k.tree tree) k.at k.number printed → take r.length done ∷ printed ≡ blocks bs
  unfolding blocks
  file_printed printed k e c =
      let g = told.ready k e in
      let f = file_said bs in
      let taken : refused (file_answer f) ≡ false = sym told.refuses ∙ ap (λ (o : Option Ready). is_none o) e in
      let said : Calls bs (file_book f) (tree_words (file_book f)) k.at 0 printed = rw (g.book_words, g.tree_words, g.from_zero) at c in
      ap₂ ◌∷◌ first_printed
      (terms_printed bs (file_book f) (due_after (file_book f)) (file_terms f) g.terms said
      ∙ sym (ap (λ (b : Bool). pick b [] (term_blocks (file_book f) 0 (file_terms f))) taken))
