-- Every repaired text has room in 131,088 bytes: the line of a rule has at most 17 bytes and the rule itself at least 21, so the lines are no longer than
-- the text that came; the new book has at most 65,536 bytes, and the last line 16.
use mathlib.Core.Path.{◌≡◌}
use mathlib.Core.Bool.{Bool, true, false}
use mathlib.Core.List.{List, [], ◌∷◌}
use Prim.Native.Nat.{ℕ, suc, ◌+◌, ◌*◌, ◌≤◌}
use native.Mathlib.Omega.{arith}
use lib.Dec.{eqb}
use lib.ListN.{length, length-append}
use Rattle.term.specs.Word.{pick}
use Rattle.text.specs.BookText.{number_text, book_text}
use Rattle.text.specs.Mail.{mail_is, mail_said}
use Rattle.text.proofs.Laws.{number_text_short, mail_facts, mail_bytes}
use Rattle.mend.specs.Repair.{stays, new_book, was_key, dropped, kept, notes_from, notes_text, was_text, repaired_text}
use Rattle.mend.proofs.Noting.{kept_short, dropped_short}

notes_short : (old new : ℕ) (rules : List (List ℕ)) → old + length rules ≤ 65536 → new ≤ old → length (notes_text (notes_from old new rules)) ≤ 17 * length rules
unfolding notes_from notes_text
notes_short old new [] h k = omega arith
notes_short old new (rule ∷ rules) h k =
    go (stays new rule) (notes_short (suc old) (suc new) rules (omega arith) (omega arith)) (notes_short (suc old) new rules (omega arith) (omega arith))
  where
    go : (b : Bool) → length (notes_text (notes_from (suc old) (suc new) rules)) ≤ 17 * length rules → length (notes_text (notes_from (suc old) new rules)) ≤ 17 * length rules
        → length (notes_text (pick b (kept old new ∷ notes_from (suc old) (suc new) rules) (dropped old ∷ notes_from (suc old) new rules))) ≤ 17 * suc (length rules)
    go true p q = rw length-append (omega (arith, kept_short old new (omega arith) (omega arith)))
    go false p q = rw length-append (omega (arith, dropped_short old (omega arith)))

was_short : (stated present : ℕ) → stated ≤ 65535 → length (was_text stated present) ≤ 16
unfolding was_text
was_short stated present h = go (eqb stated present)
  where
    go : (b : Bool) → length (pick b [] (number_text was_key stated [])) ≤ 16
    go true = omega arith
    go false = number_text_short was_key stated (omega arith)

pub repaired_short : (bs : List ℕ) (stated : ℕ) (rules : List (List ℕ)) → mail_said bs ≡ mail_is stated rules → length (book_text (new_book rules)) ≤ 65536
    → length (repaired_text stated rules) ≤ 131088
unfolding repaired_text
repaired_short bs stated rules m h =
    let f = mail_facts bs stated rules m in
    let b = mail_bytes bs stated rules m in
    let n = notes_short 0 0 rules (omega (arith, f.few)) (omega arith) in
    let w = was_short stated (length rules) f.within in
    simp length-append (omega (arith, f.few))
