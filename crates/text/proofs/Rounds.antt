-- One meaning has one text: a term's text says that term, and a text that says words is their text.
use mathlib.Core.Path.{◌≡◌, refl, sym, ap, ◌∙◌}
use mathlib.Core.Bool.{Bool, true, false}
use mathlib.Core.List.{List, [], ◌∷◌, ◌++◌, append-nil}
use mathlib.Core.Option.{none, some}
use Prim.Native.Nat.{ℕ, ◌+◌, ◌*◌, ◌≤◌}
use native.Mathlib.Omega.{arith}
use lib.Dec.{leb}
use lib.ListN.{length, length-append}
use borrow.Author.Tests.{le-leb, leb-true}
use Rattle.std.specs.Prelude.{Ok}
use Rattle.term.specs.Word.{pick}
use Rattle.term.specs.Row.{Row, nothing, node, words, width, Formed}
use Rattle.term.specs.Check.{check, term_limits}
use Rattle.term.proofs.Laws.{never, head_word_lem, good_tree, words_nothing, words_node, width_nothing, formed_node}
use Rattle.text.specs.Number.{Read}
use Rattle.text.specs.Token.{word_text}
use Rattle.text.specs.Line.{rest_text, line_text, line}
use Rattle.text.specs.TermText.{Said, says, bad_line, at_end, one_line, term_said}
use Rattle.text.proofs.KindTexts.{word_short}
use Rattle.text.proofs.Lines.{Known, LineWas, line_back, line_is}

-- ---- the words of a tree are in the table
known_both : (ws vs : List ℕ) → Known ws → Known vs → Known (ws ++ vs)
unfolding Known
known_both [] vs k l = l
known_both (w ∷ ws) vs k l = (k.0, known_both ws vs k.1 l)

pub known_words : (r : Row) → Formed r → Known (words r)
unfolding Known
known_words nothing f = rw words_nothing tt
known_words (node h kids rest) f =
    let k = formed_node h kids rest f in
    rw (words_node h kids rest) ((h, head_word_lem h k.table), known_both (words kids) (words rest) (known_words kids k.below) (known_words rest k.beside))

pub some_words : (r : Row) → width r ≡ 1 → 1 ≤ length (words r)
some_words nothing e = absurd (omega (arith, width_nothing))
some_words (node h kids rest) e = rw (words_node h kids rest) (omega arith)

-- ---- a line has at most 13 bytes for each word, and its end
rest_short : (ws : List ℕ) → length (rest_text ws) ≤ 13 * length ws + 1
unfolding rest_text
rest_short [] = omega arith
rest_short (w ∷ ws) = rw (length-append (word_text w) (rest_text ws)) (omega (arith, word_short w, rest_short ws))

pub line_short : (ws : List ℕ) → length (line_text ws) ≤ 13 * length ws + 1
unfolding line_text
line_short [] = omega arith
line_short (w ∷ ws) = rw (length-append (word_text w) (rest_text ws)) (omega (arith, word_short w, rest_short ws))

-- ---- both ways
pub term_said_lem : (ws : List ℕ) → check term_limits ws ≡ Ok tt → term_said (line_text ws) ≡ says ws
unfolding term_said
term_said_lem ws g =
    let t = good_tree term_limits (omega arith) ws g in
    let k : Known ws = rw t.same (known_words t.tree t.formed) in
    let s : 1 ≤ length ws = rw t.same (some_words t.tree t.one) in
    let e : line 4096 (line_text ws) ≡ some (ws, []) = ap (λ (x : List ℕ). line 4096 x) (sym (append-nil (line_text ws))) ∙ line_back 4096 ws [] k s t.short in
    rw (le-leb (length (line_text ws)) 65536 (omega (arith, line_short ws, t.short)), e)

abbrev SaidBy : List ℕ → Said → Type 0
SaidBy bs (says ws) = LineWas 4096 bs ws []
SaidBy bs (bad_line at) = Unit {0}

said_end : (bs ws rest : List ℕ) → LineWas 4096 bs ws rest → SaidBy bs (at_end 2 ws rest)
said_end bs ws [] l = l
said_end bs ws (b ∷ rest) l = tt

said_line : (bs : List ℕ) (o : Read (List ℕ)) → line 4096 bs ≡ o → SaidBy bs (one_line o)
said_line bs none e = tt
said_line bs (some p) e = said_end bs p.0 p.1 (line_is 4096 bs p.0 p.1 e)

said_by : (bs : List ℕ) → SaidBy bs (term_said bs)
unfolding term_said
said_by bs = go (leb (length bs) 65536)
  where
    go : (b : Bool) → SaidBy bs (pick b (one_line (line 4096 bs)) (bad_line 0))
    go true = said_line bs (line 4096 bs) refl
    go false = tt

-- a text over 65,536 bytes says nothing
pub term_bytes : (bs ws : List ℕ) → term_said bs ≡ says ws → length bs ≤ 65536
unfolding term_said
term_bytes bs ws e = go (leb (length bs) 65536) refl e
  where
    go : (b : Bool) → leb (length bs) 65536 ≡ b → pick b (one_line (line 4096 bs)) (bad_line 0) ≡ says ws → length bs ≤ 65536
    go true q z = leb-true (length bs) 65536 q
    go false q z = never (cc)

pub said_term : (bs ws : List ℕ) → term_said bs ≡ says ws → bs ≡ line_text ws
said_term bs ws e = let l : LineWas 4096 bs ws [] = rw e at (said_by bs) in l.same ∙ append-nil (line_text ws)
