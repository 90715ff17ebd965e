-- The `term=` lines of a text, one after the other: each takes bytes away, so that as many lines as bytes are always enough, and reading them is one line and then the rest.
use mathlib.Core.Path.{◌≡◌, refl, sym, ap, ◌∙◌}
use mathlib.Core.Bool.{Bool, true, false}
use mathlib.Core.List.{List, [], ◌∷◌, ◌++◌}
use mathlib.Core.Option.{Option, none, some}
use Prim.Native.Nat.{ℕ, zero, suc, ◌+◌, ◌≤◌, ◌<◌}
use native.Mathlib.Omega.{arith}
use native.Mathlib.Numerals.{add-one}
use lib.Dec.{leb}
use lib.ListN.{length, drop, length-append, length-drop, drop_of_length-le}
use borrow.Author.Tests.{leb-true, leb-false}
use Rattle.std.specs.Prelude.{Option as Maybe, Some, None}
use Rattle.term.proofs.Laws.{never}
use Rattle.text.specs.Number.{Read}
use Rattle.text.specs.Line.{line_text, line}
use Rattle.text.specs.BookText.{keyed, after_key}
use Rattle.text.specs.Told.Told.{LineTold}
use Rattle.text.specs.Told.BookTold.{KeyTold}
use Rattle.text.proofs.Laws.{key_is, line_is}
use Rattle.simplify.specs.File.{term_key, term_line, Terms, terms_are, bad_term, before, term_then, terms_in, terms_read}
use Rattle.simplify.specs.Told.Told.{TermLineTold}

-- ---- one line
pub no_key : (bs : List ℕ) (at : ℕ) → KeyTold term_key bs at None → term_line (drop at bs) ≡ none
unfolding term_line
no_key bs at t = rw t

-- the text after a key, and after a line, is shorter
key_shorter : (bs rest : List ℕ) → keyed term_key bs ≡ some rest → length bs ≡ 5 + length rest
key_shorter bs rest e = ap length (key_is term_key bs rest e) ∙ omega arith

line_shorter : (bs ws rest : List ℕ) → line 4096 bs ≡ some (ws, rest) → length bs ≡ length (line_text ws) + length rest
line_shorter bs ws rest e = ap length (line_is 4096 bs ws rest e).same ∙ length-append (line_text ws) rest

shorter : (bs ws rest : List ℕ) → term_line bs ≡ some (ws, rest) → length rest < length bs
unfolding term_line
shorter bs ws rest e = go (keyed term_key bs) refl e
  where
    go : (o : Option (List ℕ)) → keyed term_key bs ≡ o → after_key (line 4096) o ≡ some (ws, rest) → length rest < length bs
    go none k q = never (cc)
    go (some after) k q = omega (arith, key_shorter bs after k, line_shorter after ws rest q)

pub line_there : (bs : List ℕ) (at a : ℕ) (out done : List ℕ) (r : Maybe (ℕ × ℕ)) → at ≤ length bs → KeyTold term_key bs at (Some a) → LineTold 4096 bs a 0 out done r → TermLineTold bs at out done r
unfolding term_line
line_there bs at a out done (Some (n, next)) h k l =
    let few = (line_is 4096 (drop a bs) l.0 (drop next bs) l.1).few in (
      l.0,
      rw k.0 l.1,
      l.2,
      l.3,
      omega (arith, key_shorter (drop at bs) (drop a bs) k.0, line_shorter (drop a bs) l.0 (drop next bs) l.1, length-drop at bs, length-drop a bs, length-drop next bs, k.1, k.2, l.4),
      l.4,
      omega (arith, few, l.2),
    )
line_there bs at a out done None h k l = rw k.0 l

-- ---- as many lines as bytes are enough
then_same : (due : ℕ) (f g : List ℕ → Terms) (o : Read (List ℕ)) → ((ws rest : List ℕ) → o ≡ some (ws, rest) → f rest ≡ g rest) → term_then f due o ≡ term_then g due o
then_same due f g none h = refl
then_same due f g (some p) h = ap (before p.0) (h p.0 p.1 refl)

enough : (f g due : ℕ) (bs : List ℕ) → length bs ≤ f → length bs ≤ g → terms_in f due bs ≡ terms_in g due bs
unfolding terms_in
enough zero zero due bs h k = refl
enough zero (suc g) due [] h k = refl
enough zero (suc g) due (b ∷ bs) h k = absurd (omega arith)
enough (suc f) zero due [] h k = refl
enough (suc f) zero due (b ∷ bs) h k = absurd (omega arith)
enough (suc f) (suc g) due [] h k = refl
enough (suc f) (suc g) due (b ∷ bs) h k =
    then_same due (terms_in f (suc due)) (terms_in g (suc due)) (term_line (b ∷ bs))
    (λ ws rest e. let s = shorter (b ∷ bs) ws rest e in enough f g (suc due) rest (omega arith) (omega arith))

terms_end : (due : ℕ) → terms_read due [] ≡ terms_are []
unfolding terms_read terms_in
terms_end due = refl

terms_bad : (due : ℕ) (bs : List ℕ) → 0 < length bs → term_line bs ≡ none → terms_read due bs ≡ bad_term due
unfolding terms_read terms_in
terms_bad due [] h e = absurd (omega arith)
terms_bad due (b ∷ bs) h e = rw e

terms_more : (due : ℕ) (bs ws rest : List ℕ) → 0 < length bs → term_line bs ≡ some (ws, rest) → terms_read due bs ≡ before ws (terms_read (suc due) rest)
unfolding terms_read terms_in
terms_more due [] ws rest h e = absurd (omega arith)
terms_more due (b ∷ bs) ws rest h e =
    let s = shorter (b ∷ bs) ws rest e in rw e (ap (before ws) (enough (length bs) (length rest) (suc due) rest (omega arith) (omega arith)))

-- ---- line after line
abbrev pub before_all : List (List ℕ) → Terms → Terms
before_all [] read = read
before_all (ws ∷ terms) read = before ws (before_all terms read)

all_one : (terms : List (List ℕ)) (ws : List ℕ) (read : Terms) → before_all terms (before ws read) ≡ before_all (terms ++ (ws ∷ [])) read
all_one [] ws read = refl
all_one (vs ∷ terms) ws read = ap (before vs) (all_one terms ws read)

all_end : (terms : List (List ℕ)) → before_all terms (terms_are []) ≡ terms_are terms
all_end [] = refl
all_end (vs ∷ terms) = ap (before vs) (all_end terms)

all_bad : (terms : List (List ℕ)) (line : ℕ) → before_all terms (bad_term line) ≡ bad_term line
all_bad [] line = refl
all_bad (vs ∷ terms) line = ap (before vs) (all_bad terms line)

inside : (bs : List ℕ) (a : ℕ) → a < length bs → 0 < length (drop a bs)
inside bs a h = omega (arith, length-drop a bs)

module _ (due : ℕ) (bs : List ℕ) (at : ℕ) where
  -- these terms were read, and the others stand from the line and the offset on
  abbrev pub Left : List (List ℕ) → ℕ → ℕ → Type 0
  Left terms line a = terms_read due (drop at bs) ≡ before_all terms (terms_read line (drop a bs))

  pub begun : Left [] due at
  begun = refl

  module _ (terms : List (List ℕ)) (line a : ℕ) (left : Left terms line a) where
    pub text_ends : length bs ≤ a → terms_read due (drop at bs) ≡ terms_are terms
    text_ends h = left ∙ rw (drop_of_length-le bs {i = a} h, terms_end line) (all_end terms)

    pub line_bad : a < length bs → term_line (drop a bs) ≡ none → terms_read due (drop at bs) ≡ bad_term line
    line_bad h e = left ∙ rw (terms_bad line (drop a bs) (inside bs a h) e) (all_bad terms line)

    pub line_next : (ws : List ℕ) (next : ℕ) → a < length bs → term_line (drop a bs) ≡ some (ws, drop next bs) → Left (terms ++ (ws ∷ [])) (line + 1) next
    line_next ws next h e = left ∙ rw (terms_more line (drop a bs) ws (drop next bs) (inside bs a h) e, add-one line) (all_one terms ws (terms_read (suc line) (drop next bs)))

-- ---- what stands at the offset of terms that are in form
pub data Standing (due : ℕ) (bs : List ℕ) (at : ℕ) (terms : List (List ℕ)) : Type 0 where
  none_left : length bs ≤ at → terms ≡ [] → Standing due bs at terms
  one_left : (ws rest : List ℕ) (others : List (List ℕ)) → at < length bs → term_line (drop at bs) ≡ some (ws, rest) → terms ≡ ws ∷ others → terms_read (suc due) rest ≡ terms_are others → Standing due bs at terms

first_of_lem : (ws : List ℕ) (terms : List (List ℕ)) (read : Terms) → before ws read ≡ terms_are terms → (others : List (List ℕ)) × (terms ≡ ws ∷ others) × (read ≡ terms_are others)
first_of_lem ws terms (terms_are others) e = (others, cc, refl)
first_of_lem ws terms (bad_term line) e = never (cc)

pub standing : (due : ℕ) (bs : List ℕ) (at : ℕ) (terms : List (List ℕ)) → terms_read due (drop at bs) ≡ terms_are terms → Standing due bs at terms
standing due bs at terms e = go (leb (length bs) at) refl
  where
    here : at < length bs → (o : Read (List ℕ)) → term_line (drop at bs) ≡ o → Standing due bs at terms
    here h none q = let z : bad_term due ≡ terms_are terms = sym (terms_bad due (drop at bs) (inside bs at h) q) ∙ e in never (cc)
    here h (some p) q =
        let f = first_of_lem p.0 terms (terms_read (suc due) p.1) (sym (terms_more due (drop at bs) p.0 p.1 (inside bs at h) q) ∙ e) in
        one_left p.0 p.1 f.0 h q f.1 f.2

    go : (b : Bool) → leb (length bs) at ≡ b → Standing due bs at terms
    go true q =
        let h : length bs ≤ at = leb-true (length bs) at q in
        let z : terms_are [] ≡ terms_are terms = sym (terms_end due) ∙ ap (terms_read due) (sym (drop_of_length-le bs {i = at} h)) ∙ e in
        none_left h (cc)
    go false q = here (leb-false (length bs) at q) (term_line (drop at bs)) refl
