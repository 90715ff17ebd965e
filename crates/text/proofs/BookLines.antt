-- The lines of a book are read back from their text, and the text that was read is theirs: a key is its own text, and a number or the tokens after it end with the line.
use mathlib.Core.Path.{◌≡◌, refl, ap, ◌∙◌}
use mathlib.Core.Bool.{Bool, true, false}
use mathlib.Core.List.{List, [], ◌∷◌, ◌++◌}
use mathlib.Core.Option.{Option, none, some}
use Prim.Native.Nat.{ℕ, ◌≤◌}
use lib.Dec.{eqb}
use lib.ListN.{length}
use borrow.Author.Tests.{eqb-true, eq-eqb}
use Rattle.term.specs.Word.{pick}
use Rattle.text.specs.Number.{decimal, number, is_digit, Read}
use Rattle.text.specs.Line.{line_text, line}
use Rattle.text.specs.BookText.{number_text, side_text, keyed, after_key, number_end, number_then, number_line, side_line}
use Rattle.text.proofs.Numbers.{ends, number_back, number_is}
use Rattle.text.proofs.Lines.{Known, line_back, line_is}

-- ---- keys
pub key_back : (key rest : List ℕ) → keyed key (key ++ rest) ≡ some rest
unfolding keyed
key_back [] rest = refl
key_back (k ∷ key) rest = rw (eq-eqb k k refl) (key_back key rest)

abbrev KeyIs : List ℕ → List ℕ → Option (List ℕ) → Type 0
KeyIs key bs none = Unit {0}
KeyIs key bs (some rest) = bs ≡ key ++ rest

key_more : (k b : ℕ) (key bs : List ℕ) (o : Option (List ℕ)) → b ≡ k → KeyIs key bs o → KeyIs (k ∷ key) (b ∷ bs) o
key_more k b key bs none e t = tt
key_more k b key bs (some rest) e t = rw (e, t)

key_are : (key bs : List ℕ) → KeyIs key bs (keyed key bs)
unfolding keyed
key_are [] bs = refl
key_are (k ∷ key) [] = tt
key_are (k ∷ key) (b ∷ bs) = go (eqb b k) refl (key_are key bs)
  where
    go : (x : Bool) → eqb b k ≡ x → KeyIs key bs (keyed key bs) → KeyIs (k ∷ key) (b ∷ bs) (pick x (keyed key bs) none)
    go true e t = key_more k b key bs (keyed key bs) (eqb-true b k e) t
    go false e t = tt

pub key_is : (key bs rest : List ℕ) → keyed key bs ≡ some rest → bs ≡ key ++ rest
key_is key bs rest e = rw e at (key_are key bs)

-- ---- a key and a number
pub number_line_back : (key : List ℕ) (most n : ℕ) (rest : List ℕ) → n ≤ most → number_line key most (number_text key n rest) ≡ some (n, rest)
unfolding number_line number_text ends is_digit
number_line_back key most n rest h = rw (key_back key (decimal n ++ (10 ∷ rest)), number_back most n (10 ∷ rest) h refl)

abbrev NumberLineIs : List ℕ → ℕ → List ℕ → Read ℕ → Type 0
NumberLineIs key most bs none = Unit {0}
NumberLineIs key most bs (some p) = (bs ≡ number_text key p.0 p.1) × (p.0 ≤ most)

module _ (key : List ℕ) (most : ℕ) (bs : List ℕ) where
  number_end_are : (n : ℕ) (rest : List ℕ) → bs ≡ key ++ (decimal n ++ rest) → n ≤ most → NumberLineIs key most bs (number_end n rest)
  unfolding number_text
  number_end_are n [] e h = tt
  number_end_are n (b ∷ rest) e h = go (eqb b 10) refl
    where
      go : (x : Bool) → eqb b 10 ≡ x → NumberLineIs key most bs (pick x (some (n, rest)) none)
      go true q = (rw (eqb-true b 10 q) at e, h)
      go false q = tt

  number_then_are : (after : List ℕ) → bs ≡ key ++ after → (o : Read ℕ) → number most after ≡ o → NumberLineIs key most bs (number_then o)
  number_then_are after e none q = tt
  number_then_are after e (some p) q = let k = number_is most after p.0 p.1 q in number_end_are p.0 p.1 (e ∙ ap (λ (x : List ℕ). key ++ x) k.0) k.1

  number_key_are : (o : Option (List ℕ)) → keyed key bs ≡ o → NumberLineIs key most bs (after_key (λ rest. number_then (number most rest)) o)
  number_key_are none q = tt
  number_key_are (some after) q = number_then_are after (key_is key bs after q) (number most after) refl

  number_line_are : NumberLineIs key most bs (number_line key most bs)
  unfolding number_line
  number_line_are = number_key_are (keyed key bs) refl

pub number_line_is : (key : List ℕ) (most : ℕ) (bs : List ℕ) (n : ℕ) (rest : List ℕ) → number_line key most bs ≡ some (n, rest) → (bs ≡ number_text key n rest) × (n ≤ most)
number_line_is key most bs n rest e = rw e at (number_line_are key most bs)

-- ---- a key and the tokens of a side
pub side_line_back : (key ws rest : List ℕ) → Known ws → 1 ≤ length ws → length ws ≤ 64 → side_line key (side_text key ws rest) ≡ some (ws, rest)
unfolding side_line side_text
side_line_back key ws rest k h l = rw (key_back key (line_text ws ++ rest)) (line_back 64 ws rest k h l)

abbrev SideLineIs : List ℕ → List ℕ → Read (List ℕ) → Type 0
SideLineIs key bs none = Unit {0}
SideLineIs key bs (some p) = (bs ≡ side_text key p.0 p.1) × (length p.0 ≤ 64)

module _ (key bs : List ℕ) where
  side_then_are : (after : List ℕ) → bs ≡ key ++ after → (o : Read (List ℕ)) → line 64 after ≡ o → SideLineIs key bs o
  unfolding side_text
  side_then_are after e none q = tt
  side_then_are after e (some p) q = let l = line_is 64 after p.0 p.1 q in (e ∙ ap (λ (x : List ℕ). key ++ x) l.same, l.few)

  side_key_are : (o : Option (List ℕ)) → keyed key bs ≡ o → SideLineIs key bs (after_key (line 64) o)
  side_key_are none q = tt
  side_key_are (some after) q = side_then_are after (key_is key bs after q) (line 64 after) refl

  side_line_are : SideLineIs key bs (side_line key bs)
  unfolding side_line
  side_line_are = side_key_are (keyed key bs) refl

pub side_line_is : (key bs ws rest : List ℕ) → side_line key bs ≡ some (ws, rest) → (bs ≡ side_text key ws rest) × (length ws ≤ 64)
side_line_is key bs ws rest e = rw e at (side_line_are key bs)
