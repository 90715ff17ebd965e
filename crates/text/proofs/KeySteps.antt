-- Whether a key stands at an offset, and what the lines of a book tell, for each way through the code.
use mathlib.Core.Path.{◌≡◌, refl, ap, ◌∙◌}
use mathlib.Core.Bool.{Bool, true, false}
use mathlib.Core.List.{List}
use mathlib.Core.Option.{Option, none, some}
use Prim.Native.Nat.{ℕ, ◌+◌, ◌-◌, ◌≤◌, ◌<◌}
use native.Mathlib.Omega.{arith}
use native.Mathlib.Numerals.{add-one}
use lib.ListN.{length, take, drop, get_or, drop_of_length-le}
use lib.Seq.{drop-cons}
use borrow.Author.Tests.{eq-eqb, ne_eqb}
use Rattle.std.specs.Prelude.{◌==◌, Option as Maybe, Some, None}
use Rattle.std.specs.List.{starts_with}
use Rattle.std.proofs.lemmas.List.{drop-drop}
use Rattle.std.proofs.lemmas.Slice.Eq.{starts_is}
use Rattle.std.proofs.lemmas.Bool.Decides.{Decides-eqb}
use Rattle.term.proofs.Laws.{suffix, never}
use Rattle.text.proofs.BookLines.{key_back, key_is}
use Rattle.text.specs.Told.Told.{NumberTold, LineTold}
use Rattle.text.specs.BookText.{keyed, number_line, side_line}
use Rattle.text.specs.Told.BookTold.{KeyTold, NumberLineTold, SideTold}

-- ---- whether a text begins with a key
module _ (key s : List ℕ) (r : Bool) (value : r ≡ starts_with ◌==◌ s key) where
  key_there : r ≡ true → keyed key s ≡ some (drop (length key) s)
  key_there e = ap (λ (x : List ℕ). keyed key x) ((starts_is Decides-eqb s key r value).0 e) ∙ key_back key (drop (length key) s)

  key_absent : r ≡ false → keyed key s ≡ none
  key_absent e = go (keyed key s) refl
    where
      go : (o : Option (List ℕ)) → keyed key s ≡ o → o ≡ none
      go none q = refl
      go (some rest) q = never (let t = (starts_is Decides-eqb s key r value).1 rest (key_is key s rest q) in cc)

module _ (key bs : List ℕ) (at : ℕ) where
  module _ (r : Bool) (value : r ≡ starts_with ◌==◌ (take (length bs - at) (drop at bs)) key) where
    pub key_stands : r ≡ true → keyed key (drop at bs) ≡ some (drop (at + length key) bs)
    key_stands e = key_there key (drop at bs) r (rw suffix at value) e ∙ ap (λ (x : List ℕ). some x) (drop-drop (length key) at bs)

    pub key_misses : r ≡ false → keyed key (drop at bs) ≡ none
    key_misses e = key_absent key (drop at bs) r (rw suffix at value) e

  -- ---- a line of a key and a number
  module _ (most : ℕ) where
    pub no_key : KeyTold key bs at None → NumberLineTold key most bs at None
    unfolding number_line
    no_key k = rw k

    module _ (a : ℕ) (k : KeyTold key bs at (Some a)) where
      pub no_number : NumberTold most bs a None → NumberLineTold key most bs at None
      unfolding number_line
      no_number t = rw (k.0, t)

      module _ (n end : ℕ) (t : NumberTold most bs a (Some (n, end))) where
        pub number_last : length bs ≤ end → NumberLineTold key most bs at None
        unfolding number_line
        number_last h = rw (k.0, t.0, drop_of_length-le bs {i = end} h)

        module _ (h : end < length bs) where
          pub number_more : (get_or bs end 0 ≡ 10 → ⊥) → NumberLineTold key most bs at None
          unfolding number_line
          number_more e = rw (k.0, t.0, drop-cons bs end 0 h, ne_eqb (get_or bs end 0) 10 e)

          pub number_there : get_or bs end 0 ≡ 10 → NumberLineTold key most bs at (Some (n, end + 1))
          unfolding number_line
          number_there e = (rw (k.0, t.0, drop-cons bs end 0 h, eq-eqb (get_or bs end 0) 10 e, add-one end), t.1, omega (arith, k.1, t.2), omega arith)

  -- ---- a line of a key and tokens
  module _ (to : ℕ) (out done : List ℕ) where
    pub no_side : KeyTold key bs at None → SideTold key bs at to out done None
    unfolding side_line
    no_side k = rw k

    pub side_there : (a : ℕ) (r : Maybe (ℕ × ℕ)) → KeyTold key bs at (Some a) → LineTold 64 bs a to out done r → SideTold key bs at to out done r
    unfolding side_line
    side_there a (Some (n, next)) k (ws, e, l, d, h) = (ws, rw k.0 e, l, d, h)
    side_there a None k t = rw k.0 t
