-- What reading a token from an offset of a text tells, for each way through the code: the letter tells the row of the table, and then its numbers stand or do not.
use mathlib.Core.Path.{◌≡◌, refl, sym}
use mathlib.Core.List.{List, ◌∷◌}
use mathlib.Core.Option.{none}
use Prim.Native.Nat.{ℕ, ◌+◌, ◌*◌, ◌≤◌, ◌<◌}
use native.Mathlib.Omega.{arith}
use native.Mathlib.Numerals.{add-one}
use lib.ListN.{length, drop, get_or, drop_of_length-le}
use lib.Seq.{drop-cons}
use borrow.Author.Tests.{le-leb, eq-eqb, ne_eqb}
use Rattle.std.specs.Prelude.{Option, Some, None}
use Rattle.term.specs.Word.{Head, symbol, abstraction, variable, pattern}
use Rattle.term.proofs.Laws.{word_symbol, word_abstraction, word_variable, word_pattern}
use Rattle.text.specs.Token.{dotted_read, token}
use Rattle.text.specs.Told.Told.{NumberTold, DottedTold, VariableTold, TokenTold}

-- ---- an id, a dot and a count
module _ (ids counts : ℕ) (bs : List ℕ) (at : ℕ) where
  pub no_id : NumberTold ids bs at None → (head : ℕ → ℕ → Head) → dotted_read head ids counts (drop at bs) ≡ none
  unfolding dotted_read
  no_id t head = rw t

  module _ (i dot : ℕ) (t : NumberTold ids bs at (Some (i, dot))) where
    pub id_last : length bs ≤ dot → (head : ℕ → ℕ → Head) → dotted_read head ids counts (drop at bs) ≡ none
    unfolding dotted_read
    id_last h head = rw (t.0, drop_of_length-le bs {i = dot} h)

    module _ (h : dot < length bs) where
      pub no_dot : (get_or bs dot 0 ≡ 46 → ⊥) → (head : ℕ → ℕ → Head) → dotted_read head ids counts (drop at bs) ≡ none
      unfolding dotted_read
      no_dot e head = rw (t.0, drop-cons bs dot 0 h, ne_eqb (get_or bs dot 0) 46 e)

      module _ (e : get_or bs dot 0 ≡ 46) where
        pub no_count : NumberTold counts bs (dot + 1) None → (head : ℕ → ℕ → Head) → dotted_read head ids counts (drop at bs) ≡ none
        unfolding dotted_read
        no_count s head = rw (t.0, drop-cons bs dot 0 h, eq-eqb (get_or bs dot 0) 46 e, ← add-one dot, s)

        pub dotted_there : (kind c next : ℕ) → NumberTold counts bs (dot + 1) (Some (c, next))
            → DottedTold kind ids counts bs at (Some (kind * 16777216 + c * 65536 + i, next))
        unfolding dotted_read
        dotted_there kind c next s =
            (i, c, refl, (λ head. rw (t.0, drop-cons bs dot 0 h, eq-eqb (get_or bs dot 0) 46 e, ← add-one dot, s.0)), omega (arith, t, s), s.3)

-- ---- a variable's id
module _ (bs : List ℕ) (at : ℕ) where
  module _ (i next : ℕ) (t : NumberTold 65535 bs at (Some (i, next))) where
    pub variable_there : 1 ≤ i → VariableTold bs at (Some (2 * 16777216 + i, next))
    variable_there h = (variable i, omega (arith, word_variable i), rw (t.0, le-leb 1 i h), t.2, t.3)

  -- ---- a token
  pub no_letter : length bs ≤ at → TokenTold bs at None
  unfolding token
  no_letter h = rw (drop_of_length-le bs {i = at} h)

  module _ (h : at < length bs) where
    begins : drop at bs ≡ get_or bs at 0 ∷ drop (at + 1) bs
    begins = rw add-one (drop-cons bs at 0 h)

    pub symbol_there : get_or bs at 0 ≡ 115 → (r : Option (ℕ × ℕ)) → DottedTold 0 1023 15 bs (at + 1) r → TokenTold bs at r
    unfolding token
    symbol_there e (Some (w, next)) (i, c, s, t, l, m) = (symbol i c, omega (arith, s, word_symbol i c), rw (begins, eq-eqb (get_or bs at 0) 115 e) (t symbol), omega arith, m)
    symbol_there e None t = rw (begins, eq-eqb (get_or bs at 0) 115 e) (t symbol)

    module _ (s : get_or bs at 0 ≡ 115 → ⊥) where
      pub abstraction_there : get_or bs at 0 ≡ 108 → TokenTold bs at (Some (1 * 16777216 + 65536, at + 1))
      unfolding token
      abstraction_there e = (abstraction, sym word_abstraction, rw (begins, ne_eqb (get_or bs at 0) 115 s, eq-eqb (get_or bs at 0) 108 e), omega arith, omega arith)

      module _ (l : get_or bs at 0 ≡ 108 → ⊥) where
        pub letter_v : get_or bs at 0 ≡ 118 → (r : Option (ℕ × ℕ)) → VariableTold bs (at + 1) r → TokenTold bs at r
        unfolding token
        letter_v e (Some (w, next)) (g, z, t, n, m) =
            (g, z, rw (begins, ne_eqb (get_or bs at 0) 115 s, ne_eqb (get_or bs at 0) 108 l, eq-eqb (get_or bs at 0) 118 e) t, omega arith, m)
        letter_v e None t = rw (begins, ne_eqb (get_or bs at 0) 115 s, ne_eqb (get_or bs at 0) 108 l, eq-eqb (get_or bs at 0) 118 e) t

        module _ (v : get_or bs at 0 ≡ 118 → ⊥) where
          pub pattern_there : get_or bs at 0 ≡ 109 → (r : Option (ℕ × ℕ)) → DottedTold 3 15 4 bs (at + 1) r → TokenTold bs at r
          unfolding token
          pattern_there e (Some (w, next)) (i, c, z, t, n, m) =
              (pattern i c, omega (arith, z, word_pattern i c), rw (begins, ne_eqb (get_or bs at 0) 115 s, ne_eqb (get_or bs at 0) 108 l, ne_eqb (get_or bs at 0) 118 v, eq-eqb (get_or bs at 0) 109 e) (t pattern), omega arith, m)
          pattern_there e None t =
              rw (begins, ne_eqb (get_or bs at 0) 115 s, ne_eqb (get_or bs at 0) 108 l, ne_eqb (get_or bs at 0) 118 v, eq-eqb (get_or bs at 0) 109 e) (t pattern)

          pub other_letter : (get_or bs at 0 ≡ 109 → ⊥) → TokenTold bs at None
          unfolding token
          other_letter e =
              rw (begins, ne_eqb (get_or bs at 0) 115 s, ne_eqb (get_or bs at 0) 108 l, ne_eqb (get_or bs at 0) 118 v, ne_eqb (get_or bs at 0) 109 e)
