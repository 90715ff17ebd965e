-- One turn of reading a line for each way through its loop: the words so far, ahead of what is left to read, are the line.
use mathlib.Core.Path.{◌≡◌, refl, sym, ◌∙◌}
use mathlib.Core.List.{List, [], ◌∷◌, ◌++◌, append_assoc}
use mathlib.Core.Option.{none, some}
use Prim.Native.Nat.{ℕ, suc, ◌+◌, ◌-◌, ◌≤◌, ◌<◌}
use native.Mathlib.Omega.{arith}
use native.Mathlib.Numerals.{add-one}
use lib.ListN.{length, drop, get_or, drop_of_length-le}
use lib.Seq.{drop-cons}
use borrow.Author.Tests.{eq-eqb, ne_eqb}
use Rattle.std.specs.Prelude.{Some, None}
use Rattle.text.specs.Number.{Read}
use Rattle.text.specs.Token.{token}
use Rattle.text.specs.Line.{ahead, token_end, token_then, line}
use Rattle.text.specs.Told.Told.{TokenTold}

ahead_ahead : (ws vs : List ℕ) (o : Read (List ℕ)) → ahead ws (ahead vs o) ≡ ahead (ws ++ vs) o
ahead_ahead ws vs none = refl
ahead_ahead ws vs (some p) = rw append_assoc

ahead_nothing : (o : Read (List ℕ)) → ahead [] o ≡ o
ahead_nothing none = refl
ahead_nothing (some p) = refl

module _ (most : ℕ) (bs : List ℕ) (at : ℕ) where
  -- n words were read, and the others stand from i on
  abbrev pub Left : List ℕ → ℕ → ℕ → Type 0
  Left ws n i = line most (drop at bs) ≡ ahead ws (line (most - n) (drop i bs))

  pub begun : Left [] 0 at
  begun = let z : most - 0 ≡ most = omega arith in rw z (sym (ahead_nothing (line most (drop at bs))))

  module _ (ws : List ℕ) (n i : ℕ) (left : Left ws n i) where
    pub spent : most ≤ n → line most (drop at bs) ≡ none
    unfolding line
    spent h = let z : most - n ≡ 0 = omega arith in left ∙ rw z

    module _ (h : n < most) where
      one_more_lem : line most (drop at bs) ≡ ahead ws (token_then (line (most - (n + 1))) (token (drop i bs)))
      unfolding line
      one_more_lem = let z : most - n ≡ suc (most - (n + 1)) = omega arith in left ∙ rw z

      pub no_token : TokenTold bs i None → line most (drop at bs) ≡ none
      no_token t = one_more_lem ∙ rw t

      module _ (w end : ℕ) (t : TokenTold bs i (Some (w, end))) where
        read_on : line most (drop at bs) ≡ ahead ws (token_end (line (most - (n + 1))) w (drop end bs))
        read_on = one_more_lem ∙ rw (t.2, t.1)

        pub runs_out : length bs ≤ end → line most (drop at bs) ≡ none
        runs_out l = read_on ∙ rw (drop_of_length-le bs {i = end} l)

        module _ (l : end < length bs) where
          pub line_ends : get_or bs end 0 ≡ 10 → line most (drop at bs) ≡ some (ws ++ (w ∷ []), drop (end + 1) bs)
          line_ends e = read_on ∙ rw (drop-cons bs end 0 l, eq-eqb (get_or bs end 0) 10 e, add-one end)

          module _ (e : get_or bs end 0 ≡ 10 → ⊥) where
            pub bad_byte : (get_or bs end 0 ≡ 32 → ⊥) → line most (drop at bs) ≡ none
            bad_byte f = read_on ∙ rw (drop-cons bs end 0 l, ne_eqb (get_or bs end 0) 10 e, ne_eqb (get_or bs end 0) 32 f)

            pub goes_on : get_or bs end 0 ≡ 32 → Left (ws ++ (w ∷ [])) (n + 1) (end + 1)
            goes_on f =
                read_on ∙ rw (drop-cons bs end 0 l, ne_eqb (get_or bs end 0) 10 e, eq-eqb (get_or bs end 0) 32 f, add-one end) (ahead_ahead ws (w ∷ []) (line (most - (n + 1)) (drop (suc end) bs)))
