-- Parts of terms and their bodies, as the operations see them: in words.
use Rattle.std.specs.Prelude.{ℕ, zero, suc, ◌+◌, ◌-◌, Bool, true, false, ◌&&◌, List, [], ◌∷◌, ◌++◌, length, replicate, leb, eqb, Result, Ok, Err, Option as StdOption, Some, None}
use Rattle.std.proofs.Math.Option.{Option, none, some}
use Rattle.std.proofs.lemmas.List.Edits.{sets}
use Rattle.term.specs.declared.part.Unwritten.{Unwritten}
use Rattle.term.specs.declared.part.Unwritten.TheVariants.{NoBody, Short}
use Rattle.term.specs.Word.{pick, term_rank, count_of}
use Rattle.term.specs.Row.{Row, words, ranks, nesting, Got, read}
use Rattle.term.specs.Renumber.{good_list, to_term, to_body, ids_within}

-- how many words the first n trees take, by their counts alone; all where the words run out
unfoldable pub past : ℕ → List ℕ → ℕ
past n [] = 0
past zero (w ∷ ws) = 0
past (suc n) (w ∷ ws) = suc (past (count_of w + n) ws)

-- where the part that the words begin with ends
unfoldable pub part_end : List ℕ → ℕ
part_end ws = past 1 ws

abbrev pub of_term : Got → Option Row
of_term none = none
of_term (some p) = pick (leb (ranks p.0) term_rank && (leb (nesting p.0) 64 && leb (length (words p.0)) 4096)) (some p.0) none

-- the part of a term that the words begin with; none where no such part stands there, or it is no term by its nesting or its length
unfoldable pub part : List ℕ → Option Row
part ws = of_term (read 1 ws)

abbrev pub body_o : ℕ → List ℕ → Option Row → Option Row
body_o d ys none = none
body_o d ys (some t) = to_body d ys t

-- its body under d abstractions, with the list ys; none where ys is no such list, no part stands there, or it is not closed for ys
unfoldable pub body_of : ℕ → List ℕ → List ℕ → Option Row
body_of d ys ws = pick (good_list d ys) (body_o d ys (part ws)) none

abbrev pub is_some : Option Row → Bool
is_some none = false
is_some (some b) = true

unfoldable pub has_body : ℕ → List ℕ → List ℕ → Bool
has_body d ys ws = is_some (body_of d ys ws)

-- two lists of words are the same word for word
unfoldable pub same_words : List ℕ → List ℕ → Bool
same_words [] [] = true
same_words [] (v ∷ vs) = false
same_words (w ∷ ws) [] = false
same_words (w ∷ ws) (v ∷ vs) = eqb w v && same_words ws vs

abbrev pub same_o : Option Row → Option Row → Bool
same_o none c = false
same_o (some b) none = false
same_o (some b) (some c) = same_words (words b) (words c)

-- two parts, each under its own abstractions and with its own list, have the same body
unfoldable pub same_body : ℕ → List ℕ → List ℕ → ℕ → List ℕ → List ℕ → Bool
same_body d ys ws c zs vs = same_o (body_of d ys ws) (body_of c zs vs)

-- ---- writing into a lent slice of `room` words
unfoldable pub written : ℕ → List ℕ → Result ℕ Unwritten
written room ws = pick (leb (length ws) room) (Ok (length ws)) (Err Short)

-- the words and then zeros, or zeros alone where they do not fit
unfoldable pub padded : ℕ → List ℕ → List ℕ
padded room ws = pick (leb (length ws) room) (ws ++ replicate (room - length ws) 0) (replicate room 0)

unfoldable pub body_answer : ℕ → Option Row → Result ℕ Unwritten
body_answer room none = Err NoBody
body_answer room (some b) = written room (words b)

unfoldable pub body_words : ℕ → Option Row → List ℕ
body_words room none = replicate room 0
body_words room (some b) = padded room (words b)

-- ---- a body in a place with so many levels left
abbrev pub below_o : ℕ → ℕ → List ℕ → Got → Option Row
below_o levels d ys none = none
below_o levels d ys (some p) = pick (leb (ranks p.0) term_rank && (leb (nesting p.0) levels && ids_within d ys p.0)) (some (to_term d ys p.0)) none

-- the term that it stands for; none where the words begin with no part so deep, or an id passes 65,535
unfoldable pub term_below : ℕ → ℕ → List ℕ → List ℕ → Option Row
term_below levels d ys ws = below_o levels d ys (read 1 ws)

-- all that comes back
pub record BelowOutcome : Type 0 where
  pub said : StdOption ℕ
  pub out : List ℕ

abbrev pub below_came : StdOption ℕ → List ℕ → BelowOutcome
below_came said out = record { said = said; out = out }

abbrev pub wrote_below : List ℕ → Option Row → BelowOutcome
wrote_below out none = below_came None (replicate (length out) 0)
wrote_below out (some t) = below_came (Some (length (words t))) (sets out 0 (words t))

unfoldable pub write_below_gives : (levels d : ℕ) (list body out : List ℕ) → BelowOutcome
write_below_gives levels d list body out = wrote_below out (term_below levels d list body)
