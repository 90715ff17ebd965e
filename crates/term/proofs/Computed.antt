-- The definitions computed on the parts of document 01's P3, P4 and P7 to P10, and on the table of P9's term.
use mathlib.Core.Path.{◌≡◌, refl}
use mathlib.Core.Bool.{Bool, true, false}
use mathlib.Core.List.{List, [], ◌∷◌}
use Prim.Native.Nat.{ℕ}
use Rattle.term.specs.declared.answer.Answer.TheVariants.{Done, BadTerm, Short, Disagree}
use Rattle.term.specs.Answer.{answered}
use Rattle.term.specs.Word.{symbol, abstraction, variable, word, kind, rank, count, ident, head_of, head_with}
use Rattle.term.specs.Check.{may_stand, settle, scan, check}
use Rattle.term.specs.Row.{words, ranks, nesting, read, firsts, others}
use Rattle.term.specs.Renumber.{position, listed, good_list, id_body, inside, renumber_head, renumber, named_head, named, closed, to_body}
use Rattle.term.specs.Part.{part, body_of, has_body, same_words, same_body, padded}
use Rattle.term.specs.Lengths.{lengths_of, table_of, lengths_came, lengths_gives, agreed, check_lengths_gives}

v : ℕ → List ℕ
v i = word (variable i) ∷ []

abbrev compared : ℕ → ℕ → Bool
compared i j = same_body 1 (1 ∷ []) (v i) 2 (2 ∷ []) (v j)

marked : (has_body 1 [] (v 2) ≡ true) × (has_body 1 [] (v 1) ≡ false)
    × (compared 1 2 ≡ true) × (compared 1 1 ≡ false) × (compared 2 3 ≡ true) × (compared 2 2 ≡ false)
unfolding v word kind rank count ident head_of head_with words ranks nesting read firsts others position listed good_list id_body inside renumber_head renumber named_head named closed to_body part body_of has_body same_words same_body
marked = (refl, refl, refl, refl, refl, refl)

-- `s6.2 l v2 l l v3`
sixth : List ℕ
sixth = word (symbol 6 2) ∷ word abstraction ∷ word (variable 2) ∷ word abstraction ∷ word abstraction ∷ word (variable 3) ∷ []

tabled : (lengths_gives sixth 7 ≡ lengths_came (answered Done) (6 ∷ 2 ∷ 1 ∷ 3 ∷ 2 ∷ 1 ∷ 0 ∷ []))
    × (lengths_gives sixth 5 ≡ lengths_came (answered Short) (0 ∷ 0 ∷ 0 ∷ 0 ∷ 0 ∷ []))
    × (lengths_gives (v 0) 1 ≡ lengths_came (answered (BadTerm 0)) (0 ∷ []))
    × (check_lengths_gives sixth (6 ∷ 2 ∷ 1 ∷ 3 ∷ 2 ∷ 1 ∷ []) ≡ answered Done)
    × (check_lengths_gives sixth (6 ∷ 2 ∷ 1 ∷ 3 ∷ 2 ∷ []) ≡ answered (Disagree 5))
    × (check_lengths_gives sixth (6 ∷ 2 ∷ 1 ∷ 3 ∷ 2 ∷ 1 ∷ 0 ∷ []) ≡ answered (Disagree 6))
    × (check_lengths_gives sixth (6 ∷ 2 ∷ 1 ∷ 2 ∷ 1 ∷ 1 ∷ []) ≡ answered (Disagree 3))
unfolding sixth v word kind rank count ident head_of head_with words ranks nesting read firsts others may_stand settle scan check part padded lengths_of table_of lengths_gives agreed check_lengths_gives
tabled = (refl, refl, refl, refl, refl, refl, refl)
