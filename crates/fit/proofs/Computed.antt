-- Document 01's P1 to P10, as far as each concerns one rule, and the answers of building, computed from the definitions.
use mathlib.Core.Path.{◌≡◌, refl}
use mathlib.Core.List.{List, [], ◌∷◌}
use mathlib.Core.Option.{Option, none, some}
use Prim.Native.Nat.{ℕ}
use lib.ListN.{replicate}
use Rattle.term.specs.Answer.{number_of, place_of}
use Rattle.term.specs.Word.{word, kind, rank, count, ident, head_of, head_with}
use Rattle.term.specs.Row.{words, width, ranks, nesting, read, firsts, others, ◌⧺◌}
use Rattle.term.specs.Check.{check, scan, settle, may_stand}
use Rattle.term.specs.Renumber.{position, listed, good_list, id_term, id_body, inside, renumber_head, renumber, named_head, named, closed, to_term, to_body}
use Rattle.term.specs.Part.{same_words, padded}
use Rattle.book.specs.Rule.{ids_of, left_shape, root_symbol, right_shape, counted, one_count, all_occur, no_other, good_left, good_right, good_rule}
use Rattle.book.specs.Book.{rule_of, judge, check_book, nth_rule, rule_at}
use Rattle.book.specs.Accept.{accept}
use Rattle.book.specs.Marked.{s, l, v, m, book_a, book_b}
use Rattle.fit.specs.Left.{left_of}
use Rattle.fit.specs.Fit.{build, found, body_in, all_same, matching}
use Rattle.fit.specs.Front.{root_arguments, front, aside, matching_front}
use Rattle.fit.specs.Match.{tree_of, left_in, body_list, Matched, refused, fitted, match_rule}
use Rattle.fit.specs.Build.{start_of, words_at, given_bodies, all_zero, good_lengths, check_bodies, largest, within_limits, limited, build_left, build_answer, build_words}

-- the bodies' words, or none
abbrev bodies : Matched → Option (List ℕ)
bodies (refused a) = none
bodies (fitted vars n b) = some (body_list b 0 vars)

abbrev matched : List ℕ → ℕ → List ℕ → Option (List ℕ)
matched book number ws = bodies (match_rule book number ws)

marked :
    (matched book_a 0 (s 2 2 ∷ s 7 0 ∷ s 7 0 ∷ []) ≡ some (s 7 0 ∷ []))
    × (matched book_a 0 (s 2 2 ∷ s 7 0 ∷ s 8 0 ∷ []) ≡ none)
    × (matched book_a 1 (s 3 1 ∷ l ∷ v 2 ∷ []) ≡ some (v 1 ∷ []))
    × (matched book_a 1 (s 3 1 ∷ l ∷ v 1 ∷ []) ≡ none)
    × (matched book_a 2 (s 3 1 ∷ l ∷ v 1 ∷ []) ≡ none)
    × (matched book_a 1 (s 3 1 ∷ l ∷ s 4 1 ∷ v 1 ∷ []) ≡ none)
    × (matched book_a 2 (s 3 1 ∷ l ∷ s 4 1 ∷ v 1 ∷ []) ≡ some (v 1 ∷ []))
    × (matched book_a 1 (s 3 1 ∷ l ∷ s 4 1 ∷ s 7 0 ∷ []) ≡ some (s 4 1 ∷ s 7 0 ∷ []))
    × (matched book_b 0 (s 6 2 ∷ l ∷ v 1 ∷ l ∷ l ∷ v 2 ∷ []) ≡ some (v 1 ∷ []))
    × (matched book_b 0 (s 6 2 ∷ l ∷ v 1 ∷ l ∷ l ∷ v 1 ∷ []) ≡ none)
    × (matched book_b 0 (s 6 2 ∷ l ∷ v 2 ∷ l ∷ l ∷ v 3 ∷ []) ≡ some (v 2 ∷ []))
    × (matched book_b 0 (s 6 2 ∷ l ∷ v 2 ∷ l ∷ l ∷ v 2 ∷ []) ≡ none)
unfolding s l v m book_a book_b word kind rank count ident head_of head_with words width ranks nesting read firsts others check scan settle may_stand position listed good_list id_body inside renumber_head renumber named_head named closed to_body same_words ids_of left_shape root_symbol right_shape counted one_count all_occur no_other good_left good_right good_rule rule_of judge check_book accept nth_rule rule_at left_of found body_in all_same matching root_arguments front aside matching_front tree_of left_in body_list match_rule
marked = (refl, refl, refl, refl, refl, refl, refl, refl, refl, refl, refl, refl)

-- ---- document 02: how many arguments are set aside, and the bodies' words
abbrev counted_bodies : Matched → Option (ℕ × List ℕ)
counted_bodies (refused a) = none
counted_bodies (fitted vars n b) = some (n, body_list b 0 vars)

abbrev fronted : List ℕ → ℕ → List ℕ → Option (ℕ × List ℕ)
fronted book number ws = counted_bodies (match_rule book number ws)

fronts :
    (fronted book_a 0 (s 2 2 ∷ s 7 0 ∷ s 7 0 ∷ []) ≡ some (0, s 7 0 ∷ []))
    × (fronted book_a 0 (s 2 3 ∷ s 7 0 ∷ s 7 0 ∷ s 8 0 ∷ []) ≡ some (1, s 7 0 ∷ []))
    × (fronted book_a 0 (s 2 3 ∷ s 7 0 ∷ s 8 0 ∷ s 8 0 ∷ []) ≡ none)
    × (fronted book_a 0 (s 2 1 ∷ s 7 0 ∷ []) ≡ none)
    × (fronted book_a 0 (s 3 2 ∷ s 7 0 ∷ s 7 0 ∷ []) ≡ none)
    × (fronted book_a 1 (s 3 3 ∷ l ∷ v 2 ∷ v 1 ∷ v 1 ∷ []) ≡ some (2, v 1 ∷ []))
    × (fronted book_a 2 (s 3 2 ∷ l ∷ s 4 2 ∷ v 1 ∷ v 1 ∷ v 1 ∷ []) ≡ none)
unfolding s l v m book_a book_b word kind rank count ident head_of head_with words width ranks nesting read firsts others check scan settle may_stand position listed good_list id_body inside renumber_head renumber named_head named closed to_body same_words ids_of left_shape root_symbol right_shape counted one_count all_occur no_other good_left good_right good_rule rule_of judge check_book accept nth_rule rule_at left_of found body_in all_same matching root_arguments front aside matching_front tree_of left_in body_list match_rule
fronts = (refl, refl, refl, refl, refl, refl, refl)

-- ---- building: document 01's numbers with their places, and what is left in a slice of so many words
sixteen : ℕ → List ℕ
sixteen n = n ∷ replicate 15 0

abbrev answered : List ℕ → ℕ → List ℕ → List ℕ → ℕ → ℕ × ℕ × List ℕ
answered book number bodies lengths room = (
  number_of (build_answer room (build_left book number bodies lengths)),
  place_of (build_answer room (build_left book number bodies lengths)),
  build_words room (build_left book number bodies lengths),
)

raised :
    (answered book_a 0 (s 7 0 ∷ []) (sixteen 1) 4 ≡ (0, 0, s 2 2 ∷ s 7 0 ∷ s 7 0 ∷ 0 ∷ []))
    × (answered book_a 1 (v 1 ∷ []) (sixteen 1) 3 ≡ (0, 0, s 3 1 ∷ l ∷ v 2 ∷ []))
    × (answered book_a 2 (v 1 ∷ []) (sixteen 1) 4 ≡ (0, 0, s 3 1 ∷ l ∷ s 4 1 ∷ v 1 ∷ []))
    × (answered book_b 0 (v 1 ∷ []) (sixteen 1) 6 ≡ (0, 0, s 6 2 ∷ l ∷ v 1 ∷ l ∷ l ∷ v 2 ∷ []))
    × (answered book_b 0 (v 2 ∷ []) (sixteen 1) 6 ≡ (0, 0, s 6 2 ∷ l ∷ v 2 ∷ l ∷ l ∷ v 3 ∷ []))
    × (answered book_b 0 (v 2 ∷ []) (sixteen 1) 5 ≡ (13, 0, replicate 5 0))
    × (answered book_a 1 (v 65535 ∷ []) (sixteen 1) 3 ≡ (15, 0, replicate 3 0))
    × (answered book_a 1 (v 1 ∷ v 1 ∷ []) (sixteen 2) 3 ≡ (11, 0, replicate 3 0))
    × (answered book_a 1 (v 1 ∷ v 1 ∷ []) (sixteen 1) 3 ≡ (11, 16, replicate 3 0))
    × (answered book_a 1 (v 1 ∷ v 1 ∷ []) (1 ∷ 1 ∷ replicate 14 0) 3 ≡ (11, 16, replicate 3 0))
    × (answered book_a 3 (v 1 ∷ []) (sixteen 1) 3 ≡ (16, 3, replicate 3 0))
    × (answered [] 0 (v 1 ∷ []) (sixteen 1) 3 ≡ (12, 0, replicate 3 0))
unfolding s l v m book_a book_b sixteen word kind rank count ident head_of head_with words width ranks nesting read firsts others ◌⧺◌ check scan settle may_stand position listed good_list id_term inside renumber_head renumber to_term padded ids_of left_shape root_symbol right_shape counted one_count all_occur no_other good_left good_right good_rule rule_of judge check_book accept nth_rule rule_at left_of build tree_of left_in start_of words_at given_bodies all_zero good_lengths check_bodies largest within_limits limited build_left build_answer build_words
raised = (refl, refl, refl, refl, refl, refl, refl, refl, refl, refl, refl, refl)
