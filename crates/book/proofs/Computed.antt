-- Document 01's sentences on the book, each computed from the definitions on a book that keeps it or breaks it.
use mathlib.Core.Path.{◌≡◌, refl}
use mathlib.Core.List.{List, [], ◌∷◌, ◌++◌}
use Prim.Native.Nat.{ℕ}
use lib.ListN.{length}
use Rattle.std.specs.Prelude.{Ok, Err}
use Rattle.term.specs.Word.{word, kind, rank, count, ident, head_of, head_with}
use Rattle.term.specs.Row.{words, width, ranks, nesting, read, firsts, others}
use Rattle.term.specs.Check.{check, scan, settle, may_stand}
use Rattle.term.specs.Renumber.{position, listed, good_list}
use Rattle.book.specs.Rule.{ids_of, left_shape, root_symbol, right_shape, counted, one_count, all_occur, no_other, good_left, good_right, good_rule}
use Rattle.book.specs.Book.{rule_of, judge, check_book}
use Rattle.book.specs.Marked.{s, l, v, m}

-- a rule's words
rule : ℕ → List ℕ → List ℕ → List ℕ
rule vars left right = vars ∷ length left ∷ length right ∷ (left ++ right)

-- a book of one rule, with the left side and right side given
lefts : ℕ → List ℕ → List ℕ
lefts vars left = 1 ∷ rule vars left (s 7 0 ∷ [])

rights : List ℕ → List ℕ
rights right = 1 ∷ rule 1 (s 3 1 ∷ m 0 0 ∷ []) right

-- 0 rules; 0 variables; a list of all that was passed, in any order; the right side's own abstraction; any parts under a variable
abbrev Accepted : Type 0
Accepted =
    (check_book (0 ∷ []) ≡ Ok tt)
    × (check_book (lefts 0 (s 1 0 ∷ [])) ≡ Ok tt)
    × (check_book (lefts 1 (s 6 1 ∷ l ∷ l ∷ m 0 2 ∷ v 2 ∷ v 1 ∷ [])) ≡ Ok tt)
    × (check_book (rights (l ∷ v 1 ∷ [])) ≡ Ok tt)
    × (check_book (1 ∷ rule 1 (s 6 1 ∷ l ∷ m 0 1 ∷ v 1 ∷ []) (m 0 1 ∷ m 0 1 ∷ s 7 0 ∷ [])) ≡ Ok tt)

-- no number of rules; too many; a rule that runs past the words; words left over
abbrev BadBooks : Type 0
BadBooks =
    (check_book [] ≡ Err 0)
    × (check_book (65 ∷ []) ≡ Err 64)
    × (check_book (1 ∷ []) ≡ Err 0)
    × (check_book (1 ∷ 0 ∷ 1 ∷ 1 ∷ s 1 0 ∷ []) ≡ Err 0)
    × (check_book (0 ∷ 0 ∷ []) ≡ Err 0)
    × (check_book (lefts 0 (s 1 0 ∷ []) ++ (0 ∷ [])) ≡ Err 1)
    × (check_book (2 ∷ (rule 0 (s 1 0 ∷ []) (s 7 0 ∷ []) ++ rule 17 (s 1 0 ∷ []) (s 7 0 ∷ []))) ≡ Err 1)

-- no words; a root that is no symbol; a variable outside a list; an id beyond d, twice, or no variable at all; a variable that is missing, another one, two counts
abbrev BadLefts : Type 0
BadLefts =
    (check_book (lefts 0 []) ≡ Err 0)
    × (check_book (lefts 0 (l ∷ s 1 0 ∷ [])) ≡ Err 0)
    × (check_book (lefts 1 (m 0 0 ∷ [])) ≡ Err 0)
    × (check_book (lefts 0 (s 3 1 ∷ l ∷ v 1 ∷ [])) ≡ Err 0)
    × (check_book (lefts 1 (s 3 1 ∷ l ∷ m 0 1 ∷ v 2 ∷ [])) ≡ Err 0)
    × (check_book (lefts 1 (s 3 1 ∷ l ∷ l ∷ m 0 2 ∷ v 1 ∷ v 1 ∷ [])) ≡ Err 0)
    × (check_book (lefts 1 (s 3 1 ∷ l ∷ m 0 1 ∷ s 1 0 ∷ [])) ≡ Err 0)
    × (check_book (lefts 2 (s 3 1 ∷ m 0 0 ∷ [])) ≡ Err 0)
    × (check_book (lefts 1 (s 2 2 ∷ m 0 0 ∷ m 1 0 ∷ [])) ≡ Err 0)
    × (check_book (lefts 1 (s 2 2 ∷ m 0 0 ∷ l ∷ m 0 1 ∷ v 1 ∷ [])) ≡ Err 0)

-- no words; an id outside the right side's own abstractions; a variable that the left has not, or with another count
abbrev BadRights : Type 0
BadRights =
    (check_book (rights []) ≡ Err 0)
    × (check_book (rights (v 1 ∷ [])) ≡ Err 0)
    × (check_book (rights (l ∷ v 2 ∷ [])) ≡ Err 0)
    × (check_book (rights (m 1 0 ∷ [])) ≡ Err 0)
    × (check_book (rights (m 0 1 ∷ s 7 0 ∷ [])) ≡ Err 0)

computed : Accepted × BadBooks × BadLefts × BadRights
unfolding s l v m rule lefts rights word kind rank count ident head_of head_with words width ranks nesting read firsts others check scan settle may_stand position listed good_list ids_of left_shape root_symbol right_shape counted one_count all_occur no_other good_left good_right good_rule rule_of judge check_book
computed = (
  (refl, refl, refl, refl, refl),
  (refl, refl, refl, refl, refl, refl, refl),
  (refl, refl, refl, refl, refl, refl, refl, refl, refl, refl),
  (refl, refl, refl, refl, refl),
)
