-- Document 01, "The book": what is asked of one rule.
use Rattle.std.specs.Prelude.{ℕ, zero, suc, Bool, true, false, ◌&&◌, List, [], ◌∷◌, leb, ltb, eqb, is_ok}
use Rattle.std.proofs.Math.Option.{Option, none, some}
use Rattle.term.specs.Word.{Head, symbol, abstraction, variable, pattern, pick, side_rank, kind_of, count_of, ident_of}
use Rattle.term.specs.Row.{Row, nothing, node, Got, read}
use Rattle.term.specs.Check.{Limits, check}
use Rattle.term.specs.Renumber.{good_list}

-- "Each side has 1 to 64 words and nesting at most 16", of any rank
abbrev pub side_limits : Limits
side_limits = record { ranks = side_rank; length = 64; nesting = 16 }

-- ---- the shape of a left side
-- a variable before the ids of the variables that follow it; none where something else stands there
abbrev pub id_before : Head → Option (List ℕ) → Option (List ℕ)
id_before (symbol i c) o = none
id_before abstraction o = none
id_before (variable i) none = none
id_before (variable i) (some ys) = some (i ∷ ys)
id_before (pattern i c) o = none

-- the ids of a row of variables
unfoldable pub ids_of : Row → Option (List ℕ)
ids_of nothing = some []
ids_of (node h kids rest) = id_before h (ids_of rest)

abbrev pub list_for : ℕ → Option (List ℕ) → Bool
list_for d none = false
list_for d (some ys) = good_list d ys

-- "The children of a kind 3 are kind 2 words, distinct, each from 1 to d; these are the only kind 2 words"
unfoldable pub left_shape : ℕ → Row → Bool
left_shape d nothing = true
left_shape d (node (symbol i c) kids rest) = left_shape d kids && left_shape d rest
left_shape d (node abstraction kids rest) = left_shape (suc d) kids && left_shape d rest
left_shape d (node (variable i) kids rest) = false
left_shape d (node (pattern i c) kids rest) = list_for d (ids_of kids) && left_shape d rest

-- "root of kind 0"
unfoldable pub root_symbol : Row → Bool
root_symbol nothing = false
root_symbol (node (symbol i c) kids rest) = true
root_symbol (node abstraction kids rest) = false
root_symbol (node (variable i) kids rest) = false
root_symbol (node (pattern i c) kids rest) = false

-- ---- the shape of a right side: "kind 2 ids stay within the right side's own abstractions"
unfoldable pub right_shape : ℕ → Row → Bool
right_shape d nothing = true
right_shape d (node (symbol i c) kids rest) = right_shape d kids && right_shape d rest
right_shape d (node abstraction kids rest) = right_shape (suc d) kids && right_shape d rest
right_shape d (node (variable i) kids rest) = leb i d && right_shape d rest
right_shape d (node (pattern i c) kids rest) = right_shape d kids && right_shape d rest

-- ---- variables
-- one more than the count of a variable's first occurrence in the words; 0 where it does not occur
unfoldable pub counted : ℕ → List ℕ → ℕ
counted i [] = 0
counted i (w ∷ ws) = pick (eqb (kind_of w) 3 && eqb (ident_of w) i) (suc (count_of w)) (counted i ws)

-- each occurrence has the count that the first in `left` has; a variable that does not occur there has none
unfoldable pub one_count : List ℕ → List ℕ → Bool
one_count left [] = true
one_count left (w ∷ ws) = pick (eqb (kind_of w) 3) (eqb (counted (ident_of w) left) (suc (count_of w)) && one_count left ws) (one_count left ws)

-- "each variable 0..vars−1 occurs"
unfoldable pub all_occur : ℕ → List ℕ → Bool
all_occur zero left = true
all_occur (suc x) left = leb 1 (counted x left) && all_occur x left

-- "no other"
unfoldable pub no_other : ℕ → List ℕ → Bool
no_other vars [] = true
no_other vars (w ∷ ws) = pick (eqb (kind_of w) 3) (ltb (ident_of w) vars && no_other vars ws) (no_other vars ws)

abbrev pub shaped : (Row → Bool) → Got → Bool
shaped ok none = false
shaped ok (some p) = ok p.0

unfoldable pub good_left : ℕ → List ℕ → Bool
good_left vars left =
    is_ok (check side_limits left)
    && (shaped root_symbol (read 1 left)
    && (shaped (left_shape 0) (read 1 left)
    && (no_other vars left && (all_occur vars left && one_count left left))))

unfoldable pub good_right : List ℕ → List ℕ → Bool
good_right left right = is_ok (check side_limits right) && (shaped (right_shape 0) (read 1 right) && one_count left right)

unfoldable pub good_rule : ℕ → List ℕ → List ℕ → Bool
good_rule vars left right = leb vars 16 && (good_left vars left && good_right left right)
