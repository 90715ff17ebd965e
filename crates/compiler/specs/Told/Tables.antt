-- What the compiler's tables say. A spot is a word of a left side: the spots of rule r are r * 64 and the next. `fixed` has the word of each spot and the
-- abstractions passed there; `nums` has for each spot one more than the number of its place, 0 where it is not uncovered; `marks` has what is struck and entered.
use Rattle.std.specs.Prelude.{ℕ, zero, suc, ◌+◌, ◌-◌, ◌*◌, ◌/◌, ◌%◌, ◌≡◌, Bool, true, false, ◌&&◌, ◌||◌, List, [], ◌∷◌, ◌++◌, eqb, ltb, leb, get_or, set, take, drop, Option, Some, None}
use Rattle.term.specs.Word.{pick, kind_of, count_of, ident_of}
use Rattle.term.specs.Part.{part_end}
use Rattle.compiler.specs.declared.constraint.Kind.{Kind}
use Rattle.compiler.specs.declared.constraint.Kind.TheVariants.{Closed, Same}
use Rattle.compiler.specs.declared.constraint.Constraint.{Constraint}

-- ---- searching and changing a table
-- the first of so many numbers from i on for which a test holds; the one after them where it holds for none
unfoldable pub first_at : (ℕ → Bool) → ℕ → ℕ → ℕ
first_at p i zero = i
first_at p i (suc more) = pick (p i) i (first_at p (suc i) more)

-- for how many of them it holds
unfoldable pub many_at : (ℕ → Bool) → ℕ → ℕ → ℕ
many_at p i zero = 0
many_at p i (suc more) = pick (p i) 1 0 + many_at p (suc i) more

-- each word of a table is what this function makes of it
unfoldable pub Changed : (ℕ → ℕ → ℕ) → List ℕ → List ℕ → Type 0
Changed f before after = (k : ℕ) → get_or after k 0 ≡ f k (get_or before k 0)

-- only the words for which a test holds are changed
abbrev pub only_at : (ℕ → Bool) → (ℕ → ℕ → ℕ) → ℕ → ℕ → ℕ
only_at p f k x = pick (p k) (f k x) x

-- a number as an answer, where this one stands for "there is none"
abbrev pub unless : ℕ → ℕ → Option ℕ
unless none x = pick (eqb x none) None (Some x)

-- the number of a place, of which a table has one more; 0 is no place's
abbrev pub place_of : ℕ → Option ℕ
place_of zero = None
place_of (suc n) = Some n

-- a mark is taken away
abbrev pub unmarked : ℕ → ℕ → ℕ → ℕ
unmarked mark k x = pick (eqb x mark) 0 x

-- the numbers over this one are taken away
abbrev pub forgotten : ℕ → ℕ → ℕ → ℕ
forgotten count k x = pick (ltb count x) 0 x

-- the rows for which a test holds get a mark; a mark that stands there stays
abbrev pub struck_rows : (ℕ → Bool) → ℕ → ℕ → ℕ → ℕ
struck_rows p mark k x = pick (ltb k 64) (pick (eqb x 0 && p k) mark x) x

-- ---- rows
abbrev pub is_free : List ℕ → ℕ → Bool
is_free marks k = eqb (get_or marks k 0) 0

abbrev pub is_row : ℕ → Bool
is_row k = ltb k 64

-- the row of the word k, where each row has 64 words from `from` on
abbrev pub row_of : ℕ → ℕ → ℕ
row_of from k = (k - from) / 64

-- a word of a row that is not struck
abbrev pub of_free_row : List ℕ → ℕ → ℕ → Bool
of_free_row marks from k = pick (ltb k from) false (pick (ltb k (from + 4096)) (is_free marks (row_of from k)) false)

-- a word of this row
abbrev pub of_row : ℕ → ℕ → Bool
of_row r k = eqb (k / 64) r

-- the first row that is not struck, 64 where there is none
unfoldable pub first_row : List ℕ → ℕ
first_row marks = first_at (is_free marks) 0 64

-- how many arguments the root has: its mark is one more
abbrev pub root_has : List ℕ → ℕ
root_has marks = get_or marks 64 0 - 1

-- ---- sub-patterns at places
-- the spot of a rule at the place with this number, 4096 where it has none there
abbrev pub spot_in : ℕ → ℕ → ℕ
spot_in r o = pick (ltb o 64) (r * 64 + o) 4096

unfoldable pub spot_at : List ℕ → ℕ → ℕ → ℕ
spot_at nums r n = spot_in r (first_at (λ o. eqb (get_or nums (r * 64 + o) 0) (n + 1)) 0 64)

-- a word is a symbol or an abstraction
unfoldable pub head_kind : ℕ → Bool
head_kind w = eqb (kind_of w) 0 || eqb (kind_of w) 1

-- 33554432, the variable 0, which the table does not have, stands for no head
abbrev pub head_is : ℕ → ℕ
head_is w = pick (head_kind w) w 33554432

unfoldable pub head_word : List ℕ → List ℕ → ℕ → ℕ → ℕ
head_word fixed nums r n = pick (eqb (spot_at nums r n) 4096) 33554432 (head_is (get_or fixed (spot_at nums r n) 0))

-- the lower of two numbers, of which the first counts only where it is open; 0 is no number
unfoldable pub lower_of : List ℕ → ℕ → ℕ → ℕ
lower_of marks n best =
    pick (eqb n 0) best (pick (eqb (get_or marks (64 + n - 1) 0) 0) (pick (eqb best 0) n (pick (ltb best n) best n)) best)

abbrev pub lower_at : List ℕ → List ℕ → List ℕ → ℕ → ℕ → ℕ
lower_at fixed nums marks k best = pick (head_kind (get_or fixed k 0)) (lower_of marks (get_or nums k 0) best) best

-- the lowest of what the spots from k on have, and of the best so far
unfoldable pub lowest_from : List ℕ → List ℕ → List ℕ → ℕ → ℕ → ℕ → ℕ
lowest_from fixed nums marks k zero best = best
lowest_from fixed nums marks k (suc more) best = lowest_from fixed nums marks (suc k) more (lower_at fixed nums marks k best)

-- a row that is not struck has this head at the place
abbrev pub has_head : List ℕ → List ℕ → List ℕ → ℕ → ℕ → ℕ → Bool
has_head fixed nums marks n w r = is_free marks r && eqb (head_word fixed nums r n) w

-- no head has the word that stands for none
abbrev pub head_or : Option ℕ → ℕ
head_or None = 33554432
head_or (Some w) = w

-- it has a head at the place, and another than w
abbrev pub is_other : ℕ → ℕ → Bool
is_other w g = pick (eqb g 33554432) false (pick (eqb g w) false true)

abbrev pub has_other : List ℕ → List ℕ → ℕ → ℕ → ℕ → Bool
has_other fixed nums n w r = is_other w (head_word fixed nums r n)

-- the head that first appears in row r
unfoldable pub new_head : List ℕ → List ℕ → List ℕ → ℕ → ℕ → ℕ
new_head fixed nums marks n r =
    pick (is_free marks r)
    (pick (eqb (first_at (has_head fixed nums marks n (head_word fixed nums r n)) 0 r) r) (head_word fixed nums r n) 33554432) 33554432

abbrev pub is_head_word : ℕ → Bool
is_head_word w = pick (eqb w 33554432) false true

unfoldable pub count_heads : List ℕ → List ℕ → List ℕ → ℕ → ℕ
count_heads fixed nums marks n = many_at (λ r. is_head_word (new_head fixed nums marks n r)) 0 64

-- ---- constraints, by their place in the marks: 4160 or 8256, and the spot of the (later) occurrence
abbrev pub marks_of : Kind → ℕ
marks_of Closed = 4160
marks_of Same = 8256

abbrev pub mark_at : Constraint → ℕ
mark_at own = marks_of own.kind + own.spot

abbrev pub mark_or : Option Constraint → Option ℕ
mark_or None = None
mark_or (Some own) = Some (mark_at own)

abbrev pub is_variable : List ℕ → ℕ → ℕ → Bool
is_variable fixed x k = eqb (kind_of (get_or fixed k 0)) 3 && eqb (ident_of (get_or fixed k 0)) x

-- the first spot of a rule with the variable of spot k
unfoldable pub first_spot : List ℕ → ℕ → ℕ
first_spot fixed k = first_at (is_variable fixed (ident_of (get_or fixed k 0))) (k / 64 * 64) (k % 64)

abbrev pub is_closed : List ℕ → ℕ → Bool
is_closed fixed k = pick (eqb (kind_of (get_or fixed k 0)) 3) (pick (eqb (count_of (get_or fixed k 0)) (get_or fixed (4096 + k) 0)) false true) false

abbrev pub is_same : List ℕ → ℕ → Bool
is_same fixed k = pick (eqb (kind_of (get_or fixed k 0)) 3) (pick (eqb (first_spot fixed k) k) false true) false

unfoldable pub is_constraint : List ℕ → ℕ → Bool
is_constraint fixed id = pick (ltb id 8256) (is_closed fixed (id - 4160)) (is_same fixed (id - 8256))

abbrev pub is_left : List ℕ → List ℕ → ℕ → Bool
is_left fixed marks id = is_free marks id && is_constraint fixed id

abbrev pub name_in : ℕ → ℕ → ℕ → ℕ
name_in from r o = pick (ltb o 64) (from + r * 64 + o) 0

unfoldable pub first_from : List ℕ → List ℕ → ℕ → ℕ → ℕ
first_from fixed marks from r = name_in from r (first_at (λ o. is_left fixed marks (from + r * 64 + o)) 0 64)

unfoldable pub first_constraint : List ℕ → List ℕ → ℕ → ℕ
first_constraint fixed marks r = pick (eqb (first_from fixed marks 4160 r) 0) (first_from fixed marks 8256 r) (first_from fixed marks 4160 r)

-- ---- the same constraint
-- the word j of the list at spot k
abbrev pub listed : List ℕ → ℕ → ℕ → ℕ
listed fixed k j = get_or fixed (k + 1 + j) 0

abbrev pub size_at : List ℕ → ℕ → ℕ
size_at fixed k = count_of (get_or fixed k 0)

-- the words of the list at spot k
abbrev pub words_at : List ℕ → ℕ → List ℕ
words_at fixed k = take (size_at fixed k) (drop (k + 1) fixed)

unfoldable pub in_list : List ℕ → ℕ → ℕ → Bool
in_list fixed w k = ltb (first_at (λ j. eqb (listed fixed k j) w) 0 (size_at fixed k)) (size_at fixed k)

abbrev pub not_in : List ℕ → ℕ → ℕ → ℕ → Bool
not_in fixed a b j = pick (in_list fixed (listed fixed a j) b) false true

-- each id of the list at spot a is in the list at spot b
unfoldable pub among_at : List ℕ → ℕ → ℕ → Bool
among_at fixed a b = eqb (first_at (not_in fixed a b) 0 (size_at fixed a)) (size_at fixed a)

abbrev pub differ_at : List ℕ → ℕ → ℕ → ℕ → Bool
differ_at fixed a b j = pick (eqb (listed fixed a j) (listed fixed b j)) false true

-- the lists at two spots are the same
unfoldable pub same_list : List ℕ → ℕ → ℕ → Bool
same_list fixed a b = eqb (size_at fixed a) (size_at fixed b) && eqb (first_at (differ_at fixed a b) 0 (size_at fixed a)) (size_at fixed a)

abbrev pub same_number : List ℕ → ℕ → ℕ → Bool
same_number nums a b = eqb (get_or nums a 0) (get_or nums b 0)

-- "same places and lists; for closedness the list as a set"
unfoldable pub same_closed : List ℕ → List ℕ → ℕ → ℕ → Bool
same_closed fixed nums a b = same_number nums a b && (among_at fixed a b && among_at fixed b a)

unfoldable pub same_same : List ℕ → List ℕ → ℕ → ℕ → Bool
same_same fixed nums a b =
    (same_number nums (first_spot fixed a) (first_spot fixed b) && same_number nums a b) && (same_list fixed (first_spot fixed a) (first_spot fixed b) && same_list fixed a b)

-- two constraints of one kind
unfoldable pub same_name : List ℕ → List ℕ → ℕ → ℕ → Bool
same_name fixed nums id other =
    pick (ltb id 8256) (same_closed fixed nums (id - 4160) (other - 4160)) (same_same fixed nums (id - 8256) (other - 8256))

abbrev pub kind_from : ℕ → ℕ
kind_from id = pick (ltb id 8256) 4160 8256

-- `other` is a constraint that is not struck, and the same as `id`
unfoldable pub left_same : List ℕ → List ℕ → List ℕ → ℕ → ℕ → Bool
left_same fixed nums marks id other = is_left fixed marks other && same_name fixed nums id other

-- row r has the constraint
unfoldable pub row_has : List ℕ → List ℕ → List ℕ → ℕ → ℕ → Bool
row_has fixed nums marks id r = ltb (first_at (λ o. left_same fixed nums marks id (kind_from id + r * 64 + o)) 0 64) 64

-- a row that is not struck has at `other` the same constraint as `id`
abbrev pub strikes : List ℕ → List ℕ → List ℕ → ℕ → ℕ → Bool
strikes fixed nums marks id k = is_free marks (row_of (kind_from id) k) && (is_constraint fixed k && same_name fixed nums id k)

-- the marks of the constraints of one kind, where the same constraint as `id` is struck from every row
abbrev pub struck_same : List ℕ → List ℕ → List ℕ → ℕ → ℕ → ℕ → ℕ → ℕ
struck_same fixed nums marks id mark k x =
    pick (ltb k (kind_from id)) x (pick (ltb k (kind_from id + 4096)) (pick (eqb x 0 && strikes fixed nums marks id k) mark x) x)

-- ---- numbering the children of an entered place
-- where the tree after the one at `child` begins, in a left side that ends at `to`
unfoldable pub next_child : List ℕ → ℕ → ℕ → ℕ
next_child fixed child to = pick (ltb (to - child) (part_end (take (to - child) (drop child fixed)))) to (child + part_end (take (to - child) (drop child fixed)))

unfoldable pub children_numbered : List ℕ → ℕ → ℕ → ℕ → ℕ → List ℕ → List ℕ
children_numbered fixed to v child zero nums = nums
children_numbered fixed to v child (suc more) nums = pick (ltb child to) (children_numbered fixed to (suc v) (next_child fixed child to) more (set nums child v)) nums

-- the children of spot k get the numbers after `first`
abbrev pub spot_numbered : List ℕ → ℕ → ℕ → List ℕ → List ℕ
spot_numbered fixed k first nums = children_numbered fixed (k / 64 * 64 + 64) (first + 1) (k + 1) (count_of (get_or fixed k 0)) nums

unfoldable pub row_numbered : List ℕ → List ℕ → ℕ → ℕ → ℕ → List ℕ → List ℕ
row_numbered fixed marks n first r nums = pick (is_free marks r && is_head_word (head_word fixed nums r n)) (spot_numbered fixed (spot_at nums r n) first nums) nums

unfoldable pub rows_numbered : List ℕ → List ℕ → ℕ → ℕ → ℕ → ℕ → List ℕ → List ℕ
rows_numbered fixed marks n first r zero nums = nums
rows_numbered fixed marks n first r (suc more) nums = rows_numbered fixed marks n first (suc r) more (row_numbered fixed marks n first r nums)

-- ---- words of nodes
-- the ids of the list at spot k
unfoldable pub ids_from : List ℕ → ℕ → ℕ → ℕ → List ℕ
ids_from fixed k j zero = []
ids_from fixed k j (suc more) = ident_of (listed fixed k j) ∷ ids_from fixed k (suc j) more

abbrev pub ids_at : List ℕ → ℕ → List ℕ
ids_at fixed k = ids_from fixed k 0 (size_at fixed k)

abbrev pub number_at : List ℕ → ℕ → ℕ
number_at nums k = get_or nums k 0 - 1

-- an occurrence in a node: the place, k, the list
abbrev pub occurrence_words : List ℕ → List ℕ → ℕ → List ℕ
occurrence_words fixed nums k = number_at nums k ∷ size_at fixed k ∷ ids_at fixed k

-- the first spot of variable x in row r
unfoldable pub variable_spot : List ℕ → ℕ → ℕ → ℕ
variable_spot fixed r x = pick (ltb (first_at (λ o. is_variable fixed x (r * 64 + o)) 0 64) 64) (r * 64 + first_at (λ o. is_variable fixed x (r * 64 + o)) 0 64) (r * 64)

unfoldable pub leaf_from : List ℕ → List ℕ → ℕ → ℕ → ℕ → List ℕ
leaf_from fixed nums r x zero = []
leaf_from fixed nums r x (suc more) = occurrence_words fixed nums (variable_spot fixed r x) ++ leaf_from fixed nums r (suc x) more

-- how many arguments of the root are set aside for row r
abbrev pub aside_at : List ℕ → List ℕ → ℕ → ℕ
aside_at fixed marks r = root_has marks - size_at fixed (r * 64)

unfoldable pub leaf_words : List ℕ → List ℕ → List ℕ → ℕ → List ℕ
leaf_words fixed nums marks r = 1 ∷ r ∷ get_or fixed (8192 + r) 0 ∷ aside_at fixed marks r ∷ leaf_from fixed nums r 0 (get_or fixed (8192 + r) 0)

-- a test up to its addresses
abbrev pub same_words_of : List ℕ → List ℕ → ℕ → ℕ → List ℕ
same_words_of fixed nums f k = 4 ∷ number_at nums f ∷ number_at nums k ∷ size_at fixed f ∷ (ids_at fixed f ++ ids_at fixed k)

unfoldable pub front_words : List ℕ → List ℕ → ℕ → List ℕ
front_words fixed nums id =
    pick (ltb id 8256) (3 ∷ occurrence_words fixed nums (id - 4160)) (same_words_of fixed nums (first_spot fixed (id - 8256)) (id - 8256))

-- ---- the root Switch
-- the symbol at the root of row r
abbrev pub root_ident : List ℕ → ℕ → ℕ
root_ident fixed r = ident_of (get_or fixed (r * 64) 0)

-- a row that is not struck has this symbol
abbrev pub has_symbol : List ℕ → List ℕ → ℕ → ℕ → Bool
has_symbol fixed marks i r = is_free marks r && eqb (root_ident fixed r) i

abbrev pub lesser_of : Bool → ℕ → ℕ → ℕ
lesser_of there c n = pick (there && leb c n) c n

-- the smallest count of the symbol in so many rows from r on; 16 where none has it
unfoldable pub smallest_from : List ℕ → List ℕ → ℕ → ℕ → ℕ → ℕ
smallest_from fixed marks i r zero = 16
smallest_from fixed marks i r (suc more) = lesser_of (has_symbol fixed marks i r) (size_at fixed (r * 64)) (smallest_from fixed marks i (suc r) more)

-- the head of the case number k: the symbol that first appears in row k / 16, with k % 16 arguments
abbrev pub count_word : ℕ → ℕ → ℕ → ℕ
count_word least c i = pick (leb least c) (c * 65536 + i) 33554432

unfoldable pub root_word : List ℕ → List ℕ → ℕ → ℕ
root_word fixed marks k =
    pick (is_free marks (k / 16))
    (pick (eqb (first_at (has_symbol fixed marks (root_ident fixed (k / 16))) 0 (k / 16)) (k / 16))
    (count_word (smallest_from fixed marks (root_ident fixed (k / 16)) 0 64) (k % 16) (root_ident fixed (k / 16))) 33554432) 33554432

unfoldable pub count_roots : List ℕ → List ℕ → ℕ
count_roots fixed marks = many_at (λ k. is_head_word (root_word fixed marks k)) 0 1024

-- row r does not cover the head w
abbrev pub leaves_out : List ℕ → ℕ → ℕ → Bool
leaves_out fixed w r = pick (eqb (root_ident fixed r) (ident_of w)) (ltb (count_of w) (size_at fixed (r * 64))) true
