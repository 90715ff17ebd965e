-- Document 01's kinds of damage, and the visits of document 02, computed from the definitions.
use mathlib.Core.Path.{◌≡◌, refl}
use mathlib.Core.Bool.{Bool}
use mathlib.Core.List.{List, [], ◌∷◌}
use Prim.Native.Nat.{ℕ}
use Rattle.term.specs.Word.{word, kind, count, ident, head_of, head_with}
use Rattle.term.specs.Row.{words, read, firsts, others}
use Rattle.term.specs.Renumber.{position, listed, good_list, id_body, inside, renumber_head, renumber, named_head, named, closed, to_body}
use Rattle.term.specs.Part.{same_words}
use Rattle.book.specs.Rule.{ids_of, counted}
use Rattle.book.specs.Book.{rule_of, nth_rule, rule_at}
use Rattle.book.specs.Marked.{s, l, v, m, book_a}
use Rattle.fit.specs.Left.{left_of}
use Rattle.fit.specs.Constraint.{children_of, is_head, body_here}
use Rattle.fit.specs.Match.{tree_of, left_in, body_list}
use Rattle.tree.specs.Tree.{counts_of, LeafNode}
use Rattle.tree.specs.Find.{root_count, part_of, marked_part, child_parts, inside_of, enter_part, body_for, leaf_body}
use Rattle.walk.specs.Walk.{Walked, NoneFits, RuleFits, DamagedAt, go_to, variables_in, sound_variable, sound_variables, leaf_node, is_word, case_of, switch_node, closed_node, same_node, node_at, next_at, walk_by, walk_from, walk, visits_by, visits_from, visits, counts_fit, book_fits, no_book}

-- how a walk ends: the rule, how many arguments are set aside, and its bodies in words; the address of a damaged node
pub data Seen : Type 0 where
  nothing_fits : Seen
  rule : (number aside : ℕ) → List ℕ → Seen
  damage : ℕ → Seen

abbrev seen : Walked → Seen
seen NoneFits = nothing_fits
seen (RuleFits f n) = rule f.number f.aside (body_list f.bodies 0 n)
seen (DamagedAt at) = damage at

abbrev walked : (ℕ → LeafNode → Bool) → List ℕ → List ℕ → Seen
walked fits table ws = seen (walk fits table (tree_of ws))

term7 : List ℕ
term7 = s 3 1 ∷ s 7 0 ∷ []

term_l : List ℕ
term_l = l ∷ v 1 ∷ []

-- "A node is damaged if"
damages :
    -- there is none
    (walked no_book [] term7 ≡ damage 0)
    -- "its tag isn't 0..4"
    × (walked no_book (5 ∷ []) term7 ≡ damage 0)
    -- "it runs past the table"
    × (walked no_book (2 ∷ 0 ∷ 1 ∷ s 3 1 ∷ 5 ∷ []) term7 ≡ damage 0)
    -- "a place isn't uncovered"
    × (walked no_book (3 ∷ 1 ∷ 0 ∷ 5 ∷ 5 ∷ 0 ∷ []) term7 ≡ damage 0)
    -- "n > 16"
    × (walked no_book (1 ∷ 0 ∷ 17 ∷ 0 ∷ []) term7 ≡ damage 0)
    -- "k > 4"
    × (walked no_book (3 ∷ 0 ∷ 5 ∷ 1 ∷ 2 ∷ 3 ∷ 4 ∷ 5 ∷ 10 ∷ 10 ∷ 0 ∷ []) term7 ≡ damage 0)
    -- "a list isn't distinct ids within 1..d"
    × (walked no_book (3 ∷ 0 ∷ 1 ∷ 1 ∷ 6 ∷ 6 ∷ 0 ∷ []) term7 ≡ damage 0)
    -- "the taken address isn't later and inside"
    × (walked no_book (3 ∷ 0 ∷ 0 ∷ 0 ∷ 5 ∷ 0 ∷ []) term7 ≡ damage 0)
    × (walked no_book (3 ∷ 0 ∷ 0 ∷ 6 ∷ 5 ∷ 0 ∷ []) term7 ≡ damage 0)
    -- the other address is of no account
    × (walked no_book (3 ∷ 0 ∷ 0 ∷ 5 ∷ 99 ∷ 0 ∷ []) term7 ≡ nothing_fits)
    -- "a case is taken at a place already entered"
    × (walked no_book (2 ∷ 0 ∷ 1 ∷ s 3 1 ∷ 6 ∷ 12 ∷ 2 ∷ 0 ∷ 1 ∷ s 3 1 ∷ 12 ∷ 12 ∷ 0 ∷ []) term7 ≡ damage 6)
    -- "a Leaf's rule is 64 or more"
    × (walked no_book (1 ∷ 64 ∷ 0 ∷ 0 ∷ []) term7 ≡ damage 0)
    × (walked no_book (1 ∷ 63 ∷ 0 ∷ 0 ∷ []) term7 ≡ rule 63 0 [])
    -- "or one of its parts has no body"
    × (walked no_book (2 ∷ 0 ∷ 1 ∷ l ∷ 6 ∷ 6 ∷ 1 ∷ 0 ∷ 1 ∷ 0 ∷ 1 ∷ 0 ∷ []) term_l ≡ damage 6)
    × (walked no_book (2 ∷ 0 ∷ 1 ∷ l ∷ 6 ∷ 6 ∷ 1 ∷ 0 ∷ 1 ∷ 0 ∷ 1 ∷ 1 ∷ 1 ∷ []) term_l ≡ rule 0 0 (v 1 ∷ []))
    -- "more than the root's count" is set aside
    × (walked no_book (1 ∷ 0 ∷ 0 ∷ 1 ∷ []) term7 ≡ rule 0 1 [])
    × (walked no_book (1 ∷ 0 ∷ 0 ∷ 2 ∷ []) term7 ≡ damage 0)
unfolding word kind count ident head_of head_with words read firsts others position listed good_list inside id_body renumber_head renumber named_head named closed to_body same_words ids_of counted rule_of nth_rule rule_at left_of children_of is_head body_here tree_of left_in body_list counts_of part_of marked_part child_parts inside_of enter_part body_for leaf_body root_count go_to variables_in sound_variable sound_variables leaf_node is_word case_of switch_node closed_node same_node node_at next_at walk_by walk_from walk counts_fit book_fits no_book s l v m term7 term_l
damages = (refl, refl, refl, refl, refl, refl, refl, refl, refl, refl, refl, refl, refl, refl, refl, refl, refl)

-- "the last node included", "up to and including the damaged node"
counts :
    (visits [] (tree_of term7) ≡ 1)
    × (visits (5 ∷ []) (tree_of term7) ≡ 1)
    × (visits (0 ∷ []) (tree_of term7) ≡ 1)
    × (visits (1 ∷ 0 ∷ 0 ∷ 1 ∷ []) (tree_of term7) ≡ 1)
    × (visits (1 ∷ 0 ∷ 0 ∷ 2 ∷ []) (tree_of term7) ≡ 1)
    -- a root that has no case for the word, and its default
    × (visits (2 ∷ 0 ∷ 1 ∷ l ∷ 6 ∷ 6 ∷ 0 ∷ []) (tree_of term7) ≡ 2)
    -- the address that is taken is not inside
    × (visits (3 ∷ 0 ∷ 0 ∷ 6 ∷ 5 ∷ 0 ∷ []) (tree_of term7) ≡ 1)
    -- a case is taken at a place already entered
    × (visits (2 ∷ 0 ∷ 1 ∷ s 3 1 ∷ 6 ∷ 12 ∷ 2 ∷ 0 ∷ 1 ∷ s 3 1 ∷ 12 ∷ 12 ∷ 0 ∷ []) (tree_of term7) ≡ 2)
    × (visits (2 ∷ 0 ∷ 1 ∷ s 3 1 ∷ 6 ∷ 12 ∷ 2 ∷ 1 ∷ 1 ∷ s 7 0 ∷ 12 ∷ 12 ∷ 0 ∷ []) (tree_of term7) ≡ 3)
unfolding word kind count ident head_of head_with words read firsts others position listed good_list inside id_body renumber_head renumber named_head named closed to_body same_words ids_of counted rule_of nth_rule rule_at left_of children_of is_head body_here tree_of left_in body_list counts_of part_of marked_part child_parts inside_of enter_part body_for leaf_body root_count go_to variables_in sound_variable sound_variables leaf_node is_word case_of switch_node closed_node same_node node_at next_at visits_by visits_from visits s l v m term7
counts = (refl, refl, refl, refl, refl, refl, refl, refl, refl)

-- "Where a book is given too, a Leaf whose rule, n or counts don't fit it is damaged", and "with a book any other number than a−b"
damages_A :
    (walked (book_fits book_a) (1 ∷ 3 ∷ 0 ∷ 0 ∷ []) term7 ≡ damage 0)
    × (walked (book_fits book_a) (1 ∷ 1 ∷ 0 ∷ 0 ∷ []) term7 ≡ damage 0)
    × (walked (book_fits book_a) (1 ∷ 2 ∷ 1 ∷ 0 ∷ 0 ∷ 0 ∷ []) term7 ≡ damage 0)
    × (walked (book_fits book_a) (1 ∷ 1 ∷ 1 ∷ 0 ∷ 0 ∷ 0 ∷ []) term7 ≡ rule 1 0 (s 3 1 ∷ s 7 0 ∷ []))
    × (walked (book_fits book_a) (1 ∷ 1 ∷ 1 ∷ 1 ∷ 0 ∷ 0 ∷ []) term7 ≡ damage 0)
    × (walked (book_fits book_a) (1 ∷ 1 ∷ 1 ∷ 1 ∷ 0 ∷ 0 ∷ []) (s 3 2 ∷ s 7 0 ∷ s 7 0 ∷ []) ≡ rule 1 1 (s 3 2 ∷ s 7 0 ∷ s 7 0 ∷ []))
    × (walked (book_fits book_a) (1 ∷ 0 ∷ 1 ∷ 0 ∷ 0 ∷ 0 ∷ []) term7 ≡ damage 0)
unfolding word kind count ident head_of head_with words read firsts others position listed good_list inside id_body renumber_head renumber named_head named closed to_body same_words ids_of counted rule_of nth_rule rule_at left_of children_of is_head body_here tree_of left_in body_list counts_of part_of marked_part child_parts inside_of enter_part body_for leaf_body root_count go_to variables_in sound_variable sound_variables leaf_node is_word case_of switch_node closed_node same_node node_at next_at walk_by walk_from walk counts_fit book_fits no_book s l v m book_a term7
damages_A = (refl, refl, refl, refl, refl, refl, refl)
