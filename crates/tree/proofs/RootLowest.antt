-- The rows of a book stand in the order of its rules: so the first that fits the term without the arguments set aside is the lowest, and its left side says how many
-- are set aside.
use mathlib.Core.Path.{◌≡◌, refl, sym, ap, ◌∙◌}
use mathlib.Core.List.{List, []}
use mathlib.Core.Option.{Option, none, some}
use Prim.Native.Nat.{ℕ, zero, suc}
use lib.ListN.{get_or}
use Rattle.std.specs.Prelude.{Ok}
use Rattle.term.specs.Row.{Row, width, Formed}
use Rattle.term.specs.Check.{IsTerm}
use Rattle.book.specs.Book.{Rule, check_book, rule_at}
use Rattle.fit.specs.Lowest.{or_next, matching_front_o, aside_o, lowest_front}
use Rattle.fit.proofs.Laws.{lowest_front_zero, lowest_front_more, LowestFrontIs, book_lowest_front}
use Rattle.tree.specs.Rows.{RuleRow}
use Rattle.tree.specs.Compile.{row_then, book_rows}
use Rattle.tree.specs.Find.{root_part}
use Rattle.tree.specs.Root.{book_tree}
use Rattle.tree.proofs.Finds.{find}
use Rattle.tree.proofs.Roots.{first_front, first_of_tree}

front_then : (number : ℕ) (rows : List RuleRow) (t : Row) (o : Option Rule) → first_front t (row_then number o rows) ≡ or_next number (aside_o o t) (matching_front_o o t) (first_front t rows)
unfolding first_front
front_then number rows t none = refl
front_then number rows t (some rule) = refl

none_fronts : (t : Row) → first_front t [] ≡ none
unfolding first_front
none_fronts t = refl

pub front_lowest : (book : List ℕ) (t : Row) (more number : ℕ) → first_front t (book_rows book number more) ≡ lowest_front book number more t
unfolding book_rows
front_lowest book t zero number = none_fronts t ∙ sym (lowest_front_zero book number t)
front_lowest book t (suc more) number =
    front_then number (book_rows book (suc number) more) t (rule_at book number)
    ∙ ap (or_next number (aside_o (rule_at book number) t) (matching_front_o (rule_at book number) t)) (front_lowest book t more (suc number))
    ∙ sym (lowest_front_more book number more t)

-- THE THEOREM, for an accepted book: its tree finds the lowest rule that fits the term without the arguments set aside, with their number and its bodies
pub book_tree_lem : (book : List ℕ) → check_book book ≡ Ok tt → (t : Row) → Formed t → width t ≡ 1 → find (book_tree book) (root_part t) ≡ lowest_front book 0 (get_or book 0 0) t
book_tree_lem book accepted t w one = first_of_tree book accepted t w one ∙ front_lowest book t (get_or book 0 0) 0

-- and so the lowest rule for which some bodies, of all there could be, turn its left side into that term; none only where there is none
pub book_tree_lowest : (book : List ℕ) → check_book book ≡ Ok tt → (ws : List ℕ) (i : IsTerm ws)
    → LowestFrontIs book 0 (get_or book 0 0) i.tree (find (book_tree book) (root_part i.tree))
book_tree_lowest book accepted ws i = rw (book_tree_lem book accepted i.tree i.formed i.one) (book_lowest_front book accepted ws i)
